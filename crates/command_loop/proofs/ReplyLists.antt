-- Lines of replies that stand whole among bytes.
use Rattle.std.proofs.Common.{◌≡◌, ℕ, ◌+◌, ◌-◌, ◌≤◌, ◌<◌, Bool, true, false, cond, List, [], ◌∷◌, ◌++◌, length, refl, sym, ap, ◌∙◌, arith, append-nil, length-append, nat_le}
use Rattle.std.specs.List.{flat_map}
use Rattle.std.proofs.lemmas.Bool.Decides.{nat_tests}
use Rattle.command_text.specs.Replies.{reply_text}
use Rattle.command_text.specs.declared.reply.Reply.{Reply}
use Rattle.machine.specs.Answers.{IsPrefix, flushes_told_by, whole_replies}
use Rattle.machine.proofs.FlushLists.{told_by-append}
use Rattle.command_loop.proofs.Ways.{reply_long}

length_of : (reply : Reply) (replies : List Reply) → length (flat_map reply_text (reply ∷ replies)) ≡ length (reply_text reply) + length (flat_map reply_text replies)
length_of reply replies = length-append (reply_text reply) (flat_map reply_text replies)

fits : (a n : ℕ) → a ≤ n → nat_le a n ≡ true
fits a n e = grind (arith, nat_tests, e)

fits_not : (a n : ℕ) → n < a → nat_le a n ≡ false
fits_not a n e = grind (arith, nat_tests, e)

pub whole_behind : (front back : List Reply) (n m : ℕ) → n ≡ length (flat_map reply_text front) + m → whole_replies n (front ++ back) ≡ front ++ whole_replies m back
unfolding whole_replies
whole_behind [] back n m e = let same : n ≡ m = omega (arith, e) in ap (λ (k : ℕ). whole_replies k back) same
whole_behind (reply ∷ front) back n m e =
    let long = length_of reply front in
    let fit : nat_le (length (reply_text reply)) n ≡ true = fits (length (reply_text reply)) n (omega (arith, e, long)) in
    let left : n - length (reply_text reply) ≡ length (flat_map reply_text front) + m = omega (arith, e, long) in
    ap (λ (b : Bool). cond b (reply ∷ whole_replies (n - length (reply_text reply)) (front ++ back)) []) fit
    ∙ ap (λ (rest : List Reply). reply ∷ rest) (whole_behind front back (n - length (reply_text reply)) m left)

pub none_whole : (replies : List Reply) → whole_replies 0 replies ≡ []
unfolding whole_replies
none_whole [] = refl
none_whole (reply ∷ replies) =
    let fit : nat_le (length (reply_text reply)) 0 ≡ false = fits_not (length (reply_text reply)) 0 (reply_long reply) in
    ap (λ (b : Bool). cond b (reply ∷ whole_replies (0 - length (reply_text reply)) replies) []) fit

pub whole_all : (replies : List Reply) (n : ℕ) → n ≡ length (flat_map reply_text replies) → whole_replies n replies ≡ replies
whole_all replies n e =
    ap (whole_replies n) (sym (append-nil replies)) ∙ whole_behind replies [] n 0 (omega (arith, e)) ∙ ap (λ (l : List Reply). replies ++ l) (none_whole []) ∙ append-nil replies

-- further replies of which nothing was written
pub whole_more : (replies more : List Reply) (n : ℕ) → n ≤ length (flat_map reply_text replies) → whole_replies n (replies ++ more) ≡ whole_replies n replies
unfolding whole_replies
whole_more [] more n e = let zero_is : n ≡ 0 = omega (arith, e) in ap (λ (k : ℕ). whole_replies k more) zero_is ∙ none_whole more
whole_more (reply ∷ replies) more n e =
    let long = length_of reply replies in
    split (nat_le (length (reply_text reply)) n) (whole_more replies more (n - length (reply_text reply)) (omega (arith, e, long)))
  where
    split : (b : Bool) → whole_replies (n - length (reply_text reply)) (replies ++ more) ≡ whole_replies (n - length (reply_text reply)) replies
        → cond b (reply ∷ whole_replies (n - length (reply_text reply)) (replies ++ more)) [] ≡ cond b (reply ∷ whole_replies (n - length (reply_text reply)) replies) []
    split false rest = refl
    split true rest = ap (λ (l : List Reply). reply ∷ l) rest

pub whole_prefix : (replies : List Reply) (n : ℕ) → IsPrefix (whole_replies n replies) replies
unfolding whole_replies
whole_prefix [] n = ([], refl)
whole_prefix (reply ∷ replies) n = split (nat_le (length (reply_text reply)) n) (whole_prefix replies (n - length (reply_text reply)))
  where
    split : (b : Bool) → IsPrefix (whole_replies (n - length (reply_text reply)) replies) replies
        → IsPrefix (cond b (reply ∷ whole_replies (n - length (reply_text reply)) replies) []) (reply ∷ replies)
    split false part = (reply ∷ replies, refl)
    split true part = (part.0, ap (λ (l : List Reply). reply ∷ l) part.1)

pub told_by_prefix : (xs ys : List Reply) → IsPrefix xs ys → IsPrefix (flushes_told_by xs) (flushes_told_by ys)
told_by_prefix xs ys part = (flushes_told_by part.0, ap flushes_told_by part.1 ∙ told_by-append xs part.0)
