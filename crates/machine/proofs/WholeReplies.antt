-- All lines of a text stand whole in it.
use Rattle.std.proofs.Common.{◌≡◌, ℕ, ◌+◌, ◌-◌, true, Bool, List, [], ◌∷◌, length, cond, refl, ap, ◌∙◌, arith, nat_le, length-append}
use Rattle.std.proofs.lemmas.Bool.Decides.{nat_tests}
use Rattle.std.specs.List.{flat_map}
use Rattle.command_text.specs.Replies.{reply_text}
use Rattle.command_text.specs.declared.reply.Reply.{Reply}
use Rattle.machine.specs.Answers.{whole_replies}

fits : (a b n : ℕ) → n ≡ a + b → nat_le a n ≡ true
fits a b n e = grind (arith, nat_tests, e)

left_over : (a b n : ℕ) → n ≡ a + b → n - a ≡ b
left_over a b n e = omega (arith, e)

pub whole_all : (replies : List Reply) (n : ℕ) → n ≡ length (flat_map reply_text replies) → whole_replies n replies ≡ replies
unfolding whole_replies
whole_all [] n e = refl
whole_all (reply ∷ replies) n e =
    let long : n ≡ length (reply_text reply) + length (flat_map reply_text replies) = e ∙ length-append (reply_text reply) (flat_map reply_text replies) in
    ap (λ (b : Bool). cond b (reply ∷ whole_replies (n - length (reply_text reply)) replies) []) (fits (length (reply_text reply)) (length (flat_map reply_text replies)) n long)
    ∙ ap (λ (rest : List Reply). reply ∷ rest) (whole_all replies (n - length (reply_text reply)) (left_over (length (reply_text reply)) (length (flat_map reply_text replies)) n long))
