-- Lines of bytes that come in parts.
use Rattle.std.proofs.Common.{◌≡◌, ◌<◌, ◌≤◌, ◌+◌, ◌-◌, ℕ, zero, suc, Bool, true, false, not, cond, List, [], ◌∷◌, ◌++◌, length, map, take, drop, get_or, refl, sym, ap, subst, ◌∙◌, inl, inr, arith, length-append}
use Rattle.std.specs.Prelude.{◌⊎◌, ◌==◌, Result, OnOk, is_ok, if◌then◌else◌, nat_lt, Option, Some, None, is_some, unwrap_or, min, position, Ok, Err}
use Rattle.std.specs.List.{position_or_len}
use Rattle.std.proofs.lemmas.Bool.{cases_lt, false≢true}
use Rattle.std.proofs.Math.Seq.{take-append-add}
use Rattle.std.proofs.lemmas.Bool.Decides.{nat_tests}
use Rattle.std.proofs.lemmas.List.{length-take-le, append-nil, take_all}
use Rattle.command_text.specs.Lines.{line_of, command_of, pieces_between, and_byte, without_return}
use Rattle.command_text.specs.declared.line.LineRefused.TheVariants.{LineTooLong}
use Rattle.command_loop.specs.Asks.{asked, onto, all_but_last, last_of, kept_of}
use Rattle.command_loop.specs.ServerCalls.{Asked}

some_none : {A : Type 0} {a : A} → Some a ≡ None → ⊥
some_none e = false≢true (sym (ap is_some e))

some_some : {a b : ℕ} → Some a ≡ Some b → a ≡ b
some_some e = ap (λ (o : Option ℕ). unwrap_or o 0) e

is_longer : (m n : ℕ) → m < n → nat_lt m n ≡ true
is_longer m n more = grind (arith, nat_tests)

not_longer : (m n : ℕ) → n ≤ m → nat_lt m n ≡ false
not_longer m n less = grind (arith, nat_tests)

equal_test : (m n : ℕ) → m ≡ n → (m == n) ≡ true
equal_test m n is = grind (arith, nat_tests)

unequal_test : (m n : ℕ) → (m ≡ n → ⊥) → (m == n) ≡ false
unequal_test m n not = grind (arith, nat_tests)

-- ---- lists of pieces

pub onto-nil : (ps : List (List ℕ)) → onto [] ps ≡ ps
onto-nil [] = refl
onto-nil (p ∷ ps) = refl

pub last_one : (p : List ℕ) → last_of (p ∷ []) ≡ p
unfolding last_of
last_one p = refl

last_more : (p q : List ℕ) (ps : List (List ℕ)) → last_of (p ∷ q ∷ ps) ≡ last_of (q ∷ ps)
unfolding last_of
last_more p q ps = refl

pub all_one : (p : List ℕ) → all_but_last (p ∷ []) ≡ []
unfolding all_but_last
all_one p = refl

all_more : (p q : List ℕ) (ps : List (List ℕ)) → all_but_last (p ∷ q ∷ ps) ≡ p ∷ all_but_last (q ∷ ps)
unfolding all_but_last
all_more p q ps = refl

pub more_first : (p : List ℕ) (ps : List (List ℕ)) → 0 < length ps → all_but_last (p ∷ ps) ≡ p ∷ all_but_last ps
more_first p [] some = absurd (omega (arith, some))
more_first p (q ∷ ps) some = all_more p q ps

pub more_last : (p : List ℕ) (ps : List (List ℕ)) → 0 < length ps → last_of (p ∷ ps) ≡ last_of ps
more_last p [] some = absurd (omega (arith, some))
more_last p (q ∷ ps) some = last_more p q ps

pub all_and_last : (ps : List (List ℕ)) → 0 < length ps → all_but_last ps ++ last_of ps ∷ [] ≡ ps
unfolding all_but_last last_of
all_and_last [] some = absurd (omega (arith, some))
all_and_last (p ∷ []) some = refl
all_and_last (p ∷ q ∷ ps) some = ap (λ (l : List (List ℕ)). p ∷ l) (all_and_last (q ∷ ps) (omega arith))

pub all_but_last-append : (ps qs : List (List ℕ)) → 0 < length qs → all_but_last (ps ++ qs) ≡ ps ++ all_but_last qs
unfolding all_but_last
all_but_last-append [] qs some = refl
all_but_last-append (p ∷ []) [] some = absurd (omega (arith, some))
all_but_last-append (p ∷ []) (q ∷ qs) some = refl
all_but_last-append (p ∷ r ∷ ps) qs some = ap (λ (l : List (List ℕ)). p ∷ l) (all_but_last-append (r ∷ ps) qs some)

pub last_of-append : (ps qs : List (List ℕ)) → 0 < length qs → last_of (ps ++ qs) ≡ last_of qs
unfolding last_of
last_of-append [] qs some = refl
last_of-append (p ∷ []) [] some = absurd (omega (arith, some))
last_of-append (p ∷ []) (q ∷ qs) some = refl
last_of-append (p ∷ r ∷ ps) qs some = last_of-append (r ∷ ps) qs some

pub length-onto : (kept : List ℕ) (ps : List (List ℕ)) → length (onto kept ps) ≡ length ps
length-onto kept [] = refl
length-onto kept (p ∷ ps) = refl

-- ---- the pieces between line feeds

some_and_byte : (byte : ℕ) (ps : List (List ℕ)) → 0 < length (and_byte byte ps)
some_and_byte byte [] = omega arith
some_and_byte byte (p ∷ ps) = omega arith

some_of : (b : Bool) (byte : ℕ) (ps : List (List ℕ)) → 0 < length (cond b ([] ∷ ps) (and_byte byte ps))
some_of true byte ps = omega arith
some_of false byte ps = some_and_byte byte ps

pub some_pieces : (bytes : List ℕ) → 0 < length (pieces_between 10 bytes)
unfolding pieces_between
some_pieces [] = omega arith
some_pieces (byte ∷ bytes) = some_of (byte == 10) byte (pieces_between 10 bytes)

pub pieces-nil : pieces_between 10 [] ≡ [] ∷ []
unfolding pieces_between
pieces-nil = refl

joined : (byte : ℕ) (ps qs : List (List ℕ)) → 0 < length ps → 0 < length qs → and_byte byte (all_but_last ps ++ onto (last_of ps) qs) ≡ all_but_last (and_byte byte ps) ++ onto (last_of (and_byte byte ps)) qs
unfolding all_but_last last_of
joined byte [] qs some more = absurd (omega (arith, some))
joined byte (p ∷ []) [] some more = absurd (omega (arith, more))
joined byte (p ∷ []) (q ∷ qs) some more = refl
joined byte (p ∷ r ∷ ps) qs some more = refl

parted : (ps qs : List (List ℕ)) → 0 < length ps → [] ∷ (all_but_last ps ++ onto (last_of ps) qs) ≡ all_but_last ([] ∷ ps) ++ onto (last_of ([] ∷ ps)) qs
unfolding all_but_last last_of
parted [] qs some = absurd (omega (arith, some))
parted (p ∷ ps) qs some = refl

either : (b : Bool) (byte : ℕ) (ps qs whole : List (List ℕ)) → 0 < length ps → 0 < length qs → whole ≡ all_but_last ps ++ onto (last_of ps) qs
    → cond b ([] ∷ whole) (and_byte byte whole) ≡ all_but_last (cond b ([] ∷ ps) (and_byte byte ps)) ++ onto (last_of (cond b ([] ∷ ps) (and_byte byte ps))) qs
either true byte ps qs whole some more is = ap (λ (l : List (List ℕ)). [] ∷ l) is ∙ parted ps qs some
either false byte ps qs whole some more is = ap (and_byte byte) is ∙ joined byte ps qs some more

-- what follows goes on with the line that hasn't ended
pub pieces-append : (xs ys : List ℕ) → pieces_between 10 (xs ++ ys) ≡ all_but_last (pieces_between 10 xs) ++ onto (last_of (pieces_between 10 xs)) (pieces_between 10 ys)
unfolding pieces_between
pieces-append [] ys = sym (ap (λ (l : List (List ℕ)). all_but_last ([] ∷ []) ++ onto (last_of ([] ∷ [])) l) (refl {a = pieces_between 10 ys}) ∙ ap (λ (l : List (List ℕ)). l ++ onto (last_of ([] ∷ [])) (pieces_between 10 ys)) (all_one []) ∙ ap (λ (l : List ℕ). onto l (pieces_between 10 ys)) (last_one []) ∙ onto-nil (pieces_between 10 ys))
pieces-append (x ∷ xs) ys = either (x == 10) x (pieces_between 10 xs) (pieces_between 10 ys) (pieces_between 10 (xs ++ ys)) (some_pieces xs) (some_pieces ys) (pieces-append xs ys)

-- ---- lines that are too long

without_return-length : (bytes : List ℕ) → length bytes ≤ length (without_return bytes) + 1
unfolding without_return
without_return-length [] = omega arith
without_return-length (byte ∷ []) = omega arith
without_return-length (byte ∷ next ∷ bytes) = let rest = without_return-length (next ∷ bytes) in omega (arith, rest)

long_line : (text : List ℕ) → 4096 < length text → line_of text ≡ Err LineTooLong
long_line [] long = absurd (omega (arith, long))
long_line (byte ∷ bytes) long = ap (λ (b : Bool). cond b (Err LineTooLong) (command_of (pieces_between 32 (byte ∷ bytes)))) (is_longer 4096 (length (byte ∷ bytes)) long)

asked_long : (piece : List ℕ) → 4098 ≤ length piece → asked piece ≡ Err LineTooLong
asked_long piece long = let shorter = without_return-length piece in long_line (without_return piece) (omega (arith, shorter, long))

taken_first : (n : ℕ) (xs ys : List ℕ) → take n (take n xs ++ ys) ≡ take n (xs ++ ys)
taken_first zero xs ys = refl
taken_first (suc n) [] ys = refl
taken_first (suc n) (x ∷ xs) ys = ap (λ (l : List ℕ). x ∷ l) (taken_first n xs ys)

-- what is kept of a line asks for the same, whatever follows
pub asked-kept : (line more : List ℕ) → asked (kept_of line ++ more) ≡ asked (line ++ more)
asked-kept line more = split (cases_lt (length line) 4098)
  where
    split : (length line < 4098) ⊎ (4098 ≤ length line) → asked (kept_of line ++ more) ≡ asked (line ++ more)
    split (inl short) = ap (λ (l : List ℕ). asked (l ++ more)) (take_all 4098 line (omega (arith, short)))
    split (inr long) =
        let kept : length (kept_of line) ≡ 4098 = length-take-le 4098 line long in
        asked_long (kept_of line ++ more) (omega (arith, length-append (kept_of line) more, kept))
        ∙ sym (asked_long (line ++ more) (omega (arith, length-append line more, long)))

pub asked-kept_of : (line : List ℕ) → asked (kept_of line) ≡ asked line
asked-kept_of line = ap asked (sym (append-nil (kept_of line))) ∙ asked-kept line [] ∙ ap asked (append-nil line)

pub ended-kept : (line : List ℕ) (ps : List (List ℕ)) → map asked (all_but_last (onto (kept_of line) ps)) ≡ map asked (all_but_last (onto line ps))
ended-kept line [] = refl
ended-kept line (p ∷ []) = ap (map asked) (all_one (kept_of line ++ p) ∙ sym (all_one (line ++ p)))
ended-kept line (p ∷ q ∷ ps) =
    ap (map asked) (all_more (kept_of line ++ p) q ps)
    ∙ ap (λ (a : Asked). a ∷ map asked (all_but_last (q ∷ ps))) (asked-kept line p)
    ∙ ap (map asked) (sym (all_more (line ++ p) q ps))

pub last-kept : (line : List ℕ) (ps : List (List ℕ)) → kept_of (last_of (onto (kept_of line) ps)) ≡ kept_of (last_of (onto line ps))
last-kept line [] = refl
last-kept line (p ∷ []) = ap kept_of (last_one (kept_of line ++ p)) ∙ taken_first 4098 line p ∙ ap kept_of (sym (last_one (line ++ p)))
last-kept line (p ∷ q ∷ ps) = ap kept_of (last_more (kept_of line ++ p) q ps ∙ sym (last_more (line ++ p) q ps))

-- ---- the first line feed

abbrev is_feed : ℕ → Bool
is_feed byte = byte == 10

whole : (b : Bool) (byte : ℕ) (bytes : List ℕ) → suc (length bytes) ≤ cond (not b) (1 + position_or_len is_feed bytes) 0 → (length bytes ≤ position_or_len is_feed bytes → pieces_between 10 bytes ≡ bytes ∷ [])
    → cond b ([] ∷ pieces_between 10 bytes) (and_byte byte (pieces_between 10 bytes)) ≡ (byte ∷ bytes) ∷ []
whole true byte bytes none rest = absurd (omega (arith, none))
whole false byte bytes none rest = ap (and_byte byte) (rest (omega (arith, none)))

pieces-whole : (bytes : List ℕ) → length bytes ≤ position_or_len is_feed bytes → pieces_between 10 bytes ≡ bytes ∷ []
unfolding pieces_between
pieces-whole [] none = refl
pieces-whole (byte ∷ bytes) none = whole (byte == 10) byte bytes none (pieces-whole bytes)

part : (b : Bool) (byte : ℕ) (bytes : List ℕ) → cond (not b) (1 + position_or_len is_feed bytes) 0 < suc (length bytes)
    → (position_or_len is_feed bytes < length bytes → pieces_between 10 bytes ≡ take (position_or_len is_feed bytes) bytes ∷ pieces_between 10 (drop (suc (position_or_len is_feed bytes)) bytes))
    → cond b ([] ∷ pieces_between 10 bytes) (and_byte byte (pieces_between 10 bytes))
    ≡ take (cond (not b) (1 + position_or_len is_feed bytes) 0) (byte ∷ bytes) ∷ pieces_between 10 (drop (suc (cond (not b) (1 + position_or_len is_feed bytes) 0)) (byte ∷ bytes))
part true byte bytes some rest = refl
part false byte bytes some rest =
    let n = position_or_len is_feed bytes in
    let next : suc n ≡ 1 + n = omega arith in
    subst (λ (m : ℕ). and_byte byte (pieces_between 10 bytes) ≡ take m (byte ∷ bytes) ∷ pieces_between 10 (drop (suc m) (byte ∷ bytes))) next (ap (and_byte byte) (rest (omega (arith, some))))

pieces-part : (bytes : List ℕ) → position_or_len is_feed bytes < length bytes
    → pieces_between 10 bytes ≡ take (position_or_len is_feed bytes) bytes ∷ pieces_between 10 (drop (suc (position_or_len is_feed bytes)) bytes)
unfolding pieces_between
pieces-part [] some = absurd (omega (arith, some))
pieces-part (byte ∷ bytes) some = part (byte == 10) byte bytes some (pieces-part bytes)

pub no_feed : (bytes : List ℕ) → position is_feed bytes ≡ None → pieces_between 10 bytes ≡ bytes ∷ []
no_feed bytes is = split (cases_lt (position_or_len is_feed bytes) (length bytes))
  where
    split : (position_or_len is_feed bytes < length bytes) ⊎ (length bytes ≤ position_or_len is_feed bytes) → pieces_between 10 bytes ≡ bytes ∷ []
    split (inl less) = absurd (some_none (sym (ap (λ (b : Bool). cond b (Some (position_or_len is_feed bytes)) None) (is_longer (position_or_len is_feed bytes) (length bytes) less)) ∙ is))
    split (inr none) = pieces-whole bytes none

pub first_feed : (bytes : List ℕ) (at : ℕ) → position is_feed bytes ≡ Some at
    → (pieces_between 10 bytes ≡ take at bytes ∷ pieces_between 10 (drop (suc at) bytes)) × (at < length bytes)
first_feed bytes at is = split (cases_lt (position_or_len is_feed bytes) (length bytes))
  where
    split : (position_or_len is_feed bytes < length bytes) ⊎ (length bytes ≤ position_or_len is_feed bytes) → (pieces_between 10 bytes ≡ take at bytes ∷ pieces_between 10 (drop (suc at) bytes)) × (at < length bytes)
    split (inl less) =
        let same : position_or_len is_feed bytes ≡ at = some_some (sym (ap (λ (b : Bool). cond b (Some (position_or_len is_feed bytes)) None) (is_longer (position_or_len is_feed bytes) (length bytes) less)) ∙ is) in
        subst (λ (n : ℕ). (pieces_between 10 bytes ≡ take n bytes ∷ pieces_between 10 (drop (suc n) bytes)) × (n < length bytes)) same (pieces-part bytes less, less)
    split (inr none) = absurd (some_none (sym is ∙ ap (λ (b : Bool). cond b (Some (position_or_len is_feed bytes)) None) (not_longer (position_or_len is_feed bytes) (length bytes) none)))

-- ---- a carriage return

without_yes : (bytes : List ℕ) → 0 < length bytes → get_or bytes (length bytes - 1) 0 ≡ 13 → without_return bytes ≡ take (length bytes - 1) bytes
unfolding without_return
without_yes [] some is = absurd (omega (arith, some))
without_yes (byte ∷ []) some is = ap (λ (b : Bool). cond b [] (byte ∷ [])) (equal_test byte 13 is)
without_yes (byte ∷ next ∷ bytes) some is =
    let n = length (next ∷ bytes) - 1 in
    let more : length (byte ∷ next ∷ bytes) - 1 ≡ suc n = omega arith in
    let rest = without_yes (next ∷ bytes) (omega arith) (sym (ap (λ (m : ℕ). get_or (byte ∷ next ∷ bytes) m 0) more) ∙ is) in
    ap (λ (l : List ℕ). byte ∷ l) rest ∙ ap (λ (m : ℕ). take m (byte ∷ next ∷ bytes)) (sym more)

without_no : (bytes : List ℕ) → 0 < length bytes → (get_or bytes (length bytes - 1) 0 ≡ 13 → ⊥) → without_return bytes ≡ bytes
unfolding without_return
without_no [] some is = absurd (omega (arith, some))
without_no (byte ∷ []) some is = ap (λ (b : Bool). cond b [] (byte ∷ [])) (unequal_test byte 13 is)
without_no (byte ∷ next ∷ bytes) some is =
    let n = length (next ∷ bytes) - 1 in
    let more : length (byte ∷ next ∷ bytes) - 1 ≡ suc n = omega arith in
    ap (λ (l : List ℕ). byte ∷ l) (without_no (next ∷ bytes) (omega arith) (λ e. is (ap (λ (m : ℕ). get_or (byte ∷ next ∷ bytes) m 0) more ∙ e)))

pub without_last_return : (bytes : List ℕ) → 0 < length bytes → get_or bytes (length bytes - 1) 0 ≡ 13 → take (length bytes - 1) bytes ≡ without_return bytes
without_last_return bytes some is = sym (without_yes bytes some is)

pub without_other : (bytes : List ℕ) → 0 < length bytes → (get_or bytes (length bytes - 1) 0 ≡ 13 → ⊥) → bytes ≡ without_return bytes
without_other bytes some is = sym (without_no bytes some is)

pub without_none : (bytes : List ℕ) → length bytes ≡ 0 → bytes ≡ without_return bytes
unfolding without_return
without_none [] none = refl
without_none (byte ∷ bytes) none = absurd (omega (arith, none))

-- ---- what is kept of a line that grows

take-min : (k : ℕ) (xs : List ℕ) → take (min (length xs) k) xs ≡ take k xs
take-min k xs = split (cases_lt (length xs) k)
  where
    split : (length xs < k) ⊎ (k ≤ length xs) → take (min (length xs) k) xs ≡ take k xs
    split (inl less) =
        let n : min (length xs) k ≡ length xs = omega arith in
        ap (λ (m : ℕ). take m xs) n ∙ take_all (length xs) xs (omega arith) ∙ sym (take_all k xs (omega (arith, less)))
    split (inr more) = let n : min (length xs) k ≡ k = omega arith in ap (λ (m : ℕ). take m xs) n

pub kept-push : (line bytes : List ℕ) → length line ≤ 4098 → line ++ take (min (length bytes) (4098 - length line)) bytes ≡ kept_of (line ++ bytes)
kept-push line bytes within =
    let whole : length line + (4098 - length line) ≡ 4098 = omega (arith, within) in
    ap (λ (l : List ℕ). line ++ l) (take-min (4098 - length line) bytes)
    ∙ sym (take-append-add line bytes (4098 - length line)) ∙ ap (λ (n : ℕ). take n (line ++ bytes)) whole

pub pushed : {A E : Type 0} (result : Result A E) (new old more want : List ℕ) → new ≡ (if is_ok result then old ++ more else old) → old ++ more ≡ want → OnOk result (new ≡ want)
pushed (Ok done) new old more want items is = items ∙ is
pushed (Err error) new old more want items is = tt
