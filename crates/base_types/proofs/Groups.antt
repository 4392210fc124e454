-- The groups of a VARINT as they are written from the last to the first.
use Rattle.std.proofs.Common.{◌≡◌, ℕ, zero, suc, ◌+◌, ◌-◌, ◌*◌, ◌/◌, ◌%◌, ◌<◌, List, [], ◌∷◌, ◌++◌, length, take, drop, sym, ap, ◌∙◌, append_assoc, arith}
use Rattle.std.specs.Prelude.{⊤, Result, Ok, Err, OnOk, is_ok, if◌then◌else◌}
use Rattle.std.proofs.lemmas.List.{take_all, length-drop}
use Rattle.base_types.specs.Bytes.{marked, varint}
use Rattle.base_types.proofs.Fields.{marked_more, varint_last}

-- the numbers whose groups fit into so many places
abbrev pub room : ℕ → ℕ
room zero = 1
room (suc places) = 128 * room places

-- a group takes a place
pub takes_place : (places above : ℕ) → 0 < above → above < room places → (0 < places) × ((above - 1) / 128 < room (places - 1))
takes_place zero above some fits = absurd (omega arith)
takes_place (suc places) above some fits =
    let e : suc places - 1 ≡ places = omega arith in
    (omega arith, rw e (omega arith))

-- one more group stands in front
pub in_front : (above : ℕ) (behind text : List ℕ) → 0 < above → marked above above ++ behind ≡ text → marked ((above - 1) / 128) ((above - 1) / 128) ++ (128 + (above - 1) % 128) ∷ behind ≡ text
in_front zero behind text some is = absurd (omega arith)
in_front (suc n) behind text some is =
    let e : suc n - 1 ≡ n = omega arith in
    let whole : marked (suc n) (suc n) ≡ marked (n / 128) (n / 128) ++ (128 + n % 128) ∷ [] = marked_more (suc n) n (n / 128) (n % 128) (omega arith) (omega arith) (omega arith) in
    rw e (sym (append_assoc (marked (n / 128) (n / 128)) ((128 + n % 128) ∷ []) behind) ∙ ap (λ (t : List ℕ). t ++ behind) (sym whole) ∙ is)

-- the text before any group is written
pub begins : (n : ℕ) → marked (n / 128) (n / 128) ++ (n % 128) ∷ [] ≡ varint n
begins n = sym (varint_last n (n / 128) (n % 128) (omega arith) (omega arith))

-- no group is left
pub ends : (above : ℕ) (behind text : List ℕ) → above ≡ 0 → marked above above ++ behind ≡ text → behind ≡ text
unfolding marked
ends zero behind text none is = is
ends (suc n) behind text none is = absurd (omega arith)

-- what is appended is all that stands from the first group on
pub appended : {E : Type 0} (r : Result ⊤ E) (old new groups text : List ℕ) (first n : ℕ) → length groups ≡ n → drop first groups ≡ text → new ≡ (if is_ok r then old ++ take (n - first) (drop first groups) else old) → OnOk r (new ≡ old ++ text)
appended (Ok x) old new groups text first n sized is new-is = new-is ∙ ap (λ (t : List ℕ). old ++ t) (take_all (n - first) (drop first groups) (omega (arith, length-drop first groups)) ∙ is)
appended (Err e) old new groups text first n sized is new-is = tt
