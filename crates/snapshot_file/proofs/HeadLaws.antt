-- The metadata: 51 bytes decide, and bytes are added until it is whole.
use Rattle.std.specs.Prelude.{◌≡◌, ℕ, ◌+◌, ◌-◌, ◌<◌, ◌≤◌, min, false, List, [], ◌∷◌, ◌++◌, length, take, drop, Some, None, Result, Ok, Err, refl}
use Rattle.std.proofs.Common.{ltb, eqb, sym, ap, subst, ◌∙◌, append_assoc, arith, inl, inr}
use Rattle.std.specs.Int.{w64}
use Rattle.std.proofs.lemmas.Bool.{cases_Bool, cases_lt, le-ltb}
use Rattle.std.proofs.lemmas.List.{length-append, length-take, length-drop, take-append-drop, take_all}
use Rattle.std.proofs.Math.ListN.{drop_of_length-le}
use Rattle.base_types.specs.Reading.{Input, ◌>>=◌, bytes_at, number_at}
use Rattle.base_types.specs.Codec.{at, field}
use Rattle.base_types.specs.declared.snapshot_error.SnapError.{SnapError}
use Rattle.base_types.specs.declared.snapshot_error.SnapError.TheVariants.{BadMagic, BadVersion, WrongNetwork}
use Rattle.base_types.specs.Parameters.{message_start}
use Rattle.snapshot_file.specs.Text.{magic, version}
use Rattle.snapshot_file.specs.Items.{Wrong, Stop, from_first, as_stop, mark_at, head_at}
use Rattle.snapshot_file.specs.Steps.{HeadWhole, HeadWaits}
use Rattle.snapshot_file.specs.declared.head.SnapHead.{SnapHead}
use Rattle.snapshot_file.proofs.ItemsGrow.{head_grows}
use Rattle.snapshot_file.proofs.Steps.{grown_err}

-- ---- enough bytes

-- it is no case of too few bytes, and so many are left
abbrev Decided : {X : Type 0} → ℕ → Result (X × Input) Stop → Type 0
Decided n (Ok p) = n ≤ length p.1.rest
Decided n (Err None) = ⊥
Decided n (Err (Some wrong)) = Unit {0}

decided_then : {A B : Type 0} (a b : ℕ) (r : Result (A × Input) Stop) (f : A × Input → Result (B × Input) Stop) → Decided a r → ((x : A) (j : Input) → a ≤ length j.rest → Decided b (f (x, j))) → Decided b (r >>= f)
decided_then a b (Ok p) f is next = next p.0 p.1 is
decided_then a b (Err None) f is next = absurd is
decided_then a b (Err (Some wrong)) f is next = tt

mark_decided : (wrong : Wrong) (marks : List ℕ) (n end : ℕ) (rest : List ℕ) → n + length marks ≤ length rest → Decided n (mark_at wrong marks (at end rest))
unfolding mark_at
mark_decided wrong [] n end rest le = omega arith
mark_decided wrong (mark ∷ marks) n end [] le = absurd (omega arith)
mark_decided wrong (mark ∷ marks) n end (byte ∷ rest) le = elim (cases_Bool (eqb byte mark)) [
  | inl t ↦ rw t (mark_decided wrong marks n end rest (omega arith))
  | inr f ↦ rw f tt
]

bytes_decided : (n len : ℕ) (i : Input) → n + len ≤ length i.rest → Decided n (field as_stop (bytes_at len) i)
bytes_decided n len i le =
    let enough : ltb (length i.rest) len ≡ false = le-ltb _ _ (omega arith) in
    rw enough (omega (arith, length-drop len i.rest))

number_decided : (i : Input) → 8 ≤ length i.rest → Decided 0 (field as_stop (number_at w64) i)
number_decided i le =
    let enough : ltb (length i.rest) 8 ≡ false = le-ltb _ _ le in
    rw enough (omega arith)

all_decided : (bytes : List ℕ) → 51 ≤ length bytes → Decided 0 (head_at (from_first bytes))
unfolding head_at
all_decided bytes le = decided_then 46 0 (mark_at (BadMagic, 0) magic (from_first bytes)) _ (mark_decided (BadMagic, 0) magic 46 (length bytes) bytes (omega arith)) (λ _ a le.
    decided_then 44 0 (mark_at (BadVersion, 5) version a) _ (mark_decided (BadVersion, 5) version 44 a.end a.rest (omega arith)) (λ _ b le.
    decided_then 40 0 (mark_at (WrongNetwork, 7) message_start b) _ (mark_decided (WrongNetwork, 7) message_start 40 b.end b.rest (omega arith)) (λ _ c le.
    decided_then 8 0 (field as_stop (bytes_at 32) c) _ (bytes_decided 8 32 c le) (λ base d le.
    decided_then 0 0 (field as_stop (number_at w64) d) _ (number_decided d le) (λ count e le. le)))))

pub head_decided : (bytes : List ℕ) → head_at (from_first bytes) ≡ Err None → length bytes < 51
head_decided bytes e = elim (cases_lt (length bytes) 51) [
  | inl lt ↦ lt
  | inr le ↦ absurd (subst (λ (r : Result (SnapHead × Input) Stop). Decided 0 r) e (all_decided bytes le))
]

pub head_none : head_at (from_first []) ≡ Err None
unfolding head_at mark_at
head_none = refl

-- ---- adding bytes

lacking : (held piece : List ℕ) (used : ℕ) → length held < 51 → used ≡ min (51 - length held) (length piece) → (used ≤ length piece) × (length (held ++ take used piece) ≤ 51) × (length (held ++ take used piece) < 51 → used ≡ length piece)
lacking held piece used lt is =
    (omega arith, omega (arith, length-append held (take used piece), length-take used piece), λ few. omega (arith, length-append held (take used piece), length-take used piece))

pub head_whole : (head : SnapHead) (held piece now : List ℕ) (used : ℕ) → head_at (from_first held) ≡ Err None → used ≡ min (51 - length held) (length piece) → now ≡ held ++ take used piece
    → (head_at (from_first now) ≡ Ok (head, at (length now) (drop 51 now))) × (51 ≤ length now) → HeadWhole head used held piece
head_whole head held piece now used waits is parts read =
    let l = lacking held piece used (head_decided held waits) is in
    let read : (head_at (from_first (held ++ take used piece)) ≡ Ok (head, at (length (held ++ take used piece)) (drop 51 (held ++ take used piece)))) × (51 ≤ length (held ++ take used piece)) = rw parts at read in
    let len : length (held ++ take used piece) ≡ 51 = omega (arith, l.1, read.1) in
    let none : drop 51 (held ++ take used piece) ≡ [] = drop_of_length-le (held ++ take used piece) {i = 51} (omega arith) in
    record { within = l.0; len = len; is = read.0 ∙ rw (len, none) refl }

pub head_waits : (held piece now : List ℕ) (used : ℕ) → head_at (from_first held) ≡ Err None → used ≡ min (51 - length held) (length piece) → now ≡ held ++ take used piece → head_at (from_first now) ≡ Err None → HeadWaits held piece now
head_waits held piece now used waits is parts read =
    let l = lacking held piece used (head_decided held waits) is in
    let few : length (held ++ take used piece) < 51 = subst (λ (b : List ℕ). length b < 51) parts (head_decided now read) in
    let all : take used piece ≡ piece = take_all used piece (omega (arith, l.2 few)) in
    record { all = parts ∙ ap (λ (b : List ℕ). held ++ b) all; waits = read }

pub head_breaks : (error : SnapError) (offset : ℕ) (held piece now : List ℕ) (used : ℕ) → now ≡ held ++ take used piece → head_at (from_first now) ≡ Err (Some (error, offset)) → head_at (from_first (held ++ piece)) ≡ Err (Some (error, offset))
head_breaks error offset held piece now used parts read =
    let whole : now ++ drop used piece ≡ held ++ piece = ap (λ (b : List ℕ). b ++ drop used piece) parts ∙ append_assoc held (take used piece) (drop used piece) ∙ ap (λ (b : List ℕ). held ++ b) (take-append-drop used piece) in
    ap (λ (b : List ℕ). head_at (from_first b)) (sym whole) ∙ grown_err head_at head_grows now (drop used piece) (error, offset) read
