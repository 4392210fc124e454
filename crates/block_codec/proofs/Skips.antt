-- Passing members, or the stacks of inputs, one after the other, as a loop does.
use Rattle.std.proofs.Common.{◌≡◌, ℕ, zero, suc, ◌-◌, ◌+◌, ◌≤◌, ◌<◌, Bool, false, not, ◌==◌, List, [], ◌∷◌, ◌++◌, length, drop, Result, Ok, Err, refl, sym, ap, subst, ◌∙◌, arith}
use Rattle.std.specs.Prelude.{IsErr, ◌||◌}
use Rattle.std.proofs.lemmas.List.{append-nil, drop_all}
use Rattle.std.proofs.Math.Bool.{or-false}
use Rattle.std.proofs.lemmas.List.Folds.{list_any-append}
use Rattle.base_types.specs.Reading.{Input, length_at, ◌>>=◌}
use Rattle.base_types.specs.Codec.{Reader, field, many_at}
use Rattle.base_types.proofs.Codecs.{bind_ok, ok_is}
use Rattle.base_types.specs.declared.coin.TxOut.{TxOut}
use Rattle.block_codec.specs.declared.block.TxIn.{TxIn}
use Rattle.block_codec.specs.Text.{some_witness, with_stack}
use Rattle.block_codec.specs.Reading.{Wrong, wrong, input_at, output_at, stack_at, stacks_at, lists_at}
use Rattle.block_codec.specs.Skipping.{Skips, Shows}
use Rattle.block_codec.proofs.Loop as loop
use Rattle.block_codec.proofs.Loop.{with_front}
use Rattle.block_codec.proofs.Stacks.{regroup}

-- some members were passed, and so many more make up the whole
pub record Passed {X : Type 0} (read : Reader Wrong X) (left : ℕ) (input : Input) (total : Result (List X × Input) Wrong) : Type 0 where
  pub front : List X
  pub whole : with_front front (many_at read left input) ≡ total

all_left : {X : Type 0} (read : Result (List X × Input) Wrong) → with_front [] read ≡ read
all_left (Ok x) = refl
all_left (Err e) = refl

pub none_passed : {X : Type 0} (read : Reader Wrong X) (count : ℕ) (input : Input) → Passed read (count - 0) input (many_at read count input)
none_passed read count input =
    let all : count - 0 ≡ count = omega arith in
    record { front = []; whole = all_left (many_at read (count - 0) input) ∙ ap (λ (n : ℕ). many_at read n input) all }

pub goes_on : {X : Type 0} (read : Reader Wrong X) (count i : ℕ) (input after : Input) (total : Result (List X × Input) Wrong) → i < count → (n : X) × (read input ≡ Ok (n, after))
    → Passed read (count - i) input total → Passed read (count - (i + 1)) after total
goes_on read count i input after total lt one so_far = record {
  front = so_far.front ++ one.0 ∷ [];
  whole = loop.goes_on read so_far.front count i input one.0 after total lt one.1 so_far.whole;
}

-- a step that failed ends all
pub fails_first : {A B E : Type 0} (read : Result A E) (f : A → Result B E) → IsErr read → IsErr (read >>= f)
fails_first (Ok x) f fails = absurd cc
fails_first (Err e) f fails = refl

front_fails : {X : Type 0} (front : List X) (read : Result (List X × Input) Wrong) → IsErr read → IsErr (with_front front read)
front_fails front read fails = fails_first read (λ x. Ok (front ++ x.0, x.1)) fails

-- a call that failed where reading fails
pub failed : {A X E : Type 0} (result : Result A E) (new : Input) (read : Result (X × Input) Wrong) → IsErr result → IsErr read → Skips result new read
failed (Ok a) new read is fails = absurd cc
failed (Err e) new read is fails = fails

-- the same, where something is said of a value
pub failed_as : {A X E : Type 0} (Says : A → X → Type 0) (result : Result A E) (new : Input) (read : Result (X × Input) Wrong) → IsErr result → IsErr read → Shows Says result new read
failed_as Says (Ok a) new read is fails = absurd cc
failed_as Says (Err e) new read is fails = fails

pub ends : {X : Type 0} (read : Reader Wrong X) (count i : ℕ) (input : Input) (total : Result (List X × Input) Wrong) → i < count → IsErr (read input) → Passed read (count - i) input total → IsErr total
unfolding many_at
ends {X} read count i input total lt fails so_far =
    let k : count - i ≡ suc (count - (i + 1)) = omega arith in
    let one : many_at read (count - i) input ≡ many_at read (suc (count - (i + 1))) input = ap (λ (n : ℕ). many_at read n input) k in
    let failed : IsErr (many_at read (suc (count - (i + 1))) input) = fails_first (read input) (λ first. many_at read (count - (i + 1)) first.1 >>= λ others. Ok (first.0 ∷ others.0, others.1)) fails in
    subst (λ (r : Result (List X × Input) Wrong). IsErr r) so_far.whole (front_fails so_far.front (many_at read (count - i) input) (subst (λ (r : Result (List X × Input) Wrong). IsErr r) (sym one) failed))

pub is_done : {X : Type 0} (read : Reader Wrong X) (count i : ℕ) (input : Input) (total : Result (List X × Input) Wrong) → count ≤ i → Passed read (count - i) input total → (xs : List X) × (total ≡ Ok (xs, input))
is_done read count i input total le so_far = (so_far.front, loop.is_done read so_far.front count i input total le so_far.whole)

-- ---- how many were read

pub many_len : {X : Type 0} (read : Reader Wrong X) (n : ℕ) (i : Input) (xs : List X) (j : Input) → many_at read n i ≡ Ok (xs, j) → length xs ≡ n
unfolding many_at
many_len {X} read zero i xs j e = sym (ap (λ (p : List X × Input). length p.0) (ok_is {E = Wrong} ([], i) (xs, j) e))
many_len {X} read (suc n) i xs j e =
    let a = bind_ok (read i) (λ first. many_at read n first.1 >>= λ others. Ok (first.0 ∷ others.0, others.1)) (xs, j) e in
    let b = bind_ok (many_at read n a.0.1) (λ others. Ok (a.0.0 ∷ others.0, others.1)) (xs, j) a.2 in
    sym (ap (λ (p : List X × Input). length p.0) (ok_is {E = Wrong} (a.0.0 ∷ b.0.0, b.0.1) (xs, j) b.2)) ∙ ap suc (many_len read n a.0.1 b.0.0 b.0.1 b.1)

pub lists_len : (n : ℕ) (i : Input) (lists : List TxIn × List TxOut) (j : Input) → lists_at n i ≡ Ok (lists, j) → length lists.0 ≡ n
unfolding lists_at
lists_len n i lists j e =
    let a = bind_ok (many_at input_at n i) _ (lists, j) e in
    let b = bind_ok (field wrong length_at a.0.1) _ (lists, j) a.2 in
    let c = bind_ok (many_at output_at b.0.0 b.0.1) _ (lists, j) b.2 in
    sym (ap (λ (p : (List TxIn × List TxOut) × Input). length p.0.0) (ok_is {E = Wrong} ((a.0.0, c.0.0), c.0.1) (lists, j) c.2)) ∙ many_len input_at n i a.0.0 a.0.1 a.1

-- ---- stacks, whatever the inputs are

-- the stacks of some inputs were passed, and those of the inputs that are left make up the whole
pub record PassedStacks (left : List TxIn) (has_witness : Bool) (input : Input) (total : Result (List TxIn × Input) Wrong) : Type 0 where
  pub front : List TxIn
  pub tells : has_witness ≡ some_witness front
  pub whole : with_front front (stacks_at left input) ≡ total

-- of so many inputs, the stacks of the first i
abbrev pub StacksPassed : ℕ → ℕ → Bool → Input → Input → Type 0
StacksPassed count i has_witness start input = (inputs : List TxIn) → length inputs ≡ count → PassedStacks (drop i inputs) has_witness input (stacks_at inputs start)

pub no_stack_passed : (count : ℕ) (input : Input) → StacksPassed count 0 false input input
no_stack_passed count input inputs len = record { front = []; tells = refl; whole = all_left (stacks_at inputs input) }

-- the first of the inputs that are left
left_at : (inputs : List TxIn) (i : ℕ) → i < length inputs → (input : TxIn) × (drop i inputs ≡ input ∷ drop (i + 1) inputs)
left_at [] i lt = absurd (omega arith)
left_at (input ∷ inputs) zero lt = (input, refl)
left_at (input ∷ inputs) (suc i) lt =
    let next = left_at inputs i (omega arith) in
    let k : suc i + 1 ≡ suc (i + 1) = omega arith in
    (next.0, rw k next.1)

-- one more stack
told : (front : List TxIn) (input : TxIn) (stack : List (List ℕ)) (has_witness has_item : Bool) → has_witness ≡ some_witness front → has_item ≡ not (length stack == 0) → (has_witness || has_item) ≡ some_witness (front ++ with_stack input stack ∷ [])
told front input stack has_witness has_item witness item =
    let one : (not (length stack == 0) || false) ≡ not (length stack == 0) = or-false (not (length stack == 0)) in
    let all = list_any-append (λ (x : TxIn). not (length x.stack == 0)) front (with_stack input stack ∷ []) in
    rw (witness, item) (ap (λ (b : Bool). some_witness front || b) (sym one) ∙ sym all)

stack_passed : (input : TxIn) (left : List TxIn) (has_witness has_item : Bool) (i j : Input) (total : Result (List TxIn × Input) Wrong) → (stack : List (List ℕ)) × (has_item ≡ not (length stack == 0)) × (stack_at i ≡ Ok (stack, j))
    → PassedStacks (input ∷ left) has_witness i total → PassedStacks left (has_witness || has_item) j total
unfolding stacks_at
stack_passed input left has_witness has_item i j total one so_far = record {
  front = so_far.front ++ with_stack input one.0 ∷ [];
  tells = told so_far.front input one.0 has_witness has_item so_far.tells one.1;
  whole = sym (regroup so_far.front (with_stack input one.0) (stacks_at left j)) ∙ (rw one.2 at so_far.whole);
}

pub stacks_go_on : (count i : ℕ) (has_witness has_item : Bool) (start input after : Input) → i < count → (stack : List (List ℕ)) × (has_item ≡ not (length stack == 0)) × (stack_at input ≡ Ok (stack, after))
    → StacksPassed count i has_witness start input → StacksPassed count (i + 1) (has_witness || has_item) start after
stacks_go_on count i has_witness has_item start input after lt one so_far = λ inputs len.
    let here = left_at inputs i (omega arith) in
    let passed = subst (λ (left : List TxIn). PassedStacks left has_witness input (stacks_at inputs start)) here.1 (so_far inputs len) in
    stack_passed here.0 (drop (i + 1) inputs) has_witness has_item input after (stacks_at inputs start) one passed

pub stacks_end : (count i : ℕ) (has_witness : Bool) (start input : Input) → i < count → IsErr (stack_at input) → StacksPassed count i has_witness start input → (inputs : List TxIn) → length inputs ≡ count → IsErr (stacks_at inputs start)
unfolding stacks_at
stacks_end count i has_witness start input lt fails so_far = λ inputs len.
    let here = left_at inputs i (omega arith) in
    let passed = so_far inputs len in
    let failed : IsErr (stacks_at (here.0 ∷ drop (i + 1) inputs) input) = fails_first (stack_at input) _ fails in
    subst (λ (r : Result (List TxIn × Input) Wrong). IsErr r) passed.whole (front_fails passed.front (stacks_at (drop i inputs) input) (subst (λ (left : List TxIn). IsErr (stacks_at left input)) (sym here.1) failed))

pub stacks_done : (count i : ℕ) (has_witness : Bool) (start input : Input) → count ≤ i → StacksPassed count i has_witness start input
    → (inputs : List TxIn) → length inputs ≡ count → (read : List TxIn) × (has_witness ≡ some_witness read) × (stacks_at inputs start ≡ Ok (read, input))
unfolding stacks_at
stacks_done count i has_witness start input le so_far = λ inputs len.
    let passed = so_far inputs len in
    let none : drop i inputs ≡ [] = drop_all i inputs (omega arith) in
    let all : with_front passed.front (stacks_at (drop i inputs) input) ≡ Ok (passed.front, input) = rw none (ap (λ (xs : List TxIn). Ok (xs, input)) (append-nil passed.front)) in
    (passed.front, passed.tells, sym passed.whole ∙ all)
