-- Giving each input its stack, as a loop does.
use Rattle.std.proofs.Common.{◌≡◌, ℕ, zero, suc, ◌+◌, ◌≤◌, ◌<◌, List, [], ◌∷◌, ◌++◌, length, take, drop, Result, Ok, Err, refl, sym, ap, subst, ◌∙◌, append_assoc, arith}
use Rattle.std.proofs.lemmas.List.{append-nil, take_at, drop_at, take_all, drop_all, length-append}
use Rattle.base_types.specs.Reading.{Input, ◌>>=◌}
use Rattle.block_codec.specs.declared.block.TxIn.{TxIn}
use Rattle.block_codec.specs.declared.fault.BlockFault.{BlockFault}
use Rattle.block_codec.specs.declared.fault.BlockFault.TheVariants.{NoMemory, Bad}
use Rattle.block_codec.specs.Text.{with_stack}
use Rattle.block_codec.specs.Reading.{Wrong, Fails, stack_at, stacks_at}
use Rattle.block_codec.proofs.Loop.{with_front}

-- a list at one of its places
record Split {X : Type 0} (xs : List X) (k : ℕ) : Type 0 where
  pub before : List X
  pub here : X
  pub after : List X
  pub len : length before ≡ k
  pub is : xs ≡ before ++ here ∷ after

split : {X : Type 0} (xs : List X) (k : ℕ) → k < length xs → Split xs k
split [] k lt = absurd (omega arith)
split (x ∷ xs) zero lt = record { before = []; here = x; after = xs; len = refl; is = refl }
split (x ∷ xs) (suc k) lt =
    let s = split xs k (omega arith) in
    record { before = x ∷ s.before; here = s.here; after = s.after; len = ap suc s.len; is = ap (λ ys. x ∷ ys) s.is }

-- how the loop's inputs change
abbrev pub Sets : ℕ → List (List ℕ) → List TxIn → List TxIn → Type 0
Sets k stack old new = (before after : List TxIn) (input : TxIn) → length before ≡ k → old ≡ before ++ input ∷ after → new ≡ before ++ with_stack input stack ∷ after

pub regroup : (before : List TxIn) (x : TxIn) (read : Result (List TxIn × Input) Wrong) → with_front before (read >>= λ y. Ok (x ∷ y.0, y.1)) ≡ with_front (before ++ x ∷ []) read
regroup before x (Ok y) = ap (λ (ns : List TxIn). Ok (ns, y.1)) (simp append_assoc)
regroup before x (Err f) = refl

-- the same over a split list
goes_on_split : (before after : List TxIn) (input : TxIn) (k : ℕ) (stack : List (List ℕ)) (i j : Input) → length before ≡ k → stack_at i ≡ Ok (stack, j)
    → with_front (take k (before ++ input ∷ after)) (stacks_at (drop k (before ++ input ∷ after)) i)
    ≡ with_front (take (k + 1) (before ++ with_stack input stack ∷ after)) (stacks_at (drop (k + 1) (before ++ with_stack input stack ∷ after)) j)
unfolding stacks_at
goes_on_split before after input k stack i j len e =
    let grouped : before ++ with_stack input stack ∷ after ≡ (before ++ with_stack input stack ∷ []) ++ after = sym (append_assoc before (with_stack input stack ∷ []) after) in
    let len2 : length (before ++ with_stack input stack ∷ []) ≡ k + 1 = omega (arith, length-append before (with_stack input stack ∷ []), len) in
    rw (
      take_at before (input ∷ after) k len,
      drop_at before (input ∷ after) k len,
      e,
      grouped,
      take_at (before ++ with_stack input stack ∷ []) after (k + 1) len2,
      drop_at (before ++ with_stack input stack ∷ []) after (k + 1) len2,
    ) (regroup before (with_stack input stack) (stacks_at after j))

pub goes_on : (old new : List TxIn) (k size : ℕ) (stack : List (List ℕ)) (i j : Input) (total : Result (List TxIn × Input) Wrong) → length old ≡ size → k < size → stack_at i ≡ Ok (stack, j) → Sets k stack old new
    → with_front (take k old) (stacks_at (drop k old) i) ≡ total → (length new ≡ size) × (with_front (take (k + 1) new) (stacks_at (drop (k + 1) new) j) ≡ total)
goes_on old new k size stack i j total sized lt e sets so_far =
    let s = split old k (omega arith) in
    let new-is = sets s.before s.after s.here s.len s.is in
    let new_len : length new ≡ size = ap length new-is ∙ length-append s.before (with_stack s.here stack ∷ s.after) ∙ sym (length-append s.before (s.here ∷ s.after)) ∙ ap length (sym s.is) ∙ sized in
    let old_total : with_front (take k (s.before ++ s.here ∷ s.after)) (stacks_at (drop k (s.before ++ s.here ∷ s.after)) i) ≡ total = subst (λ (xs : List TxIn). with_front (take k xs) (stacks_at (drop k xs) i) ≡ total) s.is so_far in
    let new_total = sym (goes_on_split s.before s.after s.here k stack i j s.len e) ∙ old_total in
    (new_len, subst (λ (xs : List TxIn). with_front (take (k + 1) xs) (stacks_at (drop (k + 1) xs) j) ≡ total) (sym new-is) new_total)

ends_split : (before after : List TxIn) (input : TxIn) (k : ℕ) (fault : BlockFault) (i : Input) → length before ≡ k → Fails fault (stack_at i) → Fails fault (with_front (take k (before ++ input ∷ after)) (stacks_at (drop k (before ++ input ∷ after)) i))
unfolding stacks_at
ends_split before after input k NoMemory i len e = tt
ends_split before after input k (Bad error at) i len e = rw (drop_at before (input ∷ after) k len, e) refl

pub ends : (old : List TxIn) (k size : ℕ) (fault : BlockFault) (i : Input) (total : Result (List TxIn × Input) Wrong) → length old ≡ size → k < size → Fails fault (stack_at i)
    → with_front (take k old) (stacks_at (drop k old) i) ≡ total → Fails fault total
ends old k size fault i total sized lt e so_far =
    let s = split old k (omega arith) in
    let failed = ends_split s.before s.after s.here k fault i s.len e in
    subst (λ (r : Result (List TxIn × Input) Wrong). Fails fault r) so_far (subst (λ (xs : List TxIn). Fails fault (with_front (take k xs) (stacks_at (drop k xs) i))) (sym s.is) failed)

pub is_done : (old : List TxIn) (k size : ℕ) (i : Input) (total : Result (List TxIn × Input) Wrong) → length old ≡ size → size ≤ k → with_front (take k old) (stacks_at (drop k old) i) ≡ total → total ≡ Ok (old, i)
unfolding stacks_at
is_done old k size i total sized le so_far =
    let all : with_front (take k old) (stacks_at (drop k old) i) ≡ Ok (old, i) = rw (take_all k old (omega arith), drop_all k old (omega arith)) (ap (λ (xs : List TxIn). Ok (xs, i)) (append-nil old)) in
    sym so_far ∙ all
