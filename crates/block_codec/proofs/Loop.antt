-- Reading members one after the other, as a loop does.
use Rattle.std.proofs.Common.{◌≡◌, ℕ, suc, ◌-◌, ◌+◌, ◌≤◌, ◌<◌, List, [], ◌∷◌, ◌++◌, Result, Ok, Err, refl, sym, ap, ◌∙◌, append_assoc, arith}
use Rattle.std.proofs.lemmas.List.{append-nil}
use Rattle.base_types.specs.Reading.{Input, ◌>>=◌}
use Rattle.block_codec.specs.declared.fault.BlockFault.{BlockFault}
use Rattle.block_codec.specs.declared.fault.BlockFault.TheVariants.{NoMemory, Bad}
use Rattle.block_codec.specs.Reading.{Wrong, Fails}
use Rattle.base_types.specs.Codec.{Reader, many_at}

-- what was read before, and what is still read
abbrev pub with_front : {X : Type 0} → List X → Result (List X × Input) Wrong → Result (List X × Input) Wrong
with_front front read = read >>= λ x. Ok (front ++ x.0, x.1)

regroup : {X : Type 0} (front : List X) (n : X) (read : Result (List X × Input) Wrong) → with_front front (read >>= λ x. Ok (n ∷ x.0, x.1)) ≡ with_front (front ++ n ∷ []) read
regroup {X} front n (Ok x) = ap (λ (ns : List X). Ok (ns, x.1)) (simp append_assoc)
regroup front n (Err f) = refl

pub goes_on : {X : Type 0} (read : Reader Wrong X) (front : List X) (count i : ℕ) (input : Input) (n : X) (after : Input) (total : Result (List X × Input) Wrong) → i < count → read input ≡ Ok (n, after)
    → with_front front (many_at read (count - i) input) ≡ total → with_front (front ++ n ∷ []) (many_at read (count - (i + 1)) after) ≡ total
unfolding many_at
goes_on read front count i input n after total lt h so_far =
    let k : count - i ≡ suc (count - (i + 1)) = omega arith in
    let one : with_front front (many_at read (count - i) input) ≡ with_front (front ++ n ∷ []) (many_at read (count - (i + 1)) after) = rw (k, h) (regroup front n (many_at read (count - (i + 1)) after)) in
    sym one ∙ so_far

pub ends : {X : Type 0} (read : Reader Wrong X) (e : BlockFault) (front : List X) (count i : ℕ) (input : Input) (total : Result (List X × Input) Wrong) → i < count → Fails e (read input)
    → with_front front (many_at read (count - i) input) ≡ total → Fails e total
unfolding many_at
ends read NoMemory front count i input total lt h so_far = tt
ends read (Bad error at) front count i input total lt h so_far =
    let k : count - i ≡ suc (count - (i + 1)) = omega arith in
    let one : with_front front (many_at read (count - i) input) ≡ Err (error, at) = rw (k, h) refl in
    sym so_far ∙ one

pub is_done : {X : Type 0} (read : Reader Wrong X) (front : List X) (count i : ℕ) (input : Input) (total : Result (List X × Input) Wrong) → count ≤ i → with_front front (many_at read (count - i) input) ≡ total → total ≡ Ok (front, input)
unfolding many_at
is_done {X} read front count i input total le so_far =
    let k : count - i ≡ 0 = omega arith in
    let one : with_front front (many_at read (count - i) input) ≡ Ok (front, input) = rw k (ap (λ (ns : List X). Ok (ns, input)) (append-nil front)) in
    sym so_far ∙ one
