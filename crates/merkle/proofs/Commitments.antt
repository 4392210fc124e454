-- Scanning outputs from the last to the first.
use Rattle.std.proofs.Common.{◌≡◌, ℕ, ◌+◌, ◌<◌, length, get_or, drop, Bool, true, false, cond, List, [], ◌∷◌, ◌++◌, reverse, refl, sym, ap, ◌∙◌}
use Rattle.std.proofs.lemmas.List.{reverse-append, at_drop_more}
use Rattle.std.specs.Prelude.{Some, None}
use Rattle.std.specs.declared.option.Option.{Option}
use Rattle.base_types.specs.declared.hash.Hash32.{Hash32}
use Rattle.base_types.specs.declared.coin.TxOut.{TxOut}
use Rattle.block_codec.specs.Commitment.{commits, committed_hash, last_commitment}

-- the commitment of the first of the outputs that hold one, else this
abbrev pub first_commitment : Option Hash32 → List TxOut → Option Hash32
first_commitment behind [] = behind
first_commitment behind (output ∷ outputs) = cond (commits output.script) (Some (committed_hash output.script)) (first_commitment behind outputs)

pub first_commitment-push : (behind : Option Hash32) (outputs : List TxOut) (output : TxOut) → first_commitment behind (outputs ++ output ∷ []) ≡ first_commitment (cond (commits output.script) (Some (committed_hash output.script)) behind) outputs
first_commitment-push behind [] output = refl
first_commitment-push behind (o ∷ outputs) output = ap (λ t. cond (commits o.script) (Some (committed_hash o.script)) t) (first_commitment-push behind outputs output)

pub first_is_last : (before : Option Hash32) (outputs : List TxOut) → first_commitment before (reverse outputs) ≡ last_commitment before outputs
first_is_last before [] = refl
first_is_last before (output ∷ outputs) =
    ap (λ l. first_commitment before l) (reverse-append (output ∷ []) outputs) ∙
    first_commitment-push before (reverse outputs) output ∙
    first_is_last (cond (commits output.script) (Some (committed_hash output.script)) before) outputs

-- one output on
pub first_commitment-next : (outputs : List TxOut) (i : ℕ) (output : TxOut) → (i < length outputs) × (output ≡ get_or outputs i output) → first_commitment None (drop i outputs) ≡ cond (commits output.script) (Some (committed_hash output.script)) (first_commitment None (drop (i + 1) outputs))
first_commitment-next outputs i output h =
    at_drop_more (first_commitment None) outputs i output h.0 ∙
    ap (λ (o : TxOut). cond (commits o.script) (Some (committed_hash o.script)) (first_commitment None (drop (i + 1) outputs))) (sym h.1)

-- what a test's answer says of the choice that it makes
some_chosen : (b : Bool) (x h : Hash32) (behind : Option Hash32) → cond b (Some x) None ≡ Some h → cond b (Some x) behind ≡ Some h
some_chosen true x h behind e = e
some_chosen false x h behind e = absurd cc

none_chosen : (b : Bool) (x : Hash32) (behind : Option Hash32) → cond b (Some x) None ≡ None → cond b (Some x) behind ≡ behind
none_chosen true x behind e = absurd cc
none_chosen false x behind e = refl

-- an output that is the next one, by what its script holds
abbrev pub Next : List TxOut → ℕ → TxOut → Type 0
Next outputs i output = (i < length outputs) × (output ≡ get_or outputs i output)

pub first_commitment-found : (outputs : List TxOut) (i : ℕ) (output : TxOut) (script : List ℕ) (hash : Hash32) → Next outputs i output → script ≡ output.script → Some hash ≡ cond (commits script) (Some (committed_hash script)) None → first_commitment None (drop i outputs) ≡ Some hash
first_commitment-found outputs i output script hash next same found =
    first_commitment-next outputs i output next ∙
    some_chosen (commits output.script) (committed_hash output.script) hash (first_commitment None (drop (i + 1) outputs))
    (ap (λ s. cond (commits s) (Some (committed_hash s)) None) (sym same) ∙ sym found)

pub first_commitment-passed : (outputs : List TxOut) (i : ℕ) (output : TxOut) (script : List ℕ) → Next outputs i output → script ≡ output.script → None ≡ cond (commits script) (Some (committed_hash script)) None → first_commitment None (drop (i + 1) outputs) ≡ first_commitment None (drop i outputs)
first_commitment-passed outputs i output script next same none =
    sym (first_commitment-next outputs i output next ∙
    none_chosen (commits output.script) (committed_hash output.script) (first_commitment None (drop (i + 1) outputs))
    (ap (λ s. cond (commits s) (Some (committed_hash s)) None) (sym same) ∙ sym none))
