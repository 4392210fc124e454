-- The transactions of a block whose body breaks no rule.
use Rattle.std.proofs.Common.{◌≡◌, ◌≤◌, ◌||◌, ℤ, pos, negsuc, List, [], ◌∷◌, map, Bool, true, false, None, refl}
use Rattle.std.specs.Prelude.{All, ◌+ℤ◌}
use Rattle.std.proofs.lemmas.Bool.{ltb-false}
use Rattle.std.proofs.lemmas.List.Elements.{All-nil, All-cons}
use Rattle.base_types.specs.Parameters.{max_money}
use Rattle.base_types.specs.declared.coin.TxOut.{TxOut}
use Rattle.block_codec.specs.declared.block.Tx.{Tx}
use Rattle.block_codec.specs.declared.block.Block.{Block}
use Rattle.chain_model.specs.Rules.{first_some}
use Rattle.chain_model.specs.BodyRules.{Place, has_bad_value, is_out_of_range, tx_broken, body_broken}
use Rattle.chain_model.specs.Coins.{output_value, satoshis}
use Rattle.chain_model.specs.Connecting.{IsPayable}
use Rattle.chain_model.proofs.Minting.{first_fine, unbroken, single_inputs, sound_txs}

neither : (a b : Bool) → (a || b) ≡ false → (a ≡ false) × (b ≡ false)
neither true b e = absurd cc
neither false b e = (refl, e)

small : (value : ℤ) → is_out_of_range value ≡ false → satoshis value ≤ max_money
small (pos n) e = ltb-false max_money n e
small (negsuc n) e = absurd cc

in_range : (before : ℤ) (outputs : List TxOut) → has_bad_value before outputs ≡ false → All (λ output. output_value output ≤ max_money) outputs
unfolding has_bad_value
in_range before [] e = All-nil (λ (output : TxOut). output_value output ≤ max_money)
in_range before (output ∷ outputs) e =
    let p = neither (is_out_of_range output.value || is_out_of_range (before +ℤ output.value)) (has_bad_value (before +ℤ output.value) outputs) e in
    let q = neither (is_out_of_range output.value) (is_out_of_range (before +ℤ output.value)) p.0 in
    All-cons (λ (o : TxOut). output_value o ≤ max_money) output outputs (small output.value q.0) (in_range (before +ℤ output.value) outputs p.1)

good_values : (tx : Tx) → tx_broken tx ≡ None → has_bad_value (pos 0) tx.outputs ≡ false
good_values tx e =
    let inputs = unbroken _ _ _ e in
    let outputs = unbroken _ _ _ inputs.1 in
    (unbroken _ _ _ outputs.1).0

each : (txs : List Tx) → first_some (map tx_broken txs) ≡ None → All IsPayable txs
each [] e = All-nil IsPayable
each (tx ∷ txs) e =
    let fine = first_fine (tx_broken tx) (map tx_broken txs) e in
    All-cons IsPayable tx txs (record { single = single_inputs tx fine.0; values = in_range (pos 0) tx.outputs (good_values tx fine.0) }) (each txs fine.1)

pub payable : (place : Place) (block : Block) → body_broken place block ≡ None → All IsPayable block.txs
payable place block sound = each block.txs (sound_txs place block sound)
