-- Transactions that can be applied to coins are those that no test finds.
use Rattle.std.proofs.Common.{◌≡◌, ◌≤◌, ◌||◌, List, [], ◌∷◌, Bool, true, false, refl, ap, ◌∙◌}
use Rattle.std.specs.Prelude.{All}
use Rattle.std.specs.List.{list_any}
use Rattle.std.proofs.lemmas.Bool.{ltb-false, le-ltb}
use Rattle.std.proofs.lemmas.List.Elements.{All-nil, All-cons, All-head, All-tail}
use Rattle.base_types.specs.Parameters.{max_money}
use Rattle.base_types.specs.declared.coin.TxOut.{TxOut}
use Rattle.block_codec.specs.declared.block.Tx.{Tx}
use Rattle.block_checks.specs.Unpayable.{is_too_high, is_unpayable}
use Rattle.chain_model.specs.Coins.{output_value}
use Rattle.chain_model.specs.Connecting.{IsPayable}
use Rattle.chain_model.specs.BodyRules.{has_twin_inputs}

neither : (a b : Bool) → (a || b) ≡ false → (a ≡ false) × (b ≡ false)
neither true b e = absurd cc
neither false b e = (refl, e)

low : (outputs : List TxOut) → list_any is_too_high outputs ≡ false → All (λ output. output_value output ≤ max_money) outputs
low [] e = All-nil (λ (output : TxOut). output_value output ≤ max_money)
low (output ∷ outputs) e =
    let p = neither (is_too_high output) (list_any is_too_high outputs) e in
    All-cons (λ (o : TxOut). output_value o ≤ max_money) output outputs (ltb-false max_money (output_value output) p.0) (low outputs p.1)

none_high : (outputs : List TxOut) → All (λ output. output_value output ≤ max_money) outputs → list_any is_too_high outputs ≡ false
none_high [] all = refl
none_high (output ∷ outputs) all =
    ap (λ (b : Bool). b || list_any is_too_high outputs) (le-ltb max_money (output_value output) (All-head (λ (o : TxOut). output_value o ≤ max_money) output outputs all))
    ∙ none_high outputs (All-tail (λ (o : TxOut). output_value o ≤ max_money) output outputs all)

pub all_payable : (txs : List Tx) → list_any is_unpayable txs ≡ false → All IsPayable txs
all_payable [] e = All-nil IsPayable
all_payable (tx ∷ txs) e =
    let p = neither (is_unpayable tx) (list_any is_unpayable txs) e in
    let q = neither (list_any is_too_high tx.outputs) (has_twin_inputs tx.inputs) p.0 in
    All-cons IsPayable tx txs (record { single = q.1; values = low tx.outputs q.0 }) (all_payable txs p.1)

pub none_unpayable : (txs : List Tx) → All IsPayable txs → list_any is_unpayable txs ≡ false
none_unpayable [] all = refl
none_unpayable (tx ∷ txs) all =
    let first = All-head IsPayable tx txs all in
    ap (λ (b : Bool). (b || has_twin_inputs tx.inputs) || list_any is_unpayable txs) (none_high tx.outputs first.values)
    ∙ ap (λ (b : Bool). b || list_any is_unpayable txs) first.single
    ∙ none_unpayable txs (All-tail IsPayable tx txs all)
