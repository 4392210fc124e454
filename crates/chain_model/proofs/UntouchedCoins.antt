-- A block changes no coin that it doesn't name.
use Rattle.std.proofs.Common.{◌≡◌, ℕ, ◌||◌, List, [], ◌∷◌, ◌++◌, map, drop, Bool, true, false, cond, Some, None, Ok, refl, sym, ap, ◌∙◌}
use Rattle.std.specs.Prelude.{fold}
use Rattle.std.specs.List.{list_any, flat_map}
use Rattle.std.proofs.lemmas.List.Folds.{list_any-append}
use Rattle.std.specs.FinMap.{get, insert, remove, get-insert, get-remove}
use Rattle.base_types.proofs.KeyOrders.{outpoint_cmp_total}
use Rattle.base_types.specs.Coins.{Coins}
use Rattle.base_types.specs.declared.hash.OutPoint.{OutPoint}
use Rattle.base_types.specs.declared.coin.TxOut.{TxOut}
use Rattle.block_codec.specs.declared.block.TxIn.{TxIn}
use Rattle.block_codec.specs.declared.block.Tx.{Tx}
use Rattle.block_codec.specs.declared.block.Block.{Block}
use Rattle.chain_model.specs.BodyRules.{same_outpoint}
use Rattle.chain_model.specs.Coins.{without, with_outputs, coin_of, spendable_of}
use Rattle.chain_model.specs.Apply.{Position, Paid, after_txs, after_all}
use Rattle.chain_model.specs.Answers.{outcome_of}
use Rattle.chain_model.specs.Laws.{inputs_named, outputs_named, Untouched}
use Rattle.chain_model.proofs.OutPoints.{tied_outpoints}
use Rattle.chain_model.proofs.Inversions.{first_pays, none_pays, not_overwritten, all_rewarded}

neither : (a b : Bool) → (a || b) ≡ false → (a ≡ false) × (b ≡ false)
neither true b e = absurd cc
neither false b e = (refl, e)

module _ (key : OutPoint) where
  -- the outpoint is among these
  abbrev pub among : List OutPoint → Bool
  among outpoints = list_any (same_outpoint key) outpoints

  apart : (xs ys : List OutPoint) → among (xs ++ ys) ≡ false → (among xs ≡ false) × (among ys ≡ false)
  apart xs ys e = neither (among xs) (among ys) (sym (list_any-append (same_outpoint key) xs ys) ∙ e)

  pub inputs_pass : (inputs : List TxIn) (coins : Coins) → among (map (λ input. input.prev) inputs) ≡ false → get (without inputs coins) key ≡ get coins key
  inputs_pass [] coins e = refl
  inputs_pass (input ∷ inputs) coins e =
      let p = neither (same_outpoint key input.prev) (among (map (λ i. i.prev) inputs)) e in
      inputs_pass inputs (remove coins input.prev) p.1
      ∙ get-remove outpoint_cmp_total coins input.prev key
      ∙ ap (λ (b : Bool). cond b None (get coins key)) (tied_outpoints key input.prev ∙ p.0)

  entries_pass : (at : ℕ) (tx : Tx) (named : List (OutPoint × TxOut)) (coins : Coins) → among (map (λ n. n.0) named) ≡ false → get (fold (λ all n. insert all n.0 (coin_of at tx n.1)) coins named) key ≡ get coins key
  entries_pass at tx [] coins e = refl
  entries_pass at tx (n ∷ named) coins e =
      let p = neither (same_outpoint key n.0) (among (map (λ m. m.0) named)) e in
      entries_pass at tx named (insert coins n.0 (coin_of at tx n.1)) p.1
      ∙ get-insert outpoint_cmp_total coins n.0 (coin_of at tx n.1) key
      ∙ ap (λ (b : Bool). cond b (Some (coin_of at tx n.1)) (get coins key)) (tied_outpoints key n.0 ∙ p.0)

  pub outputs_pass : (at : ℕ) (tx : Tx) (coins : Coins) → among (outputs_named tx) ≡ false → get (with_outputs at tx coins) key ≡ get coins key
  outputs_pass at tx coins e = entries_pass at tx (spendable_of tx) coins e

  txs_pass : (position : Position) (txs : List Tx) (paid last : Paid) → after_txs position paid txs ≡ Ok last → among (flat_map inputs_named txs) ≡ false → among (flat_map outputs_named txs) ≡ false → get last.coins key ≡ get paid.coins key
  txs_pass position [] paid last is ins outs = ap (λ (p : Paid). get p.coins key) (sym (none_pays position paid last is))
  txs_pass position (tx ∷ txs) paid last is ins outs =
      let step = first_pays position paid tx txs last is in
      let i = apart (inputs_named tx) (flat_map inputs_named txs) ins in
      let o = apart (outputs_named tx) (flat_map outputs_named txs) outs in
      txs_pass position txs step.0 last step.2 i.1 o.1
      ∙ ap (λ (p : Paid). get p.coins key) (sym step.1.after)
      ∙ outputs_pass position.at tx (without tx.inputs paid.coins) o.0
      ∙ inputs_pass tx.inputs paid.coins i.0

  all_pass : (position : Position) (coins : Coins) (txs : List Tx) (new : Coins) → after_all position coins txs ≡ Ok new → among (flat_map inputs_named (drop 1 txs)) ≡ false → among (flat_map outputs_named txs) ≡ false → get new key ≡ get coins key
  all_pass position coins [] new is ins outs = let same : coins ≡ new = cc in ap (λ (c : Coins). get c key) (sym same)
  all_pass position coins (coinbase ∷ txs) new is ins outs =
      let r = all_rewarded position coins coinbase txs new is in
      let o = apart (outputs_named coinbase) (flat_map outputs_named txs) outs in
      txs_pass position txs (record { coins = with_outputs position.at coinbase coins; fees = 0 }) (record { coins = new; fees = r.fees }) r.paid ins o.1
      ∙ outputs_pass position.at coinbase coins o.0

-- what a block doesn't name keeps its coin
pub untouched : (position : Position) (coins : Coins) (block : Block) (new : Coins) → outcome_of position coins block.txs ≡ Ok new → Untouched block coins new
untouched position coins block new is key e =
    let p = apart key (flat_map inputs_named (drop 1 block.txs)) (flat_map outputs_named block.txs) e in
    all_pass key position coins block.txs new (not_overwritten position coins block.txs new is) p.0 p.1
