-- A block makes no more than its subsidy.
use Rattle.std.proofs.Common.{◌≡◌, ◌≤◌, ◌+◌, ◌-◌, ℕ, List, [], ◌∷◌, map, Bool, true, false, Option, Some, None, Ok, refl, ap, arith}
use Rattle.std.proofs.lemmas.Bool.{ltb-false}
use Rattle.base_types.specs.Coins.{Coins}
use Rattle.base_types.specs.declared.coin.Coin.{Coin}
use Rattle.block_codec.specs.declared.block.Tx.{Tx}
use Rattle.block_codec.specs.declared.block.Block.{Block}
use Rattle.block_codec.specs.Text.{txid_of}
use Rattle.chain_model.specs.Rules.{first_broken, first_some}
use Rattle.chain_model.specs.BodyRules.{Place, has_twin_inputs, tx_broken, body_broken}
use Rattle.chain_model.specs.Coins.{without, with_outputs, value_of_coins, value_of_outputs}
use Rattle.base_types.specs.Parameters.{subsidy}
use Rattle.chain_model.specs.Apply.{Position, Paid, spending_broken, after_txs, after_all}
use Rattle.chain_model.specs.Answers.{outcome_of}
use Rattle.chain_model.specs.Laws.{value_of_all, MakesAtMostTheSubsidy}
use Rattle.chain_model.proofs.Inversions.{Pays, first_pays, none_pays, not_overwritten, all_rewarded}
use Rattle.chain_model.proofs.Worth.{worth_spent, worth_made}

-- ---- rules that aren't broken

pub first_fine : {R : Type 0} (o : Option R) (others : List (Option R)) → first_some (o ∷ others) ≡ None → (o ≡ None) × (first_some others ≡ None)
unfolding first_some
first_fine None others e = (refl, e)
first_fine (Some rule) others e = absurd cc

pub unbroken : {R : Type 0} (b : Bool) (rule : R) (rules : List (Bool × R)) → first_broken ((b, rule) ∷ rules) ≡ None → (b ≡ false) × (first_broken rules ≡ None)
unfolding first_broken
unbroken true rule rules e = absurd cc
unbroken false rule rules e = (refl, e)

-- no two inputs of a sound transaction name one outpoint
pub single_inputs : (tx : Tx) → tx_broken tx ≡ None → has_twin_inputs tx.inputs ≡ false
single_inputs tx e =
    let inputs = unbroken _ _ _ e in
    let outputs = unbroken _ _ _ inputs.1 in
    let values = unbroken _ _ _ outputs.1 in
    (unbroken _ _ _ values.1).0

pub sound_txs : (place : Place) (block : Block) → body_broken place block ≡ None → first_some (map tx_broken block.txs) ≡ None
unfolding body_broken
sound_txs place block e = (first_fine _ _ (first_fine _ _ e).1).0

-- ---- a transaction

no_more_out : (position : Position) (fees : ℕ) (tx : Tx) (spent : List Coin) → spending_broken position fees tx spent ≡ None → value_of_outputs tx.outputs ≤ value_of_coins spent
no_more_out position fees tx spent e =
    let sums = first_fine _ _ (first_fine _ _ e).1 in
    ltb-false (value_of_coins spent) (value_of_outputs tx.outputs) (unbroken _ _ _ sums.0).0

module _ (position : Position) where
  tx_worth : (paid next : Paid) (tx : Tx) → tx_broken tx ≡ None → Pays position paid tx next → value_of_all next.coins + next.fees ≤ value_of_all paid.coins + paid.fees
  tx_worth paid next tx sound pays =
      let spent = worth_spent tx.inputs paid.coins pays.spent (single_inputs tx sound) pays.found in
      let made : value_of_all (with_outputs position.at tx (without tx.inputs paid.coins)) ≤ value_of_all (without tx.inputs paid.coins) + value_of_outputs tx.outputs = worth_made position.at tx (txid_of tx) (without tx.inputs paid.coins) in
      let covered = no_more_out position paid.fees tx pays.spent pays.fine in
      let coins : value_of_all (with_outputs position.at tx (without tx.inputs paid.coins)) ≡ value_of_all next.coins = ap (λ (p : Paid). value_of_all p.coins) pays.after in
      let fees : paid.fees + (value_of_coins pays.spent - value_of_outputs tx.outputs) ≡ next.fees = ap (λ (p : Paid). p.fees) pays.after in
      omega (arith, spent, made, covered, coins, fees)

  txs_worth : (txs : List Tx) (paid last : Paid) → first_some (map tx_broken txs) ≡ None → after_txs position paid txs ≡ Ok last → value_of_all last.coins + last.fees ≤ value_of_all paid.coins + paid.fees
  txs_worth [] paid last sound is =
      let same = none_pays position paid last is in
      let coins : value_of_all paid.coins ≡ value_of_all last.coins = ap (λ (p : Paid). value_of_all p.coins) same in
      let fees : paid.fees ≡ last.fees = ap (λ (p : Paid). p.fees) same in
      omega (arith, coins, fees)
  txs_worth (tx ∷ txs) paid last sound is =
      let fine = first_fine (tx_broken tx) (map tx_broken txs) sound in
      let step = first_pays position paid tx txs last is in
      let one = tx_worth paid step.0 tx fine.0 step.1 in
      let rest = txs_worth txs step.0 last fine.1 step.2 in
      omega (arith, one, rest)

  all_worth : (coins : Coins) (txs : List Tx) (new : Coins) → first_some (map tx_broken txs) ≡ None → after_all position coins txs ≡ Ok new → value_of_all new ≤ value_of_all coins + subsidy position.at
  all_worth coins [] new sound is =
      let same : coins ≡ new = cc in
      let value : value_of_all coins ≡ value_of_all new = ap (λ (c : Coins). value_of_all c) same in
      omega (arith, value)
  all_worth coins (coinbase ∷ txs) new sound is =
      let fine = first_fine (tx_broken coinbase) (map tx_broken txs) sound in
      let r = all_rewarded position coins coinbase txs new is in
      let rest : value_of_all new + r.fees ≤ value_of_all (with_outputs position.at coinbase coins) + 0 = txs_worth txs (record { coins = with_outputs position.at coinbase coins; fees = 0 }) (record { coins = new; fees = r.fees }) fine.1 r.paid in
      let made : value_of_all (with_outputs position.at coinbase coins) ≤ value_of_all coins + value_of_outputs coinbase.outputs = worth_made position.at coinbase (txid_of coinbase) coins in
      let reward = ltb-false (r.fees + subsidy position.at) (value_of_outputs coinbase.outputs) r.in_bounds in
      omega (arith, rest, made, reward)

-- what a sound block makes
pub makes_at_most : (position : Position) (place : Place) (coins : Coins) (block : Block) (new : Coins) → body_broken place block ≡ None → outcome_of position coins block.txs ≡ Ok new → MakesAtMostTheSubsidy position.at coins new
makes_at_most position place coins block new sound is =
    all_worth position coins block.txs new (sound_txs place block sound) (not_overwritten position coins block.txs new is)
