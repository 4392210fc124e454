-- What is known of the steps of a block that is applied.
use Rattle.std.proofs.Common.{◌≡◌, ℕ, ◌+◌, List, [], ◌∷◌, Bool, true, false, cond, Option, Some, None, Result, Ok, Err, refl, ap, ◌∙◌}
use Rattle.base_types.specs.Reading.{◌>>=◌}
use Rattle.base_types.specs.Coins.{Coins}
use Rattle.base_types.specs.declared.coin.Coin.{Coin}
use Rattle.base_types.specs.declared.refused.CoinRefused.{CoinRefused}
use Rattle.base_types.specs.declared.refused.CoinRefused.TheVariants.{Bip30, CoinbaseAmount}
use Rattle.block_codec.specs.declared.block.Tx.{Tx}
use Rattle.chain_model.specs.Coins.{spent_by, with_outputs, value_of_outputs}
use Rattle.base_types.specs.Parameters.{subsidy}
use Rattle.chain_model.specs.Apply.{Position, Paid, unless, fee, spending_broken, spent_and_made, paid_by, after_tx, after_txs, after_all, overwrites, rewarded}
use Rattle.chain_model.specs.Answers.{outcome_of}
use Rattle.std.specs.Prelude.{nat_lt}

pub bound : (A B : Type 0) (r : Result A CoinRefused) (next : A → Result B CoinRefused) (b : B) → (r >>= next) ≡ Ok b → (a : A) × (r ≡ Ok a) × (next a ≡ Ok b)
bound A B (Ok a) next b e = (a, refl, e)
bound A B (Err rule) next b e = absurd cc

allowed : (A : Type 0) (o : Option CoinRefused) (a b : A) → unless o a ≡ Ok b → (o ≡ None) × (a ≡ b)
allowed A None a b e = (refl, cc)
allowed A (Some rule) a b e = absurd cc

-- ---- a transaction

-- it spends coins that are there, breaks no rule on them, and leaves these coins and fees
pub record Pays (position : Position) (paid : Paid) (tx : Tx) (next : Paid) : Type 0 where
  pub spent : List Coin
  pub found : spent_by paid.coins tx.inputs ≡ Some spent
  pub fine : spending_broken position paid.fees tx spent ≡ None
  pub after : record { coins = spent_and_made position.at tx paid.coins; fees = paid.fees + fee tx spent } ≡ next

pub tx_pays : (position : Position) (paid : Paid) (tx : Tx) (next : Paid) → after_tx position paid tx ≡ Ok next → Pays position paid tx next
tx_pays position paid tx next e = go (spent_by paid.coins tx.inputs) refl e
  where
    go : (o : Option (List Coin)) → spent_by paid.coins tx.inputs ≡ o → paid_by position tx paid o ≡ Ok next → Pays position paid tx next
    go None is e = absurd cc
    go (Some coins) is e =
        let p = allowed Paid (spending_broken position paid.fees tx coins) (record { coins = spent_and_made position.at tx paid.coins; fees = paid.fees + fee tx coins }) next e in
        record { spent = coins; found = is; fine = p.0; after = p.1 }

pub first_pays : (position : Position) (paid : Paid) (tx : Tx) (txs : List Tx) (last : Paid) → after_txs position paid (tx ∷ txs) ≡ Ok last → (next : Paid) × Pays position paid tx next × (after_txs position next txs ≡ Ok last)
unfolding after_txs
first_pays position paid tx txs last e =
    let p = bound Paid Paid (after_tx position paid tx) (λ next. after_txs position next txs) last e in
    (p.0, tx_pays position paid tx p.0 p.1, p.2)

pub none_pays : (position : Position) (paid last : Paid) → after_txs position paid [] ≡ Ok last → paid ≡ last
unfolding after_txs
none_pays position paid last e = cc

ok : Paid → Result Paid CoinRefused
ok paid = Ok paid

-- ---- a block

pub not_overwritten : (position : Position) (coins : Coins) (txs : List Tx) (new : Coins) → outcome_of position coins txs ≡ Ok new → after_all position coins txs ≡ Ok new
not_overwritten position coins txs new e = go (overwrites coins txs) e
  where
    go : (b : Bool) → cond b (Err Bip30) (after_all position coins txs) ≡ Ok new → after_all position coins txs ≡ Ok new
    go true e = absurd cc
    go false e = e

-- its transactions are paid one after the other, and the coinbase doesn't pay too much
pub record Rewards (position : Position) (coins : Coins) (coinbase : Tx) (txs : List Tx) (new : Coins) : Type 0 where
  pub fees : ℕ
  pub paid : after_txs position (record { coins = with_outputs position.at coinbase coins; fees = 0 }) txs ≡ Ok (record { coins = new; fees = fees })
  pub in_bounds : nat_lt (fees + subsidy position.at) (value_of_outputs coinbase.outputs) ≡ false

pub all_rewarded : (position : Position) (coins : Coins) (coinbase : Tx) (txs : List Tx) (new : Coins) → after_all position coins (coinbase ∷ txs) ≡ Ok new → Rewards position coins coinbase txs new
unfolding ok
all_rewarded position coins coinbase txs new e =
    let p = bound Paid Coins (after_txs position (record { coins = with_outputs position.at coinbase coins; fees = 0 }) txs) (rewarded position.at coinbase) new e in
    go p.0 p.1 (nat_lt (p.0.fees + subsidy position.at) (value_of_outputs coinbase.outputs)) refl p.2
  where
    go : (last : Paid) → after_txs position (record { coins = with_outputs position.at coinbase coins; fees = 0 }) txs ≡ Ok last → (b : Bool) → nat_lt (last.fees + subsidy position.at) (value_of_outputs coinbase.outputs) ≡ b → cond b (Err CoinbaseAmount) (Ok last.coins) ≡ Ok new → Rewards position coins coinbase txs new
    go last paid true is e = absurd cc
    go last paid false is e =
        let same : last.coins ≡ new = cc in
        record {
          fees = last.fees;
          paid = paid ∙ ap (λ (c : Coins). ok (record { coins = c; fees = last.fees })) same;
          in_bounds = is;
        }
