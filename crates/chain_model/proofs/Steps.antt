-- A block's transactions one after the other, over coins that are told or not.
use Rattle.std.proofs.Common.{◌≡◌, ◌≤◌, ◌⊎◌, inl, inr, ◌-◌, ℕ, List, [], ◌∷◌, ◌++◌, length, map, take, drop, get_or, Option, Some, None, Result, Ok, Err, refl, sym, ap, ◌∙◌, arith}
use Rattle.std.specs.Prelude.{unwrap_or, IfSome, option_map}
use Rattle.std.proofs.lemmas.List.{nil_from_length, length-map, take_all, append_assoc, append-nil}
use Rattle.base_types.specs.Reading.{◌>>=◌}
use Rattle.base_types.specs.Coins.{Coins}
use Rattle.base_types.specs.declared.coin.Coin.{Coin}
use Rattle.base_types.specs.declared.hash.Hash32.{Hash32}
use Rattle.base_types.specs.declared.refused.CoinRefused.{CoinRefused}
use Rattle.block_codec.specs.declared.block.Tx.{Tx}
use Rattle.chain_model.specs.Apply.{Position, Paid, spent_and_made, after_tx, after_txs, spent_in}
use Rattle.chain_model.specs.Coins.{spent_by}
use Rattle.chain_model.proofs.Telling.{answered}

module _ (position : Position) (fees : ℕ) (tx : Tx) where
  module _ (txs : List Tx) where
    pub refused_here : (now : Option Coins) (rule : CoinRefused) → IfSome now (λ coins. after_tx position (record { coins = coins; fees = fees }) tx ≡ Err rule) → IfSome now (λ coins. after_txs position (record { coins = coins; fees = fees }) (tx ∷ txs) ≡ Err rule)
    unfolding after_txs
    refused_here None rule breaks = tt
    refused_here (Some coins) rule breaks = ap (λ (r : Result Paid CoinRefused). r >>= (λ next. after_txs position next txs)) breaks

    pub paid_next : (now next : Option Coins) (after : ℕ) → next ≡ option_map (spent_and_made position.at tx) now
        → IfSome now (λ coins. after_tx position (record { coins = coins; fees = fees }) tx ≡ Ok (record { coins = spent_and_made position.at tx coins; fees = after }))
        → option_map (λ coins. after_txs position (record { coins = coins; fees = after }) txs) next ≡ option_map (λ coins. after_txs position (record { coins = coins; fees = fees }) (tx ∷ txs)) now
    unfolding after_txs
    paid_next now next after e pays = ap (option_map (λ coins. after_txs position (record { coins = coins; fees = after }) txs)) e ∙ go now pays
      where
        go : (o : Option Coins) → IfSome o (λ coins. after_tx position (record { coins = coins; fees = fees }) tx ≡ Ok (record { coins = spent_and_made position.at tx coins; fees = after }))
            → option_map (λ coins. after_txs position (record { coins = coins; fees = after }) txs) (option_map (spent_and_made position.at tx) o) ≡ option_map (λ coins. after_txs position (record { coins = coins; fees = fees }) (tx ∷ txs)) o
        go None pays = refl
        go (Some coins) pays = ap (λ (r : Result Paid CoinRefused). Some (r >>= (λ paid. after_txs position paid txs))) (sym pays)

module _ (at : ℕ) (tx : Tx) (txs : List Tx) where
  pub undo_next : (now next : Option Coins) (undo : List (List Coin)) (spent : List Coin) → next ≡ option_map (spent_and_made at tx) now → IfSome now (λ coins. spent_by coins tx.inputs ≡ Some spent)
      → option_map (λ coins. (undo ++ spent ∷ []) ++ spent_in at coins txs) next ≡ option_map (λ coins. undo ++ spent_in at coins (tx ∷ txs)) now
  unfolding spent_in
  undo_next now next undo spent e found = ap (option_map (λ coins. (undo ++ spent ∷ []) ++ spent_in at coins txs)) e ∙ go now found
    where
      go : (o : Option Coins) → IfSome o (λ coins. spent_by coins tx.inputs ≡ Some spent) → option_map (λ coins. (undo ++ spent ∷ []) ++ spent_in at coins txs) (option_map (spent_and_made at tx) o) ≡ option_map (λ coins. undo ++ spent_in at coins (tx ∷ txs)) o
      go None found = refl
      go (Some coins) found = ap (λ (all : List (List Coin)). Some all) (
          append_assoc undo (spent ∷ []) (spent_in at (spent_and_made at tx coins) txs)
          ∙ ap (λ (first : Option (List Coin)). undo ++ unwrap_or first [] ∷ spent_in at (spent_and_made at tx coins) txs) (sym found))

-- what is left of transactions and their hashes ends at once
pub both_end : (f : Tx → Hash32) (txs : List Tx) (txids : List Hash32) → txids ≡ map f txs → (txs ≡ []) ⊎ (txids ≡ []) → txs ≡ []
both_end f txs txids e (inl done) = done
both_end f txs txids e (inr done) = nil_from_length txs (sym (length-map txs f) ∙ ap length (sym e ∙ done))

module _ (position : Position) (fees : ℕ) (now : Option Coins) where
  pub all_paid : (rest : List Tx) → rest ≡ [] → option_map (λ coins. after_txs position (record { coins = coins; fees = fees }) rest) now ≡ option_map (λ coins. Ok (record { coins = coins; fees = fees })) now
  unfolding after_txs
  all_paid rest done = ap (λ (txs : List Tx). option_map (λ coins. after_txs position (record { coins = coins; fees = fees }) txs) now) done ∙ go now
    where
      go : (o : Option Coins) → option_map (λ coins. after_txs position (record { coins = coins; fees = fees }) []) o ≡ option_map (λ coins. Ok (record { coins = coins; fees = fees })) o
      go None = refl
      go (Some coins) = refl

pub all_undone : (at : ℕ) (now first : Option Coins) (undo : List (List Coin)) (txs rest : List Tx) → rest ≡ [] → option_map (λ coins. undo ++ spent_in at coins rest) now ≡ option_map (λ coins. spent_in at coins txs) first → IfSome first (λ coins. undo ≡ spent_in at coins txs)
unfolding spent_in
all_undone at now first undo txs rest done so_far = turned first (answered (λ coins. undo ++ spent_in at coins rest) (λ coins. spent_in at coins txs) undo now first so_far (go now))
  where
    none_left : (coins : Coins) → spent_in at coins [] ≡ []
    none_left coins = refl

    go : (o : Option Coins) → IfSome o (λ coins. undo ++ spent_in at coins rest ≡ undo)
    go None = tt
    go (Some coins) = ap (λ (txs : List Tx). undo ++ spent_in at coins txs) done ∙ ap (λ (more : List (List Coin)). undo ++ more) (none_left coins) ∙ append-nil undo

    turned : (o : Option Coins) → IfSome o (λ coins. spent_in at coins txs ≡ undo) → IfSome o (λ coins. undo ≡ spent_in at coins txs)
    turned None e = tt
    turned (Some coins) e = sym e

-- ---- a block

pub first_and_rest : (txs : List Tx) (first : Tx) → 1 ≤ length txs → first ≡ get_or txs 0 first → txs ≡ first ∷ take (length txs - 1) (drop 1 txs)
first_and_rest [] first h is = absurd (omega arith)
first_and_rest (tx ∷ txs) first h is = ap (λ (t : Tx). t ∷ txs) (sym is) ∙ ap (λ (rest : List Tx). first ∷ rest) (sym (take_all (length (tx ∷ txs) - 1) txs (omega arith)))
