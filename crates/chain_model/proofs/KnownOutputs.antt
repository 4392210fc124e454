-- Outputs whose outpoints have coins, where coins are told.
use Rattle.std.proofs.Common.{◌≡◌, ◌<◌, ◌+◌, ◌||◌, ℕ, List, ◌∷◌, length, drop, Bool, true, false, Option, Some, None, sym, ap, ◌∙◌, add-one}
use Rattle.std.specs.Prelude.{IfSome, is_some}
use Rattle.std.specs.List.{list_any}
use Rattle.std.proofs.lemmas.List.{at_drop_more}
use Rattle.std.specs.FinMap.{get, contains_key}
use Rattle.base_types.specs.Coins.{Coins}
use Rattle.base_types.specs.declared.coin.Coin.{Coin}
use Rattle.base_types.specs.declared.coin.TxOut.{TxOut}
use Rattle.base_types.specs.declared.hash.Hash32.{Hash32}
use Rattle.base_types.specs.declared.hash.OutPoint.{OutPoint}
use Rattle.block_codec.specs.declared.block.Tx.{Tx}
use Rattle.chain_model.specs.Apply.{overwrites}
use Rattle.chain_model.specs.Coins.{numbered, outputs_of}

-- some of these outputs, the first of which has this number, has a coin
abbrev pub some_known : Coins → Hash32 → ℕ → List TxOut → Bool
some_known coins txid index outputs = list_any (λ named. contains_key coins named.0) (numbered txid index outputs)

module _ (txid : Hash32) (outputs : List TxOut) (i : ℕ) (within : i < length outputs) (output : TxOut) (key : OutPoint) (named : key ≡ record { txid = txid; index = i }) where
  from_here : (coins : Coins) → some_known coins txid i (drop i outputs) ≡ (is_some (get coins key) || some_known coins txid (i + 1) (drop (i + 1) outputs))
  from_here coins =
      at_drop_more (λ (rest : List TxOut). some_known coins txid i rest) outputs i output within
      ∙ ap (λ (n : ℕ). contains_key coins (record { txid = txid; index = i }) || some_known coins txid n (drop (i + 1) outputs)) (sym (add-one i))
      ∙ ap (λ (k : OutPoint). contains_key coins k || some_known coins txid (i + 1) (drop (i + 1) outputs)) (sym named)

  module _ (told : Option Coins) (coin : Option Coin) (found : IfSome told (λ coins. coin ≡ get coins key)) (so_far : IfSome told (λ coins. some_known coins txid i (drop i outputs) ≡ some_known coins txid 0 outputs)) where
    pub known_here : is_some coin ≡ true → IfSome told (λ coins. true ≡ some_known coins txid 0 outputs)
    known_here e = go told found so_far
      where
        go : (o : Option Coins) → IfSome o (λ coins. coin ≡ get coins key) → IfSome o (λ coins. some_known coins txid i (drop i outputs) ≡ some_known coins txid 0 outputs) → IfSome o (λ coins. true ≡ some_known coins txid 0 outputs)
        go None f s = tt
        go (Some coins) f s = sym (from_here coins ∙ ap (λ (b : Bool). b || some_known coins txid (i + 1) (drop (i + 1) outputs)) (ap is_some (sym f) ∙ e)) ∙ s

    pub unknown_here : is_some coin ≡ false → IfSome told (λ coins. some_known coins txid (i + 1) (drop (i + 1) outputs) ≡ some_known coins txid 0 outputs)
    unknown_here e = go told found so_far
      where
        go : (o : Option Coins) → IfSome o (λ coins. coin ≡ get coins key) → IfSome o (λ coins. some_known coins txid i (drop i outputs) ≡ some_known coins txid 0 outputs) → IfSome o (λ coins. some_known coins txid (i + 1) (drop (i + 1) outputs) ≡ some_known coins txid 0 outputs)
        go None f s = tt
        go (Some coins) f s = sym (from_here coins ∙ ap (λ (b : Bool). b || some_known coins txid (i + 1) (drop (i + 1) outputs)) (ap is_some (sym f) ∙ e)) ∙ s

-- ---- transaction by transaction

module _ (tx : Tx) (rest txs : List Tx) where
  pub overwritten_later : (told : Option Coins) → IfSome told (λ coins. overwrites coins (tx ∷ rest) ≡ overwrites coins txs) → IfSome told (λ coins. false ≡ list_any (λ named. contains_key coins named.0) (outputs_of tx)) → IfSome told (λ coins. overwrites coins rest ≡ overwrites coins txs)
  overwritten_later None so_far found = tt
  overwritten_later (Some coins) so_far found = ap (λ (b : Bool). b || overwrites coins rest) found ∙ so_far
