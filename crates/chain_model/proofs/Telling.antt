-- Coins that are told or not, and edits of them.
use Rattle.std.proofs.Common.{◌≡◌, List, [], ◌∷◌, ◌++◌, Bool, true, false, cond, Option, Some, None, Result, Ok, Err, suc, refl, sym, ap, subst, ◌∙◌, arith}
use Rattle.std.specs.Prelude.{Contains, IfSome, is_some, option_map, filter, map}
use Rattle.std.specs.List.{list_any, flat_map}
use Rattle.std.proofs.lemmas.List.Folds.{list_any_at}
use Rattle.std.specs.FinMap.{get, get-insert, get-remove}
use Rattle.base_types.proofs.KeyOrders.{outpoint_cmp_total}
use Rattle.base_types.specs.Coins.{Coins}
use Rattle.base_types.specs.Views.{AnswersCoin, with_coin, without_coin}
use Rattle.base_types.specs.declared.coin.Coin.{Coin}
use Rattle.base_types.specs.declared.coin.TxOut.{TxOut}
use Rattle.base_types.specs.declared.fault.StoreFault.{StoreFault}
use Rattle.base_types.specs.declared.hash.OutPoint.{OutPoint}
use Rattle.block_codec.specs.declared.block.Tx.{Tx}
use Rattle.chain_model.specs.BodyRules.{same_outpoint}
use Rattle.chain_model.specs.Coins.{is_spendable, outputs_of}
use Rattle.chain_model.specs.Connecting.{outputs_asked}
use Rattle.chain_model.specs.Editing.{Among, EditsOnly, coin_told}
use Rattle.chain_model.specs.Laws.{outputs_named}
use Rattle.chain_model.proofs.OutPoints.{tied_outpoints}

-- what is said of the coins now is said of those at first
pub answered : {A : Type 0} (f g : Coins → A) (a : A) (now first : Option Coins) → option_map f now ≡ option_map g first → IfSome now (λ coins. f coins ≡ a) → IfSome first (λ coins. g coins ≡ a)
answered f g a now None e said = tt
answered f g a None (Some coins) e said = absurd cc
answered f g a (Some next) (Some coins) e said = cc

-- the coin that an answer is
pub coin_answered : (told : Option Coins) (key : OutPoint) (coin : Option Coin) → AnswersCoin told key (Ok coin) → IfSome told (λ coins. coin ≡ get coins key)
coin_answered None key coin answer = tt
coin_answered (Some coins) key coin answer = answer

-- ---- edits

pub edits_none : (keys : List OutPoint) (told : Option Coins) → EditsOnly keys told told
edits_none keys told = record { told = refl; kept = λ key apart. refl }

pub edits_then : (keys : List OutPoint) (old mid new : Option Coins) → EditsOnly keys old mid → EditsOnly keys mid new → EditsOnly keys old new
edits_then keys old mid new a b = record { told = b.told ∙ a.told; kept = λ key apart. b.kept key apart ∙ a.kept key apart }

pub edits_same : (keys : List OutPoint) (old new : Option Coins) → new ≡ old → EditsOnly keys old new
edits_same keys old new e = let P : Option Coins → Type 0 = λ o. EditsOnly keys old o in subst P (sym e) (edits_none keys old)

-- an outpoint that is none of the keys isn't this one
other_key : (keys : List OutPoint) (key q : OutPoint) → Contains keys key → list_any (same_outpoint q) keys ≡ false → same_outpoint q key ≡ false
other_key keys key q has apart = go (same_outpoint q key) refl
  where
    go : (b : Bool) → same_outpoint q key ≡ b → b ≡ false
    go false e = refl
    go true e = let found = list_any_at (same_outpoint q) keys has.0 key has.1 (ap (same_outpoint q) has.2 ∙ e) in absurd cc

still_told : (f : Coins → Coins) (o : Option Coins) → is_some (option_map f o) ≡ is_some o
still_told f None = refl
still_told f (Some all) = refl

module _ (keys : List OutPoint) (key : OutPoint) (has : Contains keys key) (T : Type 0) (result : Result T StoreFault) (coins : Option Coins) where
  kept_by_add : (coin : Coin) (q : OutPoint) → list_any (same_outpoint q) keys ≡ false → coin_told (option_map (with_coin result key coin) coins) q ≡ coin_told coins q
  kept_by_add coin q apart = go result coins
    where
      go : (r : Result T StoreFault) (o : Option Coins) → coin_told (option_map (with_coin r key coin) o) q ≡ coin_told o q
      go r None = refl
      go (Err fault) (Some all) = refl
      go (Ok a) (Some all) = ap (λ (o : Option Coin). Some o) (
          get-insert outpoint_cmp_total all key coin q
          ∙ ap (λ (b : Bool). cond b (Some coin) (get all q)) (tied_outpoints q key ∙ other_key keys key q has apart))

  kept_by_spend : (q : OutPoint) → list_any (same_outpoint q) keys ≡ false → coin_told (option_map (without_coin result key) coins) q ≡ coin_told coins q
  kept_by_spend q apart = go result coins
    where
      go : (r : Result T StoreFault) (o : Option Coins) → coin_told (option_map (without_coin r key) o) q ≡ coin_told o q
      go r None = refl
      go (Err fault) (Some all) = refl
      go (Ok a) (Some all) = ap (λ (o : Option Coin). Some o) (
          get-remove outpoint_cmp_total all key q
          ∙ ap (λ (b : Bool). cond b None (get all q)) (tied_outpoints q key ∙ other_key keys key q has apart))

  pub edits_add : (coin : Coin) (new : Option Coins) → new ≡ option_map (with_coin result key coin) coins → EditsOnly keys coins new
  edits_add coin new e =
      let P : Option Coins → Type 0 = λ o. EditsOnly keys coins o in
      subst P (sym e) (record { told = still_told (with_coin result key coin) coins; kept = kept_by_add coin })

  pub edits_spend : (new : Option Coins) → new ≡ option_map (without_coin result key) coins → EditsOnly keys coins new
  edits_spend new e =
      let P : Option Coins → Type 0 = λ o. EditsOnly keys coins o in
      subst P (sym e) (record { told = still_told (without_coin result key) coins; kept = kept_by_spend })

-- ---- outpoints among keys

pub among_split : (keys xs ys : List OutPoint) → Among keys (xs ++ ys) → Among keys xs × Among keys ys
among_split keys [] ys all = (tt, all)
among_split keys (x ∷ xs) ys all = let rest = among_split keys xs ys all.1 in ((all.0, rest.0), rest.1)

-- a list's members are among it
later : (keys : List OutPoint) (key : OutPoint) (xs : List OutPoint) → Among keys xs → Among (key ∷ keys) xs
later keys key [] all = tt
later keys key (x ∷ xs) all = ((suc all.0.0, omega arith, all.0.2), later keys key xs all.1)

pub among_itself : (keys : List OutPoint) → Among keys keys
among_itself [] = tt
among_itself (key ∷ keys) = ((0, omega arith, refl), later keys key keys (among_itself keys))

pub among_join : (keys xs ys : List OutPoint) → Among keys xs → Among keys ys → Among keys (xs ++ ys)
among_join keys [] ys first rest = rest
among_join keys (x ∷ xs) ys first rest = (first.0, among_join keys xs ys first.1 rest)

-- the outputs that can be spent are among all
spendable_among : (keys : List OutPoint) (named : List (OutPoint × TxOut)) → Among keys (map (λ n. n.0) named) → Among keys (map (λ n. n.0) (filter (λ n. is_spendable n.1) named))
spendable_among keys [] all = tt
spendable_among keys (n ∷ named) all = go (is_spendable n.1) (spendable_among keys named all.1)
  where
    go : (b : Bool) → Among keys (map (λ m. m.0) (filter (λ m. is_spendable m.1) named)) → Among keys (map (λ m. m.0) (cond b (n ∷ filter (λ m. is_spendable m.1) named) (filter (λ m. is_spendable m.1) named)))
    go true rest = (all.0, rest)
    go false rest = rest

pub among_named : (keys : List OutPoint) (txs : List Tx) → Among keys (flat_map outputs_asked txs) → Among keys (flat_map outputs_named txs)
among_named keys [] all = tt
among_named keys (tx ∷ txs) all =
    let both = among_split keys (outputs_asked tx) (flat_map outputs_asked txs) all in
    among_join keys (outputs_named tx) (flat_map outputs_named txs) (spendable_among keys (outputs_of tx) both.0) (among_named keys txs both.1)
