-- A block that was connected and is taken back with its undo data leaves the coins before it.
use Rattle.std.proofs.Common.{◌≡◌, ◌⊎◌, inl, inr, ◌||◌, List, [], ◌∷◌, map, Bool, true, false, cond, Option, Some, None, Ok, Err, refl, sym, ap, subst, ◌∙◌}
use Rattle.std.specs.Prelude.{filter, fold, is_some, unwrap_or}
use Rattle.std.specs.List.{flat_map, list_any}
use Rattle.std.proofs.lemmas.List.Folds.{list_any-append}
use Rattle.std.specs.FinMap.{get, remove, contains_key, get-insert, get-remove, same_map}
use Rattle.base_types.proofs.KeyOrders.{outpoint_cmp_total, outpoint_cmp-IsAntisymmetric}
use Rattle.base_types.specs.Coins.{Coins}
use Rattle.base_types.specs.declared.coin.Coin.{Coin}
use Rattle.base_types.specs.declared.coin.TxOut.{TxOut}
use Rattle.base_types.specs.declared.hash.OutPoint.{OutPoint}
use Rattle.base_types.specs.declared.refused.CoinRefused.TheVariants.{Bip30}
use Rattle.block_codec.specs.declared.block.Block.{Block}
use Rattle.block_codec.specs.declared.block.Tx.{Tx}
use Rattle.block_codec.specs.declared.block.TxIn.{TxIn}
use Rattle.chain_model.specs.Apply.{Position, Paid, after_all, after_txs, outcome, overwrites, position_below, spent_and_made, spent_in, undo_of, undo_of_txs}
use Rattle.chain_model.specs.BodyRules.{same_outpoint}
use Rattle.chain_model.specs.Coins.{is_spendable, outputs_of, spendable_of, spent_by, with_outputs, without, without_outputs}
use Rattle.chain_model.specs.Laws.{inputs_named, outputs_named}
use Rattle.chain_model.specs.Tree.{Tree}
use Rattle.chain_model.proofs.Changing.{tied}
use Rattle.chain_model.proofs.Inversions.{all_rewarded, first_pays, none_pays, not_overwritten}
use Rattle.chain_model.proofs.OutPoints.{tied_outpoints}
use Rattle.chain_model.proofs.UntouchedCoins.{inputs_pass, outputs_pass}
use Rattle.chain_model.proofs.Worth.{both_there}
use Rattle.connect.specs.Rolling.{all_taken_back, given_back, rolled_back, taken_back}

-- the outpoint is one of these
abbrev pub named_in : OutPoint → List OutPoint → Bool
named_in q outpoints = list_any (same_outpoint q) outpoints

same_key : (q key : OutPoint) → same_outpoint q key ≡ true → q ≡ key
same_key q key e = tied q key (tied_outpoints q key ∙ e)

-- ---- one transaction

-- inputs that are given back decide their outpoints
get_given : (q : OutPoint) (coins : Coins) (inputs : List TxIn) (spent : List Coin) (after : Coins) → spent_by coins inputs ≡ Some spent
    → get (given_back inputs spent after) q ≡ cond (named_in q (map (λ input. input.prev) inputs)) (get coins q) (get after q)
unfolding given_back
get_given q coins [] spent after found = refl
get_given q coins (input ∷ inputs) spent after found =
    let parts = both_there (get coins input.prev) (spent_by coins inputs) spent found in
    let coin = parts.0 in
    let rest = parts.1 in
    ap (λ (some : List Coin). get (given_back (input ∷ inputs) some after) q) (sym parts.4)
    ∙ get-insert outpoint_cmp_total (given_back inputs rest after) input.prev coin q
    ∙ ap (λ (b : Bool). cond b (Some coin) (get (given_back inputs rest after) q)) (tied_outpoints q input.prev)
    ∙ ap (λ (o : Option Coin). cond (same_outpoint q input.prev) (Some coin) o) (get_given q coins inputs rest after parts.3)
    ∙ go (same_outpoint q input.prev) refl coin parts.2
  where
    others : Bool
    others = named_in q (map (λ n. n.prev) inputs)

    go : (b : Bool) → same_outpoint q input.prev ≡ b → (coin : Coin) → get coins input.prev ≡ Some coin → cond b (Some coin) (cond others (get coins q) (get after q)) ≡ cond (b || others) (get coins q) (get after q)
    go true e coin there = sym there ∙ ap (λ (k : OutPoint). get coins k) (sym (same_key q input.prev e))
    go false e coin there = refl

-- outputs that are taken away decide theirs
get_removed : (q : OutPoint) (named : List (OutPoint × TxOut)) (coins : Coins) → get (fold (λ left n. remove left n.0) coins named) q ≡ cond (named_in q (map (λ n. n.0) named)) None (get coins q)
get_removed q [] coins = refl
get_removed q (n ∷ named) coins =
    get_removed q named (remove coins n.0)
    ∙ ap (λ (o : Option Coin). cond (named_in q (map (λ m. m.0) named)) None o) (get-remove outpoint_cmp_total coins n.0 q ∙ ap (λ (b : Bool). cond b None (get coins q)) (tied_outpoints q n.0))
    ∙ go (same_outpoint q n.0) (named_in q (map (λ m. m.0) named))
  where
    go : (a b : Bool) → cond b None (cond a None (get coins q)) ≡ cond (a || b) None (get coins q)
    go true true = refl
    go true false = refl
    go false b = refl

get_without : (q : OutPoint) (tx : Tx) (coins : Coins) → get (without_outputs tx coins) q ≡ cond (named_in q (outputs_named tx)) None (get coins q)
get_without q tx coins = get_removed q (spendable_of tx) coins

-- ---- transactions

-- an outpoint has its coin again, or is an output's and has none
abbrev pub IsRestored : OutPoint → Coins → List Tx → Coins → Type 0
IsRestored q coins txs back = (get back q ≡ get coins q) ⊎ ((named_in q (flat_map outputs_named txs) ≡ true) × (get back q ≡ None))

module _ (position : Position) (q : OutPoint) where
  restored_by : (coins next : Coins) (tx : Tx) (txs : List Tx) (spent : List Coin) (back : Coins) → spent_by coins tx.inputs ≡ Some spent → next ≡ spent_and_made position.at tx coins → IsRestored q next txs back → IsRestored q coins (tx ∷ txs) (taken_back tx spent back)
  restored_by coins next tx txs spent back found is later = go (named_in q (inputs_named tx)) refl (named_in q (outputs_named tx)) refl later
    where
      value : get (taken_back tx spent back) q ≡ cond (named_in q (inputs_named tx)) (get coins q) (cond (named_in q (outputs_named tx)) None (get back q))
      value =
          get_given q coins tx.inputs spent (without_outputs tx back) found
          ∙ ap (λ (o : Option Coin). cond (named_in q (inputs_named tx)) (get coins q) o) (get_without q tx back)

      all : named_in q (flat_map outputs_named (tx ∷ txs)) ≡ (named_in q (outputs_named tx) || named_in q (flat_map outputs_named txs))
      all = list_any-append (same_outpoint q) (outputs_named tx) (flat_map outputs_named txs)

      at_tests : (a b : Bool) → named_in q (inputs_named tx) ≡ a → named_in q (outputs_named tx) ≡ b → get (taken_back tx spent back) q ≡ cond a (get coins q) (cond b None (get back q))
      at_tests a b ins outs =
          value
          ∙ ap (λ (t : Bool). cond t (get coins q) (cond (named_in q (outputs_named tx)) None (get back q))) ins
          ∙ ap (λ (t : Bool). cond a (get coins q) (cond t None (get back q))) outs

      go : (a : Bool) → named_in q (inputs_named tx) ≡ a → (b : Bool) → named_in q (outputs_named tx) ≡ b → IsRestored q next txs back → IsRestored q coins (tx ∷ txs) (taken_back tx spent back)
      go true ins b outs later = inl (at_tests true b ins outs)
      go false ins true outs later = inr (all ∙ ap (λ (t : Bool). t || named_in q (flat_map outputs_named txs)) outs, at_tests false true ins outs)
      go false ins false outs (inl same) =
          inl (at_tests false false ins outs ∙ same ∙ ap (λ (c : Coins). get c q) is
          ∙ outputs_pass q position.at tx (without tx.inputs coins) outs ∙ inputs_pass q tx.inputs coins ins)
      go false ins false outs (inr made) =
          inr (all ∙ ap (λ (t : Bool). t || named_in q (flat_map outputs_named txs)) outs ∙ made.0, at_tests false false ins outs ∙ made.1)

  restored : (txs : List Tx) (paid last : Paid) → after_txs position paid txs ≡ Ok last → IsRestored q paid.coins txs (all_taken_back txs (spent_in position.at paid.coins txs) last.coins)
  unfolding all_taken_back spent_in
  restored [] paid last is = inl (ap (λ (p : Paid). get p.coins q) (sym (none_pays position paid last is)))
  restored (tx ∷ txs) paid last is =
      let step = first_pays position paid tx txs last is in
      let next : step.0.coins ≡ spent_and_made position.at tx paid.coins = ap (λ (p : Paid). p.coins) (sym step.1.after) in
      let P : Coins → Type 0 = λ c. IsRestored q step.0.coins txs (all_taken_back txs (spent_in position.at c txs) last.coins) in
      let Q : List Coin → Type 0 = λ spent. IsRestored q paid.coins (tx ∷ txs) (taken_back tx spent (all_taken_back txs (spent_in position.at (spent_and_made position.at tx paid.coins) txs) last.coins)) in
      subst Q (sym (ap (λ (o : Option (List Coin)). unwrap_or o []) step.1.found))
      (restored_by paid.coins step.0.coins tx txs step.1.spent (all_taken_back txs (spent_in position.at (spent_and_made position.at tx paid.coins) txs) last.coins) step.1.found next
      (subst P next (restored txs step.0 last step.2)))

-- ---- a block

neither : (a b : Bool) → (a || b) ≡ false → (a ≡ false) × (b ≡ false)
neither true b e = absurd cc
neither false b e = (refl, e)

either : (a b : Bool) → (a || b) ≡ true → (a ≡ true) ⊎ (b ≡ true)
either true b e = inl refl
either false b e = inr e

nothing : (o : Option Coin) → is_some o ≡ false → o ≡ None
nothing None e = refl
nothing (Some coin) e = absurd cc

module _ (q : OutPoint) (coins : Coins) where
  free_output : (named : List (OutPoint × TxOut)) → list_any (λ n. contains_key coins n.0) named ≡ false → named_in q (map (λ n. n.0) (filter (λ n. is_spendable n.1) named)) ≡ true → get coins q ≡ None
  free_output [] free in' = absurd cc
  free_output (n ∷ named) free in' =
      let p = neither (contains_key coins n.0) (list_any (λ m. contains_key coins m.0) named) free in
      go (is_spendable n.1) p.0 (free_output named p.1) in'
    where
      go : (b : Bool) → contains_key coins n.0 ≡ false → (named_in q (map (λ m. m.0) (filter (λ m. is_spendable m.1) named)) ≡ true → get coins q ≡ None)
          → named_in q (map (λ m. m.0) (cond b (n ∷ filter (λ m. is_spendable m.1) named) (filter (λ m. is_spendable m.1) named))) ≡ true → get coins q ≡ None
      go true here rest in' = elim (either (same_outpoint q n.0) (named_in q (map (λ m. m.0) (filter (λ m. is_spendable m.1) named))) in') [
        | inl same ↦ ap (λ (k : OutPoint). get coins k) (same_key q n.0 same) ∙ nothing (get coins n.0) here
        | inr later ↦ rest later
      ]
      go false here rest in' = rest in'

  free_outputs : (txs : List Tx) → overwrites coins txs ≡ false → named_in q (flat_map outputs_named txs) ≡ true → get coins q ≡ None
  free_outputs [] free in' = absurd cc
  free_outputs (tx ∷ txs) free in' =
      let p = neither (list_any (λ n. contains_key coins n.0) (outputs_of tx)) (overwrites coins txs) free in
      elim (either (named_in q (outputs_named tx)) (named_in q (flat_map outputs_named txs)) (sym (list_any-append (same_outpoint q) (outputs_named tx) (flat_map outputs_named txs)) ∙ in')) [
        | inl here ↦ free_output (outputs_of tx) p.0 here
        | inr later ↦ free_outputs txs p.1 later
      ]

  free_first : (coinbase : Tx) (txs : List Tx) → overwrites coins (coinbase ∷ txs) ≡ false → (named_in q (outputs_named coinbase) ≡ true → get coins q ≡ None) × (named_in q (flat_map outputs_named txs) ≡ true → get coins q ≡ None)
  free_first coinbase txs free =
      let p = neither (list_any (λ n. contains_key coins n.0) (outputs_of coinbase)) (overwrites coins txs) free in
      (free_output (outputs_of coinbase) p.0, free_outputs txs p.1)

module _ (position : Position) (before after : Coins) where
  back_at : (coinbase : Tx) (txs : List Tx) (back : Coins) (q : OutPoint) → overwrites before (coinbase ∷ txs) ≡ false → IsRestored q (with_outputs position.at coinbase before) txs back → get (without_outputs coinbase back) q ≡ get before q
  back_at coinbase txs back q free later = get_without q coinbase back ∙ go (named_in q (outputs_named coinbase)) refl later
    where
      go : (b : Bool) → named_in q (outputs_named coinbase) ≡ b → IsRestored q (with_outputs position.at coinbase before) txs back → cond b None (get back q) ≡ get before q
      go true e later = sym ((free_first q before coinbase txs free).0 e)
      go false e (inl same) = same ∙ outputs_pass q position.at coinbase before e
      go false e (inr made) = made.1 ∙ sym ((free_first q before coinbase txs free).1 made.0)

  all_back : (txs : List Tx) → overwrites before txs ≡ false → after_all position before txs ≡ Ok after → rolled_back txs (undo_of_txs position.at before txs) after ≡ before
  all_back [] free is = cc
  all_back (coinbase ∷ txs) free is =
      let r = all_rewarded position before coinbase txs after is in
      same_map outpoint_cmp_total outpoint_cmp-IsAntisymmetric (without_outputs coinbase (all_taken_back txs (spent_in position.at (with_outputs position.at coinbase before) txs) after)) before (λ q.
      back_at coinbase txs (all_taken_back txs (spent_in position.at (with_outputs position.at coinbase before) txs) after) q free
      (restored position q txs (record { coins = with_outputs position.at coinbase before; fees = 0 }) (record { coins = after; fees = r.fees }) r.paid))

  free_of : (txs : List Tx) (b : Bool) → overwrites before txs ≡ b → cond b (Err Bip30) (after_all position before txs) ≡ Ok after → overwrites before txs ≡ false
  free_of txs true e is = absurd cc
  free_of txs false e is = e

-- the coins before a block that was connected
pub taken_back_again : (tree : Tree) (before after : Coins) (block : Block) → outcome tree before block ≡ Ok after → rolled_back block.txs (undo_of tree before block) after ≡ before
taken_back_again tree before after block is =
    let position = position_below tree block.header.prev in
    all_back position before after block.txs (free_of position before after block.txs (overwrites before block.txs) refl is) (not_overwritten position before block.txs after is)
