-- Outputs that enter the coins one by one.
use Rattle.std.proofs.Common.{◌≡◌, ◌<◌, ◌+◌, ℕ, List, [], ◌∷◌, length, drop, get_or, map, Bool, true, false, cond, Option, Some, None, refl, sym, ap, subst, ◌∙◌, pos, add-one, arith}
use Rattle.std.specs.Prelude.{Contains, fold, filter, option_map}
use Rattle.std.proofs.lemmas.List.{at_drop_more}
use Rattle.std.specs.FinMap.{insert, remove}
use Rattle.base_types.specs.Coins.{Coins}
use Rattle.base_types.specs.declared.hash.Hash32.{Hash32}
use Rattle.base_types.specs.declared.hash.OutPoint.{OutPoint}
use Rattle.base_types.specs.declared.coin.Coin.{Coin}
use Rattle.base_types.specs.declared.coin.TxOut.{TxOut}
use Rattle.block_codec.specs.declared.block.Tx.{Tx}
use Rattle.chain_model.specs.Coins.{is_spendable, numbered, coin_of}
use Rattle.chain_model.specs.Editing.{Among}

-- the outputs from one on that can be spent
abbrev pub left_from : Hash32 → ℕ → List TxOut → List (OutPoint × TxOut)
left_from txid i outputs = filter (λ named. is_spendable named.1) (numbered txid i (drop i outputs))

-- the coins with them
abbrev pub entered : ℕ → Tx → List (OutPoint × TxOut) → Coins → Coins
entered at tx outputs coins = fold (λ all named. insert all named.0 (coin_of at tx named.1)) coins outputs

module _ (txid : Hash32) (outputs : List TxOut) (i : ℕ) (output : TxOut) (within : i < length outputs) (is : output ≡ get_or outputs i output) (key : OutPoint) (named : key ≡ record { txid = txid; index = i }) where
  numbered_here : {A : Type 0} (f : List (OutPoint × TxOut) → A) → f (numbered txid i (drop i outputs)) ≡ f ((key, output) ∷ numbered txid (i + 1) (drop (i + 1) outputs))
  numbered_here f =
      at_drop_more (λ (rest : List TxOut). f (numbered txid i rest)) outputs i output within
      ∙ ap (λ (o : TxOut). f (numbered txid i (o ∷ drop (i + 1) outputs))) (sym is)
      ∙ ap (λ (n : ℕ). f ((record { txid = txid; index = i }, output) ∷ numbered txid n (drop (i + 1) outputs))) (sym (add-one i))
      ∙ ap (λ (k : OutPoint). f ((k, output) ∷ numbered txid (i + 1) (drop (i + 1) outputs))) (sym named)

  left_here : {A : Type 0} (f : List (OutPoint × TxOut) → A) (b : Bool) → is_spendable output ≡ b → f (left_from txid i outputs) ≡ f (cond b ((key, output) ∷ left_from txid (i + 1) outputs) (left_from txid (i + 1) outputs))
  left_here f b e =
      numbered_here (λ (all : List (OutPoint × TxOut)). f (filter (λ n. is_spendable n.1) all))
      ∙ ap (λ (t : Bool). f (cond t ((key, output) ∷ left_from txid (i + 1) outputs) (left_from txid (i + 1) outputs))) e

  pub count_here : (b : Bool) → is_spendable output ≡ b → length (left_from txid i outputs) ≡ cond b 1 0 + length (left_from txid (i + 1) outputs)
  count_here true e = let h = left_here length true e in omega (arith, h)
  count_here false e = let h = left_here length false e in omega (arith, h)

  pub among_here : (keys : List OutPoint) → is_spendable output ≡ true → Among keys (map (λ n. n.0) (left_from txid i outputs)) → Contains keys key × Among keys (map (λ n. n.0) (left_from txid (i + 1) outputs))
  among_here keys e all =
      let P : List OutPoint → Type 0 = λ outpoints. Among keys outpoints in
      subst P (left_here (λ (left : List (OutPoint × TxOut)). map (λ n. n.0) left) true e) all

  pub among_skipped : (keys : List OutPoint) → is_spendable output ≡ false → Among keys (map (λ n. n.0) (left_from txid i outputs)) → Among keys (map (λ n. n.0) (left_from txid (i + 1) outputs))
  among_skipped keys e all =
      let P : List OutPoint → Type 0 = λ outpoints. Among keys outpoints in
      subst P (left_here (λ (left : List (OutPoint × TxOut)). map (λ n. n.0) left) false e) all

  module _ (at : ℕ) (tx : Tx) (now : Option Coins) where
    pub skipped : is_spendable output ≡ false → option_map (entered at tx (left_from txid (i + 1) outputs)) now ≡ option_map (entered at tx (left_from txid i outputs)) now
    skipped e = sym (left_here (λ (left : List (OutPoint × TxOut)). option_map (entered at tx left) now) false e)

    pub made : (next : Option Coins) (coin : Coin) → is_spendable output ≡ true → coin ≡ coin_of at tx output → next ≡ option_map (λ coins. insert coins key coin) now
        → option_map (entered at tx (left_from txid (i + 1) outputs)) next ≡ option_map (entered at tx (left_from txid i outputs)) now
    made next coin e same put =
        ap (option_map (entered at tx (left_from txid (i + 1) outputs))) put
        ∙ ap (λ (c : Coin). option_map (entered at tx (left_from txid (i + 1) outputs)) (option_map (λ coins. insert coins key c) now)) same
        ∙ go now
        ∙ sym (left_here (λ (left : List (OutPoint × TxOut)). option_map (entered at tx left) now) true e)
      where
        go : (o : Option Coins) → option_map (entered at tx (left_from txid (i + 1) outputs)) (option_map (λ coins. insert coins key (coin_of at tx output)) o) ≡ option_map (entered at tx ((key, output) ∷ left_from txid (i + 1) outputs)) o
        go None = refl
        go (Some coins) = refl

-- an output that is asked for, whether it can be spent or not
pub asked_here : (txid : Hash32) (outputs : List TxOut) (i : ℕ) (key : OutPoint) → i < length outputs → key ≡ record { txid = txid; index = i } → (keys : List OutPoint) → Among keys (map (λ n. n.0) (numbered txid i (drop i outputs))) → Contains keys key × Among keys (map (λ n. n.0) (numbered txid (i + 1) (drop (i + 1) outputs)))
asked_here txid outputs i key within named keys all =
    let P : List OutPoint → Type 0 = λ outpoints. Among keys outpoints in
    subst P (
    at_drop_more (λ (rest : List TxOut). map (λ n. n.0) (numbered txid i rest)) outputs i (record { value = pos 0; script = [] }) within
    ∙ ap (λ (n : ℕ). record { txid = txid; index = i } ∷ map (λ n. n.0) (numbered txid n (drop (i + 1) outputs))) (sym (add-one i))
    ∙ ap (λ (k : OutPoint). k ∷ map (λ n. n.0) (numbered txid (i + 1) (drop (i + 1) outputs))) (sym named)) all

-- the coins without these outputs
abbrev pub left_without : List (OutPoint × TxOut) → Coins → Coins
left_without outputs coins = fold (λ left named. remove left named.0) coins outputs

module _ (txid : Hash32) (outputs : List TxOut) (i : ℕ) (output : TxOut) (within : i < length outputs) (is : output ≡ get_or outputs i output) (key : OutPoint) (named : key ≡ record { txid = txid; index = i }) (now : Option Coins) where
  pub kept : is_spendable output ≡ false → option_map (left_without (left_from txid (i + 1) outputs)) now ≡ option_map (left_without (left_from txid i outputs)) now
  kept e = sym (left_here txid outputs i output within is key named (λ (left : List (OutPoint × TxOut)). option_map (left_without left) now) false e)

  pub taken : (next : Option Coins) → is_spendable output ≡ true → next ≡ option_map (λ coins. remove coins key) now
      → option_map (left_without (left_from txid (i + 1) outputs)) next ≡ option_map (left_without (left_from txid i outputs)) now
  taken next e gone =
      ap (option_map (left_without (left_from txid (i + 1) outputs))) gone
      ∙ go now
      ∙ sym (left_here txid outputs i output within is key named (λ (left : List (OutPoint × TxOut)). option_map (left_without left) now) true e)
    where
      go : (o : Option Coins) → option_map (left_without (left_from txid (i + 1) outputs)) (option_map (λ coins. remove coins key) o) ≡ option_map (left_without ((key, output) ∷ left_from txid (i + 1) outputs)) o
      go None = refl
      go (Some coins) = refl
