-- Inputs whose coins are spent one by one.
use Rattle.std.proofs.Common.{◌≡◌, ◌<◌, ◌+◌, ◌||◌, ℕ, List, [], ◌∷◌, ◌++◌, length, drop, get_or, map, Bool, true, false, Option, Some, None, refl, sym, ap, subst, ◌∙◌}
use Rattle.std.specs.Prelude.{Contains, IfSome, option_map}
use Rattle.std.specs.List.{list_any}
use Rattle.std.proofs.lemmas.List.{at_drop_more, append_assoc}
use Rattle.std.specs.FinMap.{get, remove}
use Rattle.base_types.specs.Coins.{Coins}
use Rattle.base_types.specs.declared.coin.Coin.{Coin}
use Rattle.base_types.specs.declared.hash.OutPoint.{OutPoint}
use Rattle.block_codec.specs.declared.block.TxIn.{TxIn}
use Rattle.chain_model.specs.BodyRules.{same_outpoint, has_twin_inputs}
use Rattle.chain_model.specs.Coins.{and_coins, spent_by, without}
use Rattle.chain_model.specs.Editing.{Among}
use Rattle.chain_model.proofs.Worth.{still_there}

-- coins before others, if all are there
abbrev pub behind : List Coin → Option (List Coin) → Option (List Coin)
behind before others = option_map (λ rest. before ++ rest) others

one_behind : (before : List Coin) (coin : Coin) (others : Option (List Coin)) → behind before (and_coins (Some coin) others) ≡ behind (before ++ coin ∷ []) others
one_behind before coin None = refl
one_behind before coin (Some rest) = ap (λ (all : List Coin). Some all) (sym (append_assoc before (coin ∷ []) rest))

neither : (a b : Bool) → (a || b) ≡ false → (a ≡ false) × (b ≡ false)
neither true b e = absurd cc
neither false b e = (refl, e)

module _ (inputs : List TxIn) (i : ℕ) (input : TxIn) (within : i < length inputs) (is : input ≡ get_or inputs i input) where
  here : {A : Type 0} (f : List TxIn → A) → f (drop i inputs) ≡ f (input ∷ drop (i + 1) inputs)
  here f = at_drop_more f inputs i input within ∙ ap (λ (n : TxIn). f (n ∷ drop (i + 1) inputs)) (sym is)

  pub input_among : (keys : List OutPoint) → Among keys (map (λ n. n.prev) (drop i inputs)) → Contains keys input.prev × Among keys (map (λ n. n.prev) (drop (i + 1) inputs))
  input_among keys all =
      let P : List OutPoint → Type 0 = λ outpoints. Among keys outpoints in
      subst P (here (λ (rest : List TxIn). map (λ n. n.prev) rest)) all

  module _ (single : has_twin_inputs (drop i inputs) ≡ false) where
    parts : (list_any (λ other. same_outpoint input.prev other.prev) (drop (i + 1) inputs) ≡ false) × (has_twin_inputs (drop (i + 1) inputs) ≡ false)
    unfolding has_twin_inputs
    parts = neither _ _ (sym (here has_twin_inputs) ∙ single)

    pub single_next : has_twin_inputs (drop (i + 1) inputs) ≡ false
    single_next = parts.1

    pub spent_next : (now next : Option Coins) (before : List Coin) (coin : Coin) → next ≡ option_map (λ coins. remove coins input.prev) now → IfSome now (λ coins. Some coin ≡ get coins input.prev)
        → option_map (λ coins. behind (before ++ coin ∷ []) (spent_by coins (drop (i + 1) inputs))) next ≡ option_map (λ coins. behind before (spent_by coins (drop i inputs))) now
    spent_next now next before coin e found = ap (option_map (λ coins. behind (before ++ coin ∷ []) (spent_by coins (drop (i + 1) inputs)))) e ∙ go now found
      where
        go : (o : Option Coins) → IfSome o (λ coins. Some coin ≡ get coins input.prev) → option_map (λ coins. behind (before ++ coin ∷ []) (spent_by coins (drop (i + 1) inputs))) (option_map (λ coins. remove coins input.prev) o) ≡ option_map (λ coins. behind before (spent_by coins (drop i inputs))) o
        go None h = refl
        go (Some coins) h = ap (λ (answer : Option (List Coin)). Some answer) (
            ap (behind (before ++ coin ∷ [])) (still_there coins input.prev (drop (i + 1) inputs) parts.0)
            ∙ sym (one_behind before coin (spent_by coins (drop (i + 1) inputs)))
            ∙ ap (λ (one : Option Coin). behind before (and_coins one (spent_by coins (drop (i + 1) inputs)))) h
            ∙ sym (here (λ (rest : List TxIn). behind before (spent_by coins rest))))

  pub left_next : (now next : Option Coins) → next ≡ option_map (λ coins. remove coins input.prev) now → option_map (without (drop (i + 1) inputs)) next ≡ option_map (without (drop i inputs)) now
  left_next now next e = ap (option_map (without (drop (i + 1) inputs))) e ∙ go now
    where
      go : (o : Option Coins) → option_map (without (drop (i + 1) inputs)) (option_map (λ coins. remove coins input.prev) o) ≡ option_map (without (drop i inputs)) o
      go None = refl
      go (Some coins) = ap (λ (left : Coins). Some left) (sym (here (λ (rest : List TxIn). without rest coins)))
