-- The coins that a transaction spends, and the rules on them in their order.
use Rattle.std.proofs.Common.{◌≡◌, ◌<◌, ◌≤◌, ◌+◌, ◌-◌, ◌^◌, ℕ, List, [], ◌∷◌, length, drop, get_or, Bool, true, false, nat_lt, Option, Some, None, Result, Ok, Err, refl, sym, ap, ◌∙◌, arith}
use Rattle.std.specs.Prelude.{min}
use Rattle.std.proofs.lemmas.List.{at_drop_more, at_drop_all}
use Rattle.std.proofs.lemmas.List.Sums.{sum_by-cons}
use Rattle.std.proofs.lemmas.Bool.Decides.{nat_tests}
use Rattle.base_types.specs.declared.coin.Coin.{Coin}
use Rattle.base_types.specs.declared.refused.CoinRefused.{CoinRefused}
use Rattle.base_types.specs.declared.refused.CoinRefused.TheVariants.{Immature, ValueRange, InBelowOut, SequenceLock}
use Rattle.block_codec.specs.declared.block.Tx.{Tx}
use Rattle.chain_model.specs.Rules.{first_broken, first_some}
use Rattle.base_types.specs.Parameters.{max_money}
use Rattle.chain_model.specs.Coins.{value_of_coins, value_of_outputs}
use Rattle.chain_model.specs.Apply.{Position, unless, is_immature, coins_broken, fee, is_locked, spending_broken}
use Rattle.chain_model.specs.Fees.{fees_by}

-- ---- coin by coin

only : (o : Option CoinRefused) → first_some (o ∷ []) ≡ o
unfolding first_some
only None = refl
only (Some rule) = refl

module _ (at before : ℕ) (coin : Coin) (coins : List Coin) where
  immature_first : is_immature at coin ≡ true → coins_broken at before (coin ∷ coins) ≡ Some Immature
  unfolding coins_broken first_some first_broken
  immature_first e = rw e refl

  range_first : is_immature at coin ≡ false → nat_lt max_money (before + coin.value) ≡ true → coins_broken at before (coin ∷ coins) ≡ Some ValueRange
  unfolding coins_broken first_some first_broken
  range_first e f = rw (e, f) refl

  fine_first : is_immature at coin ≡ false → nat_lt max_money (before + coin.value) ≡ false → coins_broken at before (coin ∷ coins) ≡ coins_broken at (before + coin.value) coins
  unfolding coins_broken first_some first_broken
  fine_first e f = rw (e, f) (only (coins_broken at (before + coin.value) coins))

module _ (at before : ℕ) (coins : List Coin) (i : ℕ) (coin : Coin) (within : i < length coins) (is : coin ≡ get_or coins i coin) where
  at_coin : {A : Type 0} (f : List Coin → A) → f (drop i coins) ≡ f (coin ∷ drop (i + 1) coins)
  at_coin f =
      at_drop_more (λ (rest : List Coin). f rest) coins i coin within
      ∙ ap (λ (c : Coin). f (c ∷ drop (i + 1) coins)) (sym is)

  pub immature_at : is_immature at coin ≡ true → coins_broken at before (drop i coins) ≡ Some Immature
  immature_at e = at_coin (coins_broken at before) ∙ immature_first at before coin (drop (i + 1) coins) e

  pub range_at : is_immature at coin ≡ false → max_money < before + coin.value → coins_broken at before (drop i coins) ≡ Some ValueRange
  range_at e h = at_coin (coins_broken at before) ∙ range_first at before coin (drop (i + 1) coins) e (grind (arith, nat_tests))

  pub fine_at : is_immature at coin ≡ false → before + coin.value ≤ max_money → coins_broken at (before + coin.value) (drop (i + 1) coins) ≡ coins_broken at before (drop i coins)
  fine_at e h = sym (at_coin (coins_broken at before) ∙ fine_first at before coin (drop (i + 1) coins) e (grind (arith, nat_tests)))

  pub value_at : value_of_coins (drop i coins) ≡ coin.value + value_of_coins (drop (i + 1) coins)
  value_at = at_coin value_of_coins ∙ sum_by-cons (λ (c : Coin). c.value) coin (drop (i + 1) coins)

pub coins_fine : (at before : ℕ) (coins : List Coin) (i : ℕ) → length coins ≤ i → coins_broken at before (drop i coins) ≡ None
unfolding coins_broken
coins_fine at before coins i h = at_drop_all (λ (rest : List Coin). coins_broken at before rest) coins i h

pub no_value_left : (coins : List Coin) (i : ℕ) → length coins ≤ i → value_of_coins (drop i coins) ≡ 0
no_value_left coins i h = at_drop_all (λ (rest : List Coin). value_of_coins rest) coins i h

-- ---- the rules on a transaction

-- the two rules on sums
abbrev pub sums : ℕ → ℕ → ℕ → List (Bool × CoinRefused)
sums fees paid_in paid_out = (nat_lt paid_in paid_out, InBelowOut) ∷ (nat_lt max_money (fees + (paid_in - paid_out)), ValueRange) ∷ []

-- a sum of outputs that stops at 2^64 - 1 serves as well
as_well : (fees paid_in value : ℕ) → paid_in ≤ max_money → unless (first_broken (sums fees paid_in (min value (2 ^ 64 - 1)))) (fees + (paid_in - min value (2 ^ 64 - 1))) ≡ unless (first_broken (sums fees paid_in value)) (fees + (paid_in - value))
as_well fees paid_in value h =
    let rest : paid_in - min value (2 ^ 64 - 1) ≡ paid_in - value = omega arith in
    let test : nat_lt paid_in (min value (2 ^ 64 - 1)) ≡ nat_lt paid_in value = grind (arith, nat_tests) in
    ap (λ (n : ℕ). unless (first_broken ((nat_lt paid_in (min value (2 ^ 64 - 1)), InBelowOut) ∷ (nat_lt max_money (fees + n), ValueRange) ∷ [])) (fees + n)) rest
    ∙ ap (λ (b : Bool). unless (first_broken ((b, InBelowOut) ∷ (nat_lt max_money (fees + (paid_in - value)), ValueRange) ∷ [])) (fees + (paid_in - value))) test

-- the code's sums are those of the coins and of the outputs
same_sums : (fees paid_in paid_out in_coins in_outputs : ℕ) → paid_in ≡ in_coins → paid_out ≡ min in_outputs (2 ^ 64 - 1) → paid_in ≤ max_money → unless (first_broken (sums fees paid_in paid_out)) (fees + (paid_in - paid_out)) ≡ unless (first_broken (sums fees in_coins in_outputs)) (fees + (in_coins - in_outputs))
same_sums fees paid_in paid_out in_coins in_outputs ins outs small =
    ap (λ (n : ℕ). unless (first_broken (sums fees paid_in n)) (fees + (paid_in - n))) outs
    ∙ as_well fees paid_in in_outputs small
    ∙ ap (λ (n : ℕ). unless (first_broken (sums fees n in_outputs)) (fees + (n - in_outputs))) ins

ok : ℕ → Result ℕ CoinRefused
ok n = Ok n

module _ (position : Position) (fees : ℕ) (tx : Tx) (coins : List Coin) where
  by_rule : (rule : CoinRefused) → spending_broken position fees tx coins ≡ Some rule → fees_by position fees tx coins ≡ Err rule
  by_rule rule e = ap (λ (o : Option CoinRefused). unless o (fees + fee tx coins)) e

  first_refused : (rule : CoinRefused) → coins_broken position.at 0 coins ≡ Some rule → spending_broken position fees tx coins ≡ Some rule
  unfolding first_some
  first_refused rule e = rw e refl

  pub coins_refused : (rule : CoinRefused) → coins_broken position.at 0 coins ≡ Some rule → fees_by position fees tx coins ≡ Err rule
  coins_refused rule e = by_rule rule (first_refused rule e)

  module _ (fine : coins_broken position.at 0 coins ≡ None) where
    passed : spending_broken position fees tx coins ≡ first_broken ((nat_lt (value_of_coins coins) (value_of_outputs tx.outputs), InBelowOut) ∷ (nat_lt max_money (fees + fee tx coins), ValueRange) ∷ (is_locked position tx coins, SequenceLock) ∷ [])
    unfolding first_some
    passed = rw fine (only _)

    refuses : (a b c : Bool) (n : ℕ) (rule : CoinRefused) → unless (first_broken ((a, InBelowOut) ∷ (b, ValueRange) ∷ [])) n ≡ Err rule → first_broken ((a, InBelowOut) ∷ (b, ValueRange) ∷ (c, SequenceLock) ∷ []) ≡ Some rule
    unfolding first_broken
    refuses true b c n rule e = cc
    refuses false true c n rule e = cc
    refuses false false c n rule e = cc

    passes : (a b c : Bool) (n m : ℕ) → unless (first_broken ((a, InBelowOut) ∷ (b, ValueRange) ∷ [])) n ≡ Ok m → first_broken ((a, InBelowOut) ∷ (b, ValueRange) ∷ (c, SequenceLock) ∷ []) ≡ first_broken ((c, SequenceLock) ∷ [])
    unfolding first_broken
    passes true b c n m e = cc
    passes false true c n m e = cc
    passes false false c n m e = refl

    same : (a b : Bool) (n m : ℕ) → unless (first_broken ((a, InBelowOut) ∷ (b, ValueRange) ∷ [])) n ≡ Ok m → n ≡ m
    unfolding first_broken
    same true b n m e = cc
    same false true n m e = cc
    same false false n m e = cc

    -- the code's sums of the inputs and of the outputs
    module _ (paid_in paid_out : ℕ) (ins : paid_in ≡ value_of_coins coins) (outs : paid_out ≡ min (value_of_outputs tx.outputs) (2 ^ 64 - 1)) (small : paid_in ≤ max_money) where
      as_summed : unless (first_broken (sums fees paid_in paid_out)) (fees + (paid_in - paid_out)) ≡ unless (first_broken (sums fees (value_of_coins coins) (value_of_outputs tx.outputs))) (fees + fee tx coins)
      as_summed = same_sums fees paid_in paid_out (value_of_coins coins) (value_of_outputs tx.outputs) ins outs small

      pub sums_refused : (rule : CoinRefused) → Err rule ≡ unless (first_broken (sums fees paid_in paid_out)) (fees + (paid_in - paid_out)) → Err rule ≡ fees_by position fees tx coins
      sums_refused rule e = sym (by_rule rule (passed ∙ refuses _ _ (is_locked position tx coins) (fees + fee tx coins) rule (sym (e ∙ as_summed))))

      module _ (after : ℕ) (fits : Ok after ≡ unless (first_broken (sums fees paid_in paid_out)) (fees + (paid_in - paid_out))) where
        locks : spending_broken position fees tx coins ≡ first_broken ((is_locked position tx coins, SequenceLock) ∷ [])
        locks = passed ∙ passes _ _ (is_locked position tx coins) (fees + fee tx coins) after (sym (fits ∙ as_summed))

        pub lock_refused : is_locked position tx coins ≡ true → Err SequenceLock ≡ fees_by position fees tx coins
        unfolding first_broken
        lock_refused e = sym (by_rule SequenceLock (locks ∙ ap (λ (b : Bool). first_broken ((b, SequenceLock) ∷ [])) e))

        pub spending_fine : is_locked position tx coins ≡ false → Ok after ≡ fees_by position fees tx coins
        unfolding first_broken ok
        spending_fine e = sym (
            ap (λ (o : Option CoinRefused). unless o (fees + fee tx coins)) (locks ∙ ap (λ (b : Bool). first_broken ((b, SequenceLock) ∷ [])) e)
            ∙ ap ok (same _ _ (fees + fee tx coins) after (sym (fits ∙ as_summed))))
