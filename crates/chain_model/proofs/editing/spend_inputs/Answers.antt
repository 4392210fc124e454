use Rattle.std.proofs.Common.{◌≡◌, ◌+◌, ◌++◌, List, [], ◌∷◌, Ok, Err, Some, drop, ap, sym, ◌∙◌, arith}
use Rattle.std.specs.Prelude.{Option, IfSome, All, option_map}
use Rattle.std.proofs.Common.{subst}
use Rattle.std.proofs.lemmas.List.Elements.{All-push}
use Rattle.base_types.specs.Coins.{Coins, CoinFits}
use Rattle.base_types.specs.declared.coin.Coin.{Coin}
use Rattle.std.specs.FinMap.{get}
use Rattle.chain_model.specs.Coins.{spent_by}
use Rattle.chain_model.proofs.Calls.{answered_then}
use Rattle.chain_model.proofs.InputSteps.{behind, input_among, single_next, spent_next, left_next}
use Rattle.chain_model.proofs.Telling.{coin_answered, edits_then, edits_spend}
use Rattle.chain_model.proofs.editing.spend_inputs.Goals as goal

pub returns-in_err-coin-clause-within : goal.returns-in_err-coin-clause-within
returns-in_err-coin-clause-within g c keys all =
    let w = c.loop-input.invariant.within keys all in
    let a = input_among c.args.inputs.now c.loop-input.input-index c.input-item.result (omega arith) c.input-item.is keys w.0 in (
      g.met.E.View.behind_then keys c.args.coins.now c.loop-input.coins c.spend.new.self w.1 (c.in_err-coin.ensures.behind keys a.0),
      edits_then keys (g.E.View.coins c.args.coins.now) (g.E.View.coins c.loop-input.coins) (g.E.View.coins c.spend.new.self) w.2 (edits_spend keys c.input-item.result.prev a.0 (Option Coin) (Err c.in_err-coin.field-0.0) (g.E.View.coins c.loop-input.coins) (g.E.View.coins c.spend.new.self) c.in_err-coin.ensures.coins),
    )

pub returns-in_default-clause-within : goal.returns-in_default-clause-within
returns-in_default-clause-within g c keys all =
    let w = c.loop-input.invariant.within keys all in
    let a = input_among c.args.inputs.now c.loop-input.input-index c.input-item.result (omega arith) c.input-item.is keys w.0 in (
      g.met.E.View.behind_then keys c.args.coins.now c.loop-input.coins c.spend.new.self w.1 (c.in_ok-coin.ensures.behind keys a.0),
      edits_then keys (g.E.View.coins c.args.coins.now) (g.E.View.coins c.loop-input.coins) (g.E.View.coins c.spend.new.self) w.2 (edits_spend keys c.input-item.result.prev a.0 (Option Coin) (Ok c.in_ok-coin.field-0) (g.E.View.coins c.loop-input.coins) (g.E.View.coins c.spend.new.self) c.in_ok-coin.ensures.coins),
    )

pub returns-in_err-push-clause-within : goal.returns-in_err-push-clause-within
returns-in_err-push-clause-within g c keys all =
    let w = c.loop-input.invariant.within keys all in
    let a = input_among c.args.inputs.now c.loop-input.input-index c.input-item.result (omega arith) c.input-item.is keys w.0 in (
      g.met.E.View.behind_then keys c.args.coins.now c.loop-input.coins c.spend.new.self w.1 (c.in_ok-coin.ensures.behind keys a.0),
      edits_then keys (g.E.View.coins c.args.coins.now) (g.E.View.coins c.loop-input.coins) (g.E.View.coins c.spend.new.self) w.2 (edits_spend keys c.input-item.result.prev a.0 (Option Coin) (Ok c.in_ok-coin.field-0) (g.E.View.coins c.loop-input.coins) (g.E.View.coins c.spend.new.self) c.in_ok-coin.ensures.coins),
    )

-- the coin that was found
found_coin : (told : Option Coins) (answer : Option Coin) (coin : Coin) (f : Coins → Option Coin) → answer ≡ Some coin → IfSome told (λ coins. answer ≡ f coins) → IfSome told (λ coins. Some coin ≡ f coins)
found_coin told answer coin f e found = let P : Option Coin → Type 0 = λ o. IfSome told (λ coins. o ≡ f coins) in subst P e found

coin_fits : (answer : Option Coin) (coin : Coin) → answer ≡ Some coin → IfSome answer CoinFits → CoinFits coin
coin_fits answer coin e fits = let P : Option Coin → Type 0 = λ o. IfSome o CoinFits in subst P e fits

all_fit : (before after : List Coin) (coin : Coin) → after ≡ before ++ coin ∷ [] → All CoinFits before → CoinFits coin → All CoinFits after
all_fit before after coin e all fits = let P : List Coin → Type 0 = λ coins. All CoinFits coins in subst P (sym e) (All-push CoinFits before coin all fits)

pub loop-input-preserved : goal.loop-input-preserved
loop-input-preserved g c =
    let inputs = c.args.inputs.now in
    let i = c.loop-input.input-index in
    let input = c.input-item.result in
    let single = c.loop-input.invariant.single in
    record {
      single = single_next inputs i input (omega arith) c.input-item.is single;
      spent =
          ap (λ (coins : List Coin). option_map (λ all. behind coins (spent_by all (drop (i + 1) inputs))) (g.E.View.coins c.spend.new.self)) c.in_ok-push.ensures.ok
          ∙ spent_next inputs i input (omega arith) c.input-item.is single (g.E.View.coins c.loop-input.coins) (g.E.View.coins c.spend.new.self) c.loop-input.spent c.in-Some.coin c.in_ok-coin.ensures.coins
          (found_coin (g.E.View.coins c.loop-input.coins) c.in_ok-coin.field-0 c.in-Some.coin (λ coins. get coins input.prev) c.in-Some.is (coin_answered (g.E.View.coins c.loop-input.coins) input.prev c.in_ok-coin.field-0 c.in_ok-coin.ensures.coin))
          ∙ c.loop-input.invariant.spent;
      left = left_next inputs i input (omega arith) c.input-item.is (g.E.View.coins c.loop-input.coins) (g.E.View.coins c.spend.new.self) c.in_ok-coin.ensures.coins ∙ c.loop-input.invariant.left;
      fits = all_fit c.loop-input.spent c.push.new.self c.in-Some.coin c.in_ok-push.ensures.ok c.loop-input.invariant.fits (coin_fits c.in_ok-coin.field-0 c.in-Some.coin c.in-Some.is c.in_ok-coin.ensures.fits);
      finds = answered_then (Unit {0}) (Option Coin) (Unit {0}) i 1 (i + 1) (g.E.View.counts c.args.coins.now) (g.E.View.counts c.loop-input.coins) (g.E.View.counts c.spend.new.self) tt (omega arith) c.loop-input.invariant.finds c.in_ok-coin.field-0 tt c.in_ok-coin.ensures.cause;
      within = λ keys all.
          let w = c.loop-input.invariant.within keys all in
          let a = input_among c.args.inputs.now c.loop-input.input-index c.input-item.result (omega arith) c.input-item.is keys w.0 in
          (a.1, g.met.E.View.behind_then keys c.args.coins.now c.loop-input.coins c.spend.new.self w.1 (c.in_ok-coin.ensures.behind keys a.0), edits_then keys (g.E.View.coins c.args.coins.now) (g.E.View.coins c.loop-input.coins) (g.E.View.coins c.spend.new.self) w.2 (edits_spend keys c.input-item.result.prev a.0 (Option Coin) (Ok c.in_ok-coin.field-0) (g.E.View.coins c.loop-input.coins) (g.E.View.coins c.spend.new.self) c.in_ok-coin.ensures.coins));
    }

pub returns-clause-within : goal.returns-clause-within
returns-clause-within g c keys all = let w = c.loop-input.invariant.within keys all in (w.1, w.2)
