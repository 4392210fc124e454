use Rattle.std.proofs.Common.{◌≡◌, ◌+◌, ℕ, [], pos, ap, sym, ◌∙◌, arith}
use Rattle.base_types.specs.declared.hash.OutPoint.{OutPoint}
use Rattle.base_types.specs.declared.coin.Coin.{Coin}
use Rattle.std.specs.Prelude.{Option, IfSome}
use Rattle.std.proofs.Common.{subst}
use Rattle.std.specs.FinMap.{get}
use Rattle.base_types.specs.Coins.{Coins}
use Rattle.chain_model.proofs.Calls.{answered_then}
use Rattle.chain_model.proofs.Entering.{asked_here}
use Rattle.chain_model.proofs.KnownOutputs.{known_here, unknown_here}
use Rattle.chain_model.proofs.Telling.{coin_answered}
use Rattle.chain_model.proofs.overwriting.has_output.Goals as goal

-- what the coins answer now they would have answered at first
at_first : (now first : Option Coins) (key : OutPoint) (coin : Option Coin) → now ≡ first → IfSome now (λ coins. coin ≡ get coins key) → IfSome first (λ coins. coin ≡ get coins key)
at_first now first key coin e found = let P : Option Coins → Type 0 = λ o. IfSome o (λ coins. coin ≡ get coins key) in subst P e found

pub returns-in_err-get-clause-behind : goal.returns-in_err-get-clause-behind
returns-in_err-get-clause-behind g c keys all =
    let w = c.loop-index.invariant.behind keys all in
    let key : OutPoint = record { txid = c.args.txid.now; index = c.in_ok-number_of.field-0 } in
    let a = asked_here c.args.txid.now c.args.outputs.now c.loop-index.index key (omega arith) (ap (λ (n : ℕ). record { txid = c.args.txid.now; index = n }) c.in_ok-number_of.ensures) keys w.0 in
    g.met.V.View.behind_then keys c.args.coins.now c.loop-index.coins c.get.new.self w.1 (c.in_err-get.ensures.behind keys a.0)

pub returns-then-is_some-clause-found : goal.returns-then-is_some-clause-found
returns-then-is_some-clause-found g c =
    let key : OutPoint = record { txid = c.args.txid.now; index = c.in_ok-number_of.field-0 } in
    known_here c.args.txid.now c.args.outputs.now c.loop-index.index (omega arith) (record { value = pos 0; script = [] }) key (ap (λ (n : ℕ). record { txid = c.args.txid.now; index = n }) c.in_ok-number_of.ensures)
    (g.V.View.coins c.args.coins.now) c.in_ok-get.field-0 (at_first (g.V.View.coins c.loop-index.coins) (g.V.View.coins c.args.coins.now) key c.in_ok-get.field-0 c.loop-index.invariant.same (coin_answered (g.V.View.coins c.loop-index.coins) key c.in_ok-get.field-0 c.in_ok-get.ensures.coin)) c.loop-index.invariant.found (sym c.is_some.ensures ∙ c.if-is_some.true)

pub returns-then-is_some-clause-behind : goal.returns-then-is_some-clause-behind
returns-then-is_some-clause-behind g c keys all =
    let w = c.loop-index.invariant.behind keys all in
    let key : OutPoint = record { txid = c.args.txid.now; index = c.in_ok-number_of.field-0 } in
    let a = asked_here c.args.txid.now c.args.outputs.now c.loop-index.index key (omega arith) (ap (λ (n : ℕ). record { txid = c.args.txid.now; index = n }) c.in_ok-number_of.ensures) keys w.0 in
    g.met.V.View.behind_then keys c.args.coins.now c.loop-index.coins c.get.new.self w.1 (c.in_ok-get.ensures.behind keys a.0)

pub loop-index-preserved : goal.loop-index-preserved
loop-index-preserved g c =
    let key : OutPoint = record { txid = c.args.txid.now; index = c.in_ok-number_of.field-0 } in
    record {
      same = c.in_ok-get.ensures.coins ∙ c.loop-index.invariant.same;
      found =
          unknown_here c.args.txid.now c.args.outputs.now c.loop-index.index (omega arith) (record { value = pos 0; script = [] }) key (ap (λ (n : ℕ). record { txid = c.args.txid.now; index = n }) c.in_ok-number_of.ensures)
          (g.V.View.coins c.args.coins.now) c.in_ok-get.field-0 (at_first (g.V.View.coins c.loop-index.coins) (g.V.View.coins c.args.coins.now) key c.in_ok-get.field-0 c.loop-index.invariant.same (coin_answered (g.V.View.coins c.loop-index.coins) key c.in_ok-get.field-0 c.in_ok-get.ensures.coin)) c.loop-index.invariant.found (sym c.is_some.ensures ∙ c.if-is_some.false);
      finds = answered_then (Unit {0}) (Option Coin) (Unit {0}) c.loop-index.index 1 (c.loop-index.index + 1) (g.V.View.counts c.args.coins.now) (g.V.View.counts c.loop-index.coins) (g.V.View.counts c.get.new.self) tt (omega arith) c.loop-index.invariant.finds c.in_ok-get.field-0 tt c.in_ok-get.ensures.cause;
      behind = λ keys all.
          let w = c.loop-index.invariant.behind keys all in
          let a = asked_here c.args.txid.now c.args.outputs.now c.loop-index.index key (omega arith) (ap (λ (n : ℕ). record { txid = c.args.txid.now; index = n }) c.in_ok-number_of.ensures) keys w.0 in
          (a.1, g.met.V.View.behind_then keys c.args.coins.now c.loop-index.coins c.get.new.self w.1 (c.in_ok-get.ensures.behind keys a.0));
    }
