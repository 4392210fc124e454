use Rattle.std.proofs.Common.{◌≡◌, ◌≤◌, ◌⊎◌, ◌+◌, ◌-◌, ℕ, length, drop, ap, sym, subst, ◌∙◌, arith}
use Rattle.std.specs.Prelude.{min, sum_by}
use Rattle.std.proofs.lemmas.Result.{err_from_is_err_and}
use Rattle.base_types.specs.Views.{FindsFault}
use Rattle.base_types.proofs.ViewCalls.{finds_none}
use Rattle.chain_model.specs.Laws.{inputs_named, outputs_named}
use Rattle.chain_model.proofs.Calls.{answered_then, answered_within, failed_then, handed}
use Rattle.chain_model.proofs.Telling.{edits_none, edits_then}
use Rattle.connect.specs.Rolling.{calls_to_take_back}
use Rattle.connect.proofs.Backward.{calls_more, calls_within, none_taken, one_taken, same_at, tx_among}
use Rattle.connect.proofs.disconnecting.take_back_all.Goals as goal

either_end : (a b : ℕ) → (a ≤ min a b) ⊎ (b ≤ min a b)
either_end a b = grind arith

pub loop-left-init : goal.loop-left-init
loop-left-init g c =
    let P : ℕ → Type 0 = λ n. (length c.args.txs.now ≤ n) ⊎ (length c.args.undo.now ≤ n) in
    let at_end = subst P (sym c.min-left.ensures) (either_end (length c.args.txs.now) (length c.args.undo.now)) in
    record {
      in_txs = omega arith;
      in_undo = omega arith;
      coins = none_taken c.args.txs.now c.args.undo.now c.min-left.result (g.E.View.coins c.args.coins.now) at_end;
      finds = answered_within (Unit {0}) (Unit {0}) 0 (sum_by calls_to_take_back (drop c.min-left.result c.args.txs.now)) (g.E.View.counts c.args.coins.now) (g.E.View.counts c.args.coins.now) tt tt (omega arith) (finds_none (g.E.View.counts c.args.coins.now) tt);
      within = λ keys ins outs. (g.met.E.View.behind_none keys c.args.coins.now, edits_none keys (g.E.View.coins c.args.coins.now));
    }

pub loop-left-preserved : goal.loop-left-preserved
loop-left-preserved g c =
    let i = c.loop-left.left - 1 in
    let tx = c.index-txs-left.result in
    let spent = c.as_slice.result.now in
    let is = same_at c.args.undo.now i c.index-undo-left.result spent (omega arith) (c.as_slice.ensures ∙ c.index-undo-left.is) in
    let after : c.loop-left.left ≡ i + 1 = omega arith in
    let more = calls_more c.args.txs.now i tx (omega arith) c.index-txs-left.is in
    let same : sum_by calls_to_take_back (drop c.loop-left.left c.args.txs.now) ≡ sum_by calls_to_take_back (drop (i + 1) c.args.txs.now) = ap (λ (n : ℕ). sum_by calls_to_take_back (drop n c.args.txs.now)) after in
    record {
      in_txs = omega arith;
      in_undo = omega arith;
      coins =
          one_taken c.args.txs.now c.args.undo.now i tx spent (g.E.View.coins c.args.coins.now) (g.E.View.coins c.loop-left.coins) (g.E.View.coins c.take_back.new.coins) (omega arith) c.index-txs-left.is (omega arith) is
          c.loop-left.left after c.loop-left.invariant.coins c.in_ok-take_back.ensures.coins;
      finds = answered_then (Unit {0}) (Unit {0}) (Unit {0}) (sum_by calls_to_take_back (drop c.loop-left.left c.args.txs.now)) (calls_to_take_back tx) (sum_by calls_to_take_back (drop i c.args.txs.now)) (g.E.View.counts c.args.coins.now) (g.E.View.counts c.loop-left.coins) (g.E.View.counts c.take_back.new.coins) tt (omega (arith, more, same)) c.loop-left.invariant.finds c.in_ok-take_back.field-0 tt c.in_ok-take_back.ensures.cause;
      within = λ keys ins outs.
          let w = c.loop-left.invariant.within keys ins outs in
          let then = c.in_ok-take_back.ensures.within keys (tx_among inputs_named keys c.args.txs.now i tx (omega arith) c.index-txs-left.is ins) (tx_among outputs_named keys c.args.txs.now i tx (omega arith) c.index-txs-left.is outs) in (
            g.met.E.View.behind_then keys c.args.coins.now c.loop-left.coins c.take_back.new.coins w.0 then.0,
            edits_then keys (g.E.View.coins c.args.coins.now) (g.E.View.coins c.loop-left.coins) (g.E.View.coins c.take_back.new.coins) w.1 then.1,
          );
    }

pub returns-in_err-take_back-clause-cause : goal.returns-in_err-take_back-clause-cause
returns-in_err-take_back-clause-cause g c =
    let i = c.loop-left.left - 1 in
    let tx = c.index-txs-left.result in
    let few = calls_within c.args.txs.now i c.loop-left.left tx (omega arith) c.index-txs-left.is (omega arith) in
    let p = err_from_is_err_and c.from_residual.result c.from_residual.ensures.1 in
    handed (λ result. FindsFault {T = Unit {0}} (sum_by calls_to_take_back c.args.txs.now) (g.E.View.counts c.args.coins.now) (g.E.View.counts c.take_back.new.coins) result) c.in_err-take_back.field-0.0 p.0 c.from_residual.result
    (failed_then (Unit {0}) (Unit {0}) (Unit {0}) (sum_by calls_to_take_back (drop c.loop-left.left c.args.txs.now)) (calls_to_take_back tx) (sum_by calls_to_take_back c.args.txs.now) (g.E.View.counts c.args.coins.now) (g.E.View.counts c.loop-left.coins) (g.E.View.counts c.take_back.new.coins) tt few c.loop-left.invariant.finds c.in_err-take_back.field-0.0 c.in_err-take_back.ensures.cause)
    p.2 p.1

pub returns-in_err-take_back-clause-within : goal.returns-in_err-take_back-clause-within
returns-in_err-take_back-clause-within g c keys ins outs =
    let i = c.loop-left.left - 1 in
    let tx = c.index-txs-left.result in
    let w = c.loop-left.invariant.within keys ins outs in
    let then = c.in_err-take_back.ensures.within keys (tx_among inputs_named keys c.args.txs.now i tx (omega arith) c.index-txs-left.is ins) (tx_among outputs_named keys c.args.txs.now i tx (omega arith) c.index-txs-left.is outs) in (
      g.met.E.View.behind_then keys c.args.coins.now c.loop-left.coins c.take_back.new.coins w.0 then.0,
      edits_then keys (g.E.View.coins c.args.coins.now) (g.E.View.coins c.loop-left.coins) (g.E.View.coins c.take_back.new.coins) w.1 then.1,
    )
