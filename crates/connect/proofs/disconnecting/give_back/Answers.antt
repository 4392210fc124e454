use Rattle.std.proofs.Common.{◌≡◌, ◌≤◌, ◌⊎◌, ◌-◌, ◌*◌, ℕ, length, drop, get_or, Ok, Err, ap, sym, subst, ◌∙◌, length-drop, arith}
use Rattle.std.specs.Prelude.{min, Contains, option_map}
use Rattle.std.specs.FinMap.{insert}
use Rattle.base_types.specs.declared.hash.OutPoint.{OutPoint}
use Rattle.block_codec.specs.declared.block.TxIn.{TxIn}
use Rattle.base_types.proofs.ViewCalls.{finds_none}
use Rattle.chain_model.proofs.Calls.{answered_then, answered_within}
use Rattle.chain_model.proofs.Telling.{edits_add, edits_none, edits_then}
use Rattle.connect.proofs.Backward.{input_among, none_given, one_given, same_at}
use Rattle.connect.proofs.disconnecting.give_back.Goals as goal

either_end : (a b : ℕ) → (a ≤ min a b) ⊎ (b ≤ min a b)
either_end a b = grind arith

pub loop-left-init : goal.loop-left-init
loop-left-init g c =
    let P : ℕ → Type 0 = λ n. (length c.args.inputs.now ≤ n) ⊎ (length c.args.spent.now ≤ n) in
    let at_end = subst P (sym c.min-left.ensures) (either_end (length c.args.inputs.now) (length c.args.spent.now)) in
    record {
      in_inputs = omega arith;
      in_spent = omega arith;
      coins = none_given c.args.inputs.now c.args.spent.now c.min-left.result (g.E.View.coins c.args.coins.now) at_end;
      finds = answered_within (Unit {0}) (Unit {0}) 0 (2 * length (drop c.min-left.result c.args.inputs.now)) (g.E.View.counts c.args.coins.now) (g.E.View.counts c.args.coins.now) tt tt (omega arith) (finds_none (g.E.View.counts c.args.coins.now) tt);
      within = λ keys all. (g.met.E.View.behind_none keys c.args.coins.now, edits_none keys (g.E.View.coins c.args.coins.now));
    }

pub loop-left-preserved : goal.loop-left-preserved
loop-left-preserved g c =
    let i = c.loop-left.left - 1 in
    let input = c.index-inputs-left.result in
    let key : OutPoint = (get_or c.args.inputs.now i input).prev in
    let here : key ≡ input.prev = ap (λ (n : TxIn). n.prev) (sym c.index-inputs-left.is) in
    let coin = c.in_ok-copy.field-0 in
    let is = same_at c.args.spent.now i c.index-spent-left.result coin (omega arith) (c.in_ok-copy.ensures ∙ c.index-spent-left.is) in
    let one = length-drop i c.args.inputs.now in
    let other = length-drop c.loop-left.left c.args.inputs.now in
    record {
      in_inputs = omega arith;
      in_spent = omega arith;
      coins =
          one_given c.args.inputs.now c.args.spent.now i input coin (g.E.View.coins c.args.coins.now) (g.E.View.coins c.loop-left.coins) (g.E.View.coins c.put_coin.new.coins) (omega arith) c.index-inputs-left.is (omega arith) is
          c.loop-left.left (omega arith) c.loop-left.invariant.coins
          (c.in_ok-put_coin.ensures.coins ∙ ap (λ (k : OutPoint). option_map (λ coins. insert coins k coin) (g.E.View.coins c.loop-left.coins)) here);
      finds = answered_then (Unit {0}) (Unit {0}) (Unit {0}) (2 * length (drop c.loop-left.left c.args.inputs.now)) 2 (2 * length (drop i c.args.inputs.now)) (g.E.View.counts c.args.coins.now) (g.E.View.counts c.loop-left.coins) (g.E.View.counts c.put_coin.new.coins) tt (omega (arith, one, other)) c.loop-left.invariant.finds c.in_ok-put_coin.field-0 tt c.in_ok-put_coin.ensures.cause;
      within = λ keys all.
          let w = c.loop-left.invariant.within keys all in
          let P : OutPoint → Type 0 = λ k. Contains keys k in
          let has = subst P (sym here) (input_among keys c.args.inputs.now i input (omega arith) c.index-inputs-left.is all) in (
            g.met.E.View.behind_then keys c.args.coins.now c.loop-left.coins c.put_coin.new.coins w.0 (c.in_ok-put_coin.ensures.behind keys has),
            edits_then keys (g.E.View.coins c.args.coins.now) (g.E.View.coins c.loop-left.coins) (g.E.View.coins c.put_coin.new.coins) w.1 (edits_add keys key has (Unit {0}) (Ok c.in_ok-put_coin.field-0) (g.E.View.coins c.loop-left.coins) coin (g.E.View.coins c.put_coin.new.coins) c.in_ok-put_coin.ensures.coins),
          );
    }

pub returns-in_err-put_coin-clause-within : goal.returns-in_err-put_coin-clause-within
returns-in_err-put_coin-clause-within g c keys all =
    let i = c.loop-left.left - 1 in
    let input = c.index-inputs-left.result in
    let key : OutPoint = (get_or c.args.inputs.now i input).prev in
    let here : key ≡ input.prev = ap (λ (n : TxIn). n.prev) (sym c.index-inputs-left.is) in
    let w = c.loop-left.invariant.within keys all in
    let P : OutPoint → Type 0 = λ k. Contains keys k in
    let has = subst P (sym here) (input_among keys c.args.inputs.now i input (omega arith) c.index-inputs-left.is all) in (
      g.met.E.View.behind_then keys c.args.coins.now c.loop-left.coins c.put_coin.new.coins w.0 (c.in_err-put_coin.ensures.behind keys has),
      edits_then keys (g.E.View.coins c.args.coins.now) (g.E.View.coins c.loop-left.coins) (g.E.View.coins c.put_coin.new.coins) w.1 (edits_add keys key has (Unit {0}) (Err c.in_err-put_coin.field-0.0) (g.E.View.coins c.loop-left.coins) c.in_ok-copy.field-0 (g.E.View.coins c.put_coin.new.coins) c.in_err-put_coin.ensures.coins),
    )
