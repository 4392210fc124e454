use Rattle.std.proofs.Common.{◌≡◌, List, sym, subst, map}
use Rattle.base_types.specs.declared.hash.OutPoint.{OutPoint}
use Rattle.block_codec.specs.declared.block.TxIn.{TxIn}
use Rattle.chain_model.specs.Editing.{Among}
use Rattle.chain_model.proofs.Telling.{edits_then}
use Rattle.chain_model.proofs.paying.pay.Goals as goal

-- the inputs as a slice
named_inputs : (keys : List OutPoint) (slice inputs : List TxIn) → slice ≡ inputs → Among keys (map (λ input. input.prev) inputs) → Among keys (map (λ input. input.prev) slice)
named_inputs keys slice inputs e all = let P : List TxIn → Type 0 = λ some. Among keys (map (λ input. input.prev) some) in subst P (sym e) all

pub returns-in_err-spent-clause-within : goal.returns-in_err-spent-clause-within
returns-in_err-spent-clause-within g c keys ins outs = c.in_err-spent.ensures.within keys (named_inputs keys c.as_slice.result.now c.args.tx.now.inputs c.as_slice.ensures ins)

pub returns-in_default-clause-within : goal.returns-in_default-clause-within
returns-in_default-clause-within g c keys ins outs = c.in_ok-spent.ensures.within keys (named_inputs keys c.as_slice.result.now c.args.tx.now.inputs c.as_slice.ensures ins)

pub returns-in_err-fees-clause-within : goal.returns-in_err-fees-clause-within
returns-in_err-fees-clause-within g c keys ins outs = c.in_ok-spent.ensures.within keys (named_inputs keys c.as_slice.result.now c.args.tx.now.inputs c.as_slice.ensures ins)

pub returns-in_err-make_outputs-clause-within : goal.returns-in_err-make_outputs-clause-within
returns-in_err-make_outputs-clause-within g c keys ins outs =
    let first = c.in_ok-spent.ensures.within keys (named_inputs keys c.as_slice.result.now c.args.tx.now.inputs c.as_slice.ensures ins) in
    let then = c.in_err-make_outputs.ensures.within keys outs in
    (g.met.E.View.behind_then keys c.args.coins.now c.spend_inputs.new.coins c.make_outputs.new.coins first.0 then.0, edits_then keys (g.E.View.coins c.args.coins.now) (g.E.View.coins c.spend_inputs.new.coins) (g.E.View.coins c.make_outputs.new.coins) first.1 then.1)

pub returns-clause-within : goal.returns-clause-within
returns-clause-within g c keys ins outs =
    let first = c.in_ok-spent.ensures.within keys (named_inputs keys c.as_slice.result.now c.args.tx.now.inputs c.as_slice.ensures ins) in
    let then = c.in_ok-make_outputs.ensures.within keys outs in
    (g.met.E.View.behind_then keys c.args.coins.now c.spend_inputs.new.coins c.make_outputs.new.coins first.0 then.0, edits_then keys (g.E.View.coins c.args.coins.now) (g.E.View.coins c.spend_inputs.new.coins) (g.E.View.coins c.make_outputs.new.coins) first.1 then.1)
