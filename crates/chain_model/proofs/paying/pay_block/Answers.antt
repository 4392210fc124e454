use Rattle.std.proofs.Common.{◌≡◌, ◌-◌, List, ◌∷◌, length, take, drop, subst, arith}
use Rattle.std.specs.Prelude.{All}
use Rattle.std.specs.List.{flat_map}
use Rattle.std.proofs.lemmas.List.Elements.{All-tail}
use Rattle.base_types.specs.declared.hash.OutPoint.{OutPoint}
use Rattle.block_codec.specs.declared.block.Tx.{Tx}
use Rattle.chain_model.specs.BodyRules.{others_of}
use Rattle.chain_model.specs.Connecting.{IsPayable}
use Rattle.chain_model.specs.Editing.{Among}
use Rattle.chain_model.specs.Laws.{inputs_named, outputs_named}
use Rattle.chain_model.proofs.Steps.{first_and_rest}
use Rattle.chain_model.proofs.Telling.{among_split, edits_then}
use Rattle.chain_model.proofs.paying.pay_block.Goals as goal

payable_rest : (txs rest : List Tx) (tx : Tx) → txs ≡ tx ∷ rest → All IsPayable txs → All IsPayable rest
payable_rest txs rest tx split all = let P : List Tx → Type 0 = λ some. All IsPayable some in All-tail IsPayable tx rest (subst P split all)

inputs_of_others : (keys : List OutPoint) (txs rest : List Tx) (tx : Tx) → txs ≡ tx ∷ rest → Among keys (flat_map inputs_named (others_of txs)) → Among keys (flat_map inputs_named rest)
inputs_of_others keys txs rest tx split all = let P : List Tx → Type 0 = λ some. Among keys (flat_map inputs_named (others_of some)) in subst P split all

outputs_first : (keys : List OutPoint) (txs rest : List Tx) (tx : Tx) → txs ≡ tx ∷ rest → Among keys (flat_map outputs_named txs) → Among keys (outputs_named tx) × Among keys (flat_map outputs_named rest)
outputs_first keys txs rest tx split all =
    let P : List Tx → Type 0 = λ some. Among keys (flat_map outputs_named some) in
    among_split keys (outputs_named tx) (flat_map outputs_named rest) (subst P split all)

pub returns-in_err-make_outputs-clause-within : goal.returns-in_err-make_outputs-clause-within
returns-in_err-make_outputs-clause-within g c keys ins outs =
    let others = take (length c.args.txs.now - 1) (drop 1 c.args.txs.now) in
    let split = first_and_rest c.args.txs.now c.coinbase-item.result (omega arith) c.coinbase-item.is in
    c.in_err-make_outputs.ensures.within keys (outputs_first keys c.args.txs.now others c.coinbase-item.result split outs).0

pub pay_all-requires-clause-payable : goal.pay_all-requires-clause-payable
pay_all-requires-clause-payable g c =
    let others = take (length c.args.txs.now - 1) (drop 1 c.args.txs.now) in
    let split = first_and_rest c.args.txs.now c.coinbase-item.result (omega arith) c.coinbase-item.is in
    payable_rest c.args.txs.now others c.coinbase-item.result split c.requires.payable

pub returns-in_err-paid-clause-within : goal.returns-in_err-paid-clause-within
returns-in_err-paid-clause-within g c keys ins outs =
    let others = take (length c.args.txs.now - 1) (drop 1 c.args.txs.now) in
    let split = first_and_rest c.args.txs.now c.coinbase-item.result (omega arith) c.coinbase-item.is in
    let o = outputs_first keys c.args.txs.now others c.coinbase-item.result split outs in
    let first = c.in_ok-make_outputs.ensures.within keys o.0 in
    let then = c.in_err-paid.ensures.within keys (inputs_of_others keys c.args.txs.now others c.coinbase-item.result split ins) o.1 in
    (g.met.E.View.behind_then keys c.args.coins.now c.make_outputs.new.coins c.pay_all.new.coins first.0 then.0, edits_then keys (g.E.View.coins c.args.coins.now) (g.E.View.coins c.make_outputs.new.coins) (g.E.View.coins c.pay_all.new.coins) first.1 then.1)

pub returns-then-paid-subsidy-clause-within : goal.returns-then-paid-subsidy-clause-within
returns-then-paid-subsidy-clause-within g c keys ins outs =
    let others = take (length c.args.txs.now - 1) (drop 1 c.args.txs.now) in
    let split = first_and_rest c.args.txs.now c.coinbase-item.result (omega arith) c.coinbase-item.is in
    let o = outputs_first keys c.args.txs.now others c.coinbase-item.result split outs in
    let first = c.in_ok-make_outputs.ensures.within keys o.0 in
    let then = c.in_ok-paid.ensures.within keys (inputs_of_others keys c.args.txs.now others c.coinbase-item.result split ins) o.1 in
    (g.met.E.View.behind_then keys c.args.coins.now c.make_outputs.new.coins c.pay_all.new.coins first.0 then.0, edits_then keys (g.E.View.coins c.args.coins.now) (g.E.View.coins c.make_outputs.new.coins) (g.E.View.coins c.pay_all.new.coins) first.1 then.1)

pub returns-clause-within : goal.returns-clause-within
returns-clause-within g c keys ins outs =
    let others = take (length c.args.txs.now - 1) (drop 1 c.args.txs.now) in
    let split = first_and_rest c.args.txs.now c.coinbase-item.result (omega arith) c.coinbase-item.is in
    let o = outputs_first keys c.args.txs.now others c.coinbase-item.result split outs in
    let first = c.in_ok-make_outputs.ensures.within keys o.0 in
    let then = c.in_ok-paid.ensures.within keys (inputs_of_others keys c.args.txs.now others c.coinbase-item.result split ins) o.1 in
    (g.met.E.View.behind_then keys c.args.coins.now c.make_outputs.new.coins c.pay_all.new.coins first.0 then.0, edits_then keys (g.E.View.coins c.args.coins.now) (g.E.View.coins c.make_outputs.new.coins) (g.E.View.coins c.pay_all.new.coins) first.1 then.1)
