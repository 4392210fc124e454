use Rattle.std.proofs.Common.{◌-◌, length, take, drop, ap, ◌∙◌, arith}
use Rattle.block_codec.specs.declared.block.Block.{Block}
use Rattle.chain_model.specs.Laws.{named_by}
use Rattle.chain_model.proofs.Steps.{first_and_rest}
use Rattle.chain_model.proofs.Telling.{among_itself, edits_then}
use Rattle.connect.proofs.Backward.{names_split}
use Rattle.connect.proofs.disconnecting.roll_back.Goals as goal

pub returns-in_err-take_back_all-clause-untouched : goal.returns-in_err-take_back_all-clause-untouched
returns-in_err-take_back_all-clause-untouched g c =
    let slice = c.as_slice.result.now in
    let rest = take (length slice - 1) (drop 1 slice) in
    let same = c.as_slice.ensures ∙ ap (λ (b : Block). b.txs) c.block.ensures in
    let split = first_and_rest slice c.coinbase-item.result (omega arith) c.coinbase-item.is in
    let keys = named_by c.args.block.now in
    let n = names_split keys slice c.args.block.now.txs rest c.coinbase-item.result same split (among_itself keys) in
    (c.in_err-take_back_all.ensures.within keys n.0 n.2).1

pub returns-in_err-take_back_all-clause-behind : goal.returns-in_err-take_back_all-clause-behind
returns-in_err-take_back_all-clause-behind g c keys all =
    let slice = c.as_slice.result.now in
    let rest = take (length slice - 1) (drop 1 slice) in
    let same = c.as_slice.ensures ∙ ap (λ (b : Block). b.txs) c.block.ensures in
    let split = first_and_rest slice c.coinbase-item.result (omega arith) c.coinbase-item.is in
    let n = names_split keys slice c.args.block.now.txs rest c.coinbase-item.result same split all in
    (c.in_err-take_back_all.ensures.within keys n.0 n.2).0

pub returns-clause-untouched : goal.returns-clause-untouched
returns-clause-untouched g c =
    let slice = c.as_slice.result.now in
    let rest = take (length slice - 1) (drop 1 slice) in
    let same = c.as_slice.ensures ∙ ap (λ (b : Block). b.txs) c.block.ensures in
    let split = first_and_rest slice c.coinbase-item.result (omega arith) c.coinbase-item.is in
    let keys = named_by c.args.block.now in
    let n = names_split keys slice c.args.block.now.txs rest c.coinbase-item.result same split (among_itself keys) in
    let first = c.in_ok-take_back_all.ensures.within keys n.0 n.2 in
    let then = c.take_outputs.ensures.within keys n.1 in
    edits_then keys (g.E.View.coins c.args.coins.now) (g.E.View.coins c.take_back_all.new.coins) (g.E.View.coins c.take_outputs.new.coins) first.1 then.1

pub returns-clause-behind : goal.returns-clause-behind
returns-clause-behind g c keys all =
    let slice = c.as_slice.result.now in
    let rest = take (length slice - 1) (drop 1 slice) in
    let same = c.as_slice.ensures ∙ ap (λ (b : Block). b.txs) c.block.ensures in
    let split = first_and_rest slice c.coinbase-item.result (omega arith) c.coinbase-item.is in
    let n = names_split keys slice c.args.block.now.txs rest c.coinbase-item.result same split all in
    let first = c.in_ok-take_back_all.ensures.within keys n.0 n.2 in
    let then = c.take_outputs.ensures.within keys n.1 in
    g.met.E.View.behind_then keys c.args.coins.now c.take_back_all.new.coins c.take_outputs.new.coins first.0 then.0
