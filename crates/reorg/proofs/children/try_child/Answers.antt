use Rattle.std.proofs.Common.{Some, sym, ap, ◌∙◌}
use Rattle.std.specs.FinMap.{get}
use Rattle.block_codec.specs.declared.block.Block.{Block}
use Rattle.chain_model.proofs.Hashes.{same_true}
use Rattle.reorg.proofs.MovedOver.{stored_block, stored_in}
use Rattle.reorg.proofs.Quieting.{stands_still}
use Rattle.reorg.proofs.children.try_child.Goals as goal

pub returns-then-eq-clause-whole : goal.returns-then-eq-clause-whole
returns-then-eq-clause-whole g c limit state store stands settled stored child =
    let same = same_true c.hash.result.now c.args.hash.now (sym c.eq.ensures ∙ c.if-eq.true) in
    c.move_over.ensures.whole limit state store stands settled child (ap (get state.bodies) (sym same ∙ c.hash.ensures) ∙ stored)

pub returns-in-Ok-clause-ok : goal.returns-in-Ok-clause-ok
returns-in-Ok-clause-ok g c limit state store stands settled stored child =
    let disk = c.args.disk.now in
    let shared = c.args.shared.now in
    let chain = c.args.chain.now in
    let hash = c.args.hash.now in
    let there = stored_block state state.active.tip hash child in
    let found = stored_in limit (g.D.Disk.contents disk) (g.D.Disk.left_since disk (g.D.Disk.time disk)) shared chain state store stands hash there.0 there.1 in
    let read = c.in-Ok.ensures.ok limit chain.store store there.0 stands.files settled.bodies found in
    let later = stands_still g.D.Disk.time g.D.Disk.left_since g.D.Disk.contents g.met.D.Disk.since_earlier g.met.D.Disk.reads_as disk c.read_block.new.disk c.in-Ok.ensures.quiet c.in-Ok.ensures.contents limit shared chain state store stands in
    c.move_over-in-Ok.ensures.ok limit state store later settled child (there.1 ∙ ap (λ (block : Block). Some block) (sym read))

pub returns-in-Ok-clause-whole : goal.returns-in-Ok-clause-whole
returns-in-Ok-clause-whole g c limit state store stands settled stored child =
    let disk = c.args.disk.now in
    let shared = c.args.shared.now in
    let chain = c.args.chain.now in
    let hash = c.args.hash.now in
    let there = stored_block state state.active.tip hash child in
    let found = stored_in limit (g.D.Disk.contents disk) (g.D.Disk.left_since disk (g.D.Disk.time disk)) shared chain state store stands hash there.0 there.1 in
    let read = c.in-Ok.ensures.ok limit chain.store store there.0 stands.files settled.bodies found in
    let later = stands_still g.D.Disk.time g.D.Disk.left_since g.D.Disk.contents g.met.D.Disk.since_earlier g.met.D.Disk.reads_as disk c.read_block.new.disk c.in-Ok.ensures.quiet c.in-Ok.ensures.contents limit shared chain state store stands in
    c.move_over-in-Ok.ensures.whole limit state store later settled child (there.1 ∙ ap (λ (block : Block). Some block) (sym read))

pub returns-in-Err-clause-whole : goal.returns-in-Err-clause-whole
returns-in-Err-clause-whole g c limit state store stands settled stored child =
    let disk = c.args.disk.now in
    let shared = c.args.shared.now in
    let chain = c.args.chain.now in
    let hash = c.args.hash.now in
    let there = stored_block state state.active.tip hash child in
    let found = stored_in limit (g.D.Disk.contents disk) (g.D.Disk.left_since disk (g.D.Disk.time disk)) shared chain state store stands hash there.0 there.1 in
    c.in-Err.ensures.whole limit chain.store store there.0 stands.files settled.bodies found
