use Rattle.std.proofs.Common.{◌∙◌, [], ap, subst, sym}
use Rattle.std.proofs.lemmas.Result.{IfErr-weaker, IfOk-weaker}
use Rattle.block_codec.specs.Text.{hash_of_header, text_of}
use Rattle.block_codec.specs.declared.block.Block.{Block}
use Rattle.chainstates.proofs.OfferSteps.{at_err, has_moved, has_stopped, last_there, move_fails}
use Rattle.chainstates.specs.Taking.{HasStored, IsNew, store_with, with_block}
use Rattle.machine.specs.State.{BodyStored}
use Rattle.store_writes.specs.Written.{WritesPart}
use Rattle.chainstates.proofs.session.Session.take_body.Goals as goal

pub returns-in-Err-clause-err : goal.returns-in-Err-clause-err
returns-in-Err-clause-err g c limit state store text stands settled is new =
    subst
    (λ (b : Block). WritesPart limit (g.D.Disk.left_since c.args.disk.now) (g.D.Disk.left_since c.store_block.new.disk) (g.D.Disk.time c.args.disk.now) (g.D.Disk.time c.store_block.new.disk) (g.D.Disk.contents c.args.disk.now) (g.D.Disk.contents c.store_block.new.disk) []
    (BodyStored (hash_of_header b.header) b) store)
    c.block.ensures
    (c.in-Err.ensures.err limit state store text stands settled (ap text_of c.block.ensures ∙ is) (subst (IsNew state) (sym c.block.ensures) new))

pub returns-clause-ok : goal.returns-clause-ok
returns-clause-ok g c limit state store text stands settled is new =
    let block = c.args.block.now in
    let stored = subst
    (λ (b : Block). HasStored limit (g.D.Disk.left_since c.args.disk.now) (g.D.Disk.left_since c.store_block.new.disk) (g.D.Disk.time c.args.disk.now) (g.D.Disk.time c.store_block.new.disk) (g.D.Disk.contents c.args.disk.now) (g.D.Disk.contents c.store_block.new.disk)
    c.store_block.new.self state store b)
    c.block.ensures
    (c.in_default.ensures.ok limit state store text stands settled (ap text_of c.block.ensures ∙ is) (subst (IsNew state) (sym c.block.ensures) new)) in
    IfOk-weaker c.advance.result _ _
    (λ refusals advanced. has_moved g.D.Disk.time g.D.Disk.left_since g.D.Disk.contents g.met.D.Disk.since_earlier g.met.D.Disk.reads_as c.args.disk.now c.store_block.new.disk c.advance.new.disk limit
    c.store_block.new.self state store block stored c.advance.ensures.quiet c.advance.ensures.contents (record { shared = c.store_block.new.self.shared; active = c.advance.new.chain }) refusals advanced)
    (c.advance.ensures.ok limit (with_block state block) (store_with block store) stored.stands stored.settled (last_there state block))

pub returns-clause-err : goal.returns-clause-err
returns-clause-err g c limit state store text stands settled is new =
    let block = c.args.block.now in
    let stored = subst
    (λ (b : Block). HasStored limit (g.D.Disk.left_since c.args.disk.now) (g.D.Disk.left_since c.store_block.new.disk) (g.D.Disk.time c.args.disk.now) (g.D.Disk.time c.store_block.new.disk) (g.D.Disk.contents c.args.disk.now) (g.D.Disk.contents c.store_block.new.disk)
    c.store_block.new.self state store b)
    c.block.ensures
    (c.in_default.ensures.ok limit state store text stands settled (ap text_of c.block.ensures ∙ is) (subst (IsNew state) (sym c.block.ensures) new)) in
    at_err c.advance.result _
    (has_stopped g.D.Disk.time g.D.Disk.left_since g.D.Disk.contents g.met.D.Disk.since_earlier g.met.D.Disk.reads_as c.args.disk.now c.store_block.new.disk c.advance.new.disk limit
    c.store_block.new.self state store block stored c.advance.ensures.quiet c.advance.ensures.contents)

pub returns-clause-cause : goal.returns-clause-cause
returns-clause-cause g c =
    IfErr-weaker c.advance.result _ _
    (λ fault cause. move_fails c.args.self.now.shared.blocks.bodies c.args.block.now (g.D.Disk.faults c.args.disk.now) (g.D.Disk.faults c.store_block.new.disk) (g.D.Disk.faults c.advance.new.disk) fault c.in_default.ensures.faults cause)
    c.advance.ensures.cause
