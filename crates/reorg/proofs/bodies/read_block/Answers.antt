use Rattle.std.proofs.Common.{sym, ◌∙◌}
use Rattle.std.proofs.lemmas.Option.{same_Some, none-some}
use Rattle.reorg.proofs.BodyReads.{is_read, read_whole}
use Rattle.reorg.proofs.bodies.read_block.Goals as goal

pub returns-in-Ok-clause-ok : goal.returns-in-Ok-clause-ok
returns-in-Ok-clause-ok g c limit coins store block on all found =
    let contents = g.D.Disk.contents c.args.disk.now in
    let images = g.D.Disk.left_since c.args.disk.now (g.D.Disk.time c.args.disk.now) in
    c.in-Ok.ensures
    ∙ same_Some c.in-Ok-Some.block block
    (sym c.in-Ok-Some.field-0-is
    ∙ is_read limit contents images c.args.blocks.now coins store on all c.args.hash.now block found c.in-Ok-Some.field-0
    (λ number payload last there. c.in-Ok-Some.ensures.payload on.payloads number payload on.block_files last there))

pub returns-in-Ok-None-clause-whole : goal.returns-in-Ok-None-clause-whole
returns-in-Ok-None-clause-whole g c limit coins store block on all found =
    let contents = g.D.Disk.contents c.args.disk.now in
    let images = g.D.Disk.left_since c.args.disk.now (g.D.Disk.time c.args.disk.now) in
    absurd (none-some block (sym c.in-Ok-None.field-0-is
    ∙ is_read limit contents images c.args.blocks.now coins store on all c.args.hash.now block found c.in-Ok-None.field-0
    (λ number payload last there. c.in-Ok-None.ensures.payload on.payloads number payload on.block_files last there)))

pub returns-in-Err-clause-whole : goal.returns-in-Err-clause-whole
returns-in-Err-clause-whole g c limit coins store block on all found =
    let contents = g.D.Disk.contents c.args.disk.now in
    let images = g.D.Disk.left_since c.args.disk.now (g.D.Disk.time c.args.disk.now) in
    read_whole limit contents images c.args.blocks.now coins store on all c.args.hash.now block found (g.D.Disk.faults c.args.disk.now) (g.D.Disk.faults c.body.new.disk) c.in-Err.fault c.in-Err.ensures.fault
    (λ number payload last there. c.in-Err.ensures.payload on.payloads number payload on.block_files last there)
