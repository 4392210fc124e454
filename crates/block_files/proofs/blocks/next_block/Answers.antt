use Rattle.std.proofs.Common.{Ok, Err, sym, ap, subst, ◌∙◌}
use Rattle.std.specs.Prelude.{None, Some}
use Rattle.block_codec.specs.declared.block.Block.{Block}
use Rattle.io_traits.specs.Told.{OnTold}
use Rattle.frame_scan.specs.declared.fault.FrameFault.TheVariants.{NoMemory}
use Rattle.block_files.specs.Passes.{NextBlock}
use Rattle.block_files.proofs.Passing.{told_goes, found_block, no_block, stopped}
use Rattle.block_files.proofs.blocks.next_block.Goals as goal

pub returns-in-Ok-clause-told : goal.returns-in-Ok-clause-told
returns-in-Ok-clause-told g c =
    let a = g.H.Host.held c.args.host.now in
    let b = g.H.Host.held c.next.new.host in
    let before = g.H.Host.faults c.args.host.now in
    let now = g.H.Host.faults c.next.new.host in
    let scanned = c.in-Ok-Some.ensures in
    let goes = told_goes a b c.args.frames.now c.next.new.self scanned.forward.1 scanned.moves scanned.read in
    subst (λ (block : Block). OnTold a b (NextBlock c.args.frames.now c.next.new.self before now (Ok (Some block)))) (sym c.in-Ok.ensures)
    (found_block a b c.args.frames.now c.next.new.self before now (Some c.in-Ok-Some.block) goes scanned.within (rw c.in-Ok-Some.field-0-is at scanned.frame) tt)

pub returns-in-Ok-None-clause-told : goal.returns-in-Ok-None-clause-told
returns-in-Ok-None-clause-told g c =
    let a = g.H.Host.held c.args.host.now in
    let b = g.H.Host.held c.next.new.host in
    let scanned = c.in-Ok-None.ensures in
    let goes = told_goes a b c.args.frames.now c.next.new.self scanned.forward.1 scanned.moves scanned.read in
    let ended = rw c.in-Ok-None.field-0-is at scanned.ended in
    found_block a b c.args.frames.now c.next.new.self (g.H.Host.faults c.args.host.now) (g.H.Host.faults c.next.new.host) None goes scanned.within tt ended

pub returns-in-Err-new-clause-told : goal.returns-in-Err-new-clause-told
returns-in-Err-new-clause-told g c =
    let a = g.H.Host.held c.args.host.now in
    let b = g.H.Host.held c.next.new.host in
    let scanned = c.in-Ok-Some.ensures in
    no_block a b c.args.frames.now c.next.new.self (g.H.Host.faults c.args.host.now) (g.H.Host.faults c.next.new.host) NoMemory
    (told_goes a b c.args.frames.now c.next.new.self scanned.forward.1 scanned.moves scanned.read) tt

pub returns-in-Err-clause-told : goal.returns-in-Err-clause-told
returns-in-Err-clause-told g c =
    let a = g.H.Host.held c.args.host.now in
    let b = g.H.Host.held c.next.new.host in
    let scanned = c.in-Err.ensures in
    no_block a b c.args.frames.now c.next.new.self (g.H.Host.faults c.args.host.now) (g.H.Host.faults c.next.new.host) c.in-Err.fault
    (told_goes a b c.args.frames.now c.next.new.self scanned.forward.1 scanned.moves scanned.read)
    (stopped a b c.args.frames.now (g.H.Host.faults c.args.host.now) (g.H.Host.faults c.next.new.host) c.in-Err.fault (λ is. scanned.cause (ap Err (c.in-Err.fault-is ∙ is))) (λ is. scanned.too_long (ap Err (c.in-Err.fault-is ∙ is))))
