use Rattle.std.proofs.Common.{Ok, Err, sym, ap, subst}
use Rattle.std.specs.Prelude.{None, Some}
use Rattle.block_codec.specs.declared.block.Block.{Block}
use Rattle.io_traits.specs.Told.{OnTold}
use Rattle.coins_top.specs.FileFolds.{NextBlock}
use Rattle.coins_top.proofs.FoldingFiles.{told_goes, found_block, no_block, failed_block, long_block}
use Rattle.coins_top.proofs.file_fold.next_block.Goals as goal

pub returns-in_ok-new-in-Ok-Some-clause-told : goal.returns-in_ok-new-in-Ok-Some-clause-told
returns-in_ok-new-in-Ok-Some-clause-told g c =
    let a = g.H.Host.held c.args.host.now in
    let b = g.H.Host.held c.next.new.host in
    let before = g.H.Host.faults c.args.host.now in
    let now = g.H.Host.faults c.next.new.host in
    let scanned = c.in-Ok-Some.ensures in
    let goes = told_goes a b c.args.frames.now c.next.new.self scanned.forward.1 scanned.moves scanned.read in
    subst (λ (block : Block). OnTold a b (NextBlock c.args.frames.now c.next.new.self before now (Ok (Some block)))) (sym c.in_ok-new-in-Ok-Some.ensures)
    (found_block a b c.args.frames.now c.next.new.self before now (Some c.in-Ok-Some.block) goes scanned.within (rw c.in-Ok-Some.field-0-is at scanned.frame) tt)

pub returns-in-Ok-None-clause-told : goal.returns-in-Ok-None-clause-told
returns-in-Ok-None-clause-told g c =
    let a = g.H.Host.held c.args.host.now in
    let b = g.H.Host.held c.next.new.host in
    let scanned = c.in-Ok-None.ensures in
    let goes = told_goes a b c.args.frames.now c.next.new.self scanned.forward.1 scanned.moves scanned.read in
    let ended = rw c.in-Ok-None.field-0-is at scanned.ended in
    found_block a b c.args.frames.now c.next.new.self (g.H.Host.faults c.args.host.now) (g.H.Host.faults c.next.new.host) None goes scanned.within tt ended

pub returns-in-Err-NoMemory-clause-told : goal.returns-in-Err-NoMemory-clause-told
returns-in-Err-NoMemory-clause-told g c =
    let a = g.H.Host.held c.args.host.now in
    let b = g.H.Host.held c.next.new.host in
    let scanned = c.in-Err-NoMemory.ensures in
    no_block a b c.args.frames.now c.next.new.self (g.H.Host.faults c.args.host.now) (g.H.Host.faults c.next.new.host)
    (told_goes a b c.args.frames.now c.next.new.self scanned.forward.1 scanned.moves scanned.read)

pub returns-in-Err-HostFailed-clause-told : goal.returns-in-Err-HostFailed-clause-told
returns-in-Err-HostFailed-clause-told g c =
    let a = g.H.Host.held c.args.host.now in
    let b = g.H.Host.held c.next.new.host in
    let scanned = c.in-Err-HostFailed.ensures in
    failed_block a b c.args.frames.now c.next.new.self (g.H.Host.faults c.args.host.now) (g.H.Host.faults c.next.new.host) (scanned.cause (ap Err c.in-Err-HostFailed.field-0-is))
    (told_goes a b c.args.frames.now c.next.new.self scanned.forward.1 scanned.moves scanned.read)

pub returns-in-Err-FileTooLong-clause-told : goal.returns-in-Err-FileTooLong-clause-told
returns-in-Err-FileTooLong-clause-told g c =
    let a = g.H.Host.held c.args.host.now in
    let b = g.H.Host.held c.next.new.host in
    let scanned = c.in-Err-FileTooLong.ensures in
    long_block a b c.args.frames.now c.next.new.self (g.H.Host.faults c.args.host.now) (g.H.Host.faults c.next.new.host)
    (told_goes a b c.args.frames.now c.next.new.self scanned.forward.1 scanned.moves scanned.read) (scanned.too_long (ap Err c.in-Err-FileTooLong.field-0-is))
