use Rattle.std.proofs.Common.{List, [], refl, subst, Err}
use Rattle.std.specs.Prelude.{IfOk, OnErr}
use Rattle.block_codec.specs.Frames.{frames}
use Rattle.block_codec.specs.declared.block.Block.{Block}
use Rattle.base_types.specs.declared.fault.StoreFault.TheVariants.{NoMemory}
use Rattle.store_lines.specs.Passing.{HasPassedPart, Passes}
use Rattle.store_lines.proofs.PassSteps.{file_stops, file_unopened, file_unread, none_in_part, opened_blocks, passed_none}
use Rattle.store_lines.proofs.passes.offer_file.Goals as goal

pub returns-in-Ok-clause-ok : goal.returns-in-Ok-clause-ok
returns-in-Ok-clause-ok g c limit state store held bytes tells file stands settled =
    let disk = c.offer_blocks.new.disk in
    let opened = opened_blocks (g.H.Host.held c.args.host.now) (g.H.Host.held c.open_blocks.new.host) c.args.name.now c.args.key bytes c.in-Ok.frames (g.H.Host.faults c.args.host.now) (g.H.Host.faults c.open_blocks.new.host) held tells file c.in-Ok.ensures.told in
    subst
    (λ (blocks : List Block). IfOk c.offer_blocks.result (Passes limit (g.D.Disk.left_since c.args.disk.now) (g.D.Disk.left_since disk) (g.D.Disk.time c.args.disk.now) (g.D.Disk.time disk) (g.D.Disk.contents c.args.disk.now) (g.D.Disk.contents disk)
    c.offer_blocks.new.session state store c.args.out.now.items c.offer_blocks.new.out.items blocks)) opened.2
    (c.offer_blocks.ensures.ok limit state store opened.0 opened.1 stands settled)

pub returns-in-Ok-clause-err : goal.returns-in-Ok-clause-err
returns-in-Ok-clause-err g c limit state store held bytes tells file stands settled =
    let disk = c.offer_blocks.new.disk in
    let opened = opened_blocks (g.H.Host.held c.args.host.now) (g.H.Host.held c.open_blocks.new.host) c.args.name.now c.args.key bytes c.in-Ok.frames (g.H.Host.faults c.args.host.now) (g.H.Host.faults c.open_blocks.new.host) held tells file c.in-Ok.ensures.told in
    subst
    (λ (blocks : List Block). OnErr c.offer_blocks.result (HasPassedPart limit (g.D.Disk.left_since c.args.disk.now) (g.D.Disk.left_since disk) (g.D.Disk.time c.args.disk.now) (g.D.Disk.time disk) (g.D.Disk.contents c.args.disk.now) (g.D.Disk.contents disk) state store blocks))
    opened.2 (c.offer_blocks.ensures.err limit state store opened.0 opened.1 stands settled)

pub returns-in-Ok-clause-told : goal.returns-in-Ok-clause-told
returns-in-Ok-clause-told g c =
    file_stops (g.H.Host.held c.args.host.now) (g.H.Host.held c.open_blocks.new.host) (g.H.Host.held c.offer_blocks.new.host) c.args.name.now c.args.key c.in-Ok.frames (g.H.Host.faults c.args.host.now) (g.H.Host.faults c.open_blocks.new.host)
    (g.H.Host.faults c.offer_blocks.new.host) c.offer_blocks.result c.in-Ok.ensures.later c.in-Ok.ensures.told c.offer_blocks.ensures.told

pub returns-in-Err-NoMemory-clause-err : goal.returns-in-Err-NoMemory-clause-err
returns-in-Err-NoMemory-clause-err g c limit state store held bytes tells file stands settled =
    none_in_part limit (g.D.Disk.left_since c.args.disk.now) (g.D.Disk.time c.args.disk.now) (g.D.Disk.contents c.args.disk.now) c.args.session.now state store c.args.out.now.items (frames bytes c.args.key)
    (λ u v i low high l. g.met.D.Disk.since_earlier c.args.disk.now u v i low high l) stands settled

pub returns-in-Err-NoMemory-clause-told : goal.returns-in-Err-NoMemory-clause-told
returns-in-Err-NoMemory-clause-told g c =
    file_unread (g.H.Host.held c.args.host.now) (g.H.Host.held c.open_blocks.new.host) c.args.name.now c.args.key (g.H.Host.faults c.args.host.now) (g.H.Host.faults c.open_blocks.new.host) (Err c.in-Err-NoMemory.field-0) NoMemory c.in-Err-NoMemory.ensures.told

pub returns-in-Err-clause-ok : goal.returns-in-Err-clause-ok
returns-in-Err-clause-ok g c limit state store held bytes tells file stands settled = record {
  first = [];
  rest = frames bytes c.args.key;
  parts = refl;
  bodies = 0;
  passed = passed_none limit (g.D.Disk.left_since c.args.disk.now) (g.D.Disk.time c.args.disk.now) (g.D.Disk.contents c.args.disk.now) c.args.session.now state store c.args.out.now.items
      (λ u v i low high l. g.met.D.Disk.since_earlier c.args.disk.now u v i low high l) stands settled;
}

pub returns-in-Err-clause-told : goal.returns-in-Err-clause-told
returns-in-Err-clause-told g c =
    file_unopened (g.H.Host.held c.args.host.now) (g.H.Host.held c.open_blocks.new.host) c.args.name.now c.args.key (g.H.Host.faults c.args.host.now) (g.H.Host.faults c.open_blocks.new.host) c.in-Err.fault c.in-Err.ensures.told
