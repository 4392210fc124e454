use Rattle.std.proofs.Common.{◌++◌, ◌∷◌, [], sym, subst, ◌∙◌}
use Rattle.block_codec.specs.declared.block.Header.{Header}
use Rattle.std.proofs.Common.{List}
use Rattle.io_traits.specs.Told.{OnTold}
use Rattle.block_files.proofs.Passing.{Going, going_more, all_read, told_goes}
use Rattle.block_files.proofs.headers.rest_of.Goals as goal

pub loop-headers-preserved : goal.loop-headers-preserved
loop-headers-preserved g c =
    let a = g.H.Host.held c.args.host.now in
    let mid = g.H.Host.held c.loop-headers.host in
    let b = g.H.Host.held c.next_header.new.host in
    let scanned = c.in_ok-header.ensures in
    let goes = told_goes mid b c.loop-headers.frames c.next_header.new.self scanned.forward.1 scanned.moves scanned.read in
    record {
      going = subst (λ (headers : List Header). OnTold a b (Going c.args.frames.now c.next_header.new.self headers)) (sym c.in_ok-push.ensures.ok)
          (going_more a mid b c.args.frames.now c.loop-headers.frames c.next_header.new.self c.loop-headers.headers c.in-Some.header c.loop-headers.invariant.going goes (rw c.in-Some.is at scanned.frame));
      steady = scanned.steady (λ is. cc) ∙ c.loop-headers.invariant.steady;
    }

pub returns-clause-told : goal.returns-clause-told
returns-clause-told g c =
    let a = g.H.Host.held c.args.host.now in
    let mid = g.H.Host.held c.loop-headers.host in
    let b = g.H.Host.held c.next_header.new.host in
    let scanned = c.in_ok-header.ensures in
    let goes = told_goes mid b c.loop-headers.frames c.next_header.new.self scanned.forward.1 scanned.moves scanned.read in
    all_read a mid b c.args.frames.now c.loop-headers.frames c.next_header.new.self c.loop-headers.headers (g.H.Host.faults c.args.host.now) (g.H.Host.faults c.loop-headers.host) (g.H.Host.faults c.next_header.new.host)
    scanned.within c.loop-headers.invariant.going goes (rw c.in_default.is at scanned.ended)
