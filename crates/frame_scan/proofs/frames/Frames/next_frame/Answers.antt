use Rattle.std.proofs.Common.{◌≤◌, ap, arith}
use Rattle.std.specs.Prelude.{Ok}
use Rattle.io_traits.specs.Told.{OnTold}
use Rattle.frame_scan.specs.Scan.{Advances, bytes_taken}
use Rattle.frame_scan.proofs.Steps.{Advances-searched, Advances-taken, Advances-ended, ended_then}
use Rattle.frame_scan.proofs.frames.Frames.next_frame.Goals as goal

pub returns-then-not-branch-clause-advances : goal.returns-then-not-branch-clause-advances
returns-then-not-branch-clause-advances g c =
    let old = c.args.self.now in
    let mid = c.find.new.self in
    let next = c.take_piece.new.self in
    let last = c.find-then-not-branch.new.self in
    let a = g.H.Host.held c.args.host.now in
    let b = g.H.Host.held c.loop-len.host in
    let d = g.H.Host.held c.take_piece.new.host in
    let find = c.in_default.ensures in
    let piece = c.in_ok-take_piece.ensures in
    let end = c.find-then-not-branch.ensures in
    let passed : old.passed ≤ mid.passed = omega (arith, c.loop-len.invariant.passed, find.passed) in
    let count : bytes_taken old ≤ bytes_taken mid = omega (arith, c.loop-len.invariant.count, find.bytes_taken) in
    let searched : OnTold a b (Advances old mid) = Advances-searched a b old c.loop-len.self mid c.loop-len.invariant.passed find.passed c.loop-len.invariant.count find.bytes_taken c.loop-len.invariant.steps (λ held. find.frames held tt) find.passes in
    let steps : OnTold a d (Advances old next) = Advances-taken a b d old mid next passed piece.passed count piece.bytes_taken searched piece.bytes_left piece.moves piece.read in
    Advances-ended a d old next last (omega (arith, passed, piece.passed)) end.passed (omega (arith, count, piece.bytes_taken)) end.bytes_taken steps (ended_then a b d old mid searched (piece.ended (ap Ok c.if-not-branch.true))) end.frames end.passes
