use Rattle.std.proofs.Common.{arith, inl}
use Rattle.frame_scan.proofs.Scanning.{frame_first}
use Rattle.frame_scan.proofs.Steps.{passes_then, none_left}
use Rattle.frame_scan.proofs.frames.Frames.next.Goals as goal

pub returns-in_err-take_block-in-Some-clause-memory : goal.returns-in_err-take_block-in-Some-clause-memory
returns-in_err-take_block-in-Some-clause-memory g c = λ is.
    let begins = rw c.in-Some.is at c.in_ok-len.ensures.block in
    inl (rw c.in_err-take_block-in-Some.ensures.kept (frame_first c.in-Some.len c.next_frame.new.self.ahead begins))

pub returns-in_ok-take_block-in-Some-clause-passes : goal.returns-in_ok-take_block-in-Some-clause-passes
returns-in_ok-take_block-in-Some-clause-passes g c =
    passes_then (g.H.Host.held c.args.host.now) (g.H.Host.held c.next_frame.new.host) c.args.self.now c.next_frame.new.self c.take_block.new.self
    c.in_ok-len.ensures.forward.0 (omega (arith, c.in_ok-take_block-in-Some.ensures.passed)) c.in_ok-len.ensures.advances c.take_block.ensures.passes

pub returns-in-None-clause-ended : goal.returns-in-None-clause-ended
returns-in-None-clause-ended g c =
    none_left (g.H.Host.held c.args.host.now) (g.H.Host.held c.next_frame.new.host) c.args.self.now c.next_frame.new.self c.in_ok-len.ensures.advances
    (rw c.in-None.is at c.in_ok-len.ensures.ended) (rw c.in-None.is at c.in_ok-len.ensures.none)
