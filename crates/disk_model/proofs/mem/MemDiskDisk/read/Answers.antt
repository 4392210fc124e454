use Rattle.std.proofs.Common.{refl, ap, ◌+◌}
use Rattle.std.specs.Prelude.{Some}
use Rattle.disk_model.specs.Disk.{Stays}
use Rattle.disk_model.specs.declared.call.Request.TheVariants.{Read}
use Rattle.disk_model.proofs.Entering.{current_failed, current_looked, failed_moves, look_moves, read_done}
use Rattle.disk_model.proofs.mem.MemDiskDisk.read.Goals as goal

pub invariant_of-self : goal.invariant_of-self
invariant_of-self c = record {
  current = current_failed c.args.self.now.start c.args.self.now.files c.args.self.now.history.calls.items c.enter.new.self.calls.items c.args.self.now.history.clock c.enter.new.self.clock c.args.self.now.current c.args.self.now.history.numbered c.enter.ensures.in_time c.enter.ensures.ticks (Read c.args.file c.args.at c.min-count.result) c.in_err-enter.ensures.recorded.err _ refl;
}

pub returns-in_err-enter-clause-crash : goal.returns-in_err-enter-clause-crash
returns-in_err-enter-clause-crash c = failed_moves c.args.self.now.start c.args.self.now.files c.args.self.now.history.calls.items c.enter.new.self.calls.items c.args.self.now.history.clock c.enter.new.self.clock c.args.self.now.current c.args.self.now.history.numbered c.enter.ensures.in_time c.enter.ensures.ticks Stays (Read c.args.file c.args.at c.min-count.result) _ (λ m. refl) c.from_residual.ensures.0 c.in_err-enter.ensures.recorded.err

pub invariant_of-self-2 : goal.invariant_of-self-2
invariant_of-self-2 c = record {
  current = current_looked c.args.self.now.start c.args.self.now.files c.args.self.now.history.calls.items c.enter.new.self.calls.items c.args.self.now.history.clock c.enter.new.self.clock c.args.self.now.current c.args.self.now.history.numbered c.enter.ensures.in_time c.enter.ensures.ticks (Read c.args.file c.args.at c.min-count.result) _ (λ f s. refl) c.enter.ensures.recorded c.enter.ensures.ok;
}

pub returns-clause-crash : goal.returns-clause-crash
returns-clause-crash c = look_moves c.args.self.now.start c.args.self.now.files c.args.self.now.history.calls.items c.enter.new.self.calls.items c.args.self.now.history.clock c.enter.new.self.clock c.args.self.now.current c.args.self.now.history.numbered c.enter.ensures.in_time c.enter.ensures.ticks (Read c.args.file c.args.at c.min-count.result) _ (λ f s. refl) c.in_ok-enter.ensures.ok c.in_ok-enter.ensures.recorded.ok

pub returns-clause-read : goal.returns-clause-read
returns-clause-read c = ap Some (read_done (c.args.self.now.history.clock + 1) c.args.file c.args.at c.min-count.result c.args.self.now.history.calls.items c.enter.new.self.calls.items c.in_ok-enter.ensures.recorded.ok)
