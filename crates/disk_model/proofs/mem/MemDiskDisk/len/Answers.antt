use Rattle.std.proofs.Common.{refl}
use Rattle.disk_model.specs.Disk.{Stays}
use Rattle.disk_model.specs.declared.call.Request.TheVariants.{Len}
use Rattle.disk_model.proofs.Entering.{current_looked, failed_moves, look_moves}
use Rattle.disk_model.proofs.mem.MemDiskDisk.len.Goals as goal

pub invariant_of-self : goal.invariant_of-self
invariant_of-self c = record {
  current = current_looked c.args.self.now.start c.args.self.now.files c.args.self.now.history.calls.items c.enter.new.self.calls.items c.args.self.now.history.clock c.enter.new.self.clock c.args.self.now.current c.args.self.now.history.numbered c.enter.ensures.in_time c.enter.ensures.ticks (Len c.args.file) _ (λ f s. refl) c.enter.ensures.recorded c.enter.ensures.ok;
}

pub returns-in_err-enter-clause-crash : goal.returns-in_err-enter-clause-crash
returns-in_err-enter-clause-crash c = failed_moves c.args.self.now.start c.args.self.now.files c.args.self.now.history.calls.items c.enter.new.self.calls.items c.args.self.now.history.clock c.enter.new.self.clock c.args.self.now.current c.args.self.now.history.numbered c.enter.ensures.in_time c.enter.ensures.ticks Stays (Len c.args.file) _ (λ m. refl) c.from_residual.ensures.0 c.in_err-enter.ensures.recorded.err

pub returns-clause-crash : goal.returns-clause-crash
returns-clause-crash c = look_moves c.args.self.now.start c.args.self.now.files c.args.self.now.history.calls.items c.enter.new.self.calls.items c.args.self.now.history.clock c.enter.new.self.clock c.args.self.now.current c.args.self.now.history.numbered c.enter.ensures.in_time c.enter.ensures.ticks (Len c.args.file) _ (λ f s. refl) c.in_ok-enter.ensures.ok c.in_ok-enter.ensures.recorded.ok
