use Rattle.std.proofs.Common.{refl, ap, ◌∙◌}
use Rattle.std.specs.Prelude.{Some, ℕ, List, take}
use Rattle.disk_model.specs.Disk.{At, Cut as CutStep}
use Rattle.disk_model.specs.Image.{bytes_in}
use Rattle.disk_model.proofs.Moments.{changed_else}
use Rattle.disk_model.specs.declared.call.Request.TheVariants.{Cut}
use Rattle.disk_model.proofs.Follows.{none_at, no_cut}
use Rattle.disk_model.proofs.Current.{bytes_in-cut}
use Rattle.disk_model.proofs.Entering.{current_failed, current_shortened, failed_moves, cut_moves}
use Rattle.disk_model.proofs.mem.MemDiskDisk.cut.Goals as goal

pub invariant_of-self : goal.invariant_of-self
invariant_of-self c = record {
  current = current_failed c.args.self.now.start c.args.self.now.files c.args.self.now.history.calls.items c.enter.new.self.calls.items c.args.self.now.history.clock c.enter.new.self.clock c.args.self.now.current c.args.self.now.history.numbered c.enter.ensures.in_time c.enter.ensures.ticks (Cut c.args.file c.args.length) c.in_err-enter.ensures.recorded.err _ refl;
}

pub returns-in_err-enter-clause-crash : goal.returns-in_err-enter-clause-crash
returns-in_err-enter-clause-crash c =
    failed_moves c.args.self.now.start c.args.self.now.files c.args.self.now.history.calls.items c.enter.new.self.calls.items c.args.self.now.history.clock c.enter.new.self.clock c.args.self.now.current c.args.self.now.history.numbered c.enter.ensures.in_time c.enter.ensures.ticks (At c.args.file (CutStep c.args.length)) (Cut c.args.file c.args.length) _ (none_at _ _ (no_cut c.args.length)) c.from_residual.ensures.0 c.in_err-enter.ensures.recorded.err

pub invariant_of-self-2 : goal.invariant_of-self-2
invariant_of-self-2 c = record {
  current = current_shortened c.args.self.now.start c.args.self.now.files c.args.self.now.history.calls.items c.enter.new.self.calls.items c.args.self.now.history.clock c.enter.new.self.clock c.args.self.now.current c.args.self.now.history.numbered c.enter.ensures.in_time c.enter.ensures.ticks c.args.file c.args.length c.in_ok-enter.ensures.ok c.in_ok-enter.ensures.recorded.ok _ c.cut.ensures;
}

pub returns-clause-shortened : goal.returns-clause-shortened
returns-clause-shortened c = ap Some (ap bytes_in c.cut.ensures ∙ bytes_in-cut c.args.self.now.files c.args.file c.args.length)

pub returns-clause-others : goal.returns-clause-others
returns-clause-others c f apart =
    ap (λ (m : ℕ → List ℕ). m f) (ap bytes_in c.cut.ensures ∙ bytes_in-cut c.args.self.now.files c.args.file c.args.length)
    ∙ changed_else c.args.file (take c.args.length) (bytes_in c.args.self.now.files) f apart

pub returns-clause-crash : goal.returns-clause-crash
returns-clause-crash c = cut_moves c.args.self.now.start c.args.self.now.files c.args.self.now.history.calls.items c.enter.new.self.calls.items c.args.self.now.history.clock c.enter.new.self.clock c.args.self.now.current c.args.self.now.history.numbered c.enter.ensures.in_time c.enter.ensures.ticks c.args.file c.args.length _ c.in_ok-enter.ensures.ok c.in_ok-enter.ensures.recorded.ok
