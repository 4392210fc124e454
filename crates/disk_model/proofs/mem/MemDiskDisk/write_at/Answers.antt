use Rattle.std.proofs.Common.{refl, ap, sym, subst, inr, ◌∙◌, ◌+◌}
use Rattle.std.specs.Prelude.{Some, ℕ, List, length}
use Rattle.disk_model.specs.Disk.{At, Torn, written}
use Rattle.disk_model.specs.Image.{Files, bytes_in}
use Rattle.disk_model.proofs.Moments.{changed_else}
use Rattle.disk_model.specs.declared.call.Request.TheVariants.{Write}
use Rattle.disk_model.proofs.Follows.{none_at, no_tear}
use Rattle.disk_model.proofs.Lookups.{bytes_in-changed}
use Rattle.disk_model.proofs.Entering.{recorded_request, current_failed, current_written, failed_moves, write_moves, read_none, read_undone, if_err}
use Rattle.disk_model.proofs.mem.MemDiskDisk.write_at.Goals as goal

pub invariant_of-self : goal.invariant_of-self
invariant_of-self c = record {
  current = current_failed c.args.self.now.start c.args.self.now.files c.args.self.now.history.calls.items c.enter.new.self.calls.items c.args.self.now.history.clock c.enter.new.self.clock c.args.self.now.current c.args.self.now.history.numbered c.enter.ensures.in_time c.enter.ensures.ticks (Write c.args.file c.args.at c.args.bytes.now) (recorded_request (Write c.args.file c.args.at c.args.bytes.now) c.write.result (c.args.self.now.history.clock + 1) c.args.self.now.history.calls.items c.enter.new.self.calls.items _ c.write.ensures c.in_err-enter.ensures.recorded c.in_err-enter.ensures.no_memory).err _ refl;
}

pub returns-in_err-enter-clause-crash : goal.returns-in_err-enter-clause-crash
returns-in_err-enter-clause-crash c =
    failed_moves c.args.self.now.start c.args.self.now.files c.args.self.now.history.calls.items c.enter.new.self.calls.items c.args.self.now.history.clock c.enter.new.self.clock c.args.self.now.current c.args.self.now.history.numbered c.enter.ensures.in_time c.enter.ensures.ticks (At c.args.file (Torn c.args.at (length c.args.bytes.now))) (Write c.args.file c.args.at c.args.bytes.now) _ (none_at _ _ (no_tear c.args.at (length c.args.bytes.now))) c.from_residual.ensures.0 (recorded_request (Write c.args.file c.args.at c.args.bytes.now) c.write.result (c.args.self.now.history.clock + 1) c.args.self.now.history.calls.items c.enter.new.self.calls.items _ c.write.ensures c.in_err-enter.ensures.recorded c.in_err-enter.ensures.no_memory).err

pub invariant_of-self-in-Ok : goal.invariant_of-self-in-Ok
invariant_of-self-in-Ok c = record {
  current = current_written c.args.self.now.start c.args.self.now.files c.args.self.now.history.calls.items c.enter.new.self.calls.items c.args.self.now.history.clock c.enter.new.self.clock c.args.self.now.current c.args.self.now.history.numbered c.enter.ensures.in_time c.enter.ensures.ticks c.args.file c.args.at c.args.bytes.now c.in_ok-enter.ensures.ok (recorded_request (Write c.args.file c.args.at c.args.bytes.now) c.write.result (c.args.self.now.history.clock + 1) c.args.self.now.history.calls.items c.enter.new.self.calls.items _ c.write.ensures c.in_ok-enter.ensures.recorded c.in_ok-enter.ensures.no_memory).ok _ c.in-Ok.ensures.ok;
}

pub invariant_of-self-in-Err : goal.invariant_of-self-in-Err
invariant_of-self-in-Err c = record {
  current = current_failed c.args.self.now.start c.args.self.now.files c.args.self.now.history.calls.items c.undo.new.self.calls.items c.args.self.now.history.clock c.undo.new.self.clock c.args.self.now.current c.args.self.now.history.numbered c.enter.ensures.in_time (c.undo.ensures.same.0 ∙ c.enter.ensures.ticks) (Write c.args.file c.args.at c.args.bytes.now) (inr (c.undo.ensures.undone _ _ (recorded_request (Write c.args.file c.args.at c.args.bytes.now) c.write.result (c.args.self.now.history.clock + 1) c.args.self.now.history.calls.items c.enter.new.self.calls.items _ c.write.ensures c.in_ok-enter.ensures.recorded c.in_ok-enter.ensures.no_memory).ok)) _ c.in-Err.ensures.err;
}

pub returns-in-Ok-clause-written : goal.returns-in-Ok-clause-written
returns-in-Ok-clause-written c = ap Some (ap bytes_in c.in-Ok.ensures.ok ∙ bytes_in-changed c.args.self.now.files c.args.file (written c.args.at c.args.bytes.now))

pub returns-in-Ok-clause-others : goal.returns-in-Ok-clause-others
returns-in-Ok-clause-others c f apart =
    ap (λ (m : ℕ → List ℕ). m f) (ap bytes_in c.in-Ok.ensures.ok ∙ bytes_in-changed c.args.self.now.files c.args.file (written c.args.at c.args.bytes.now))
    ∙ changed_else c.args.file (written c.args.at c.args.bytes.now) (bytes_in c.args.self.now.files) f apart

pub returns-in-Ok-clause-crash : goal.returns-in-Ok-clause-crash
returns-in-Ok-clause-crash c = write_moves c.args.self.now.start c.args.self.now.files c.args.self.now.history.calls.items c.enter.new.self.calls.items c.args.self.now.history.clock c.enter.new.self.clock c.args.self.now.current c.args.self.now.history.numbered c.enter.ensures.in_time c.enter.ensures.ticks c.args.file c.args.at c.args.bytes.now _ c.in_ok-enter.ensures.ok (recorded_request (Write c.args.file c.args.at c.args.bytes.now) c.write.result (c.args.self.now.history.clock + 1) c.args.self.now.history.calls.items c.enter.new.self.calls.items _ c.write.ensures c.in_ok-enter.ensures.recorded c.in_ok-enter.ensures.no_memory).ok

pub returns-in-Ok-clause-read : goal.returns-in-Ok-clause-read
returns-in-Ok-clause-read c = ap Some (read_none (c.args.self.now.history.clock + 1) (Write c.args.file c.args.at c.args.bytes.now) (λ f. refl) c.args.self.now.history.calls.items c.enter.new.self.calls.items (recorded_request (Write c.args.file c.args.at c.args.bytes.now) c.write.result (c.args.self.now.history.clock + 1) c.args.self.now.history.calls.items c.enter.new.self.calls.items _ c.write.ensures c.in_ok-enter.ensures.recorded c.in_ok-enter.ensures.no_memory).ok)

pub returns-in-Err-clause-part : goal.returns-in-Err-clause-part
returns-in-Err-clause-part c =
    if_err _ _ (subst (λ (m : Files). At c.args.file (Torn c.args.at (length c.args.bytes.now)) (bytes_in c.args.self.now.files) (bytes_in m)) (sym c.in-Err.ensures.err) (none_at _ _ (no_tear c.args.at (length c.args.bytes.now)) (bytes_in c.args.self.now.files)))

pub returns-in-Err-clause-crash : goal.returns-in-Err-clause-crash
returns-in-Err-clause-crash c =
    failed_moves c.args.self.now.start c.args.self.now.files c.args.self.now.history.calls.items c.undo.new.self.calls.items c.args.self.now.history.clock c.undo.new.self.clock c.args.self.now.current c.args.self.now.history.numbered c.enter.ensures.in_time (c.undo.ensures.same.0 ∙ c.enter.ensures.ticks) (At c.args.file (Torn c.args.at (length c.args.bytes.now))) (Write c.args.file c.args.at c.args.bytes.now) _ (none_at _ _ (no_tear c.args.at (length c.args.bytes.now))) c.undo.ensures.err (inr (c.undo.ensures.undone _ _ (recorded_request (Write c.args.file c.args.at c.args.bytes.now) c.write.result (c.args.self.now.history.clock + 1) c.args.self.now.history.calls.items c.enter.new.self.calls.items _ c.write.ensures c.in_ok-enter.ensures.recorded c.in_ok-enter.ensures.no_memory).ok))

pub returns-in-Err-clause-read : goal.returns-in-Err-clause-read
returns-in-Err-clause-read c = ap Some (read_undone (c.args.self.now.history.clock + 1) (Write c.args.file c.args.at c.args.bytes.now) c.args.self.now.history.calls.items c.undo.new.self.calls.items (inr (c.undo.ensures.undone _ _ (recorded_request (Write c.args.file c.args.at c.args.bytes.now) c.write.result (c.args.self.now.history.clock + 1) c.args.self.now.history.calls.items c.enter.new.self.calls.items _ c.write.ensures c.in_ok-enter.ensures.recorded c.in_ok-enter.ensures.no_memory).ok)))
