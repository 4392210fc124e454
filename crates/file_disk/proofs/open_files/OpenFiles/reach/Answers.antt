use Rattle.std.proofs.Common.{Some, None, false, true, sym, ap, ◌∙◌}
use Rattle.std.specs.Prelude.{◌==◌}
use Rattle.std.specs.List.{position}
use Rattle.file_disk.specs.Deeds.{opens}
use Rattle.file_disk.proofs.Reached.{IsAt-position}
use Rattle.file_disk.proofs.Unsynced.{kept}
use Rattle.file_disk.proofs.open_files.OpenFiles.reach.Goals as goal

pub returns-in-Some-clause-place : goal.returns-in-Some-clause-place
returns-in-Some-clause-place g c =
    let number = g.F.RawFolder.number in
    IsAt-position number c.args.file c.in-Some.place c.args.self.now.handles.items
    (ap (position (λ other. number other == c.args.file)) (sym c.deref.ensures.value) ∙ sym c.place_of.ensures ∙ c.in-Some.is)

pub invariant_of-self : goal.invariant_of-self
invariant_of-self g c = record { made_is = kept c.args.self.now.made.items (g.F.RawFolder.deeds c.args.self.now.folder) (g.F.RawFolder.deeds c.open.new.self) (opens c.args.file (Some true)) c.args.self.now.made_is (rw c.in-Ok-Some.field-0-is at c.in-Ok-Some.ensures.call) }

pub invariant_of-self-in-Ok-None : goal.invariant_of-self-in-Ok-None
invariant_of-self-in-Ok-None g c = record { made_is = kept c.args.self.now.made.items (g.F.RawFolder.deeds c.args.self.now.folder) (g.F.RawFolder.deeds c.open.new.self) (opens c.args.file (Some false)) c.args.self.now.made_is (rw c.in-Ok-None.field-0-is at c.in-Ok-None.ensures.call) }

pub invariant_of-self-in-Err : goal.invariant_of-self-in-Err
invariant_of-self-in-Err g c = record { made_is = kept c.args.self.now.made.items (g.F.RawFolder.deeds c.args.self.now.folder) (g.F.RawFolder.deeds c.open.new.self) (opens c.args.file None) c.args.self.now.made_is c.in-Err.ensures.call }
