use Rattle.std.proofs.Common.{false, true, ◌∙◌}
use Rattle.file_disk.specs.Deeds.{syncs_folder}
use Rattle.file_disk.proofs.Unsynced.{kept}
use Rattle.file_disk.proofs.open_files.OpenFiles.sync_entry.Goals as goal

pub invariant_of-self : goal.invariant_of-self
invariant_of-self g c = record { made_is = c.clear.ensures.items ∙ kept c.args.self.now.made.items (g.F.RawFolder.deeds c.args.self.now.folder) (g.F.RawFolder.deeds c.sync_folder.new.self) (syncs_folder true) c.args.self.now.made_is c.in-Ok.ensures }

pub invariant_of-self-in-Err : goal.invariant_of-self-in-Err
invariant_of-self-in-Err g c = record { made_is = kept c.args.self.now.made.items (g.F.RawFolder.deeds c.args.self.now.folder) (g.F.RawFolder.deeds c.sync_folder.new.self) (syncs_folder false) c.args.self.now.made_is c.in-Err.ensures }
