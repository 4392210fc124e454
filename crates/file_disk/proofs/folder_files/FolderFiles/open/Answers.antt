use Rattle.std.proofs.Common.{true, Some, ap, ◌∙◌}
use Rattle.file_disk.specs.Deeds.{makes_folder, locks, syncs_folder, unsynced}
use Rattle.file_disk.specs.Courses.{with_deed}
use Rattle.file_disk.proofs.Unsynced.{unsynced-with}
use Rattle.file_disk.proofs.folder_files.FolderFiles.open.Goals as goal

pub new-requires : goal.new-requires
new-requires g c =
    let locked = with_deed (with_deed (g.F.RawFolder.deeds c.args.folder) (makes_folder true)) (locks (Some true)) in
    ap unsynced c.in_ok-enter.ensures ∙ unsynced-with locked (syncs_folder true)
