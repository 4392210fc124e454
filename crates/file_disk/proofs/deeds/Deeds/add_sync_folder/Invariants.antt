use Rattle.file_disk.specs.Deeds.{syncs_folder}
use Rattle.file_disk.proofs.deeds.Deeds.add_sync_folder.Given as goal

abbrev pub ghost-add : goal.ghost-add
ghost-add a = syncs_folder a._done
