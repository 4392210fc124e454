use Rattle.file_disk.specs.Deeds.{syncs_data}
use Rattle.file_disk.proofs.deeds.Deeds.add_sync_data.Given as goal

abbrev pub ghost-add : goal.ghost-add
ghost-add a = syncs_data a._file a._done
