use Rattle.file_disk.specs.Deeds.{creates}
use Rattle.file_disk.proofs.deeds.Deeds.add_create.Given as goal

abbrev pub ghost-add : goal.ghost-add
ghost-add a = creates a._file a._done
