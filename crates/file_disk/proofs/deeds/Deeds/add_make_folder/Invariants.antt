use Rattle.file_disk.specs.Deeds.{makes_folder}
use Rattle.file_disk.proofs.deeds.Deeds.add_make_folder.Given as goal

abbrev pub ghost-add : goal.ghost-add
ghost-add a = makes_folder a._done
