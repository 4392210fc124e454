use Rattle.file_disk.specs.Deeds.{cuts}
use Rattle.file_disk.proofs.deeds.Deeds.add_set_len.Given as goal

abbrev pub ghost-add : goal.ghost-add
ghost-add a = cuts a._file a._at a._done
