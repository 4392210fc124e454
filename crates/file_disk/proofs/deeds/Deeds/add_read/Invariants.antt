use Rattle.std.proofs.Common.{Ok}
use Rattle.file_disk.specs.Deeds.{reads}
use Rattle.file_disk.proofs.deeds.Deeds.add_read.Given as goal

abbrev pub ghost-add : goal.ghost-add
ghost-add a = reads a._file a._at a._count (Ok a._bytes.now)
