use Rattle.std.proofs.Common.{cond, Some, None}
use Rattle.file_disk.specs.Deeds.{measures}
use Rattle.file_disk.proofs.deeds.Deeds.add_len.Given as goal

abbrev pub ghost-add : goal.ghost-add
ghost-add a = measures a._file (cond a._done (Some a._count) None)
