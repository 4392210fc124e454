use Rattle.std.proofs.Common.{cond, Err}
use Rattle.file_disk.specs.declared.raw.RawError.TheVariants.{Interrupted, Failed}
use Rattle.file_disk.specs.Deeds.{reads}
use Rattle.file_disk.proofs.deeds.Deeds.add_read_error.Given as goal

abbrev pub ghost-add : goal.ghost-add
ghost-add a = reads a._file a._at a._count (Err (cond a._done Interrupted Failed))
