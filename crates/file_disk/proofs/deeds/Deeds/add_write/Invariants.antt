use Rattle.std.proofs.Common.{ℕ, zero, suc, Bool, true, false, Result, Ok, Err}
use Rattle.file_disk.specs.declared.raw.RawError.{RawError}
use Rattle.file_disk.specs.declared.raw.RawError.TheVariants.{Interrupted, Failed}
use Rattle.file_disk.specs.Deeds.{writes}
use Rattle.file_disk.proofs.deeds.Deeds.add_write.Given as goal

-- at a write that wasn't done, a count above 0 says that it was interrupted
abbrev told : Bool → ℕ → Result ℕ RawError
told true count = Ok count
told false zero = Err Failed
told false (suc count) = Err Interrupted

abbrev pub ghost-add : goal.ghost-add
ghost-add a = writes a._file a._at a._bytes.now (told a._done a._count)
