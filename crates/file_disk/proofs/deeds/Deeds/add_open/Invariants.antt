use Rattle.std.proofs.Common.{ℕ, zero, suc, Bool, Option, Some, None}
use Rattle.file_disk.specs.Deeds.{opens}
use Rattle.file_disk.proofs.deeds.Deeds.add_open.Given as goal

-- a count above 0 says that the call answered
abbrev told : ℕ → Bool → Option Bool
told zero done = None
told (suc count) done = Some done

abbrev pub ghost-add : goal.ghost-add
ghost-add a = opens a._file (told a._count a._done)
