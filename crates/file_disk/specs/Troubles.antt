-- Troubles by what they are made of.
use Rattle.std.specs.Prelude.{ℕ, Some, None}
use Rattle.file_disk.specs.declared.trouble.Operation.{Operation}
use Rattle.file_disk.specs.declared.trouble.Trouble.{Trouble}

abbrev pub trouble_at : ℕ → Operation → Trouble
trouble_at number what = record { file = Some number; operation = what }

abbrev pub trouble_of_folder : Operation → Trouble
trouble_of_folder what = record { file = None; operation = what }
