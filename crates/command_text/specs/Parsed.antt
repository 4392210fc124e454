-- What parsing a line gives.
use Rattle.std.specs.Prelude.{◌≡◌, Bool, true, false, Result, Ok, Err, IsTrue}
use Rattle.std.specs.Result.{IsOkAnd}
use Rattle.command_text.specs.declared.line.Line.{Line}
use Rattle.command_text.specs.declared.line.Line.TheVariants.{Empty, Fold, Headers, Import, Generate, Flush, GetTxOut, Info}
use Rattle.command_text.specs.declared.line.LineFault.{LineFault}
use Rattle.command_text.specs.declared.line.LineFault.TheVariants.{NoMemory, Refused}
use Rattle.command_text.specs.declared.line.LineRefused.{LineRefused}

-- a command that names a file, for which alone memory is taken
abbrev pub names_file : Line → Bool
names_file Empty = false
names_file (Fold file) = true
names_file (Headers file key) = true
names_file (Import file key) = true
names_file (Generate number count file) = true
names_file Flush = false
names_file (GetTxOut key) = false
names_file Info = false

-- the line or the refusal that the definition gives; or want of memory, and then it gives a line that names a file
abbrev pub Parses : Result Line LineRefused → Result Line LineFault → Type 0
Parses said (Ok line) = said ≡ Ok line
Parses said (Err (Refused why)) = said ≡ Err why
Parses said (Err NoMemory) = IsOkAnd said (λ line. IsTrue (names_file line))
