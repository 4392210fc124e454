-- What the files of a folder answer by a course of calls.
use Rattle.std.specs.Prelude.{◌≡◌, List, Option, Some, None, Result, Ok, Err}
use Rattle.disk_model.specs.declared.disk.DiskFailed.{DiskFailed}
use Rattle.file_disk.specs.declared.trouble.Trouble.{Trouble}
use Rattle.file_disk.specs.Deeds.{Deed}

-- an answer that doesn't tell its trouble
abbrev pub untold : {A : Type 0} → Result A Trouble → Result A DiskFailed
untold (Ok x) = Ok x
untold (Err trouble) = Err record {}

-- the first trouble, after this answer
abbrev pub first_trouble : {A : Type 0} → Option Trouble → Result A Trouble → Option Trouble
first_trouble (Some trouble) answer = Some trouble
first_trouble None (Ok x) = None
first_trouble None (Err trouble) = Some trouble

-- an answer is passed on, and its trouble is kept where it is the first
pub record AnswersBy {A : Type 0} (answer : Result A Trouble) (result : Result A DiskFailed) (before now : Option Trouble) : Type 0 where
  pub same : result ≡ untold answer
  pub trouble : now ≡ first_trouble before answer

-- calls of the folder take this course, and what they answer is passed on
pub record Does {A : Type 0} (Course : Result A Trouble → List Deed → List Deed → Type 0) (result : Result A DiskFailed) (old new : List Deed) (before now : Option Trouble) : Type 0 where
  pub answer : Result A Trouble
  pub calls : Course answer old new
  pub passed_on : AnswersBy answer result before now
