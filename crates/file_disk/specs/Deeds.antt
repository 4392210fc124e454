-- The calls of a folder's files.
use Rattle.std.specs.Prelude.{ℕ, Bool, true, List, [], ◌∷◌, ◌++◌, length, take, Option, Result, Ok, Err}
use Rattle.file_disk.specs.declared.raw.RawError.{RawError}

-- A call, with the number of its file, what it asked, and its answer. A Bool says whether it was done, and None that it
-- wasn't; the lock may be another's, and a file may not be there.
pub data Deed : Type 0 where
  makes_folder : Bool → Deed
  locks : Option Bool → Deed
  opens : ℕ → Option Bool → Deed
  creates : ℕ → Bool → Deed
  measures : ℕ → Option ℕ → Deed
  -- the place, the length of the buffer, and the bytes that were given
  reads : ℕ → ℕ → ℕ → Result (List ℕ) RawError → Deed
  -- the place, the bytes, and how many of them were taken
  writes : ℕ → ℕ → List ℕ → Result ℕ RawError → Deed
  cuts : ℕ → ℕ → Bool → Deed
  syncs_data : ℕ → Bool → Deed
  syncs_folder : Bool → Deed

-- a read that left the buffer as this
abbrev pub reads_into : ℕ → ℕ → Result ℕ RawError → List ℕ → Deed
reads_into file at (Ok count) buf = reads file at (length buf) (Ok (take count buf))
reads_into file at (Err error) buf = reads file at (length buf) (Err error)

-- The files whose place in the folder may not be durable, after one more deed. A file that couldn't be made may be there.
abbrev pub unsynced_after : List ℕ → Deed → List ℕ
unsynced_after made (creates file done) = made ++ file ∷ []
unsynced_after made (syncs_folder true) = []
unsynced_after made other = made

abbrev pub unsynced_from : List ℕ → List Deed → List ℕ
unsynced_from made [] = made
unsynced_from made (deed ∷ later) = unsynced_from (unsynced_after made deed) later

-- the files that were made since the folder was last synced
unfoldable pub unsynced : List Deed → List ℕ
unsynced deeds = unsynced_from [] deeds
