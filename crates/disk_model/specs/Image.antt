-- What a map of files holds.
use Rattle.std.specs.Prelude.{ℕ, List, [], take, unwrap_or, option_map}
use Rattle.std.specs.Ordering.{nat_cmp}
use Rattle.std.specs.FinMap.{FinMap, get, insert}

-- the files of an image, by their numbers
abbrev pub Files : Type 0
Files = FinMap nat_cmp (List ℕ)

-- what a file reads as: a file that isn't there is empty
abbrev pub bytes_in : Files → ℕ → List ℕ
bytes_in files f = unwrap_or (get files f) []

-- the files with one shortened, if it is there
abbrev pub cut_in : Files → ℕ → ℕ → Files
cut_in files file length = unwrap_or (option_map (λ bytes. insert files file (take length bytes)) (get files file)) files
