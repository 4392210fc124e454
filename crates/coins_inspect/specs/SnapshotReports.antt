-- What is printed of a snapshot file: its metadata, each coin with its outpoint, and where it ends; or what is wrong, and where.
use Rattle.std.specs.Prelude.{ℕ, List, [], ◌∷◌, ◌++◌, length, codes, decimal, Option, Some, None, Result, Ok, Err}
use Rattle.std.specs.List.{flat_map}
use Rattle.base_types.specs.Printed.{printed}
use Rattle.snapshot_file.specs.Fed.{finish_of}
use Rattle.snapshot_file.specs.Part.{Part, read_part}
use Rattle.snapshot_file.specs.declared.coins.SnapCoin.{SnapCoin}
use Rattle.snapshot_file.specs.declared.fault.SnapFault.{SnapFault}
use Rattle.snapshot_file.specs.declared.fault.SnapFault.TheVariants.{NoMemory, Bad}
use Rattle.snapshot_file.specs.declared.head.SnapHead.{SnapHead}
use Rattle.coins_inspect.specs.Lines.{line}
use Rattle.coins_inspect.specs.Names.{snap_error}
use Rattle.coins_inspect.specs.Reports.{end_line, fault_line, unspent_lines}

unfoldable pub base_line : SnapHead → List ℕ
base_line head = line (codes "base") (printed head.base ∷ codes "coins" ∷ decimal head.count ∷ [])

abbrev pub head_lines : Option SnapHead → List ℕ
head_lines (Some head) = base_line head
head_lines None = []

abbrev pub snap_coin_lines : SnapCoin → List ℕ
snap_coin_lines found = unspent_lines found.key found.coin

-- how the file ends, behind so many bytes
abbrev pub finish_lines : ℕ → Result (Unit {0}) SnapFault → List ℕ
finish_lines len (Ok done) = end_line len
finish_lines len (Err (Bad error offset)) = fault_line (snap_error error) offset
finish_lines len (Err NoMemory) = []

-- a fact of those lines, where no memory was wanted
abbrev pub IsFinish : ℕ → Result (Unit {0}) SnapFault → (List ℕ → Type 0) → Type 0
IsFinish len (Ok done) P = P (end_line len)
IsFinish len (Err (Bad error offset)) P = P (fault_line (snap_error error) offset)
IsFinish len (Err NoMemory) P = ⊥

abbrev pub part_lines : Part → List ℕ
part_lines part = head_lines part.head ++ flat_map snap_coin_lines part.coins

unfoldable pub snapshot_report : List ℕ → List ℕ
snapshot_report bytes = part_lines (read_part None bytes) ++ finish_lines (length bytes) (finish_of None bytes)
