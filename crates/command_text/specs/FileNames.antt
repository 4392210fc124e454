-- Names of files.
use Rattle.std.specs.Prelude.{ℕ, ◌==◌, ◌&&◌, not, Bool, List, length, nat_le}
use Rattle.std.specs.Int.{is_in_range}
use Rattle.std.specs.List.{list_all}

-- FILE: 1 to 200 bytes from 21 to 7e
abbrev pub is_name : List ℕ → Bool
is_name field = not (length field == 0) && nat_le (length field) 200 && list_all (is_in_range 33 126) field
