-- Which of the bodies counts for a hash: the last one that carries it.
use Rattle.std.specs.Prelude.{ℕ, ◌+◌, List, [], ◌∷◌, Option, Some, None, if◌then◌else◌}
use Rattle.std.specs.Ordering.{is_eq}
use Rattle.base_types.specs.Keys.{hash_cmp}
use Rattle.base_types.specs.declared.hash.Hash32.{Hash32}

-- the place of the last of the hashes that is this one, else what was found before; the first has the place `at`
abbrev pub last_from : ℕ → Option ℕ → List Hash32 → Hash32 → Option ℕ
last_from at found [] hash = found
last_from at found (first ∷ hashes) hash = last_from (at + 1) (if is_eq (hash_cmp first hash) then Some at else found) hashes hash

abbrev pub last_place : List Hash32 → Hash32 → Option ℕ
last_place hashes hash = last_from 0 None hashes hash
