-- How the slots lie in the chunks. No public clause cites this module.
use Rattle.std.specs.Prelude.{◌≡◌, ℕ, zero, suc, ◌+◌, ◌*◌, ◌≤◌, List, [], ◌∷◌, ◌++◌, length, Option, Some, None}
use Rattle.std.specs.Ordering.{nat_cmp}
use Rattle.std.specs.FinMap.{FinMap, empty, insert}

-- 1 where the numbers are equal
abbrev pub hit : ℕ → ℕ → ℕ
hit zero zero = 1
hit zero (suc j) = 0
hit (suc i) zero = 0
hit (suc i) (suc j) = hit i j

-- how often the list has the number
abbrev pub count : List ℕ → ℕ → ℕ
count [] j = 0
count (v ∷ vs) j = hit v j + count vs j

-- n numbers, from a on
unfoldable pub numbers : ℕ → ℕ → List ℕ
numbers a zero = []
numbers a (suc n) = numbers a n ++ (a + n) ∷ []

module _ {T : Type 0} where
  -- every chunk has 256 places
  abbrev pub AreWhole : List (List (Option T)) → Type 0
  AreWhole [] = Unit {0}
  AreWhole (c ∷ cs) = (length c ≡ 256) × AreWhole cs

  -- the places of all chunks, side by side
  abbrev pub places_of : List (List (Option T)) → List (Option T)
  places_of [] = []
  places_of (c ∷ cs) = c ++ places_of cs

  -- the values, each under its place, the first of which is j
  abbrev pub map_from : ℕ → List (Option T) → FinMap nat_cmp T
  map_from j [] = empty
  map_from j (None ∷ cs) = map_from (j + 1) cs
  map_from j (Some x ∷ cs) = insert (map_from (j + 1) cs) j x

  -- 1 where the place is there and empty
  abbrev pub vacancy : List (Option T) → ℕ → ℕ
  vacancy [] j = 0
  vacancy (None ∷ cs) zero = 1
  vacancy (Some x ∷ cs) zero = 0
  vacancy (c ∷ cs) (suc j) = vacancy cs j

  -- how many places hold a value
  abbrev pub used : List (Option T) → ℕ
  used [] = 0
  used (None ∷ cs) = used cs
  used (Some x ∷ cs) = suc (used cs)

  -- vs lists the empty places, each once
  pub record Lists (cs : List (Option T)) (vs : List ℕ) : Type 0 where
    pub each : (j : ℕ) → count vs j ≡ vacancy cs j
    pub total : length vs + used cs ≡ length cs

  pub record IsPool (css : List (List (Option T))) (vs : List ℕ) (room : ℕ) : Type 0 where
    pub whole : AreWhole css
    pub lists : Lists (places_of css) vs
    -- what is taken out again fits into the list
    pub roomy : length css * 256 ≤ room
    pub few : length css ≤ 16777216
