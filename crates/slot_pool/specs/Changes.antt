-- What a structure changes in a pool: of each value the part that is its own.
use Rattle.std.specs.Prelude.{◌≡◌, ℕ, Option, Some, None}
use Rattle.std.specs.FinMap.{get}
use Rattle.slot_pool.specs.Pool.{Contents}

-- set x l is the value x with the part l
module _ {T L : Type 0} (set : T → L → T) where
  -- the value stays, its part aside
  abbrev pub SameBut : Option T → Option T → Type 0
  SameBut None y = y ≡ None
  SameBut (Some x) y = (l : L) × (y ≡ Some (set x l))

  -- each slot keeps its value, the part aside, and the room stays
  pub record ChangesOnly (old new : Contents T) : Type 0 where
    pub values : (s : ℕ) → SameBut (get old.values s) (get new.values s)
    pub spare : new.spare ≡ old.spare
