-- What calls that name outpoints may do to a cache.
use Rattle.std.specs.Prelude.{◌≡◌, List}
use Rattle.base_types.specs.declared.hash.OutPoint.{OutPoint}
use Rattle.coin_cache.specs.Contents.{Contents}
use Rattle.coin_cache.specs.Entries.{AddsOnly}

-- calls may give these outpoints entries, and no others; the salt stays
pub record MayGrow (keys : List OutPoint) (old new : Contents) : Type 0 where
  pub adds : AddsOnly keys old new
  pub salt : new.salt ≡ old.salt

-- look-ups flag nothing
pub record MayFetch (keys : List OutPoint) (old new : Contents) : Type 0 where
  pub grows : MayGrow keys old new
  pub changes : new.changes ≡ old.changes
