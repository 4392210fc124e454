-- The outpoints of the index that have coins.
use Rattle.std.specs.Prelude.{List, [], ◌∷◌, ◌==◌, if◌then◌else◌}
use Rattle.base_types.specs.declared.hash.OutPoint.{OutPoint}
use Rattle.coin_store.specs.declared.index.IndexKey.{IndexKey}
use Rattle.coin_store.specs.declared.places.CoinPlace.{CoinPlace}

-- those of entries whose places have bytes
abbrev pub kept : List (IndexKey × CoinPlace) → List OutPoint
kept [] = []
kept (entry ∷ entries) = if entry.1.len == 0 then kept entries else entry.0.outpoint ∷ kept entries
