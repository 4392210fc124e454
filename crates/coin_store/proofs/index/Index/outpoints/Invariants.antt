use Rattle.std.proofs.Common.{◌≡◌, List, ◌++◌}
use Rattle.coin_store.specs.Kept.{kept}
use Rattle.coin_store.specs.declared.index.IndexKey.{IndexKey}
use Rattle.coin_store.specs.declared.places.CoinPlace.{CoinPlace}
use Rattle.coin_store.proofs.index.Index.outpoints.Given as goal

abbrev pub invariant-loop-key : goal.invariant-loop-key
invariant-loop-key l = (front : List (IndexKey × CoinPlace)) × (l.initial.key-iterator ≡ front ++ l.key-iterator) × (l.keys.items ≡ kept front)
