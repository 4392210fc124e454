use Rattle.std.specs.FinMap.{get}
use Rattle.std.specs.Map.{lookup}
use Rattle.std.specs.Ordering.{eq_by_cmp}
use Rattle.std.proofs.Common.{◌≡◌, List, ◌++◌}
use Rattle.base_types.specs.declared.hash.OutPoint.{OutPoint}
use Rattle.coin_store.specs.IndexKeys.{key_cmp}
use Rattle.coin_store.specs.declared.index.IndexKey.{IndexKey}
use Rattle.coin_store.specs.declared.places.CoinPlace.{CoinPlace}
use Rattle.coin_store.proofs.index.Index.copy.Given as goal

abbrev pub invariant-loop-key : goal.invariant-loop-key
invariant-loop-key l = (front : List (IndexKey × CoinPlace)) × (l.initial.key-iterator ≡ front ++ l.key-iterator)
    × ((q : OutPoint) → get l.copy.places q ≡ lookup (eq_by_cmp key_cmp (record { outpoint = q })) front) × (l.copy.salt ≡ l.self.salt)
