-- What layers end as, once a `&mut` into their tip cache has ended.
use Rattle.std.specs.Borrow.{Fml, MutBor, Lends}
use Rattle.coin_cache.specs.Contents.{Contents}
use Rattle.coin_cache.specs.contracts.cache.Cache.{the_row as cache_row}
use Rattle.coin_views.specs.declared.layers.Layers.{Layers}
use Rattle.coin_views.specs.contracts.layers.Layers.{the_row}

abbrev pub with_tip : Layers → Contents → Layers
with_tip layers cache = record layers { tip = cache }

-- the tip cache is the last one written through r
abbrev pub LendsTip : MutBor Layers → MutBor Contents → Fml
LendsTip layers r = Lends the_row cache_row layers r (with_tip layers.now)
