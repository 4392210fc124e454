-- What the layers mean.
use Rattle.std.specs.Prelude.{◌≡◌, [], ◌+◌, List, Option}
use Rattle.std.specs.FinMap.{empty, len}
use Rattle.base_types.specs.Coins.{Coins}
use Rattle.base_types.specs.Views.{ViewCounts}
use Rattle.base_types.specs.declared.hash.OutPoint.{OutPoint}
use Rattle.coin_cache.specs.Contents.{Contents, contents}
use Rattle.coin_cache.specs.Entries.{StandsOver, counts_over, means}
use Rattle.coin_views.specs.Growth.{MayFetch, MayGrow}
use Rattle.coin_views.specs.declared.layers.Layers.{Layers}

abbrev pub tip_of : Layers → Contents
tip_of layers = layers.tip

abbrev pub block_of : Layers → Contents
block_of layers = layers.block

-- the coins that the tip cache means over those of the parent, where that tells them
abbrev pub tip_means : Layers → Option Coins → Option Coins
tip_means layers told = means (tip_of layers) told

-- and those that the block view means over them
abbrev pub block_means : Layers → Option Coins → Option Coins
block_means layers told = means (block_of layers) (tip_means layers told)

-- each layer stands over what is below it
pub record LayersStand (layers : Layers) (told : Option Coins) : Type 0 where
  pub over_parent : StandsOver (tip_of layers) told
  pub over_tip : StandsOver (block_of layers) (tip_means layers told)

-- the counts of both layers over a view
abbrev pub layers_count : Layers → ViewCounts → ViewCounts
layers_count layers counts = counts_over (block_of layers) (counts_over (tip_of layers) counts)

-- a cache without entries, with the room and the salt of this one
abbrev pub emptied : Contents → Contents
emptied cache = contents empty [] (cache.spare + len cache.slots) cache.salt

-- calls of the block view, over a parent with these coins before and after, may do this to the layers: the tip cache means
-- what it meant, and goes on standing over the parent
pub record LayersGrow (keys : List OutPoint) (old new : Layers) (before after : Option Coins) : Type 0 where
  pub tip : MayFetch keys (tip_of old) (tip_of new)
  pub block : MayGrow keys (block_of old) (block_of new)
  pub means : tip_means new after ≡ tip_means old before
  pub stands : StandsOver (tip_of old) before → StandsOver (tip_of new) after
