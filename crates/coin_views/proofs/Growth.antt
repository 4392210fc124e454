-- Calls that follow one another, and what they may do to a cache.
use Rattle.std.proofs.Common.{◌≡◌, ◌⊎◌, inl, inr, true, List, Option, refl, ◌∙◌}
use Rattle.std.specs.Prelude.{Contains}
use Rattle.std.specs.FinMap.{contains_key}
use Rattle.base_types.specs.declared.hash.OutPoint.{OutPoint}
use Rattle.coin_cache.specs.Contents.{Contents}
use Rattle.coin_cache.specs.Entries.{AddsOnly, entries_of}
use Rattle.base_types.specs.Coins.{Coins}
use Rattle.coin_views.specs.declared.layers.Layers.{Layers}
use Rattle.coin_views.specs.Growth.{MayGrow, MayFetch}
use Rattle.coin_views.specs.Layers.{LayersGrow, tip_of, block_of}

module _ (keys : List OutPoint) where
  adds_then : (old mid new : Contents) → AddsOnly keys old mid → AddsOnly keys mid new → AddsOnly keys old new
  adds_then old mid new a b q has = go (b q has) where
    go : (contains_key (entries_of mid) q ≡ true) ⊎ Contains keys q → (contains_key (entries_of old) q ≡ true) ⊎ Contains keys q
    go (inl was) = a q was
    go (inr named) = inr named

  pub grows_none : (c : Contents) → MayGrow keys c c
  grows_none c = record { adds = λ q has. inl has; salt = refl }

  pub grows_then : (old mid new : Contents) → MayGrow keys old mid → MayGrow keys mid new → MayGrow keys old new
  grows_then old mid new a b = record { adds = adds_then old mid new a.adds b.adds; salt = b.salt ∙ a.salt }

  pub fetches_none : (c : Contents) → MayFetch keys c c
  fetches_none c = record { grows = grows_none c; changes = refl }

  pub fetches_then : (old mid new : Contents) → MayFetch keys old mid → MayFetch keys mid new → MayFetch keys old new
  fetches_then old mid new a b = record { grows = grows_then old mid new a.grows b.grows; changes = b.changes ∙ a.changes }

  pub layers_none : (layers : Layers) (told : Option Coins) → LayersGrow keys layers layers told told
  layers_none layers told = record { tip = fetches_none (tip_of layers); block = grows_none (block_of layers); means = refl; stands = λ h. h }

  pub layers_then : (old mid new : Layers) (before between after : Option Coins) → LayersGrow keys old mid before between → LayersGrow keys mid new between after → LayersGrow keys old new before after
  layers_then old mid new before between after a b = record {
    tip = fetches_then (tip_of old) (tip_of mid) (tip_of new) a.tip b.tip;
    block = grows_then (block_of old) (block_of mid) (block_of new) a.block b.block;
    means = b.means ∙ a.means;
    stands = λ h. b.stands (a.stands h);
  }
