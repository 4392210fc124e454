-- The block view is merged into a tip cache in which room was made.
use Rattle.std.proofs.Common.{◌≡◌, Option, sym, ap, ◌∙◌, subst}
use Rattle.std.specs.Prelude.{option_map}
use Rattle.std.specs.FinMap.{empty}
use Rattle.base_types.specs.Coins.{Coins}
use Rattle.coin_cache.specs.Contents.{Contents}
use Rattle.coin_cache.specs.Entries.{AreTrueOf, KeepsEntries, StandsOver, laid, means}
use Rattle.coin_cache.proofs.Meanings.{means_parent, same_entries}
use Rattle.coin_views.specs.declared.layers.Layers.{Layers}
use Rattle.coin_views.specs.Layers.{LayersStand, block_of, tip_of, tip_means, block_means}

module _ (c d : Contents) (keeps : KeepsEntries c d) (told : Option Coins) where
  pub kept_means : means d told ≡ means c told
  kept_means = ap (λ e. option_map (laid e) told) (same_entries c d keeps)

  pub kept_stands : StandsOver c told → StandsOver d told
  kept_stands h m t = subst (AreTrueOf m) (sym (same_entries c d keeps)) (h m t)

-- the layers, the tip cache with room, and the tip cache and the block view after the merge
module _ (old new : Layers) (mid : Contents) (keeps : KeepsEntries (tip_of old) mid) (told : Option Coins) (stand : LayersStand old told)
    (merge : StandsOver mid told → StandsOver (block_of old) (means mid told) → (means (tip_of new) told ≡ means (block_of old) (means mid told)) × StandsOver (tip_of new) told) (none : (block_of new).slots ≡ empty) where
  same : means mid told ≡ tip_means old told
  same = kept_means (tip_of old) mid keeps told

  both : (means (tip_of new) told ≡ means (block_of old) (means mid told)) × StandsOver (tip_of new) told
  both = merge (kept_stands (tip_of old) mid keeps told stand.over_parent) (subst (StandsOver (block_of old)) (sym same) stand.over_tip)

  tip : tip_means new told ≡ block_means old told
  tip = both.0 ∙ ap (means (block_of old)) same

  pub committed : (tip_means new told ≡ block_means old told) × (block_means new told ≡ block_means old told) × LayersStand new told
  committed =
      let parent = means_parent (block_of new) none (tip_means new told) in
      (tip, parent.0 ∙ tip, record { over_parent = both.1; over_tip = parent.1 })

-- A look-up through both layers leaves each over what is below it: vt and vp were the tip cache and the coins of the parent at
-- its start, and wp are those of the parent at its end.
module _ (old new : Layers) (before after : Option Coins) (vt : Contents) (vp wp : Option Coins) (t : vt ≡ tip_of old) (p : vp ≡ before) (q : after ≡ wp) where
  pub tip_through : (StandsOver vt vp → StandsOver (tip_of new) wp) → StandsOver (tip_of old) before → StandsOver (tip_of new) after
  tip_through tip h = subst (StandsOver (tip_of new)) (sym q) (tip (subst (λ k. StandsOver k vp) (sym t) (subst (StandsOver (tip_of old)) (sym p) h)))

  pub block_through : (StandsOver (block_of old) (means vt vp) → StandsOver (block_of new) (means (tip_of new) wp)) → StandsOver (block_of old) (tip_means old before) → StandsOver (block_of new) (tip_means new after)
  block_through block h =
      subst (λ k. StandsOver (block_of new) (means (tip_of new) k)) (sym q) (block (subst (StandsOver (block_of old)) (λ i. means (sym t i) (sym p i)) h))
