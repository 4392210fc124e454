-- What a view that has ended leaves of what was lent to it.
use Rattle.std.proofs.Common.{◌≡◌, ◌≤◌, ℕ, List, [], ◌∷◌, ◌++◌, length, Option, Some, None, Ok, Err, refl, sym, ap, subst, ◌∙◌, arith}
use Rattle.std.specs.Prelude.{Result}
use Rattle.std.proofs.lemmas.List.{length-append}
use Rattle.base_types.specs.Coins.{Coins}
use Rattle.base_types.specs.Views.{BrokenPlace, ViewCounts, FindsFault, HasViewCause}
use Rattle.base_types.specs.declared.fault.StoreFault.{StoreFault}
use Rattle.base_types.specs.declared.fault.StoreFault.TheVariants.{NoMemory, DiskFailed, Damaged, Full, CacheFull}
use Rattle.chain_model.specs.Connecting.{store_part}
use Rattle.chain_model.specs.declared.fault.ConnectFault.{ConnectFault}
use Rattle.chain_model.specs.declared.fault.ConnectFault.TheVariants.{Refused, Store}
use Rattle.coin_cache.specs.Entries.{StandsOver}
use Rattle.coin_views.specs.Layers.{LayersGrow, block_of, layers_count, tip_means, tip_of}
use Rattle.coin_views.specs.declared.layers.Layers.{Layers}
use Rattle.base_types.specs.declared.hash.OutPoint.{OutPoint}
use Rattle.reorg.specs.Trials.{ConnectFails, KeepsTip, NoneBroken}

-- what was lent, and what came back
pub carried : {X : Type 0} (P : Layers → X → Layers → X → Type 0) (a b : Layers) (x y : X) (c d : Layers) (z w : X) → a ≡ b → x ≡ y → c ≡ d → z ≡ w → P a x c z → P b y d w
carried {X} P a b x y c d z w p q r s h =
    subst (λ (k : X). P b y d k) s (subst (λ (k : Layers). P b y k z) r (subst (λ (k : X). P b k c z) q (subst (λ (k : Layers). P k x c z) p h)))

pub keeps_tip : (keys : List OutPoint) (old new : Layers) (before after : Option Coins) → after ≡ before → LayersGrow keys old new before after → StandsOver (block_of new) (tip_means new after) → KeepsTip old new before
keeps_tip keys old new before after same grows over = record {
  means = ap (tip_means new) (sym same) ∙ grows.means;
  stands = λ h. subst (StandsOver (tip_of new)) same (grows.stands h);
  over_tip = subst (λ (c : Option Coins). StandsOver (block_of new) (tip_means new c)) same over;
}

-- why it failed, by the counts of the view below the layers
pub fails_as : {A : Type 0} (calls : ℕ) (old new : Layers) (before now : ViewCounts) (result : Result A ConnectFault) → FindsFault calls (layers_count old before) (layers_count new now) (store_part result) → ConnectFails before.faults now.faults result
fails_as calls old new before now (Ok undo) f = tt
fails_as calls old new before now (Err (Refused rule)) f = tt
fails_as calls old new before now (Err (Store NoMemory)) f = tt
fails_as calls old new before now (Err (Store DiskFailed)) f = f.cause.rose
fails_as calls old new before now (Err (Store (Damaged file at))) f = tt
fails_as calls old new before now (Err (Store (Full file))) f = absurd f.cause
fails_as calls old new before now (Err (Store CacheFull)) f = tt

no_longer : (places : List BrokenPlace) (place : BrokenPlace) → places ≡ places ++ place ∷ [] → ⊥
no_longer places place e = let more = ap length e in let sum = length-append places (place ∷ []) in absurd (omega arith)

pub none_broken : {A : Type 0} (calls : ℕ) (old new : Layers) (before now : ViewCounts) (result : Result A ConnectFault) → FindsFault calls (layers_count old before) (layers_count new now) (store_part result) → now.broken ≡ before.broken → NoneBroken result
none_broken calls old new before now (Ok undo) f same = tt
none_broken calls old new before now (Err (Refused rule)) f same = tt
none_broken calls old new before now (Err (Store NoMemory)) f same = tt
none_broken calls old new before now (Err (Store DiskFailed)) f same = tt
none_broken calls old new before now (Err (Store (Damaged file at))) f same = no_longer before.broken (record { file = file; at = at }) (sym same ∙ f.cause.broken)
none_broken calls old new before now (Err (Store (Full file))) f same = absurd f.cause
none_broken calls old new before now (Err (Store CacheFull)) f same = tt
