-- What calls of a view of a store read.
use Rattle.std.specs.Prelude.{◌≡◌, ◌≢◌, ◌≤◌, ℕ, List, Contains, Option, Some, None, refl}
use Rattle.std.proofs.Common.{◌∙◌, ap, le_refl, le_trans, subst, sym}
use Rattle.std.specs.FinMap.{get}
use Rattle.disk_model.specs.Disk.{Image}
use Rattle.base_types.specs.Views.{ViewCounts}
use Rattle.base_types.specs.declared.hash.OutPoint.{OutPoint}
use Rattle.coin_store.specs.declared.places.CoinPlace.{CoinPlace}
use Rattle.coin_store.specs.OpenIndex.{OpenIndex}
use Rattle.coin_store.specs.Places.{live, coin_there}

-- the place of an outpoint's coin, if it has one
abbrev pub coin_place : OpenIndex → OutPoint → Option CoinPlace
coin_place index key = live (get index.places key)

-- how many bytes the coin of an outpoint has
abbrev pub coin_bytes : Option CoinPlace → ℕ
coin_bytes None = 0
coin_bytes (Some place) = place.len

-- a file in which the coin of one of these outpoints has its place
pub record HasPlaceIn (index : OpenIndex) (keys : List OutPoint) (file : ℕ) : Type 0 where
  pub key : OutPoint
  pub named : Contains keys key
  pub place : CoinPlace
  pub is : coin_place index key ≡ Some place
  pub there : place.file ≡ file

-- each place reads as a coin
abbrev pub AllRead : List ℕ → OpenIndex → Image → Type 0
AllRead mask index image = (key : OutPoint) (place : CoinPlace) → coin_place index key ≡ Some place → coin_there mask image place ≢ None

-- calls may count faults, and find records broken, but none where each place reads as a coin
pub record MayFail (mask : List ℕ) (index : OpenIndex) (told : Option Image) (before now : ViewCounts) : Type 0 where
  pub later : before.faults ≤ now.faults
  pub sound : (image : Image) → told ≡ Some image → AllRead mask index image → now.broken ≡ before.broken

-- no call
pub may_fail_none : (mask : List ℕ) (index : OpenIndex) (told : Option Image) (counts : ViewCounts) → MayFail mask index told counts counts
may_fail_none mask index told counts = record { later = le_refl counts.faults; sound = λ image is all. refl }

-- calls after others, by which the index, the key of the rows and the contents stayed
pub may_fail_then : (mask mask2 : List ℕ) (index index2 : OpenIndex) (told told2 : Option Image) (old mid new : ViewCounts) → mask2 ≡ mask → index2 ≡ index → told2 ≡ told → MayFail mask index told old mid
    → MayFail mask2 index2 told2 mid new → MayFail mask index told old new
may_fail_then mask mask2 index index2 told told2 old mid new same_mask same_index same_told a b = record {
  later = le_trans a.later b.later;
  sound = λ image is all.
      b.sound image (same_told ∙ is)
      (λ key place here. subst (λ (m : List ℕ). coin_there m image place ≢ None) (sym same_mask) (all key place (ap (λ (i : OpenIndex). coin_place i key) (sym same_index) ∙ here)))
      ∙ a.sound image is all;
}
