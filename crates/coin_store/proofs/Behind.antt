-- What calls of a view of a store read, and which files these are.
use Rattle.std.specs.Prelude.{◌≡◌, ℕ, ◌+◌, ◌≤◌, true, false, List, Contains, Option, Some, None, option_map}
use Rattle.std.proofs.Common.{eqb, ap, ◌∙◌, refl, arith, inl, inr}
use Rattle.std.proofs.lemmas.Bool.{cases_Bool, eqb-true}
use Rattle.disk_model.specs.Disk.{Image, changed_at}
use Rattle.disk_model.specs.Reads.{read_of, ReadUpTo}
use Rattle.disk_model.proofs.Reading.{up_to_none}
use Rattle.base_types.specs.Views.{ViewCounts}
use Rattle.base_types.specs.declared.hash.OutPoint.{OutPoint}
use Rattle.coin_store.specs.declared.places.CoinPlace.{CoinPlace}
use Rattle.coin_store.specs.OpenIndex.{OpenIndex}
use Rattle.coin_store.specs.Behind.{HasPlaceIn, MayFail}

-- a call that counts the bytes of one file
counted : (file n f : ℕ) (read : Option (ℕ → ℕ)) → eqb f file ≡ true → read_of (option_map (changed_at file (λ r. r + n)) read) f ≡ option_map (λ r. r + n) (read_of read f)
counted file n f None t = refl
counted file n f (Some each) t = rw t refl

not_counted : (file n f : ℕ) (read : Option (ℕ → ℕ)) → eqb f file ≡ false → read_of (option_map (changed_at file (λ r. r + n)) read) f ≡ read_of read f
not_counted file n f None t = refl
not_counted file n f (Some each) t = rw t refl

few_more : (n most : ℕ) (old new : Option ℕ) → n ≤ most → new ≡ option_map (λ r. r + n) old → ReadUpTo most old new
few_more n most None None few is = tt
few_more n most (Some before) (Some now) few is = let more : now ≡ before + n = cc in omega arith
few_more n most None (Some now) few is = cc
few_more n most (Some before) None few is = cc

pub up_to_read : (file n most : ℕ) (old new : Option (ℕ → ℕ)) → n ≤ most → new ≡ option_map (changed_at file (λ r. r + n)) old → (f : ℕ) → ReadUpTo most (read_of old f) (read_of new f)
up_to_read file n most old new few is f = elim (cases_Bool (eqb f file)) [
  | inl t ↦ few_more n most (read_of old f) (read_of new f) few (ap (λ (r : Option (ℕ → ℕ)). read_of r f) is ∙ counted file n f old t)
  | inr apart ↦ up_to_none most (read_of old f) (read_of new f) (ap (λ (r : Option (ℕ → ℕ)). read_of r f) is ∙ not_counted file n f old apart)
]

pub others_unread : (file n f : ℕ) (old new : Option (ℕ → ℕ)) → new ≡ option_map (changed_at file (λ r. r + n)) old → (f ≡ file → ⊥) → read_of new f ≡ read_of old f
others_unread file n f old new is apart = elim (cases_Bool (eqb f file)) [
  | inl t ↦ absurd (apart (eqb-true f file t))
  | inr other ↦ ap (λ (r : Option (ℕ → ℕ)). read_of r f) is ∙ not_counted file n f old other
]

-- more outpoints
pub place_wider : (index : OpenIndex) (keys more : List OutPoint) (file : ℕ) → ((key : OutPoint) → Contains keys key → Contains more key) → HasPlaceIn index keys file → HasPlaceIn index more file
place_wider index keys more file wider p = record { key = p.key; named = wider p.key p.named; place = p.place; is = p.is; there = p.there }

pub no_place : {X : Type 0} (place : CoinPlace) → None ≡ Some place → X
no_place place e = absurd cc

-- a call that listed nothing
pub may_fail_read : (mask : List ℕ) (index : OpenIndex) (told : Option Image) (old new : ViewCounts) → old.faults ≤ new.faults → new.broken ≡ old.broken → MayFail mask index told old new
may_fail_read mask index told old new later same = record { later = later; sound = λ image is all. same }
