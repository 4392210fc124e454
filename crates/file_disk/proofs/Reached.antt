-- Files that are reached, and what is done with them then.
use Rattle.std.proofs.Common.{◌≡◌, ℕ, List, [], ◌∷◌, get_or, length, Option, Some, inr, refl, subst}
use Rattle.std.specs.Prelude.{◌==◌, true, Result, Ok, Err, ⊤, IfSome}
use Rattle.std.specs.List.{position}
use Rattle.std.proofs.lemmas.List.Quantifiers.{position-Some}
use Rattle.std.proofs.lemmas.Option.{get_or_from_slice_get, slice_get_read}
use borrow.Author.Tests.{eqb-true}
use Rattle.file_disk.specs.declared.trouble.Trouble.{Trouble}
use Rattle.file_disk.specs.Deeds.{Deed}
use Rattle.file_disk.specs.Courses.{Reaches, ReachesOrNot, OnReached, with_entry_synced, SyncsOpen, SyncsBoth}
use Rattle.file_disk.specs.Places.{IsAt}

-- a file that was looked for stands where it was found
pub IsAt-position : {A : Type 0} (number : A → ℕ) (file place : ℕ) (handles : List A) → position (λ other. number other == file) handles ≡ Some place → IsAt number file place handles
IsAt-position number file place [] found = absurd (cc)
IsAt-position number file place (first ∷ rest) found = record {
  within = (position-Some (λ other. number other == file) (first ∷ rest) place first found).0;
  named = λ handle at. eqb-true (number handle) file (subst (λ other. (number other == file) ≡ true) (get_or_from_slice_get (first ∷ rest) place handle handle at)
      (position-Some (λ other. number other == file) (first ∷ rest) place handle found).1);
}

-- a file that is there was reached
pub reached_place : {A : Type 0} (file : ℕ) (found : Option A) (place : A) (old new : List Deed) → found ≡ Some place → ReachesOrNot {A = A} file (Ok found) old new → Reaches file old new
reached_place {A} file found place old new is calls = let P : Option A → Type 0 = λ f. ReachesOrNot {A = A} file (Ok f) old new in subst P is calls

-- and it is the one that was asked for
pub named_at : {A : Type 0} (number : A → ℕ) (file place : ℕ) (handles : List A) (handle : A) → IsAt number file place handles → handle ≡ get_or handles place handle → number handle ≡ file
named_at number file place handles handle is_at read = is_at.named handle (slice_get_read handles (length handles) place handle refl is_at.within read)

pub found_at : {A : Type 0} (number : A → ℕ) (file place : ℕ) (found : Option ℕ) (handles : List A) → found ≡ Some place → IfSome found (λ p. IsAt number file p handles) → IsAt number file place handles
found_at number file place found handles is places = let P : Option ℕ → Type 0 = λ f. IfSome f (λ p. IsAt number file p handles) in subst P is places

-- what is done with a file that was reached
pub OnReached-then : {A : Type 0} (file : ℕ) (OfNone : A → Type 0) (Next : Result A Trouble → List Deed → List Deed → Type 0) (result : Result A Trouble) (old reached new : List Deed)
    → Reaches file old reached → Next result reached new → OnReached file OfNone Next result old new
OnReached-then file OfNone Next (Ok x) old reached new reach next = inr (reached, reach, next)
OnReached-then file OfNone Next (Err trouble) old reached new reach next = inr (reached, reach, next)

-- the folder was synced where it had to be, and then the file
pub syncs_both : (file : ℕ) (result : Result ⊤ Trouble) (old entered new : List Deed) → entered ≡ with_entry_synced file old → SyncsOpen file result entered new → SyncsBoth file result old new
syncs_both file (Ok done) old entered new entry calls = subst (λ deeds. SyncsOpen file (Ok done) deeds new) entry calls
syncs_both file (Err trouble) old entered new entry calls = inr (subst (λ deeds. SyncsOpen file (Err trouble) deeds new) entry calls)
