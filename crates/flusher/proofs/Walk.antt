-- The walk of the changes of a cache.
use Rattle.std.proofs.Common.{◌≡◌, ℕ, List, [], ◌∷◌, ◌++◌, map, Option, Some, None, refl, sym, ap, subst, ◌∙◌, append_assoc, append-nil}
use Rattle.std.specs.List.Sorted.{IsPermutation}
use Rattle.std.proofs.lemmas.List.Sorted.{IsPermutation-map}
use Rattle.slot_pool.specs.Slots.{IsIn, first_or}
use Rattle.slot_pool.proofs.SlotLaws.{empty_first, in_middle, some_first}
use Rattle.flusher.specs.Changes.{slot_of}
use Rattle.flusher.specs.declared.changes.Named.{Named}

-- of all slots these are done, and this one is the next
pub record IsWalked (all done : List ℕ) (next : Option ℕ) : Type 0 where
  pub rest : List ℕ
  pub parts : all ≡ done ++ rest
  pub is_next : next ≡ first_or None rest

pub walk_starts : (all : List ℕ) (next : Option ℕ) → next ≡ first_or None all → IsWalked all [] next
walk_starts all next is = record { rest = all; parts = refl; is_next = is }

module _ (all done : List ℕ) (next : Option ℕ) (slot : ℕ) (walked : IsWalked all done next) (is : next ≡ Some slot) where
  -- a slot, with those behind it
  pub walk_at : (behind : List ℕ) × (all ≡ done ++ slot ∷ behind)
  walk_at =
      let first = some_first walked.rest slot (sym walked.is_next ∙ is) in
      (first.0, walked.parts ∙ ap (λ (l : List ℕ). done ++ l) first.1)

  pub walk_in : IsIn slot all
  walk_in = subst (IsIn slot) (sym walk_at.1) (in_middle done slot walk_at.0)

  pub walk_on : (later : Option ℕ) → later ≡ first_or None walk_at.0 → IsWalked all (done ++ slot ∷ []) later
  walk_on later at = record { rest = walk_at.0; parts = walk_at.1 ∙ sym (append_assoc done (slot ∷ []) walk_at.0); is_next = at }

pub walk_ends : (all done : List ℕ) (next : Option ℕ) → IsWalked all done next → next ≡ None → done ≡ all
walk_ends all done next walked is =
    sym (walked.parts ∙ ap (λ (l : List ℕ). done ++ l) (empty_first walked.rest (sym walked.is_next ∙ is)) ∙ append-nil done)

-- the slots of names that were put into order
pub slots_moved : (names ordered shown : List Named) (changes slots : List ℕ) → map slot_of names ≡ changes → IsPermutation names ordered → shown ≡ ordered → slots ≡ map slot_of shown → IsPermutation changes slots
slots_moved names ordered shown changes slots were moved is e =
    subst (IsPermutation changes) (sym (e ∙ ap (map slot_of) is)) (subst (λ (l : List ℕ). IsPermutation l (map slot_of ordered)) were (IsPermutation-map slot_of names ordered moved))
