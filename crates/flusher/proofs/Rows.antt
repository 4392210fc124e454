-- The rows of the changed entries of a cache.
use Rattle.std.proofs.Common.{◌≡◌, ◌≢◌, inl, inr, ℕ, suc, ◌++◌, true, List, [], ◌∷◌, length, Option, Some, None, IfSome, is_some, All, AllPairs, Contains, refl, sym, ap, subst, ◌∙◌, arith}
use Rattle.std.specs.FinMap.{FinMap, get, contains_key}
use Rattle.std.specs.List.Sorted.{IsPermutation}
use Rattle.std.specs.Ordering.{nat_cmp}
use Rattle.std.proofs.lemmas.List.Elements.{All-nil, All-cons, Contains-append_right}
use Rattle.std.proofs.lemmas.List.Kept.{AllPairs-cons}
use Rattle.std.proofs.lemmas.List.Sorted.{length_permutation}
use Rattle.std.proofs.lemmas.Option.{same_Some}
use Rattle.slot_pool.specs.Slots.{IsIn, IsDistinct}
use Rattle.coin_cache.specs.Contents.{Contents, Entry}
use Rattle.coin_cache.specs.Entries.{IsSound, entries_of}
use Rattle.coin_cache.proofs.Lookups.{entry_at}
use Rattle.coin_store.specs.Batches.{Row}
use Rattle.flusher.specs.Changes.{keys_of, row_before, row_of, rows_in}
use Rattle.flusher.specs.Flushing.{AreChanges}
use Rattle.flusher.proofs.Moved.{all_at, moved_in, moved_once}

module _ (m : FinMap nat_cmp Entry) where
  pub row_first : (s : ℕ) (x : Entry) (slots : List ℕ) → get m s ≡ Some x → rows_in m (s ∷ slots) ≡ row_of x ∷ rows_in m slots
  row_first s x slots at = ap (λ (o : Option Entry). row_before o (rows_in m slots)) at

  pub rows_then : (first others : List ℕ) → rows_in m (first ++ others) ≡ rows_in m first ++ rows_in m others
  rows_then [] others = refl
  rows_then (s ∷ first) others = go (get m s) (rows_then first others) where
    go : (o : Option Entry) → rows_in m (first ++ others) ≡ rows_in m first ++ rows_in m others → row_before o (rows_in m (first ++ others)) ≡ row_before o (rows_in m first) ++ rows_in m others
    go None e = e
    go (Some x) e = ap (λ (l : List Row). row_of x ∷ l) e

  pub rows_many : (slots : List ℕ) → ((s : ℕ) → IsIn s slots → (x : Entry) × (get m s ≡ Some x)) → length (rows_in m slots) ≡ length slots
  rows_many [] has = refl
  rows_many (s ∷ slots) has = let e = has s (inl refl) in ap length (row_first s e.0 slots e.1) ∙ ap suc (rows_many slots (λ t i. has t (inr i)))

  pub rows_all : (P : Row → Type 0) (slots : List ℕ) → ((s : ℕ) (x : Entry) → IsIn s slots → get m s ≡ Some x → P (row_of x)) → All P (rows_in m slots)
  rows_all P [] each = All-nil P
  rows_all P (s ∷ slots) each = go (get m s) refl (rows_all P slots (λ t x i at. each t x (inr i) at)) where
    go : (o : Option Entry) → get m s ≡ o → All P (rows_in m slots) → All P (row_before o (rows_in m slots))
    go None at rest = rest
    go (Some x) at rest = All-cons P (row_of x) (rows_in m slots) (each s x (inl refl) at) rest

  abbrev pub Differ : Row → Row → Type 0
  Differ a b = a.key ≢ b.key

  pub rows_once : (slots : List ℕ) → IsDistinct slots → ((s t : ℕ) (x y : Entry) → get m s ≡ Some x → get m t ≡ Some y → x.key ≡ y.key → s ≡ t) → AllPairs Differ (rows_in m slots)
  rows_once [] apart once = λ i j d low within. absurd (omega (arith, within))
  rows_once (s ∷ slots) apart once = go (get m s) refl (rows_once slots apart.1 once) where
    go : (o : Option Entry) → get m s ≡ o → AllPairs Differ (rows_in m slots) → AllPairs Differ (row_before o (rows_in m slots))
    go None at rest = rest
    go (Some x) at rest =
        AllPairs-cons Differ (row_of x) (rows_in m slots)
        (rows_all (Differ (row_of x)) slots (λ t y i found same. apart.0 (subst (λ (u : ℕ). IsIn u slots) (sym (once s t x y at found same)) i)))
        rest

  pub named_in : (slots : List ℕ) (s : ℕ) (x : Entry) → IsIn s slots → get m s ≡ Some x → Contains (keys_of (rows_in m slots)) x.key
  named_in [] s x i at = absurd i
  named_in (t ∷ slots) s x (inl e) at =
      subst (λ (l : List Row). Contains (keys_of l) x.key) (sym (row_first t x slots (ap (get m) (sym e) ∙ at))) (0, omega arith, refl)
  named_in (t ∷ slots) s x (inr i) at = go (get m t) (named_in slots s x i at) where
    go : (o : Option Entry) → Contains (keys_of (rows_in m slots)) x.key → Contains (keys_of (row_before o (rows_in m slots))) x.key
    go None has = has
    go (Some y) has = Contains-append_right (y.key ∷ []) (keys_of (rows_in m slots)) x.key has

-- the entry of a flagged slot
pub record FlaggedEntry (c : Contents) (s : ℕ) : Type 0 where
  pub entry : Entry
  pub at : get c.slots s ≡ Some entry
  pub dirty : entry.dirty ≡ true

pub flagged_entry : (c : Contents) → IsSound c → (s : ℕ) → IsIn s c.changes → FlaggedEntry c s
flagged_entry c sound s i = let x = sound.dirty s i in record { entry = x.0; at = x.1; dirty = x.2 }

pub are_changes : (c : Contents) (slots : List ℕ) → IsSound c → IsPermutation c.changes slots → AreChanges c (rows_in c.slots slots)
are_changes c slots sound moved =
    let flagged = moved_in c.changes slots moved in
    record {
      all = rows_all c.slots (λ row. IfSome (get (entries_of c) row.key) (λ entry. (entry.dirty ≡ true) × (entry.coin ≡ row.coin))) slots
          (λ s x i at.
          let f = flagged_entry c sound s (all_at (λ t. IsIn t c.changes) slots flagged s i) in
          let same : f.entry ≡ x = same_Some f.entry x (sym f.at ∙ at) in
          subst (λ (o : Option Entry). IfSome o (λ entry. (entry.dirty ≡ true) × (entry.coin ≡ x.coin))) (sym (entry_at c sound s x at)) (ap (λ (e : Entry). e.dirty) (sym same) ∙ f.dirty, refl));
      named = rows_all c.slots (λ row. contains_key (entries_of c) row.key ≡ true) slots (λ s x i at. ap is_some (entry_at c sound s x at));
      count =
          rows_many c.slots slots (λ s i. let f = flagged_entry c sound s (all_at (λ t. IsIn t c.changes) slots flagged s i) in (f.entry, f.at))
          ∙ length_permutation c.changes slots moved;
      distinct = rows_once c.slots slots (moved_once c.changes slots moved sound.distinct) sound.once;
    }
