-- The entries of an ordered map of the program and the finite map that they are.
use Rattle.std.proofs.Common.{◌≡◌, List, [], ◌∷◌, Option, Some, None, cond, length, refl, sym, ap, ◌∙◌}
use Rattle.std.proofs.lemmas.List.{nil_from_length}
use Rattle.std.specs.declared.cmp.Ordering.{Ordering}
use Rattle.std.specs.declared.cmp.Ordering.TheVariants.{Less}
use Rattle.std.specs.Ordering.{is_eq}
use Rattle.std.specs.Cmp.{IsTotalOrder}
use Rattle.std.specs.List.{AllByRecursion}
use Rattle.std.specs.List.Sorted.{IsStrictlySortedBy}
use Rattle.std.specs.Map.{keys_of, lookup}
use Rattle.std.specs.BTreeMap as tree
use Rattle.std.specs.BTreeMap.{BTreeMap, is_at}
use Rattle.std.specs.FinMap as finite
use Rattle.std.specs.FinMap.{IsAntisymmetric, get, find, insert, remove, entries, from_entries, len, len-entries, len-empty, entries-insert, get-from_entries}
use Rattle.std.specs.FinMap.Entries.{put, by_order}
use Rattle.base_types.proofs.OrderedMaps.{inserts, removes}

module _ {K V : Type 0} (R : K → K → Ordering) where
  pub find_lookup : (q : K) (es : List (K × V)) → find R q es ≡ lookup (is_at (R q)) es
  find_lookup q [] = refl
  find_lookup q (e ∷ es) = ap (λ (o : Option V). cond (is_eq (R q e.0)) (Some e.1) o) (find_lookup q es)

  put_first : (e : K × V) (es : List (K × V)) → AllByRecursion (λ y. R e.0 y ≡ Less) (keys_of es) → put R e.0 e.1 es ≡ e ∷ es
  put_first e [] below = refl
  put_first e (f ∷ fs) below = ap (λ (r : Ordering). by_order r (e ∷ f ∷ fs) ((f.0, e.1) ∷ fs) (f ∷ put R e.0 e.1 fs)) below.0

  pub none_empty : entries (finite.empty {X = V} {R = R}) ≡ []
  none_empty = nil_from_length (entries (finite.empty {X = V} {R = R})) (sym (len-entries (finite.empty {X = V} {R = R})) ∙ len-empty R V)

  module _ (total : IsTotalOrder R) where
    -- what a look-up among the entries finds
    pub get_entries : (es : List (K × V)) (q : K) → get (from_entries {R = R} es) q ≡ lookup (is_at (R q)) es
    get_entries es q = get-from_entries total es q ∙ find_lookup q es

    -- entries in order are those of their map
    pub entries_in_order : (es : List (K × V)) → IsStrictlySortedBy R (keys_of es) → entries (from_entries {R = R} es) ≡ es
    unfolding IsStrictlySortedBy
    entries_in_order [] rising = none_empty
    entries_in_order (e ∷ es) rising =
        entries-insert total (from_entries es) e.0 e.1
        ∙ ap (λ (rest : List (K × V)). put R e.0 e.1 rest) (entries_in_order es rising.1)
        ∙ put_first e es rising.0

    pub count_in_order : (es : List (K × V)) → IsStrictlySortedBy R (keys_of es) → len (from_entries {R = R} es) ≡ length es
    count_in_order es rising = len-entries (from_entries es) ∙ ap length (entries_in_order es rising)

    -- the map after one change
    module _ (distinct : IsAntisymmetric R) (m n : BTreeMap K V) (key : K) where
      found : (w : Option V) → tree.Updates R m n key w → (q : K) → find R q n.entries ≡ cond (is_eq (R key q)) w (find R q m.entries)
      found w updates q =
          find_lookup q n.entries
          ∙ updates.0 q
          ∙ ap (λ (o : Option V). cond (is_eq (R key q)) w o) (sym (find_lookup q m.entries))

      pub put_entry : (v : V) → tree.Updates R m n key (Some v) → from_entries {R = R} n.entries ≡ insert (from_entries m.entries) key v
      put_entry v updates = inserts R total distinct m.entries n.entries key v (found (Some v) updates)

      pub taken_entry : tree.Updates R m n key None → from_entries {R = R} n.entries ≡ remove (from_entries m.entries) key
      taken_entry updates = removes R total distinct m.entries n.entries key (found None updates)
