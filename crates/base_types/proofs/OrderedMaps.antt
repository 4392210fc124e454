-- The entries of an ordered map of the program, as a finite map.
use Rattle.std.specs.Prelude.{◌≡◌, Bool, List, Option, Some, None}
use Rattle.std.proofs.Common.{cond, sym, ap, ◌∙◌}
use Rattle.std.specs.declared.cmp.Ordering.{Ordering}
use Rattle.std.specs.Ordering.{eq_by_cmp, is_eq}
use Rattle.std.specs.Cmp.{IsTotalOrder, eq_by_cmp_equiv}
use Rattle.std.specs.FinMap.{FinMap, IsAntisymmetric, find, get, insert, remove, from_entries, get-from_entries, get-insert, get-remove, same_map}

module _ {K V : Type 0} (cmp : K → K → Ordering) (total : IsTotalOrder cmp) (distinct : IsAntisymmetric cmp) where
  abbrev pub map_of : List (K × V) → FinMap cmp V
  map_of es = from_entries es

  pub get-map_of : (es : List (K × V)) (q : K) → get (map_of es) q ≡ find cmp q es
  get-map_of es q = get-from_entries total es q

  pub inserts : (old new : List (K × V)) (k : K) (v : V) → ((q : K) → find cmp q new ≡ cond (is_eq (cmp k q)) (Some v) (find cmp q old)) → map_of new ≡ insert (map_of old) k v
  inserts old new k v each = same_map total distinct _ _ (λ q.
      get-map_of new q ∙ each q
      ∙ ap (λ (b : Bool). cond b (Some v) (find cmp q old)) ((eq_by_cmp_equiv total).symm k q)
      ∙ ap (λ (o : Option V). cond (eq_by_cmp cmp q k) (Some v) o) (sym (get-map_of old q))
      ∙ sym (get-insert total (map_of old) k v q))

  pub removes : (old new : List (K × V)) (k : K) → ((q : K) → find cmp q new ≡ cond (is_eq (cmp k q)) None (find cmp q old)) → map_of new ≡ remove (map_of old) k
  removes old new k each = same_map total distinct _ _ (λ q.
      get-map_of new q ∙ each q
      ∙ ap (λ (b : Bool). cond b None (find cmp q old)) ((eq_by_cmp_equiv total).symm k q)
      ∙ ap (λ (o : Option V). cond (eq_by_cmp cmp q k) None o) (sym (get-map_of old q))
      ∙ sym (get-remove total (map_of old) k q))
