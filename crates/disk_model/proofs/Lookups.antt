-- A map of files in a tree, seen as a finite map, and what its files read as.
use Rattle.std.specs.Prelude.{◌≡◌, ◌==◌, ℕ, List, [], ◌∷◌, Option, Some, None, refl, Bool, true, false, unwrap_or, option_map, take, IsSome, is_some, map, ◌||◌, Result, Ok, Err, IfOk}
use Rattle.std.specs.Ordering.{nat_cmp, eq_by_cmp, is_eq}
use Rattle.std.specs.Cmp.{nat_cmp_total, eq_by_cmp_equiv}
use Rattle.std.specs.FinMap.{get, insert, from_entries, find, get-from_entries, get-insert, same_map, nat_cmp-IsAntisymmetric}
use Rattle.std.specs.BTreeMap as tree
use Rattle.std.specs.BTreeMap.{BTreeMap, is_at}
use Rattle.std.specs.Map.{lookup}
use Rattle.std.specs.List.{list_any}
use Rattle.std.proofs.Common.{ap, sym, subst, ◌∙◌, cond, eq-eqb, inl, inr}
use Rattle.std.proofs.lemmas.Bool.{cases_eq, ne_eqb}
use Rattle.std.proofs.lemmas.Map.Views.{tells_apart}
use Rattle.std.proofs.lemmas.Map.Lookups.{exact_unsigned}
use mathlib.Core.Path.{fun_ext}
use Rattle.disk_model.specs.Disk.{changed_at}
use Rattle.disk_model.specs.Image.{Files, bytes_in, cut_in}

-- the files of a tree
abbrev pub files : BTreeMap ℕ (List ℕ) → Files
files m = from_entries m.entries

find_lookup : (q : ℕ) (es : List (ℕ × List ℕ)) → find nat_cmp q es ≡ lookup (is_at (nat_cmp q)) es
find_lookup q [] = refl
find_lookup q (e ∷ es) = ap (λ o. cond (is_eq (nat_cmp q e.0)) (Some e.1) o) (find_lookup q es)

pub get-files : (m : BTreeMap ℕ (List ℕ)) (q : ℕ) → get (files m) q ≡ tree.get nat_cmp m q
get-files m q = get-from_entries nat_cmp_total m.entries q ∙ find_lookup q m.entries

-- a tree that takes a value at a key
pub files-updates : (m n : BTreeMap ℕ (List ℕ)) (k : ℕ) (v : List ℕ) → tree.Updates nat_cmp m n k (Some v) → files n ≡ insert (files m) k v
files-updates m n k v u = same_map nat_cmp_total nat_cmp-IsAntisymmetric (files n) (insert (files m) k v) (λ q.
    get-files n q
    ∙ u.0 q
    ∙ ap (λ b. cond b (Some v) (tree.get nat_cmp m q)) ((eq_by_cmp_equiv nat_cmp_total).symm k q)
    ∙ ap (cond (eq_by_cmp nat_cmp q k) (Some v)) (sym (get-files m q))
    ∙ sym (get-insert nat_cmp_total (files m) k v q))

-- to put a value where it stands changes nothing
pub insert_same : (m : Files) (k : ℕ) (v : List ℕ) → get m k ≡ Some v → insert m k v ≡ m
insert_same m k v here = same_map nat_cmp_total nat_cmp-IsAntisymmetric (insert m k v) m (λ q.
    get-insert nat_cmp_total m k v q ∙ at_key q (eq_by_cmp nat_cmp q k) refl)
  where
    at_key : (q : ℕ) (b : Bool) → eq_by_cmp nat_cmp q k ≡ b → cond b (Some v) (get m q) ≡ get m q
    at_key q false e = refl
    at_key q true e = sym here ∙ ap (get m) (sym (tells_apart exact_unsigned q k e))

-- the test of a key is the test of numbers
pub key_test : (q k : ℕ) → eq_by_cmp nat_cmp q k ≡ (q == k)
key_test q k = at_test (eq_by_cmp nat_cmp q k) refl
  where
    at_test : (b : Bool) → eq_by_cmp nat_cmp q k ≡ b → b ≡ (q == k)
    at_test true e = sym (eq-eqb q k (tells_apart exact_unsigned q k e))
    at_test false e = elim (cases_eq q k) [
      | inl same ↦ sym e ∙ ap (λ x. eq_by_cmp nat_cmp q x) (sym same) ∙ (eq_by_cmp_equiv nat_cmp_total).refl q ∙ sym (eq-eqb q k same)
      | inr apart ↦ sym (ne_eqb q k apart)
    ]

pub bytes_in-insert : (m : Files) (k : ℕ) (v : List ℕ) (f : ℕ) → bytes_in (insert m k v) f ≡ cond (f == k) v (bytes_in m f)
bytes_in-insert m k v f = ap (λ o. unwrap_or o []) (get-insert nat_cmp_total m k v f) ∙ at_test (eq_by_cmp nat_cmp f k) (f == k) (key_test f k)
  where
    at_test : (a b : Bool) → a ≡ b → unwrap_or (cond a (Some v) (get m f)) [] ≡ cond b v (bytes_in m f)
    at_test true true e = refl
    at_test false false e = refl
    at_test true false e = absurd (cc)
    at_test false true e = absurd (cc)

pub if_at : (A : Type 0) (f k : ℕ) (x : ℕ → A) (y : A) → cond (f == k) (x k) y ≡ cond (f == k) (x f) y
if_at A f k x y = elim (cases_eq f k) [
  | inl same ↦ ap (λ j. cond (f == k) (x j) y) (sym same)
  | inr apart ↦ ap (λ b. cond b (x k) y) (ne_eqb f k apart) ∙ ap (λ b. cond b (x f) y) (sym (ne_eqb f k apart))
]

-- one file changed
pub bytes_in-changed : (m : Files) (k : ℕ) (change : List ℕ → List ℕ) → bytes_in (insert m k (change (bytes_in m k))) ≡ changed_at k change (bytes_in m)
bytes_in-changed m k change = fun_ext (λ f. bytes_in-insert m k (change (bytes_in m k)) f ∙ if_at (List ℕ) f k (λ j. change (bytes_in m j)) (bytes_in m f))

-- a tree whose value at a key was written through
module _ (m : BTreeMap ℕ (List ℕ)) (all : Files) (view : files m ≡ all) (k : ℕ) (old : List ℕ) (is : tree.get nat_cmp m k ≡ Some old) where
  found : get all k ≡ Some old
  found = ap (λ i. get i k) (sym view) ∙ get-files m k ∙ is

  pub bytes-found : bytes_in all k ≡ old
  bytes-found = ap (λ o. unwrap_or o []) found

  pub written_through : (n : BTreeMap ℕ (List ℕ)) (v : List ℕ) → tree.WritesThrough nat_cmp (nat_cmp k) m v n → files n ≡ insert all k v
  written_through n v w =
      files-updates m n k v (w.3 (subst IsSome (sym is) refl))
      ∙ ap (λ i. insert i k v) view

  pub put_back : insert all k old ≡ all
  put_back = insert_same all k old found

  pub cut_through : (n : BTreeMap ℕ (List ℕ)) (length : ℕ) → tree.WritesThrough nat_cmp (nat_cmp k) m (take length old) n → files n ≡ cut_in all k length
  cut_through n length w = written_through n (take length old) w ∙ ap (λ o. unwrap_or (option_map (λ bytes. insert all k (take length bytes)) o) all) (sym found)

-- a file that isn't there
module _ (m : BTreeMap ℕ (List ℕ)) (all : Files) (view : files m ≡ all) (k : ℕ) (is : tree.get nat_cmp m k ≡ None) where
  absent : get all k ≡ None
  absent = ap (λ i. get i k) (sym view) ∙ get-files m k ∙ is

  pub bytes-absent : [] ≡ bytes_in all k
  bytes-absent = ap (λ o. unwrap_or o []) (sym absent)

  pub cut_absent : (length : ℕ) → files m ≡ cut_in all k length
  cut_absent length = view ∙ ap (λ o. unwrap_or (option_map (λ bytes. insert all k (take length bytes)) o) all) (sym absent)

-- the keys of a tree are the files that are there
pub has_number : (m : BTreeMap ℕ (List ℕ)) (f : ℕ) → list_any (λ n. f == n) (tree.keys m) ≡ is_some (get (files m) f)
has_number m f = among m.entries ∙ ap is_some (sym (get-files m f))
  where
    at_test : (a b : Bool) (e : List ℕ) (rest : Bool) (o : Option (List ℕ)) → a ≡ b → rest ≡ is_some o → (b || rest) ≡ is_some (cond a (Some e) o)
    at_test true true e rest o same is = refl
    at_test false false e rest o same is = is
    at_test true false e rest o same is = absurd (cc)
    at_test false true e rest o same is = absurd (cc)

    among : (es : List (ℕ × List ℕ)) → list_any (λ n. f == n) (map (λ e. e.0) es) ≡ is_some (lookup (is_at (nat_cmp f)) es)
    among [] = refl
    among (e ∷ es) = at_test (eq_by_cmp nat_cmp f e.0) (f == e.0) e.1 (list_any (λ n. f == n) (map (λ x. x.0) es)) (lookup (is_at (nat_cmp f)) es) (key_test f e.0) (among es)

pub if_ok : {T E : Type 0} (result : Result T E) (P Q : T → Type 0) → ((t : T) → P t → Q t) → IfOk result P → IfOk result Q
if_ok (Ok v) P Q f p = f v p
if_ok (Err e) P Q f p = tt
