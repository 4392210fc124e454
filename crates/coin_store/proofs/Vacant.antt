-- Entries of the index that have no coin.
use Rattle.std.specs.Prelude.{◌≡◌, ◌⊎◌, ℕ, suc, ◌+◌, ◌*◌, ◌<◌, ◌≤◌, ◌==◌, Bool, true, false, IsSome, is_some, Contains, List, [], ◌∷◌, length, map, get_or, nat_lt, Option, Some, None, if◌then◌else◌, option_map, refl}
use Rattle.std.specs.FinMap.{get, insert, get-insert, same_map}
use Rattle.std.specs.HashMap as hash
use Rattle.std.specs.HashMap.{HashMap, IsUnique}
use Rattle.std.specs.List.{IsDistinct, AllByRecursion, filter, sum_by}
use Rattle.std.specs.Map.{lookup, values_of, remove_entry}
use Rattle.std.specs.Option.{unwrap_or}
use Rattle.std.specs.Ordering.{eq_by_cmp, is_eq}
use Rattle.std.proofs.Common.{cond, eqb, sym, ap, subst, ◌∙◌, arith, inl, inr}
use Rattle.std.proofs.lemmas.List.{get_or_default}
use Rattle.std.proofs.lemmas.Bool.{cases_Bool, cases_lt, eq-eqb, ne_eqb, ltb-false, ltb-true}
use Rattle.std.proofs.lemmas.List.Sums.{sum_by-cons}
use Rattle.std.proofs.lemmas.Map.Entries.{sum_by_puts_entry, sum_by-remove_entry, sum_by_values_permutation}
use Rattle.base_types.specs.Keys.{outpoint_cmp}
use Rattle.base_types.proofs.KeyOrders.{outpoint_cmp_total, outpoint_cmp-IsAntisymmetric, outpoint_ties, tied_same}
use Rattle.std.specs.declared.cmp.Ordering.{Ordering}
use Rattle.std.specs.declared.cmp.Ordering.TheVariants.{Less, Equal, Greater}
use Rattle.base_types.specs.declared.hash.OutPoint.{OutPoint}
use Rattle.base_types.specs.declared.program.Salt.{Salt}
use Rattle.std.specs.HashMap.{hash_map_len, spare}
use Rattle.std.specs.List.Sorted.{IsPermutation}
use Rattle.coin_store.specs.declared.index.IndexKey.{IndexKey}
use Rattle.coin_store.specs.declared.index.Salted.{Salted}
use Rattle.coin_store.specs.declared.places.CoinPlace.{CoinPlace}
use Rattle.coin_store.specs.IndexKeys.{key_cmp}
use Rattle.coin_store.specs.IndexMaps.{map_of, vacancy, vacancies}
use Rattle.coin_store.specs.OpenIndex.{OpenIndex, IsVacant, HasFewVacant}
use Rattle.coin_store.specs.Places.{CoinPlaces, live}
use Rattle.coin_store.specs.Staged.{HasEntry, KeepsEntries, SameLive}
use Rattle.coin_store.proofs.Indexes.{get_is}

-- ---- an entry that is put in

either_some : (b : Bool) (v : CoinPlace) (o : Option CoinPlace) → IsSome o → IsSome (cond b (Some v) o)
either_some true v o s = refl
either_some false v o s = s

pub entries_kept : (m : CoinPlaces) (k : OutPoint) (v : CoinPlace) → KeepsEntries m (insert m k v)
entries_kept m k v = λ q some. rw (get-insert outpoint_cmp_total m k v q) (either_some (eq_by_cmp outpoint_cmp q k) v (get m q) some)

tied_is : (r : Ordering) → is_eq r ≡ true → r ≡ Equal
tied_is Less e = absurd cc
tied_is Equal e = refl
tied_is Greater e = absurd cc

same_key : (x y : OutPoint) → eq_by_cmp outpoint_cmp x y ≡ true → x ≡ y
same_key x y e = outpoint_cmp-IsAntisymmetric x y (tied_is (outpoint_cmp x y) e)

own_key : (x : OutPoint) → eq_by_cmp outpoint_cmp x x ≡ true
own_key x = tied_same outpoint_cmp outpoint_ties outpoint_cmp-IsAntisymmetric x

pub entry_put : (m : CoinPlaces) (k : OutPoint) (v : CoinPlace) → HasEntry (insert m k v) k
entry_put m k v = ap is_some (get-insert outpoint_cmp_total m k v k) ∙ rw (own_key k) refl

-- an entry without a coin changes no place where there was none
pub vacant_put : (m : CoinPlaces) (k : OutPoint) (v : CoinPlace) → v.len ≡ 0 → get m k ≡ None → SameLive m (insert m k v)
vacant_put m k v none absent q = ap live (get-insert outpoint_cmp_total m k v q) ∙ elim (cases_Bool (eq_by_cmp outpoint_cmp q k)) [
  | inl t ↦
      let nothing : get m q ≡ None = ap (get m) (same_key q k t) ∙ absent in
      let empty : live (Some v) ≡ None = rw (eq-eqb v.len 0 none) refl in
      rw (t, nothing) empty
  | inr f ↦ rw f refl
]

-- ---- entries that are dropped

abbrev Entry : Type 0
Entry = IndexKey × CoinPlace

abbrev pub has_bytes : Entry → Bool
has_bytes entry = nat_lt 0 entry.1.len

abbrev keys_in : List Entry → List IndexKey
keys_in entries = map (λ e. e.0) entries

not_there : (k : IndexKey) (es : List Entry) → AllByRecursion (λ (y : IndexKey). eq_by_cmp key_cmp k y ≡ false) (keys_in es) → lookup (eq_by_cmp key_cmp k) es ≡ None
not_there k [] a = refl
not_there k (e ∷ es) a = rw (a.0) (not_there k es a.1)

over : (b : Bool) (v : CoinPlace) (x y : Option CoinPlace) → live x ≡ live y → live (cond b (Some v) x) ≡ live (cond b (Some v) y)
over true v x y e = refl
over false v x y e = e

live_filtered : (q : IndexKey) (es : List Entry) → IsDistinct (eq_by_cmp key_cmp) (keys_in es) → live (lookup (eq_by_cmp key_cmp q) (filter has_bytes es)) ≡ live (lookup (eq_by_cmp key_cmp q) es)
unfolding IsDistinct
live_filtered q [] d = refl
live_filtered q (e ∷ es) d = elim (cases_Bool (has_bytes e)) [
  | inl t ↦ rw t (over (eq_by_cmp key_cmp q e.0) e.1 (lookup (eq_by_cmp key_cmp q) (filter has_bytes es)) (lookup (eq_by_cmp key_cmp q) es) (live_filtered q es d.1))
  | inr f ↦ rw f (elim (cases_Bool (eq_by_cmp key_cmp q e.0)) [
    | inl here ↦
        let same : q ≡ e.0 = (λ i. record { outpoint = same_key q.outpoint e.0.outpoint here i }) in
        let none : lookup (eq_by_cmp key_cmp q) es ≡ None = ap (λ (k : IndexKey). lookup (eq_by_cmp key_cmp k) es) same ∙ not_there e.0 es d.0 in
        let few : e.1.len ≡ 0 = omega (arith, ltb-false _ _ f) in
        let empty : live (Some e.1) ≡ None = rw (eq-eqb e.1.len 0 few) refl in
        live_filtered q es d.1 ∙ ap live none ∙ rw here (sym empty)
    | inr apart ↦ live_filtered q es d.1 ∙ rw apart refl
  ])
]

abbrev Map : Type 0
Map = HashMap IndexKey CoinPlace Salted

pub vacant_dropped : (m n : Map) (places : CoinPlaces) → map_of m ≡ places → IsUnique (eq_by_cmp key_cmp) m → n.entries ≡ filter has_bytes m.entries → SameLive places (map_of n)
vacant_dropped m n places view unique is q =
    let k : IndexKey = record { outpoint = q } in
    ap live (get_is n k ∙ ap (λ (es : List Entry). lookup (eq_by_cmp key_cmp k) es) is)
    ∙ live_filtered k m.entries unique
    ∙ ap live (sym (get_is m k) ∙ ap (λ (p : CoinPlaces). get p q) view)

-- ---- one more outpoint has an entry

-- an outpoint that is behind the last
abbrev pub no_key : OutPoint
no_key = record { txid = record { bytes = [] }; index = 0 }

nothing_there : (o : Option CoinPlace) → is_some o ≡ false → o ≡ None
nothing_there None e = refl
nothing_there (Some place) e = absurd cc

module _ (first : CoinPlaces) (keys : List OutPoint) where
  -- the places are as at first, and these outpoints have entries
  pub record Made (index : CoinPlaces) (n : ℕ) : Type 0 where
    pub same : SameLive first index
    pub made : (k : ℕ) (d : OutPoint) → k < n → HasEntry index (get_or keys k d)

  pub made_more : (i : ℕ) (index : CoinPlaces) → Made index i → i < length keys → HasEntry index (get_or keys i no_key) → Made index (i + 1)
  made_more i index m inside now = record {
    same = m.same;
    made = λ k d within. elim (cases_lt k i) [
      | inl less ↦ m.made k d less
      | inr more ↦
          let at : i ≡ k = omega arith in
          subst (λ (j : ℕ). HasEntry index (get_or keys j d)) at (subst (HasEntry index) (get_or_default keys i no_key d inside) now)
    ];
  }

  pub made_new : (i : ℕ) (old new : CoinPlaces) (place : CoinPlace) → place.len ≡ 0 → Made old i → i < length keys → is_some (get old (get_or keys i no_key)) ≡ false → new ≡ insert old (get_or keys i no_key) place → Made new (i + 1)
  made_new i old new place none m inside absent is =
      let key = get_or keys i no_key in
      let put = insert old key place in
      let begun : Made put i = record {
        same = λ q. vacant_put old key place none (nothing_there (get old key) absent) q ∙ m.same q;
        made = λ k d within. entries_kept old key place (get_or keys k d) (m.made k d within);
      } in
      subst (λ (p : CoinPlaces). Made p (i + 1)) (sym is) (made_more i put begun inside (entry_put old key place))

-- ---- how many entries have no coin

abbrev pub vacant_keys : List Entry → List OutPoint
vacant_keys [] = []
vacant_keys (e ∷ es) = if e.1.len == 0 then e.0.outpoint ∷ vacant_keys es else vacant_keys es

pub vacant_many : (es : List Entry) → sum_by vacancy (values_of es) ≡ length (vacant_keys es)
vacant_many [] = refl
vacant_many (e ∷ es) = elim (cases_Bool (eqb e.1.len 0)) [
  | inl t ↦
      let more = sum_by-cons vacancy e.1 (values_of es) in
      let one : vacancy e.1 ≡ 1 = rw t refl in
      let all : sum_by vacancy (values_of (e ∷ es)) ≡ suc (length (vacant_keys es)) = omega (arith, more, one, vacant_many es) in
      all ∙ rw t refl
  | inr f ↦
      let more = sum_by-cons vacancy e.1 (values_of es) in
      let none : vacancy e.1 ≡ 0 = rw f refl in
      let all : sum_by vacancy (values_of (e ∷ es)) ≡ length (vacant_keys es) = omega (arith, more, none, vacant_many es) in
      all ∙ rw f refl
]

pub none_vacant : (es : List Entry) → vacant_keys (filter has_bytes es) ≡ []
none_vacant [] = refl
none_vacant (e ∷ es) = elim (cases_Bool (has_bytes e)) [
  | inl t ↦
      let some : eqb e.1.len 0 ≡ false = ne_eqb e.1.len 0 (λ none. omega (arith, none, ltb-true 0 e.1.len t)) in
      rw (t, some) (none_vacant es)
  | inr f ↦ rw f (none_vacant es)
]

contains_first : {A : Type 0} (x y : A) (xs : List A) → y ≡ x → Contains (y ∷ xs) x
contains_first x y xs e = (0, omega arith, e)

contains_more : {A : Type 0} (x y : A) (xs : List A) → Contains xs x → Contains (y ∷ xs) x
contains_more x y xs c = (suc c.0, omega (arith, c.1), c.2)

vacant_member : (q : OutPoint) (es : List Entry) → IsVacant (lookup (eq_by_cmp key_cmp (record { outpoint = q })) es) → Contains (vacant_keys es) q
vacant_member q [] v = absurd v
vacant_member q (e ∷ es) v = elim (cases_Bool (eq_by_cmp outpoint_cmp q e.0.outpoint)) [
  | inl here ↦
      let none : e.1.len ≡ 0 = rw here at v in
      rw (eq-eqb e.1.len 0 none) (contains_first q e.0.outpoint (vacant_keys es) (sym (same_key q e.0.outpoint here)))
  | inr apart ↦
      let rest = vacant_member q es (rw apart at v) in
      elim (cases_Bool (eqb e.1.len 0)) [
        | inl t ↦ rw t (contains_more q e.0.outpoint (vacant_keys es) rest)
        | inr f ↦ rw f rest
      ]
]

pub few_vacant : (m : Map) (index : OpenIndex) → map_of m ≡ index.places → 2 * length (vacant_keys m.entries) ≤ index.size → HasFewVacant index []
few_vacant m index is few = record {
  others = vacant_keys m.entries;
  few = few;
  all = λ q v. inr (vacant_member q m.entries (subst IsVacant (ap (λ (p : CoinPlaces). get p q) (sym is) ∙ get_is m (record { outpoint = q })) v));
}

no_members : {A : Type 0} {X : Type 0} (x : A) → Contains [] x → X
no_members x c = absurd (omega (arith, c.1))

-- of more outpoints
pub few_more : (index : OpenIndex) (keys : List OutPoint) → HasFewVacant index [] → HasFewVacant index keys
few_more index keys f = record {
  others = f.others;
  few = f.few;
  all = λ q v. elim (f.all q v) [
    | inl c ↦ no_members q c
    | inr c ↦ inr c
  ];
}

-- where no entry is another
pub few_same : (old new : OpenIndex) (keys : List OutPoint) → new.places ≡ old.places → old.size ≤ new.size → HasFewVacant old keys → HasFewVacant new keys
few_same old new keys same size f =
    let few = f.few in
    record { others = f.others; few = omega (arith, few, size); all = λ q v. f.all q (subst (λ (p : CoinPlaces). IsVacant (get p q)) same v) }

-- all vacant entries are of these outpoints, or of the others
abbrev pub AllVacant : CoinPlaces → List OutPoint → List OutPoint → Type 0
AllVacant places keys others = (q : OutPoint) → IsVacant (get places q) → Contains keys q ⊎ Contains others q

pub vacant_among : (keys others : List OutPoint) (places : CoinPlaces) (key : OutPoint) (place : CoinPlace) → Contains keys key → AllVacant places keys others → AllVacant (insert places key place) keys others
vacant_among keys others places key place named all q v = elim (cases_Bool (eq_by_cmp outpoint_cmp q key)) [
  | inl t ↦ inl (subst (Contains keys) (sym (same_key q key t)) named)
  | inr f ↦
      let w : IsVacant (cond (eq_by_cmp outpoint_cmp q key) (Some place) (get places q)) = subst IsVacant (get-insert outpoint_cmp_total places key place q) v in
      all q (rw f at w)
]

-- with a place of one of the outpoints
pub few_put : (old new : OpenIndex) (keys : List OutPoint) (key : OutPoint) (place : CoinPlace) → new.places ≡ insert old.places key place → old.size ≤ new.size → Contains keys key → HasFewVacant old keys → HasFewVacant new keys
few_put old new keys key place is size named f =
    let few = f.few in
    record {
      others = f.others;
      few = omega (arith, few, size);
      all = λ q v. vacant_among keys f.others old.places key place named f.all q (subst (λ (p : CoinPlaces). IsVacant (get p q)) is v);
    }

-- ---- their number

abbrev vacancy_at : Option CoinPlace → ℕ
vacancy_at place = unwrap_or (option_map vacancy place) 0

pub vacancies_put : (m n : Map) (k : IndexKey) (v : CoinPlace) (old : Option CoinPlace) → old ≡ hash.get (eq_by_cmp key_cmp) m k → hash.PutsEntry (eq_by_cmp key_cmp) m n k v old → vacancies n + vacancy_at old ≡ vacancies m + vacancy v
vacancies_put m n k v old is puts = sum_by_puts_entry vacancy (eq_by_cmp key_cmp) m n k v old is puts

pub vacancies_taken : (m n : Map) (k : IndexKey) (old : Option CoinPlace) → old ≡ hash.get (eq_by_cmp key_cmp) m k → IsPermutation (remove_entry (eq_by_cmp key_cmp k) m.entries) n.entries → vacancies n + vacancy_at old ≡ vacancies m
vacancies_taken m n k old is moved =
    ap (λ (v : ℕ). v + vacancy_at old) (sum_by_values_permutation vacancy (remove_entry (eq_by_cmp key_cmp k) m.entries) n.entries moved)
    ∙ ap (λ (o : Option CoinPlace). sum_by vacancy (values_of (remove_entry (eq_by_cmp key_cmp k) m.entries)) + vacancy_at o) is
    ∙ sum_by-remove_entry vacancy (eq_by_cmp key_cmp k) m.entries

few_keys : (es : List Entry) → length (vacant_keys es) ≤ length es
few_keys [] = omega arith
few_keys (e ∷ es) = elim (cases_Bool (eqb e.1.len 0)) [
  | inl t ↦ rw t (omega (arith, few_keys es))
  | inr f ↦ rw f (omega (arith, few_keys es))
]

pub vacancies_few : (m : Map) → vacancies m ≤ length m.entries
vacancies_few m = omega (arith, vacant_many m.entries, few_keys m.entries)

pub none_left : (m n : Map) → n.entries ≡ filter has_bytes m.entries → vacant_keys n.entries ≡ []
none_left m n is = ap vacant_keys is ∙ none_vacant m.entries

-- ---- entries in another order

pub same_entries : (m n : Map) → hash.IsReordered (eq_by_cmp key_cmp) m n → map_of n ≡ map_of m
same_entries m n moved = same_map outpoint_cmp_total outpoint_cmp-IsAntisymmetric (map_of n) (map_of m) (λ q.
    let k : IndexKey = record { outpoint = q } in
    get_is n k ∙ moved.2 k ∙ sym (get_is m k))

abbrev as_index : Map → ℕ → Salt → OpenIndex
as_index m vacant salt = record { places = map_of m; size = hash_map_len m; vacant = vacant; spare = spare m; salt = salt }

pub only_room : (m n : Map) (vacant : ℕ) (salt : Salt) (index : OpenIndex) → as_index m vacant salt ≡ index → hash.IsReordered (eq_by_cmp key_cmp) m n
    → as_index n vacant salt ≡ record { places = index.places; size = index.size; vacant = index.vacant; spare = spare n; salt = index.salt }
only_room m n vacant salt index view moved =
    let places : map_of n ≡ index.places = same_entries m n moved ∙ ap (λ (i : OpenIndex). i.places) view in
    let size : hash_map_len n ≡ index.size = moved.1 ∙ ap (λ (i : OpenIndex). i.size) view in
    let vacant_is : vacant ≡ index.vacant = ap (λ (i : OpenIndex). i.vacant) view in
    let salt_is : salt ≡ index.salt = ap (λ (i : OpenIndex). i.salt) view in
    (λ i. record { places = places i; size = size i; vacant = vacant_is i; spare = spare n; salt = salt_is i })
