-- The groups of coins that stand in the order of their keys: one for each transaction.
use Rattle.std.specs.Prelude.{◌≡◌, ◌⊎◌, ℕ, ◌<◌, ◌&&◌, Bool, true, false, T, List, [], ◌∷◌, ◌++◌, length, map, bytes_eq, None, refl}
use Rattle.std.proofs.Common.{sym, ap, subst, ◌∙◌, arith, inl, inr}
use Rattle.std.specs.List.{AllByRecursion}
use Rattle.std.specs.List.Sorted.{IsStrictlySortedBy}
use Rattle.std.specs.declared.cmp.Ordering.{Ordering}
use Rattle.std.specs.declared.cmp.Ordering.TheVariants.{Less, Equal, Greater}
use Rattle.std.specs.Ordering.{nat_cmp, ordering_then, is_lt}
use Rattle.std.specs.Cmp.Lexicographic.{slice_cmp}
use Rattle.std.specs.FinMap.{nat_cmp-IsAntisymmetric, is_sorted}
use Rattle.std.specs.FinMap.Entries.{below_all}
use Rattle.std.proofs.lemmas.Bool.{cases_Bool}
use Rattle.std.proofs.lemmas.Slice.Eq.{bytes_eq-Decides}
use Rattle.base_types.specs.Bytes.{varint}
use Rattle.base_types.specs.Keys.{hash_cmp}
use Rattle.base_types.proofs.KeyOrders.{hash_cmp_total, hash_ties}
use Rattle.base_types.specs.declared.hash.Hash32.{Hash32}
use Rattle.base_types.specs.declared.hash.OutPoint.{OutPoint}
use Rattle.base_types.specs.declared.coin.Coin.{Coin}
use Rattle.coin_codec.specs.KeyText.{key_text}
use Rattle.snapshot_file.specs.Text.{Group, entry_of, coins_of}
use Rattle.snapshot_file.specs.Dump.{with_keys, group_of_one, put_first, groups_of, HasMembers, HasWholeTxid, InKeyOrder, TxidsRise}
use Rattle.snapshot_file.proofs.WholeFiles.{coins_cons}

abbrev Entry : Type 0
Entry = OutPoint × Coin

abbrev bytes_cmp : List ℕ → List ℕ → Ordering
bytes_cmp = slice_cmp nat_cmp

-- ---- every group has a coin

some_first : (e : Entry) (groups : List Group) → AllByRecursion HasMembers groups → AllByRecursion HasMembers (put_first e groups)
some_first e [] all = (omega arith, tt)
some_first e (g ∷ gs) all = elim (cases_Bool (bytes_eq e.0.txid.bytes g.txid.bytes)) [
  | inl t ↦ rw t (omega arith, all.1)
  | inr f ↦ rw f (omega arith, all)
]

pub groups_some : (es : List Entry) → AllByRecursion HasMembers (groups_of es)
unfolding groups_of
groups_some [] = tt
groups_some (e ∷ es) = some_first e (groups_of es) (groups_some es)

-- ---- a fact on hashes that holds of all coins holds of all groups

module _ (P : Hash32 → Type 0) where
  abbrev OfCoin : Entry → Type 0
  OfCoin e = P e.0.txid

  abbrev OfGroup : Group → Type 0
  OfGroup group = P group.txid

  holds_first : (e : Entry) (groups : List Group) → P e.0.txid → AllByRecursion OfGroup groups → AllByRecursion OfGroup (put_first e groups)
  holds_first e [] p all = (p, tt)
  holds_first e (g ∷ gs) p all = elim (cases_Bool (bytes_eq e.0.txid.bytes g.txid.bytes)) [
    | inl t ↦ rw t all
    | inr f ↦ rw f (p, all)
  ]

  holds : (es : List Entry) → AllByRecursion OfCoin es → AllByRecursion OfGroup (groups_of es)
  unfolding groups_of
  holds [] all = tt
  holds (e ∷ es) all = holds_first e (groups_of es) all.0 (holds es all.1)

-- ---- the order of keys is that of hashes first

-- not above: the same bytes, or below
abbrev UpTo : Hash32 → Hash32 → Type 0
UpTo a b = (a.bytes ≡ b.bytes) ⊎ (hash_cmp a b ≡ Less)

front_first : (s t x y : List ℕ) → length s ≡ length t → bytes_cmp (s ++ x) (t ++ y) ≡ Less → (s ≡ t) ⊎ (bytes_cmp s t ≡ Less)
front_first [] [] x y same less = inl refl
front_first [] (b ∷ t) x y same less = absurd (omega arith)
front_first (a ∷ s) [] x y same less = absurd (omega arith)
front_first (a ∷ s) (b ∷ t) x y same less = go (nat_cmp a b) refl less (front_first s t x y (omega arith)) where
  go : (o : Ordering) → nat_cmp a b ≡ o → ordering_then o (bytes_cmp (s ++ x) (t ++ y)) ≡ Less → (bytes_cmp (s ++ x) (t ++ y) ≡ Less → (s ≡ t) ⊎ (bytes_cmp s t ≡ Less)) → (a ∷ s ≡ b ∷ t) ⊎ (ordering_then (nat_cmp a b) (bytes_cmp s t) ≡ Less)
  go Less is less later = inr (ap (λ (o : Ordering). ordering_then o (bytes_cmp s t)) is)
  go Equal is less later =
      let first : a ≡ b = nat_cmp-IsAntisymmetric a b is in
      elim (later less) [
        | inl e ↦ inl (λ i. first i ∷ e i)
        | inr below ↦ inr (ap (λ (o : Ordering). ordering_then o (bytes_cmp s t)) is ∙ below)
      ]
  go Greater is less later = absurd cc

is_less : (o : Ordering) → T (is_lt o) → o ≡ Less
is_less Less t = refl
is_less Equal t = absurd t
is_less Greater t = absurd t

split : (a b : Bool) → T (a && b) → T a × T b
split true b t = (tt, t)
split false b t = absurd t

key_order : (a b : OutPoint) → length a.txid.bytes ≡ 32 → length b.txid.bytes ≡ 32 → bytes_cmp (key_text a) (key_text b) ≡ Less → UpTo a.txid b.txid
unfolding key_text
key_order a b first second less =
    front_first a.txid.bytes b.txid.bytes (varint a.index) (varint b.index) (first ∙ sym second) less

all_up : (e : Entry) (es : List Entry) → length e.0.txid.bytes ≡ 32 → AllByRecursion HasWholeTxid es → T (below_all bytes_cmp (key_text e.0) (with_keys es)) → AllByRecursion (λ other. UpTo e.0.txid other.0.txid) es
all_up e [] whole all below = tt
all_up e (other ∷ es) whole all below =
    let parts = split (is_lt (bytes_cmp (key_text e.0) (key_text other.0))) (below_all bytes_cmp (key_text e.0) (with_keys es)) below in
    (key_order e.0 other.0 whole all.0 (is_less _ parts.0), all_up e es whole all.1 parts.1)

-- ---- the groups rise

abbrev txids : List Group → List Hash32
txids groups = map (λ group. group.txid) groups

below_later : (a b : Hash32) → hash_cmp a b ≡ Less → (later : List Hash32) → AllByRecursion (λ c. hash_cmp b c ≡ Less) later → AllByRecursion (λ c. hash_cmp a c ≡ Less) later
below_later a b less [] all = tt
below_later a b less (c ∷ cs) all = (hash_cmp_total.trans a b c less all.0, below_later a b less cs all.1)

rise_first : (e : Entry) (groups : List Group) → AllByRecursion (λ group. UpTo e.0.txid group.txid) groups → TxidsRise groups → TxidsRise (put_first e groups)
unfolding IsStrictlySortedBy
rise_first e [] up rise = (tt, tt)
rise_first e (g ∷ gs) up rise = elim (cases_Bool (bytes_eq e.0.txid.bytes g.txid.bytes)) [
  | inl t ↦ rw t rise
  | inr f ↦ rw f (apart f up.0)
] where
  apart : bytes_eq e.0.txid.bytes g.txid.bytes ≡ false → UpTo e.0.txid g.txid → TxidsRise (group_of_one e ∷ g ∷ gs)
  apart f (inl same) =
      let t = (bytes_eq-Decides e.0.txid.bytes g.txid.bytes).1 same in
      absurd cc
  apart f (inr less) = ((less, below_later e.0.txid g.txid less (txids gs) rise.0), rise)

pub groups_rise : (es : List Entry) → InKeyOrder es → AllByRecursion HasWholeTxid es → TxidsRise (groups_of es)
unfolding groups_of IsStrictlySortedBy
groups_rise [] ordered whole = tt
groups_rise (e ∷ es) ordered whole =
    let parts = split (below_all bytes_cmp (key_text e.0) (with_keys es)) (is_sorted bytes_cmp (with_keys es)) ordered in
    rise_first e (groups_of es) (holds (UpTo e.0.txid) es (all_up e es whole.0 whole.1 parts.0)) (groups_rise es parts.1 whole.1)

-- ---- no other groups of the same coins rise

-- the first group is of another transaction
abbrev Apart : Hash32 → List Group → Type 0
Apart txid [] = Unit {0}
Apart txid (g ∷ gs) = bytes_eq txid.bytes g.txid.bytes ≡ false

same_bytes : (bs : List ℕ) → bytes_eq bs bs ≡ true
same_bytes bs = (bytes_eq-Decides bs bs).1 refl

one_group : (txid : Hash32) (m : ℕ × Coin) (ms : List (ℕ × Coin)) (es : List Entry) → Apart txid (groups_of es) → groups_of (map (entry_of txid) (m ∷ ms) ++ es) ≡ record { txid = txid; members = m ∷ ms } ∷ groups_of es
unfolding groups_of
one_group txid m [] es apart = begin_group (groups_of es) apart where
  begin_group : (groups : List Group) → Apart txid groups → put_first (entry_of txid m) groups ≡ record { txid = txid; members = m ∷ [] } ∷ groups
  begin_group [] apart = refl
  begin_group (g ∷ gs) apart = rw apart refl
one_group txid m (next ∷ ms) es apart =
    ap (λ (groups : List Group). put_first (entry_of txid m) groups) (one_group txid next ms es apart)
    ∙ rw (same_bytes txid.bytes) refl

differ : (a b : Hash32) → hash_cmp a b ≡ Less → bytes_eq a.bytes b.bytes ≡ false
differ a b less = elim (cases_Bool (bytes_eq a.bytes b.bytes)) [
  | inl t ↦
      let same : a.bytes ≡ b.bytes = (bytes_eq-Decides a.bytes b.bytes).0 t in
      let ties : Less ≡ Equal = sym less ∙ ap (λ (bs : List ℕ). bytes_cmp bs b.bytes) same ∙ hash_ties b in
      absurd cc
  | inr f ↦ f
]

first_apart : (g : Group) (groups : List Group) → TxidsRise (g ∷ groups) → Apart g.txid groups
unfolding IsStrictlySortedBy
first_apart g [] rise = tt
first_apart g (next ∷ groups) rise = differ g.txid next.txid rise.0.0

group_again : (txid : Hash32) (members : List (ℕ × Coin)) (groups : List Group) → 0 < length members → Apart txid groups → groups_of (coins_of groups) ≡ groups → groups_of (map (entry_of txid) members ++ coins_of groups) ≡ record { txid = txid; members = members } ∷ groups
group_again txid [] groups some apart later = absurd (omega arith)
group_again txid (m ∷ ms) groups some apart later =
    one_group txid m ms (coins_of groups) (subst (λ (gs : List Group). Apart txid gs) (sym later) apart)
    ∙ ap (λ (gs : List Group). record { txid = txid; members = m ∷ ms } ∷ gs) later

pub groups_again : (groups : List Group) → AllByRecursion HasMembers groups → TxidsRise groups → groups_of (coins_of groups) ≡ groups
unfolding groups_of coins_of IsStrictlySortedBy
groups_again [] some rise = refl
groups_again (g ∷ groups) some rise =
    ap groups_of (coins_cons None g groups)
    ∙ group_again g.txid g.members groups some.0 (first_apart g groups rise) (groups_again groups some.1 rise.1)
