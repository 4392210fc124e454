-- The laws of a dump.
use Rattle.std.specs.Prelude.{◌≡◌, ℕ, T, List, [], ◌∷◌, ◌++◌, length, map, bytes_eq, None, refl}
use Rattle.std.proofs.Common.{sym, ap, subst, ◌∙◌, arith, inl, inr}
use Rattle.std.specs.List.{flat_map, AllByRecursion}
use Rattle.std.specs.declared.cmp.Ordering.{Ordering}
use Rattle.std.specs.declared.cmp.Ordering.TheVariants.{Less, Equal, Greater}
use Rattle.std.specs.Ordering.{nat_cmp}
use Rattle.std.specs.Cmp.Lexicographic.{slice_cmp, nat_list_cmp_total}
use Rattle.std.specs.FinMap.{IsAntisymmetric, nat_cmp-IsAntisymmetric, slice_cmp-IsAntisymmetric, empty, entries, entries_sorted, entries-insert, len-entries, len-empty, from_entries, find, put, is_sorted, get-from_entries, get-entries}
use Rattle.std.specs.FinMap.Entries.{by_order, same_entries}
use Rattle.std.proofs.lemmas.Bool.{cases_Bool}
use Rattle.std.proofs.lemmas.Slice.Eq.{bytes_eq-Decides}
use Rattle.base_types.specs.Coins.{Coins}
use Rattle.base_types.specs.declared.hash.Hash32.{Hash32}
use Rattle.base_types.specs.declared.hash.OutPoint.{OutPoint}
use Rattle.base_types.specs.declared.coin.Coin.{Coin}
use Rattle.coin_codec.specs.KeyText.{key_text}
use Rattle.snapshot_file.specs.Text.{Group, head_text, group_head_text, group_text, member_text, entry_of, coins_of, GroupFits}
use Rattle.snapshot_file.specs.Dump.{with_keys, by_key, dump_coins, group_of_one, put_first, groups_of, dump_groups, dump_text, EntryFits, HasWholeTxid, InKeyOrder, SameCoins, IsDump}
use Rattle.snapshot_file.proofs.WholeFiles.{coins_cons}
use Rattle.snapshot_file.proofs.GroupLaws.{groups_some, groups_rise, groups_again}

abbrev Row : Type 0
Row = List ℕ × (OutPoint × Coin)

abbrev R : List ℕ → List ℕ → Ordering
R = slice_cmp nat_cmp

distinct : IsAntisymmetric R
distinct = slice_cmp-IsAntisymmetric nat_cmp-IsAntisymmetric

-- ---- rows by key

-- the key is that of the coin, of which this holds
abbrev IsRow : (OutPoint × Coin → Type 0) → Row → Type 0
IsRow P row = (row.0 ≡ key_text row.1.0) × P row.1

no_rows : entries (empty {X = OutPoint × Coin} {R = R}) ≡ []
no_rows = empty_list (entries (empty {X = OutPoint × Coin} {R = R})) (sym (len-entries (empty {X = OutPoint × Coin} {R = R})) ∙ len-empty R (OutPoint × Coin)) where
  empty_list : (rows : List Row) → length rows ≡ 0 → rows ≡ []
  empty_list [] e = refl
  empty_list (row ∷ rows) e = absurd (omega arith)

module _ (P : OutPoint × Coin → Type 0) where
  put_rows : (e : OutPoint × Coin) (rows : List Row) → P e → AllByRecursion (IsRow P) rows → AllByRecursion (IsRow P) (put R (key_text e.0) e rows)
  put_rows e [] p all = ((refl, p), tt)
  put_rows e (row ∷ rows) p all = go (put_rows e rows p all.1) (R (key_text e.0) row.0) refl where
    go : AllByRecursion (IsRow P) (put R (key_text e.0) e rows) → (o : Ordering) → R (key_text e.0) row.0 ≡ o → AllByRecursion (IsRow P) (by_order o ((key_text e.0, e) ∷ row ∷ rows) ((row.0, e) ∷ rows) (row ∷ put R (key_text e.0) e rows))
    go later Less is = ((refl, p), all)
    go later Equal is = ((sym (distinct (key_text e.0) row.0 is), p), all.1)
    go later Greater is = (all.0, later)

  rows_of : (es : List (OutPoint × Coin)) → AllByRecursion P es → AllByRecursion (IsRow P) (entries (from_entries {R = R} (with_keys es)))
  rows_of [] all = subst (λ (rows : List Row). AllByRecursion (IsRow P) rows) (sym no_rows) tt
  rows_of (e ∷ es) all = subst (λ (rows : List Row). AllByRecursion (IsRow P) rows) (sym (entries-insert nat_list_cmp_total (from_entries (with_keys es)) (key_text e.0) e)) (put_rows e (entries (from_entries {R = R} (with_keys es))) all.0 (rows_of es all.1))

keyed_rows : (P : OutPoint × Coin → Type 0) (rows : List Row) → AllByRecursion (IsRow P) rows → with_keys (map (λ row. row.1) rows) ≡ rows
keyed_rows P [] all i = []
keyed_rows P (row ∷ rows) all i = (sym all.0.0 i, row.1) ∷ keyed_rows P rows all.1 i

values_keep : (P : OutPoint × Coin → Type 0) (rows : List Row) → AllByRecursion (IsRow P) rows → AllByRecursion P (map (λ row. row.1) rows)
values_keep P [] all = tt
values_keep P (row ∷ rows) all = (all.0.1, values_keep P rows all.1)

abbrev Any : OutPoint × Coin → Type 0
Any e = Unit {0}

any_all : (es : List (OutPoint × Coin)) → AllByRecursion Any es
any_all [] = tt
any_all (e ∷ es) = (tt, any_all es)

dump_rows : (coins : Coins) → with_keys (dump_coins coins) ≡ entries (by_key coins)
unfolding dump_coins
dump_rows coins = keyed_rows Any (entries (by_key coins)) (rows_of Any (entries coins) (any_all (entries coins)))

dump_keeps : (P : OutPoint × Coin → Type 0) (coins : Coins) → AllByRecursion P (entries coins) → AllByRecursion P (dump_coins coins)
unfolding dump_coins
dump_keeps P coins all = values_keep P (entries (by_key coins)) (rows_of P (entries coins) all)

dump_ordered : (coins : Coins) → InKeyOrder (dump_coins coins)
dump_ordered coins = subst (λ (rows : List Row). T (is_sorted R rows)) (sym (dump_rows coins)) (entries_sorted (by_key coins))

dump_same : (coins : Coins) → SameCoins (dump_coins coins) (entries coins)
dump_same coins key = ap (λ (rows : List Row). find R key rows) (dump_rows coins) ∙ sym (get-entries (by_key coins) key) ∙ get-from_entries nat_list_cmp_total (with_keys (entries coins)) key

unkeyed : (es : List (OutPoint × Coin)) → map (λ (row : Row). row.1) (with_keys es) ≡ es
unkeyed [] = refl
unkeyed (e ∷ es) = ap (λ (l : List (OutPoint × Coin)). e ∷ l) (unkeyed es)

dump_only : (coins : Coins) (others : List (OutPoint × Coin)) → InKeyOrder others → SameCoins others (entries coins) → others ≡ dump_coins coins
dump_only coins others ordered same =
    let rows = same_entries R nat_list_cmp_total distinct (with_keys others) (with_keys (dump_coins coins)) ordered (dump_ordered coins) (λ key. same key ∙ sym (dump_same coins key)) in
    sym (unkeyed others) ∙ ap (λ (l : List Row). map (λ (row : Row). row.1) l) rows ∙ unkeyed (dump_coins coins)

-- ---- coins as groups

put_first_coins : (e : OutPoint × Coin) (groups : List Group) → coins_of (put_first e groups) ≡ e ∷ coins_of groups
unfolding coins_of
put_first_coins e [] = coins_cons None (group_of_one e) []
put_first_coins e (g ∷ gs) = elim (cases_Bool (bytes_eq e.0.txid.bytes g.txid.bytes)) [
  | inl t ↦
      let same : e.0.txid.bytes ≡ g.txid.bytes = (bytes_eq-Decides e.0.txid.bytes g.txid.bytes).0 t in
      let joined : Group = record { txid = g.txid; members = (e.0.index, e.1) ∷ g.members } in
      let key : entry_of g.txid (e.0.index, e.1) ≡ e = (λ i. (record { txid = record { bytes = sym same i }; index = e.0.index }, e.1)) in
      rw t (coins_cons None joined gs ∙ ap (λ (x : OutPoint × Coin). x ∷ map (entry_of g.txid) g.members ++ coins_of gs) key ∙ ap (λ (l : List (OutPoint × Coin)). e ∷ l) (sym (coins_cons None g gs)))
  | inr f ↦ rw f (coins_cons None (group_of_one e) (g ∷ gs))
]

groups_coins : (es : List (OutPoint × Coin)) → coins_of (groups_of es) ≡ es
unfolding coins_of groups_of
groups_coins [] = refl
groups_coins (e ∷ es) = put_first_coins e (groups_of es) ∙ ap (λ (l : List (OutPoint × Coin)). e ∷ l) (groups_coins es)

alone_fits : (e : OutPoint × Coin) → EntryFits e → GroupFits (group_of_one e)
alone_fits e fits = record { txid = fits.txid; some = omega arith; members = (record { index = fits.index; coin = fits.coin }, tt) }

put_first_fits : (e : OutPoint × Coin) (groups : List Group) → EntryFits e → AllByRecursion GroupFits groups → AllByRecursion GroupFits (put_first e groups)
put_first_fits e [] fits all = (alone_fits e fits, tt)
put_first_fits e (g ∷ gs) fits all = elim (cases_Bool (bytes_eq e.0.txid.bytes g.txid.bytes)) [
  | inl t ↦ rw t (record { txid = all.0.txid; some = omega arith; members = (record { index = fits.index; coin = fits.coin }, all.0.members) }, all.1)
  | inr f ↦ rw f (alone_fits e fits, all)
]

groups_fit : (es : List (OutPoint × Coin)) → AllByRecursion EntryFits es → AllByRecursion GroupFits (groups_of es)
unfolding groups_of
groups_fit [] all = tt
groups_fit (e ∷ es) all = put_first_fits e (groups_of es) all.0 (groups_fit es all.1)

-- ---- the file

each_group : (groups : List Group) → flat_map group_text groups ≡ flat_map (λ group. group_head_text group.txid (length group.members) ++ flat_map member_text group.members) groups
unfolding group_text
each_group groups = refl

pub is_dump : (base : Hash32) (coins : Coins) → IsDump base coins
unfolding dump_text
is_dump base coins = record {
  written = ap (λ (l : List ℕ). head_text base (length (dump_coins coins)) ++ l) (each_group (dump_groups coins));
  ordered = dump_ordered coins;
  same = dump_same coins;
  only = dump_only coins;
  grouped = groups_coins (dump_coins coins);
  members = groups_some (dump_coins coins);
  rising = λ whole. groups_rise (dump_coins coins) (dump_ordered coins) (dump_keeps HasWholeTxid coins whole);
  only_groups = λ others some rise are. sym (groups_again others some rise) ∙ ap groups_of are;
  snapshot = λ base_fits count_fits all. record {
    groups = dump_groups coins;
    fits = groups_fit (dump_coins coins) (dump_keeps EntryFits coins all);
    base_fits = base_fits;
    count_fits = count_fits;
    text = refl;
    are = sym (groups_coins (dump_coins coins));
  };
}
