-- Dumps, computed.
use Rattle.std.specs.Prelude.{◌≡◌, ℕ, List, [], ◌∷◌, ◌++◌, length, map, refl}
use Rattle.std.proofs.Common.{sym, ap, ◌∙◌, arith, append-nil}
use Rattle.std.specs.declared.cmp.Ordering.{Ordering}
use Rattle.std.specs.Cmp.{IsTotalOrder}
use Rattle.std.specs.Ordering.{nat_cmp}
use Rattle.std.specs.Cmp.Lexicographic.{slice_cmp, nat_list_cmp_total}
use Rattle.std.specs.FinMap.{empty, entries, entries-insert, len-entries, len-empty, from_entries, put}
use Rattle.std.specs.List.{flat_map}
use Rattle.base_types.specs.Bytes.{number_text, compact, marked, varint}
use Rattle.base_types.specs.Coins.{Coins}
use Rattle.base_types.specs.Keys.{outpoint_cmp}
use Rattle.base_types.proofs.KeyOrders.{outpoint_cmp_total}
use Rattle.base_types.specs.declared.hash.OutPoint.{OutPoint}
use Rattle.base_types.specs.declared.coin.Coin.{Coin}
use Rattle.coin_codec.specs.Amount.{amount_code, code_of, tens, left}
use Rattle.coin_codec.specs.CoinText.{coin_text}
use Rattle.coin_codec.specs.KeyText.{key_text}
use Rattle.coin_codec.specs.ScriptForm.{script_form, short_form, between}
use Rattle.snapshot_file.specs.Dump.{with_keys, dump_coins, groups_of, dump_text}
use Rattle.snapshot_file.specs.Text.{Group, head_text, group_head_text, group_text, member_text}
use Rattle.snapshot_file.specs.Examples.{base, coin, small, small_coins, at_index, three_coins}

-- entries that are put in one by one, the last first
puts : {K X : Type 0} → (K → K → Ordering) → List (K × X) → List (K × X)
puts R [] = []
puts R (e ∷ es) = put R e.0 e.1 (puts R es)

none : {K X : Type 0} (R : K → K → Ordering) → entries (empty {X = X} {R = R}) ≡ []
none {X = X} R = no_entries (entries (empty {X = X} {R = R})) (sym (len-entries (empty {X = X} {R = R})) ∙ len-empty R X) where
  no_entries : {A : Type 0} (es : List A) → length es ≡ 0 → es ≡ []
  no_entries [] e = refl
  no_entries (x ∷ es) e = absurd (omega arith)

entries_puts : {K X : Type 0} (R : K → K → Ordering) → IsTotalOrder R → (es : List (K × X)) → entries (from_entries {R = R} es) ≡ puts R es
unfolding puts
entries_puts R total [] = none R
entries_puts R total (e ∷ es) = entries-insert total (from_entries {R = R} es) e.0 e.1 ∙ ap (λ l. put R e.0 e.1 l) (entries_puts R total es)

-- the coins in the order of their keys, where this is the order of their outpoints
by_puts : (coins : Coins) (es : List (OutPoint × Coin)) → entries coins ≡ es → dump_coins coins ≡ map (λ e. e.1) (puts (slice_cmp nat_cmp) (with_keys es))
unfolding dump_coins
by_puts coins es is =
    ap (λ (l : List (OutPoint × Coin)). map (λ e. e.1) (entries (from_entries {R = slice_cmp nat_cmp} (with_keys l)))) is ∙ ap (λ l. map (λ (e : List ℕ × (OutPoint × Coin)). e.1) l) (entries_puts (slice_cmp nat_cmp) nat_list_cmp_total (with_keys es))

pub order_of_three : dump_coins three_coins ≡ at_index 255 ∷ at_index 16_512 ∷ at_index 256 ∷ []
unfolding puts key_text varint marked
order_of_three = by_puts three_coins (at_index 255 ∷ at_index 256 ∷ at_index 16_512 ∷ []) (entries_puts outpoint_cmp outpoint_cmp_total (at_index 255 ∷ at_index 256 ∷ at_index 16_512 ∷ []))

pub one_is : dump_coins small_coins ≡ (coin.key, coin.coin) ∷ []
unfolding puts key_text varint marked
one_is = by_puts small_coins ((coin.key, coin.coin) ∷ []) (entries_puts outpoint_cmp outpoint_cmp_total ((coin.key, coin.coin) ∷ []))

abbrev one_group : Group
one_group = record { txid = coin.key.txid; members = (coin.key.index, coin.coin) ∷ [] }

text_of_one : head_text base 1 ++ group_text one_group ≡ small
unfolding head_text group_text group_head_text member_text coin_text script_form short_form between amount_code code_of tens left number_text compact varint marked
text_of_one = refl

pub small_dump : dump_text base small_coins ≡ small
unfolding dump_text groups_of
small_dump = ap (λ (es : List (OutPoint × Coin)). head_text base (length es) ++ flat_map group_text (groups_of es)) one_is ∙ ap (λ (text : List ℕ). head_text base 1 ++ text) (append-nil (group_text one_group)) ∙ text_of_one
