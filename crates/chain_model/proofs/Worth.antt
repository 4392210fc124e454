-- The satoshis of all coins, through the steps of a block.
use Rattle.std.proofs.Common.{◌≡◌, ◌≤◌, ◌+◌, ℕ, suc, ◌||◌, List, [], ◌∷◌, Bool, true, false, cond, T, Option, Some, None, refl, sym, ap, ◌∙◌, arith}
use Rattle.std.specs.Prelude.{fold, filter, unwrap_or, option_map}
use Rattle.std.specs.declared.cmp.Ordering.{Ordering}
use Rattle.std.specs.declared.cmp.Ordering.TheVariants.{Less, Equal, Greater}
use Rattle.std.specs.Ordering.{is_lt, eq_by_cmp, match_ordering}
use Rattle.std.specs.Cmp.{eq_by_cmp_equiv}
use Rattle.std.specs.List.{list_any, AllByRecursion}
use Rattle.std.specs.List.Sorted.{IsStrictlySortedBy}
use Rattle.std.specs.Map.{keys_of, values_of}
use Rattle.std.specs.BTreeMap.{insert_entry}
use Rattle.std.specs.FinMap.{get, insert, remove, entries, entries_sorted, get-entries, get-insert, get-remove, entries-insert, same_map, is_sorted}
use Rattle.std.specs.FinMap.Entries.{put, by_order, below_all}
use Rattle.std.proofs.lemmas.Map.Entries.{sum_by-insert_entry}
use Rattle.std.proofs.lemmas.List.Sums.{sum_by-cons}
use Rattle.base_types.specs.Keys.{outpoint_cmp}
use Rattle.base_types.proofs.KeyOrders.{outpoint_cmp_total, outpoint_cmp-IsAntisymmetric}
use Rattle.base_types.specs.Coins.{Coins}
use Rattle.base_types.specs.declared.hash.Hash32.{Hash32}
use Rattle.base_types.specs.declared.hash.OutPoint.{OutPoint}
use Rattle.base_types.specs.declared.coin.Coin.{Coin}
use Rattle.base_types.specs.declared.coin.TxOut.{TxOut}
use Rattle.block_codec.specs.declared.block.TxIn.{TxIn}
use Rattle.block_codec.specs.declared.block.Tx.{Tx}
use Rattle.chain_model.specs.BodyRules.{same_outpoint, has_twin_inputs}
use Rattle.chain_model.specs.Coins.{is_spendable, output_value, numbered, coin_of, without, and_coins, spent_by, value_of_coins, value_of_outputs}
use Rattle.chain_model.specs.Laws.{value_of_all}
use Rattle.chain_model.proofs.OutPoints.{tied_outpoints}
use Rattle.chain_model.proofs.Changing.{both_true, tied}
use Rattle.chain_model.proofs.Entries.{find_lookup}

-- ---- one coin

chosen : {A : Type 0} (r : Ordering) (a b c d : A) → c ≡ d → by_order r a b c ≡ match_ordering r a b d
chosen Less a b c d e = refl
chosen Equal a b c d e = refl
chosen Greater a b c d e = e

put_entry : (key : OutPoint) (coin : Coin) (es : List (OutPoint × Coin)) → put outpoint_cmp key coin es ≡ insert_entry outpoint_cmp es key coin
put_entry key coin [] = refl
put_entry key coin (e ∷ es) = chosen (outpoint_cmp key e.0) ((key, coin) ∷ e ∷ es) ((e.0, coin) ∷ es) (e ∷ put outpoint_cmp key coin es) (e ∷ insert_entry outpoint_cmp es key coin) (ap (λ (rest : List (OutPoint × Coin)). e ∷ rest) (put_entry key coin es))

less : (r : Ordering) → T (is_lt r) → r ≡ Less
less Less t = refl
less Equal t = absurd t
less Greater t = absurd t

all_below : (key : OutPoint) (es : List (OutPoint × Coin)) → T (below_all outpoint_cmp key es) → AllByRecursion (λ other. outpoint_cmp key other ≡ Less) (keys_of es)
all_below key [] below = tt
all_below key (e ∷ es) below =
    let parts = both_true (is_lt (outpoint_cmp key e.0)) (below_all outpoint_cmp key es) below in
    (less (outpoint_cmp key e.0) parts.0, all_below key es parts.1)

rising : (es : List (OutPoint × Coin)) → T (is_sorted outpoint_cmp es) → IsStrictlySortedBy outpoint_cmp (keys_of es)
unfolding IsStrictlySortedBy
rising [] sorted = tt
rising (e ∷ es) sorted =
    let parts = both_true (below_all outpoint_cmp e.0 es) (is_sorted outpoint_cmp es) sorted in
    (all_below e.0 es parts.0, rising es parts.1)

-- the value of a coin, and 0 of none
abbrev pub worth : Option Coin → ℕ
worth o = unwrap_or (option_map (λ coin. coin.value) o) 0

pub worth_insert : (coins : Coins) (key : OutPoint) (coin : Coin) → value_of_all (insert coins key coin) + worth (get coins key) ≡ value_of_all coins + coin.value
worth_insert coins key coin =
    ap (λ (es : List (OutPoint × Coin)). value_of_coins (values_of es) + worth (get coins key)) (entries-insert outpoint_cmp_total coins key coin ∙ put_entry key coin (entries coins))
    ∙ ap (λ (o : Option Coin). value_of_coins (values_of (insert_entry outpoint_cmp (entries coins) key coin)) + worth o) (get-entries coins key ∙ find_lookup outpoint_cmp key (entries coins))
    ∙ sum_by-insert_entry (λ (c : Coin). c.value) outpoint_cmp_total (entries coins) key coin (rising (entries coins) (entries_sorted coins))

pub same_key : (key : OutPoint) → eq_by_cmp outpoint_cmp key key ≡ true
same_key key = (eq_by_cmp_equiv outpoint_cmp_total).refl key

nothing_taken : (coins : Coins) (key : OutPoint) → get coins key ≡ None → remove coins key ≡ coins
nothing_taken coins key missing = same_map outpoint_cmp_total outpoint_cmp-IsAntisymmetric (remove coins key) coins (λ q.
    get-remove outpoint_cmp_total coins key q ∙ at_test q (eq_by_cmp outpoint_cmp q key) refl)
  where
    at_test : (q : OutPoint) (b : Bool) → eq_by_cmp outpoint_cmp q key ≡ b → cond b None (get coins q) ≡ get coins q
    at_test q true e = sym (ap (λ (k : OutPoint). get coins k) (tied q key e) ∙ missing)
    at_test q false e = refl

put_back : (coins : Coins) (key : OutPoint) (coin : Coin) → get coins key ≡ Some coin → insert (remove coins key) key coin ≡ coins
put_back coins key coin found = same_map outpoint_cmp_total outpoint_cmp-IsAntisymmetric (insert (remove coins key) key coin) coins (λ q.
    get-insert outpoint_cmp_total (remove coins key) key coin q
    ∙ ap (λ (o : Option Coin). cond (eq_by_cmp outpoint_cmp q key) (Some coin) o) (get-remove outpoint_cmp_total coins key q)
    ∙ at_test q (eq_by_cmp outpoint_cmp q key) refl)
  where
    at_test : (q : OutPoint) (b : Bool) → eq_by_cmp outpoint_cmp q key ≡ b → cond b (Some coin) (cond b None (get coins q)) ≡ get coins q
    at_test q true e = sym (ap (λ (k : OutPoint). get coins k) (tied q key e) ∙ found)
    at_test q false e = refl

worth_remove : (coins : Coins) (key : OutPoint) (coin : Coin) → get coins key ≡ Some coin → value_of_all (remove coins key) + coin.value ≡ value_of_all coins
worth_remove coins key coin found =
    let gone : worth (get (remove coins key) key) ≡ 0 = ap worth (get-remove outpoint_cmp_total coins key key ∙ ap (λ (b : Bool). cond b None (get coins key)) (same_key key)) in
    let back : value_of_all (insert (remove coins key) key coin) ≡ value_of_all coins = ap (λ (all : Coins). value_of_all all) (put_back coins key coin found) in
    let step = worth_insert (remove coins key) key coin in
    omega (arith, gone, back, step)

-- ---- the inputs of a transaction

neither : (a b : Bool) → (a || b) ≡ false → (a ≡ false) × (b ≡ false)
neither true b e = absurd cc
neither false b e = (refl, e)

-- coins that other inputs spend stay when one is spent
pub still_there : (coins : Coins) (key : OutPoint) (inputs : List TxIn) → list_any (λ other. same_outpoint key other.prev) inputs ≡ false → spent_by (remove coins key) inputs ≡ spent_by coins inputs
still_there coins key [] e = refl
still_there coins key (input ∷ inputs) e =
    let p = neither (same_outpoint key input.prev) (list_any (λ other. same_outpoint key other.prev) inputs) e in
    ap (λ (o : Option Coin). and_coins o (spent_by (remove coins key) inputs))
    (get-remove outpoint_cmp_total coins key input.prev ∙ ap (λ (b : Bool). cond b None (get coins input.prev)) ((eq_by_cmp_equiv outpoint_cmp_total).symm input.prev key ∙ tied_outpoints key input.prev ∙ p.0))
    ∙ ap (λ (o : Option (List Coin)). and_coins (get coins input.prev) o) (still_there coins key inputs p.1)

-- the first coin and the others
pub both_there : (first : Option Coin) (others : Option (List Coin)) (spent : List Coin) → and_coins first others ≡ Some spent → (coin : Coin) × (rest : List Coin) × (first ≡ Some coin) × (others ≡ Some rest) × (coin ∷ rest ≡ spent)
both_there None others spent e = absurd cc
both_there (Some coin) None spent e = absurd cc
both_there (Some coin) (Some rest) spent e = (coin, rest, refl, refl, cc)

pub worth_spent : (inputs : List TxIn) (coins : Coins) (spent : List Coin) → has_twin_inputs inputs ≡ false → spent_by coins inputs ≡ Some spent → value_of_all (without inputs coins) + value_of_coins spent ≡ value_of_all coins
unfolding has_twin_inputs
worth_spent [] coins spent single found =
    let none : [] ≡ spent = cc in
    let zero : value_of_coins spent ≡ 0 = ap value_of_coins (sym none) in
    omega (arith, zero)
worth_spent (input ∷ inputs) coins spent single found =
    let p = neither (list_any (λ other. same_outpoint input.prev other.prev) inputs) (has_twin_inputs inputs) single in
    let parts = both_there (get coins input.prev) (spent_by coins inputs) spent found in
    let rest = worth_spent inputs (remove coins input.prev) parts.1 p.1 (still_there coins input.prev inputs p.0 ∙ parts.3) in
    let one = worth_remove coins input.prev parts.0 parts.2 in
    let sum : value_of_coins spent ≡ parts.0.value + value_of_coins parts.1 = ap value_of_coins (sym parts.4) ∙ sum_by-cons (λ (c : Coin). c.value) parts.0 parts.1 in
    omega (arith, rest, one, sum)

-- ---- the outputs of a transaction

abbrev entered : ℕ → Tx → Coins → List (OutPoint × TxOut) → Coins
entered at tx coins named = fold (λ all n. insert all n.0 (coin_of at tx n.1)) coins named

worth_entered : (at : ℕ) (tx : Tx) (txid : Hash32) (outputs : List TxOut) (i : ℕ) (coins : Coins) → value_of_all (entered at tx coins (filter (λ n. is_spendable n.1) (numbered txid i outputs))) ≤ value_of_all coins + value_of_outputs outputs
worth_entered at tx txid [] i coins = omega arith
worth_entered at tx txid (output ∷ outputs) i coins =
    go (λ (all : Coins). worth_entered at tx txid outputs (suc i) all) (sum_by-cons output_value output outputs) (is_spendable output)
  where
    go : ((all : Coins) → value_of_all (entered at tx all (filter (λ n. is_spendable n.1) (numbered txid (suc i) outputs))) ≤ value_of_all all + value_of_outputs outputs) → value_of_outputs (output ∷ outputs) ≡ output_value output + value_of_outputs outputs → (b : Bool) → value_of_all (entered at tx coins (cond b ((record { txid = txid; index = i }, output) ∷ filter (λ n. is_spendable n.1) (numbered txid (suc i) outputs)) (filter (λ n. is_spendable n.1) (numbered txid (suc i) outputs)))) ≤ value_of_all coins + value_of_outputs (output ∷ outputs)
    go rest sum true =
        let later = rest (insert coins (record { txid = txid; index = i }) (coin_of at tx output)) in
        let one : value_of_all (insert coins (record { txid = txid; index = i }) (coin_of at tx output)) + worth (get coins (record { txid = txid; index = i })) ≡ value_of_all coins + output_value output = worth_insert coins (record { txid = txid; index = i }) (coin_of at tx output) in
        omega (arith, sum, later, one)
    go rest sum false =
        let later = rest coins in
        omega (arith, sum, later)

pub worth_made : (at : ℕ) (tx : Tx) (txid : Hash32) (coins : Coins) → value_of_all (entered at tx coins (filter (λ n. is_spendable n.1) (numbered txid 0 tx.outputs))) ≤ value_of_all coins + value_of_outputs tx.outputs
worth_made at tx txid coins = worth_entered at tx txid tx.outputs 0 coins
