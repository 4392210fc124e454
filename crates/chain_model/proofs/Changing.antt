-- Coins after changes that are kept beside them.
use Rattle.std.proofs.Common.{◌≡◌, List, [], ◌∷◌, Option, Some, None, Bool, true, false, cond, T, refl, sym, ap, ◌∙◌}
use Rattle.std.specs.Prelude.{◌&&◌}
use Rattle.std.specs.declared.cmp.Ordering.{Ordering}
use Rattle.std.specs.declared.cmp.Ordering.TheVariants.{Less, Equal, Greater}
use Rattle.std.specs.Ordering.{eq_by_cmp, is_eq, is_lt}
use Rattle.std.specs.FinMap as finite
use Rattle.std.specs.FinMap.{get, find, insert, entries, entries_sorted, get-entries, get-insert, get-remove, same_map, is_sorted}
use Rattle.std.specs.FinMap.Entries.{below_all}
use Rattle.base_types.specs.Keys.{outpoint_cmp}
use Rattle.base_types.proofs.KeyOrders.{outpoint_cmp_total, outpoint_cmp-IsAntisymmetric}
use Rattle.base_types.specs.Coins.{Coins}
use Rattle.base_types.specs.declared.hash.OutPoint.{OutPoint}
use Rattle.base_types.specs.declared.coin.Coin.{Coin}
use Rattle.chain_model.specs.Changes.{Changes, changed, changed_by, with_changes}
use Rattle.chain_model.proofs.Entries.{none_empty}

-- what changes say of an outpoint, over what is below them
abbrev pub over : Option (Option Coin) → Option Coin → Option Coin
over None below = below
over (Some change) below = change

pub get-changed : (coins : Coins) (key : OutPoint) (change : Option Coin) (q : OutPoint) → get (changed coins key change) q ≡ cond (eq_by_cmp outpoint_cmp q key) change (get coins q)
get-changed coins key None q = get-remove outpoint_cmp_total coins key q
get-changed coins key (Some coin) q = get-insert outpoint_cmp_total coins key coin q

pub both_true : (a b : Bool) → T (a && b) → T a × T b
both_true true b t = (tt, t)
both_true false b t = absurd t

not_equal : (r : Ordering) → T (is_lt r) → is_eq r ≡ false
not_equal Less t = refl
not_equal Equal t = absurd t
not_equal Greater t = absurd t

-- a key below all others is none of them
pub absent : {X : Type 0} (key : OutPoint) (es : List (OutPoint × X)) → T (below_all outpoint_cmp key es) → find outpoint_cmp key es ≡ None
absent key [] below = refl
absent key (e ∷ es) below =
    let parts = both_true (is_lt (outpoint_cmp key e.0)) (below_all outpoint_cmp key es) below in
    ap (λ (b : Bool). cond b (Some e.1) (find outpoint_cmp key es)) (not_equal (outpoint_cmp key e.0) parts.0) ∙ absent key es parts.1

pub tied : (q key : OutPoint) → eq_by_cmp outpoint_cmp q key ≡ true → q ≡ key
tied q key e = outpoint_cmp-IsAntisymmetric q key (equal (outpoint_cmp q key) e)
  where
    equal : (r : Ordering) → is_eq r ≡ true → r ≡ Equal
    equal Less e = cc
    equal Equal e = refl
    equal Greater e = cc

get-changed_by : (coins : Coins) (es : List (OutPoint × Option Coin)) (q : OutPoint) → T (is_sorted outpoint_cmp es) → get (changed_by coins es) q ≡ over (find outpoint_cmp q es) (get coins q)
get-changed_by coins [] q rising = refl
get-changed_by coins (e ∷ es) q rising =
    let parts = both_true (below_all outpoint_cmp e.0 es) (is_sorted outpoint_cmp es) rising in
    get-changed_by (changed coins e.0 e.1) es q parts.1
    ∙ ap (λ (o : Option Coin). over (find outpoint_cmp q es) o) (get-changed coins e.0 e.1 q)
    ∙ at_test (eq_by_cmp outpoint_cmp q e.0) refl parts.0
  where
    at_test : (b : Bool) → eq_by_cmp outpoint_cmp q e.0 ≡ b → T (below_all outpoint_cmp e.0 es) → over (find outpoint_cmp q es) (cond b e.1 (get coins q)) ≡ over (cond b (Some e.1) (find outpoint_cmp q es)) (get coins q)
    at_test true t below = ap (λ (o : Option (Option Coin)). over o e.1) (ap (λ (k : OutPoint). find outpoint_cmp k es) (tied q e.0 t) ∙ absent e.0 es below)
    at_test false t below = refl

-- the coin of an outpoint after changes
pub get-with_changes : (changes : Changes) (coins : Coins) (q : OutPoint) → get (with_changes changes coins) q ≡ over (get changes q) (get coins q)
get-with_changes changes coins q =
    get-changed_by coins (entries changes) q (entries_sorted changes)
    ∙ ap (λ (o : Option (Option Coin)). over o (get coins q)) (sym (get-entries changes q))

-- one change more
pub with_one_more : (changes : Changes) (coins : Coins) (key : OutPoint) (change : Option Coin) → with_changes (insert changes key change) coins ≡ changed (with_changes changes coins) key change
with_one_more changes coins key change = same_map outpoint_cmp_total outpoint_cmp-IsAntisymmetric _ _ (λ q.
    get-with_changes (insert changes key change) coins q
    ∙ ap (λ (o : Option (Option Coin)). over o (get coins q)) (get-insert outpoint_cmp_total changes key change q)
    ∙ at_test (eq_by_cmp outpoint_cmp q key) (get changes q) (get coins q)
    ∙ ap (λ (o : Option Coin). cond (eq_by_cmp outpoint_cmp q key) change o) (sym (get-with_changes changes coins q))
    ∙ sym (get-changed (with_changes changes coins) key change q))
  where
    at_test : (b : Bool) (o : Option (Option Coin)) (below : Option Coin) → over (cond b (Some change) o) below ≡ cond b change (over o below)
    at_test true o below = refl
    at_test false o below = refl

-- no changes
pub with_none : (coins : Coins) → with_changes finite.empty coins ≡ coins
with_none coins = ap (λ (es : List (OutPoint × Option Coin)). changed_by coins es) (none_empty outpoint_cmp)
