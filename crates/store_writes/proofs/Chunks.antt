-- Headers that are stored in several payloads.
use Rattle.std.proofs.Common.{◌≡◌, ◌⊎◌, ⊎_elim, inl, inr, ℕ, zero, suc, ◌≤◌, ◌<◌, List, [], ◌∷◌, ◌++◌, length, take, drop, Option, Some, None, refl, sym, ap, subst, ◌∙◌, arith, le_refl, append-nil, append_assoc}
use Rattle.std.specs.Prelude.{min}
use Rattle.std.proofs.Math.ListN.{drop_of_length-le}
use Rattle.std.proofs.lemmas.Bool.{cases_lt}
use Rattle.std.proofs.lemmas.List.{take-append-drop, length-drop, take_all}
use Rattle.std.proofs.lemmas.Option.{none-some, same_Some}
use Rattle.disk_model.specs.Disk.{Image}
use Rattle.disk_model.proofs.Moments.{IsSinceEarlier}
use Rattle.base_types.specs.declared.refused.HeaderRefused.{HeaderRefused}
use Rattle.block_codec.specs.declared.block.Header.{Header}
use Rattle.block_store.specs.OpenStore.{OpenStore}
use Rattle.chain_model.specs.HeaderRules.{tree_with, with_header, header_broken, and_header, and_then}
use Rattle.chain_model.specs.Tree.{Tree}
use Rattle.coin_store.specs.declared.store.CoinStore.{CoinStore}
use Rattle.machine.specs.Calls.{IsCall}
use Rattle.machine.specs.State.{Event, HeadersStored, stored_by, header_events}
use Rattle.machine.proofs.Joining.{nothing_done, whole_both, whole_then}
use Rattle.machine.proofs.Telling.{more_events}
use Rattle.store_state.specs.State.{StoreState, first_rules}
use Rattle.store_writes.specs.OnDisk.{OnDisk}
use Rattle.store_writes.specs.Written.{SameFiles, Writes, WritesAll, WritesPart, WritesSome, events_call, with_tree}

-- ---- the files

pub same_files : (blocks : OpenStore) → SameFiles blocks blocks
same_files blocks = record { headers = record { file = refl; limit = refl }; bodies = record { file = refl; limit = refl } }

pub files_then : (old mid new : OpenStore) → SameFiles old mid → SameFiles mid new → SameFiles old new
files_then old mid new one two = record {
  headers = record { file = two.headers.file ∙ one.headers.file; limit = two.headers.limit ∙ one.headers.limit };
  bodies = record { file = two.bodies.file ∙ one.bodies.file; limit = two.bodies.limit ∙ one.bodies.limit };
}

-- ---- events

enough : (n m : ℕ) (xs : List Header) → length xs ≤ n → length xs ≤ m → stored_by n xs ≡ stored_by m xs
unfolding stored_by
enough zero zero xs a b = refl
enough zero (suc m) [] a b = refl
enough zero (suc m) (x ∷ xs) a b = absurd (omega (arith, a))
enough (suc n) zero [] a b = refl
enough (suc n) zero (x ∷ xs) a b = absurd (omega (arith, b))
enough (suc n) (suc m) [] a b = refl
enough (suc n) (suc m) (x ∷ xs) a b =
    let len = length-drop 1000 (x ∷ xs) in
    ap (λ (es : List Event). HeadersStored (take 1000 (x ∷ xs)) ∷ es) (enough n m (drop 1000 (x ∷ xs)) (omega (arith, a, len)) (omega (arith, b, len)))

no_events : header_events [] ≡ []
unfolding stored_by
no_events = refl

first_events : (xs : List Header) → 0 < length xs → header_events xs ≡ HeadersStored (take 1000 xs) ∷ header_events (drop 1000 xs)
unfolding stored_by
first_events [] some = absurd (omega (arith, some))
first_events (x ∷ xs) some =
    let len = length-drop 1000 (x ∷ xs) in
    ap (λ (es : List Event). HeadersStored (take 1000 (x ∷ xs)) ∷ es) (enough (length xs) (length (drop 1000 (x ∷ xs))) (drop 1000 (x ∷ xs)) (omega (arith, len)) (le_refl _))

-- the part of the headers that one payload takes
takes_first : (rest : List Header) (n : ℕ) → n ≡ min (length rest) 1000 → (take 1000 rest ≡ take n rest) × (drop 1000 rest ≡ drop n rest)
takes_first rest n is = ⊎_elim
    (λ (few : length rest ≤ 1000).
    let e : n ≡ length rest = omega (arith, is, few) in (
      take_all 1000 rest few ∙ sym (take_all n rest (let z : length rest ≤ n = omega (arith, e) in z)),
      drop_of_length-le rest few ∙ sym (drop_of_length-le rest (let z : length rest ≤ n = omega (arith, e) in z)),
    ))
    (λ (many : 1000 ≤ length rest).
    let e : 1000 ≡ n = omega (arith, is, many) in
    (ap (λ (k : ℕ). take k rest) e, ap (λ (k : ℕ). drop k rest) e))
    (either (length rest))
  where
    either : (k : ℕ) → (k ≤ 1000) ⊎ (1000 ≤ k)
    either k = ⊎_elim (λ less. inl (let z : k ≤ 1000 = omega (arith, less) in z)) (λ more. inr more) (cases_lt k 1000)

-- ---- trees

-- headers that are taken are taken in two parts
pub taken_parts : (limit : ℕ) (tree last : Tree) (xs ys : List Header) → tree_with limit tree (xs ++ ys) ≡ Some last → (middle : Tree) × (tree_with limit tree xs ≡ Some middle) × (tree_with limit middle ys ≡ Some last)
unfolding tree_with
taken_parts limit tree last [] ys e = (tree, refl, e)
taken_parts limit tree last (x ∷ xs) ys e = go (header_broken limit tree x) (taken_parts limit (with_header tree x) last xs ys) e
  where
    go : (broken : Option HeaderRefused) → (tree_with limit (with_header tree x) (xs ++ ys) ≡ Some last → (middle : Tree) × (tree_with limit (with_header tree x) xs ≡ Some middle) × (tree_with limit middle ys ≡ Some last))
        → and_then (and_header broken tree x) (λ next. tree_with limit next (xs ++ ys)) ≡ Some last
        → (middle : Tree) × (and_then (and_header broken tree x) (λ next. tree_with limit next xs) ≡ Some middle) × (tree_with limit middle ys ≡ Some last)
    go None rest e = rest e
    go (Some rule) rest e = absurd (none-some last e)

none_taken : (limit : ℕ) (tree last : Tree) → tree_with limit tree [] ≡ Some last → tree ≡ last
unfolding tree_with
none_taken limit tree last e = same_Some tree last e

same_some : {A : Type 0} (a : A) (o : Option A) (b : A) → o ≡ Some a → o ≡ Some b → a ≡ b
same_some a o b x y = cc

-- ---- how far the storing has come

-- the headers so far are stored, and the others can be
pub record SoFar (limit : ℕ) (past left : ℕ → Image → Type 0) (entered ended : ℕ) (before now : Option Image) (from : StoreState) (headers rest : List Header) (blocks : OpenStore) (coins : CoinStore) (last : Tree) : Type 0 where
  pub events : List Event
  pub to_come : header_events headers ≡ events ++ header_events rest
  pub tree : Tree
  pub grows : tree_with limit tree rest ≡ Some last
  pub all : WritesAll limit past left entered ended before now [] events from (with_tree tree from)
  pub files : OnDisk limit now (left ended) blocks coins (with_tree tree from)

module _ {D : Type 0} (time : D → ℕ) (left : D → ℕ → Image → Type 0) (contents : D → Option Image) (earlier : IsSinceEarlier time left) (limit : ℕ) (from : StoreState) (coins : CoinStore) (headers : List Header) (last : Tree) where
  pub so_far_none : (disk : D) (blocks : OpenStore) → OnDisk limit (contents disk) (left disk (time disk)) blocks coins from → tree_with limit from.tree headers ≡ Some last
      → SoFar limit (left disk) (left disk) (time disk) (time disk) (contents disk) (contents disk) from headers headers blocks coins last
  so_far_none disk blocks on grows = record {
    events = [];
    to_come = refl;
    tree = from.tree;
    grows = grows;
    all = record {
      contents = on.image;
      was = on.told;
      after = on.image;
      told = on.told;
      whole = nothing_done limit first_rules (left disk) (time disk) on.image from (λ t u c h k l. earlier disk t u c h k l) on.is_open;
    };
    files = on;
  }

  module _ (old mid new : D) (rest : List Header) (blocks : OpenStore) (n : ℕ) (count : n ≡ min (length rest) 1000) (some : 0 < length rest)
      (far : SoFar limit (left old) (left mid) (time old) (time mid) (contents old) (contents mid) from headers rest blocks coins last) where
    parts : rest ≡ take n rest ++ drop n rest
    parts = sym (take-append-drop n rest)

    pub next_tree : (middle : Tree) × (tree_with limit far.tree (take n rest) ≡ Some middle) × (tree_with limit middle (drop n rest) ≡ Some last)
    next_tree = taken_parts limit far.tree last (take n rest) (drop n rest) (ap (tree_with limit far.tree) (sym parts) ∙ far.grows)

    rest_events : header_events rest ≡ HeadersStored (take n rest) ∷ header_events (drop n rest)
    rest_events =
        let t = takes_first rest n count in
        first_events rest some ∙ ap (λ (l : List Header). HeadersStored l ∷ header_events (drop 1000 rest)) t.0 ∙ ap (λ (l : List Header). HeadersStored (take n rest) ∷ header_events l) t.1

    all_events : header_events headers ≡ (far.events ++ HeadersStored (take n rest) ∷ []) ++ header_events (drop n rest)
    all_events = far.to_come ∙ ap (λ (l : List Event). far.events ++ l) rest_events ∙ sym (append_assoc far.events (HeadersStored (take n rest) ∷ []) (header_events (drop n rest)))

    -- a stop within the payload
    pub so_far_stopped : WritesPart limit (left mid) (left new) (time mid) (time new) (contents mid) (contents new) [] (HeadersStored (take n rest)) (with_tree far.tree from)
        → WritesSome limit (left old) (left new) (time old) (time new) (contents old) (contents new) [] (header_events headers) from
    so_far_stopped part = record {
      contents = far.all.contents;
      was = far.all.was;
      after = part.after;
      told = part.told;
      meets = subst (λ (es : List Event). IsCall limit first_rules (left old) (left new) (events_call (time old) (time new) far.all.contents part.after [] es) from) (sym all_events)
          (more_events limit first_rules (left old) (left new) (events_call (time old) (time new) far.all.contents part.after [] (far.events ++ HeadersStored (take n rest) ∷ [])) (header_events (drop n rest)) from
          (whole_then limit first_rules (left old) (left mid) (left new) (events_call (time old) (time mid) far.all.contents far.all.after [] far.events) (events_call (time mid) (time new) part.contents part.after [] (HeadersStored (take n rest) ∷ [])) from (with_tree far.tree from)
          far.all.whole part.meets (record { time = refl; contents = same_some part.contents (contents mid) far.all.after part.was far.all.told })));
    }

    -- one payload more
    pub so_far_more : (after : OpenStore) (middle : Tree) → tree_with limit middle (drop n rest) ≡ Some last
        → Writes limit (left mid) (left new) (time mid) (time new) (contents mid) (contents new) [] (HeadersStored (take n rest)) (with_tree far.tree from) (with_tree middle from)
        → OnDisk limit (contents new) (left new (time new)) after coins (with_tree middle from)
        → SoFar limit (left old) (left new) (time old) (time new) (contents old) (contents new) from headers (drop n rest) after coins last
    so_far_more after middle grows writes files = record {
      events = far.events ++ HeadersStored (take n rest) ∷ [];
      to_come = all_events;
      tree = middle;
      grows = grows;
      all = record {
        contents = far.all.contents;
        was = far.all.was;
        after = writes.after;
        told = writes.told;
        whole = whole_both limit first_rules (left old) (left mid) (left new) (events_call (time old) (time mid) far.all.contents far.all.after [] far.events) (events_call (time mid) (time new) writes.contents writes.after [] (HeadersStored (take n rest) ∷ [])) from (with_tree far.tree from) (with_tree middle from)
            far.all.whole writes.whole (record { time = refl; contents = same_some writes.contents (contents mid) far.all.after writes.was far.all.told });
      };
      files = files;
    }

  -- no header is left
  pub so_far_all : (old new : D) (rest : List Header) (blocks : OpenStore) → length rest ≤ 0 → SoFar limit (left old) (left new) (time old) (time new) (contents old) (contents new) from headers rest blocks coins last
      → WritesAll limit (left old) (left new) (time old) (time new) (contents old) (contents new) [] (header_events headers) from (with_tree last from) × OnDisk limit (contents new) (left new (time new)) blocks coins (with_tree last from)
  so_far_all old new [] blocks none far =
      let events : far.events ≡ header_events headers = sym (far.to_come ∙ ap (λ (l : List Event). far.events ++ l) no_events ∙ append-nil far.events) in
      let tree : far.tree ≡ last = none_taken limit far.tree last far.grows in (
        subst (λ (t : Tree). WritesAll limit (left old) (left new) (time old) (time new) (contents old) (contents new) [] (header_events headers) from (with_tree t from)) tree
            (subst (λ (es : List Event). WritesAll limit (left old) (left new) (time old) (time new) (contents old) (contents new) [] es from (with_tree far.tree from)) events far.all),
        subst (λ (t : Tree). OnDisk limit (contents new) (left new (time new)) blocks coins (with_tree t from)) tree far.files,
      )
  so_far_all old new (x ∷ rest) blocks none far = absurd (omega (arith, none))
