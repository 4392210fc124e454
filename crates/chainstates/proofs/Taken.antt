-- Headers and bodies that an open store takes.
use Rattle.std.proofs.Common.{◌≡◌, ℕ, zero, suc, ◌+◌, ◌-◌, ◌≤◌, Bool, true, false, List, [], ◌∷◌, length, length-append, Option, Some, None, refl, sym, ap, subst, ◌∙◌, arith, fold, cond}
use Rattle.std.specs.FinMap.{len}
use Rattle.std.proofs.lemmas.List.Sums.{fold-append}
use Rattle.disk_model.specs.Disk.{Image}
use Rattle.base_types.specs.declared.refused.HeaderRefused.{HeaderRefused}
use Rattle.base_types.specs.declared.refused.HeaderRefused.TheVariants.{Known, HighHash, NoParent, BadBits, TooOld, BadVersion, TreeFull}
use Rattle.block_codec.specs.Text.{hash_of_header}
use Rattle.block_codec.specs.declared.block.Header.{Header}
use Rattle.block_store.specs.OpenStore.{OpenStore}
use Rattle.chain_model.specs.Growth.{Grows}
use Rattle.chain_model.specs.HeaderRules.{Closed, IsTree, closed_after, closed_with, closure, header_broken, round, rounds, tree_with, with_header}
use Rattle.chain_model.specs.Tree.{Tree}
use Rattle.chain_model.proofs.Growth.{grows_by}
use Rattle.chain_model.proofs.Hashes.{len_new}
use Rattle.chain_model.proofs.Trees.{acceptable, grown_more}
use Rattle.chain_state.specs.Standing.{HasCoins, IsStanding}
use Rattle.chain_state.specs.declared.state.ChainState.{ChainState}
use Rattle.chain_state.specs.declared.state.Shared.{Shared}
use Rattle.chainstates.proofs.Carrying.{coins_with_headers}
use Rattle.chainstates.proofs.Pieces.{settled_on}
use Rattle.chainstates.proofs.TreeSteps.{none_taken}
use Rattle.chainstates.specs.Closing.{closed_of}
use Rattle.chainstates.specs.Offers.{HasTaken, HasTakenSome, Stands, closed_under}
use Rattle.chainstates.specs.declared.closing.Closing.{Closing}
use Rattle.chainstates.specs.declared.offers.Closure.{Closure}
use Rattle.chainstates.specs.declared.session.Session.{Session}
use Rattle.header_tree.specs.State.{State as HeldTree}
use Rattle.machine.specs.State.{State, header_events}
use Rattle.machine.specs.Steps.{with_headers}
use Rattle.store_state.specs.Settled.{IsSettled}
use Rattle.store_state.specs.State.{StoreState}
use Rattle.store_writes.specs.OnDisk.{OnDisk}
use Rattle.store_writes.specs.Written.{WritesAll, WritesSome, with_tree}

-- ---- the closure of a tree

-- the tree is what the added headers make of the first one, each of them without a broken rule
pub record IsGrown (limit : ℕ) (first : Tree) (closed : Closed) : Type 0 where
  pub taken : tree_with limit first closed.added ≡ Some closed.tree
  pub folded : closed.tree ≡ fold with_header first closed.added
  pub count : len closed.tree.headers ≡ len first.headers + length closed.added

module _ (limit : ℕ) (first : Tree) where
  with_one : (closed : Closed) (header : Header) → IsGrown limit first closed → (broken : Option HeaderRefused) → header_broken limit closed.tree header ≡ broken → IsGrown limit first (closed_with broken closed header)
  with_one closed header is None fine =
      let new = len_new closed.tree.headers (hash_of_header header) header (acceptable limit closed.tree header fine).fresh in
      let more = length-append closed.added (header ∷ []) in
      let before = is.count in
      record {
        taken = grown_more limit first closed.tree closed.added header is.taken fine;
        folded = ap (λ (t : Tree). with_header t header) is.folded ∙ sym (fold-append with_header first closed.added (header ∷ []));
        count = omega (arith, new, more, before);
      }
  with_one closed header is (Some TreeFull) broken = record { taken = is.taken; folded = is.folded; count = is.count }
  with_one closed header is (Some Known) broken = is
  with_one closed header is (Some HighHash) broken = is
  with_one closed header is (Some NoParent) broken = is
  with_one closed header is (Some BadBits) broken = is
  with_one closed header is (Some TooOld) broken = is
  with_one closed header is (Some BadVersion) broken = is

  after_one : (closed : Closed) (header : Header) → IsGrown limit first closed → IsGrown limit first (closed_after limit closed header)
  after_one closed header is = go closed.full
    where
      go : (b : Bool) → IsGrown limit first (cond b closed (closed_with (header_broken limit closed.tree header) closed header))
      go true = is
      go false = with_one closed header is (header_broken limit closed.tree header) refl

  after_round : (headers : List Header) (closed : Closed) → IsGrown limit first closed → IsGrown limit first (round limit headers closed)
  after_round [] closed is = is
  after_round (header ∷ headers) closed is = after_round headers (closed_after limit closed header) (after_one closed header is)

  after_rounds : (n : ℕ) (headers : List Header) (closed : Closed) → IsGrown limit first closed → IsGrown limit first (rounds limit n headers closed)
  unfolding rounds
  after_rounds zero headers closed is = is
  after_rounds (suc n) headers closed is = after_rounds n headers (round limit headers closed) (after_round headers closed is)

  pub closure_grown : (headers : List Header) → IsGrown limit first (closure limit first headers)
  closure_grown headers =
      after_rounds (length headers) headers (record { tree = first; added = []; full = false })
      (record { taken = none_taken limit first; folded = refl; count = omega arith })

-- no header goes
pub size_grows : (limit : ℕ) (first : Tree) (headers : List Header) (tree : HeldTree) (closing : Closing) → closed_of tree closing ≡ closure limit first headers → len first.headers ≤ len tree.tree.headers
size_grows limit first headers tree closing is =
    let grown = (closure_grown limit first headers).count in
    let same = ap (λ (c : Closed). len c.tree.headers) is in
    omega (arith, grown, same)

-- ---- an open store with more headers

module _ (limit : ℕ) (before : Option Image) (images : Image → Type 0) (shared : Shared) (chain : ChainState) (state : State) (store : StoreState) (stands : IsStanding limit before images shared chain state store) (settled : IsSettled store)
    (tree : Tree) (headers : List Header) (taken : tree_with limit state.tree headers ≡ Some tree) (folded : tree ≡ fold with_header state.tree headers) where
  pub taken_on : tree_with limit store.tree headers ≡ Some tree
  taken_on = ap (λ (t : Tree). tree_with limit t headers) (sym stands.tree) ∙ taken

  grows : Grows limit state.tree (fold with_header state.tree headers)
  grows = subst (Grows limit state.tree) folded (grows_by limit state.tree tree headers (subst (IsTree limit) (sym stands.tree) stands.grown) taken)

  pub stands_with_headers : (now : Option Image) (images_now : Image → Type 0) (new : Shared) → OnDisk limit now images_now new.blocks chain.store (with_tree tree store) → new.tree.tree ≡ tree → new.tree.limit ≡ shared.tree.limit
      → IsStanding limit now images_now new chain (with_headers state headers).state (with_tree tree store)
  stands_with_headers now images_now new files is most = record {
    files = files;
    headers = is;
    most = most ∙ stands.most;
    grown = subst (IsTree limit) (sym folded) grows.after;
    tree = sym folded;
    bodies = stands.bodies;
    start = stands.start;
    start_coins = stands.start_coins;
    kept = stands.kept;
    tip = stands.tip;
    begun = stands.begun;
    role = stands.role;
    coins = λ later.
        subst (λ (t : Tree). HasCoins chain (with_headers state headers).state (record store { tree = t })) (sym folded)
        (coins_with_headers limit state store stands.tree stands.bodies settled stands.grown (fold with_header state.tree headers) grows chain (stands.coins settled));
  }

-- ---- the headers of the closure

module _ (limit : ℕ) (past : ℕ → Image → Type 0) (entered : ℕ) (before : Option Image) (old : Session) (state : State) (store : StoreState) (stands : Stands limit before (past entered) old state store) (settled : IsSettled store)
    (headers : List Header) (closing : Closing) (tree : HeldTree) (is : closed_of tree closing ≡ closure old.shared.tree.limit old.shared.tree.tree headers) where
  same_closure : closed_of tree closing ≡ closed_under limit state headers
  same_closure = is ∙ ap (λ (n : ℕ). closure n old.shared.tree.tree headers) stands.most ∙ ap (λ (t : Tree). closure limit t headers) (stands.headers ∙ sym stands.tree)

  grown : IsGrown limit state.tree (closed_under limit state headers)
  grown = closure_grown limit state.tree headers

  same_added : closing.added ≡ (closed_under limit state headers).added
  same_added = ap (λ (c : Closed). c.added) same_closure

  same_tree : tree.tree ≡ (closed_under limit state headers).tree
  same_tree = ap (λ (c : Closed). c.tree) same_closure

  pub can_store : (added : List Header) → added ≡ closing.added → tree_with limit store.tree added ≡ Some (closed_under limit state headers).tree
  can_store added all =
      ap (tree_with limit store.tree) (all ∙ same_added)
      ∙ taken_on limit before (past entered) old.shared old.active state store stands settled (closed_under limit state headers).tree (closed_under limit state headers).added grown.taken grown.folded

  -- a first part of them
  pub taken_some : (left : ℕ → Image → Type 0) (ended : ℕ) (now : Option Image) (added : List Header) → added ≡ closing.added → WritesSome limit past left entered ended before now [] (header_events added) store
      → HasTakenSome limit past left entered ended before now state store headers
  taken_some left ended now added all writes =
      record { writes = subst (λ (l : List Header). WritesSome limit past left entered ended before now [] (header_events l) store) (all ∙ same_added) writes }

  pub taken_all : (left : ℕ → Image → Type 0) (ended : ℕ) (now : Option Image) (added : List Header) → added ≡ closing.added → (blocks : OpenStore) (answer : Closure) (size_before size_after : ℕ)
      → WritesAll limit past left entered ended before now [] (header_events added) store (with_tree (closed_under limit state headers).tree store)
      → OnDisk limit now (left ended) blocks old.active.store (with_tree (closed_under limit state headers).tree store) → tree.limit ≡ old.shared.tree.limit
      → size_before ≡ len old.shared.tree.tree.headers → size_after ≡ len tree.tree.headers → answer.added ≡ size_after - size_before → answer.tree_full ≡ closing.full
      → HasTaken limit past left entered ended before now (record { shared = record { tree = tree; blocks = blocks }; active = old.active }) state store headers answer
  taken_all left ended now added all blocks answer size_before size_after writes files most was is_now count full =
      let events = subst (λ (l : List Header). WritesAll limit past left entered ended before now [] (header_events l) store (with_tree (closed_under limit state headers).tree store)) (all ∙ same_added) writes in
      let first = was ∙ ap (λ (t : Tree). len t.headers) (stands.headers ∙ sym stands.tree) in
      let last = is_now ∙ ap (λ (t : Tree). len t.headers) same_tree in
      let more = grown.count in
      record {
        added = let e : size_after - size_before ≡ length (closed_under limit state headers).added = omega (arith, first, last, more) in count ∙ e;
        full = full ∙ ap (λ (c : Closed). c.full) same_closure;
        writes = events;
        settled = settled_on limit past left entered ended before now [] (header_events (closed_under limit state headers).added) store (with_tree (closed_under limit state headers).tree store) events stands.files.is_open.all settled;
        stands = stands_with_headers limit before (past entered) old.shared old.active state store stands settled (closed_under limit state headers).tree (closed_under limit state headers).added grown.taken grown.folded
            now (left ended) (record { tree = tree; blocks = blocks }) files same_tree most;
      }
