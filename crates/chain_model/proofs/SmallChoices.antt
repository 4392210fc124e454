-- What is chosen among the blocks of small trees.
use Rattle.std.proofs.Common.{◌≡◌, ℕ, suc, List, [], ◌∷◌, length, Bool, true, false, cond, refl, ap, subst, ◌∙◌}
use Rattle.std.specs.declared.option.Option.TheVariants.{Some, None}
use Rattle.std.specs.FinMap.{get, insert, entries, empty, get-empty, get-insert}
use Rattle.base_types.specs.Coins.{Coins}
use Rattle.base_types.specs.declared.hash.OutPoint.{OutPoint}
use Rattle.base_types.specs.declared.coin.Coin.{Coin}
use Rattle.std.specs.FinMap as finite
use Rattle.std.specs.Map.{keys_of, lookup}
use Rattle.std.specs.BTreeMap.{is_at}
use Rattle.std.specs.List.Sorted.{IsStrictlySortedBy}
use Rattle.base_types.specs.Keys.{hash_cmp, outpoint_cmp}
use Rattle.base_types.proofs.KeyOrders.{hash_cmp_total, outpoint_cmp_total, outpoint_cmp-IsAntisymmetric, outpoint_ties, tied_same}
use Rattle.block_codec.specs.declared.block.Block.{Block}
use Rattle.block_codec.specs.declared.block.Header.{Header}
use Rattle.chain_model.proofs.Entries.{get_entries, entries_in_order, count_in_order}
use Rattle.base_types.specs.declared.hash.Hash32.{Hash32}
use Rattle.base_types.specs.declared.refused.CoinRefused.TheVariants.{CoinbaseAmount}
use Rattle.base_types.specs.declared.refused.HeaderRefused.TheVariants.{Known, NoParent, TreeFull}
use Rattle.block_codec.specs.Text.{is_coinbase}
use Rattle.chain_model.specs.HeaderRules.{header_broken, with_header, rounds, closure}
use Rattle.block_codec.specs.Genesis.{genesis, genesis_hash}
use Rattle.block_codec.specs.declared.block.Tx.{Tx}
use Rattle.chain_model.specs.Tree.{Tree, chain, chain_within}
use Rattle.chain_model.specs.Apply.{after_txs, replayed, spent_in, undo_of}
use Rattle.chain_model.specs.Choice.{candidates, best, tried, refusals, is_on_way, is_on_way_to, placed, ranked, tried_of, lowest_refused}
use Rattle.chain_model.specs.SmallChoices.{symbol, first, below, block_on, a, b, c, two_branches, their_bodies, choice_at, greedy, spending, one_satoshi, chained}
use Rattle.chain_model.proofs.GenesisHash.{genesis_is}
use Rattle.chain_model.proofs.SmallTrees.{at_genesis, above}

apart : (n : ℕ) → symbol n ≡ genesis_hash → ⊥
apart n is = let same : symbol n ≡ first = is ∙ genesis_is in let lengths = ap (λ (h : Hash32). length h.bytes) same in absurd cc

at_first : (n : ℕ) → chain_within (suc n) two_branches first ≡ first ∷ []
at_first n = subst (λ (h : Hash32). chain_within (suc n) two_branches h ≡ h ∷ []) genesis_is (at_genesis n two_branches)

-- ---- the tree and its bodies

abbrev headers_listed : List (Hash32 × Header)
headers_listed = (c, below b) ∷ (a, below first) ∷ (b, below first) ∷ (first, genesis) ∷ []

abbrev bodies_listed : List Tx → List (Hash32 × Block)
bodies_listed txs = (c, block_on b txs) ∷ (a, block_on first []) ∷ (b, block_on first []) ∷ []

headers_rise : IsStrictlySortedBy hash_cmp (keys_of headers_listed)
unfolding IsStrictlySortedBy
headers_rise = ((refl, (refl, (refl, tt))), ((refl, (refl, tt)), ((refl, tt), (tt, tt))))

members : entries two_branches ≡ headers_listed
members = entries_in_order hash_cmp hash_cmp_total headers_listed headers_rise

four : finite.len two_branches ≡ 4
four = count_in_order hash_cmp hash_cmp_total headers_listed headers_rise

header_at : (hash : Hash32) → get two_branches hash ≡ lookup (is_at (hash_cmp hash)) headers_listed
header_at hash = get_entries hash_cmp hash_cmp_total headers_listed hash

body_at : (txs : List Tx) (hash : Hash32) → get (their_bodies txs) hash ≡ lookup (is_at (hash_cmp hash)) (bodies_listed txs)
body_at txs hash = get_entries hash_cmp hash_cmp_total (bodies_listed txs) hash

-- ---- chains

chain_a : chain two_branches a ≡ a ∷ first ∷ []
chain_a =
    ap (λ (n : ℕ). chain_within n two_branches a) four
    ∙ above 3 two_branches a (below first) (apart 2) (header_at a) ∙ ap (λ (l : List Hash32). a ∷ l) (at_first 2)

chain_b : chain two_branches b ≡ b ∷ first ∷ []
chain_b =
    ap (λ (n : ℕ). chain_within n two_branches b) four
    ∙ above 3 two_branches b (below first) (apart 3) (header_at b) ∙ ap (λ (l : List Hash32). b ∷ l) (at_first 2)

chain_c : chain two_branches c ≡ c ∷ b ∷ first ∷ []
chain_c =
    ap (λ (n : ℕ). chain_within n two_branches c) four
    ∙ above 3 two_branches c (below b) (apart 1) (header_at c)
    ∙ ap (λ (l : List Hash32). c ∷ l) (above 2 two_branches b (below first) (apart 3) (header_at b) ∙ ap (λ (l : List Hash32). b ∷ l) (at_first 1))

chain_first : chain two_branches first ≡ first ∷ []
chain_first = ap (λ (n : ℕ). chain_within n two_branches first) four ∙ at_first 3

-- ---- what is chosen

pub in_order : candidates (choice_at first []) ≡ c ∷ a ∷ b ∷ []
unfolding placed ranked
in_order = simp (members, chain_a, chain_b, chain_c, chain_first, body_at [] a, body_at [] b, body_at [] c) refl

pub above_a : (txs : List Tx) → candidates (choice_at a txs) ≡ c ∷ []
unfolding placed ranked
above_a txs = simp (members, chain_a, chain_b, chain_c, chain_first, body_at txs b, body_at txs c) refl

above_c : candidates (choice_at c []) ≡ []
unfolding placed ranked
above_c = simp (members, chain_a, chain_b, chain_c, chain_first) refl

pub best_of_all : best (choice_at first []) ≡ c
unfolding replayed
best_of_all = simp (in_order, chain_c, body_at [] b, body_at [] c) refl

pub best_stays : best (choice_at c []) ≡ c
best_stays = simp above_c refl

-- ---- what is tried

pub tries_best : tried (choice_at a []) [] ≡ c ∷ []
unfolding tried_of lowest_refused
tries_best = ap (λ (hashes : List Hash32). (tried_of (choice_at a []) [] hashes).blocks) (above_a []) ∙ simp (chain_c, body_at [] b, body_at [] c) refl

pub refuses_none : refusals (choice_at a []) [] ≡ []
unfolding tried_of lowest_refused
refuses_none = ap (λ (hashes : List Hash32). (tried_of (choice_at a []) [] hashes).refusals) (above_a []) ∙ simp (chain_c, body_at [] b, body_at [] c) refl

pub way_from_fork : (is_on_way (choice_at a []) [] first ≡ true) × (is_on_way (choice_at a []) [] b ≡ true)
way_from_fork = (simp (tries_best, chain_a, chain_b, chain_c, chain_first) refl, simp (tries_best, chain_a, chain_b, chain_c, chain_first) refl)

pub stays_without_way : is_on_way (choice_at c []) [] c ≡ false
unfolding tried_of
stays_without_way = ap (λ (hashes : List Hash32). is_on_way_to (choice_at c []) (tried_of (choice_at c []) [] hashes).blocks c) above_c

none_there : (key : OutPoint) → get (empty {X = Coin} {R = outpoint_cmp}) key ≡ None
none_there key = get-empty outpoint_cmp key

pub best_is_refused : best (choice_at a greedy) ≡ a
unfolding replayed after_txs
best_is_refused = simp (above_a greedy, chain_c, body_at greedy b, body_at greedy c, none_there, chain_b) refl

pub tries_greedy : tried (choice_at a greedy) [] ≡ c ∷ []
unfolding tried_of lowest_refused after_txs
tries_greedy = ap (λ (hashes : List Hash32). (tried_of (choice_at a greedy) [] hashes).blocks) (above_a greedy) ∙ simp (chain_c, body_at greedy b, body_at greedy c, none_there, chain_b) refl

pub refuses_greedy : refusals (choice_at a greedy) [] ≡ record { hash = c; why = CoinbaseAmount } ∷ []
unfolding tried_of lowest_refused after_txs
refuses_greedy = ap (λ (hashes : List Hash32). (tried_of (choice_at a greedy) [] hashes).refusals) (above_a greedy) ∙ simp (chain_c, body_at greedy b, body_at greedy c, none_there, chain_b) refl

pub not_again : tried (choice_at a greedy) (c ∷ []) ≡ []
unfolding tried_of
not_again = ap (λ (hashes : List Hash32). (tried_of (choice_at a greedy) (c ∷ []) hashes).blocks) (above_a greedy) ∙ simp (chain_c) refl

-- ---- what a block spends

there_again : (coins : Coins) (key : OutPoint) (coin : Coin) → get (insert coins key coin) key ≡ Some coin
there_again coins key coin =
    get-insert outpoint_cmp_total coins key coin key
    ∙ ap (λ (same : Bool). cond same (Some coin) (get coins key)) (tied_same outpoint_cmp outpoint_ties outpoint_cmp-IsAntisymmetric key)

pub spent_in_block : (key : OutPoint) (coin : Coin) → undo_of (choice_at first []).tree (insert empty key coin) (block_on first (chained key)) ≡ (coin ∷ []) ∷ (record { value = 1; script = []; height = 1; coinbase = is_coinbase (spending key (one_satoshi ∷ [])) } ∷ []) ∷ []
unfolding spent_in
spent_in_block key coin = simp (chain_first, there_again) refl

-- ---- headers of a file

pub child_first : (limit : ℕ) (tree : Tree) (child parent : Header)
    → header_broken limit tree child ≡ Some NoParent → header_broken limit tree parent ≡ None
    → header_broken limit (with_header tree parent) child ≡ None → header_broken limit (with_header (with_header tree parent) child) parent ≡ Some Known
    → closure limit tree (child ∷ parent ∷ []) ≡ record { tree = with_header (with_header tree parent) child; added = parent ∷ child ∷ []; full = false }
unfolding rounds
child_first limit tree child parent orphan fine then_fine known = rw (orphan, fine, then_fine, known) refl

pub full_later : (limit : ℕ) (tree : Tree) (child parent : Header)
    → header_broken limit tree child ≡ Some NoParent → header_broken limit tree parent ≡ None → header_broken limit (with_header tree parent) child ≡ Some TreeFull
    → closure limit tree (child ∷ parent ∷ []) ≡ record { tree = with_header tree parent; added = parent ∷ []; full = true }
unfolding rounds
full_later limit tree child parent orphan fine full = rw (orphan, fine, full) refl

pub full_at_once : (limit : ℕ) (tree : Tree) (one two three : Header)
    → header_broken limit tree one ≡ None → header_broken limit (with_header tree one) two ≡ None → header_broken limit (with_header (with_header tree one) two) three ≡ Some TreeFull
    → closure limit tree (one ∷ two ∷ three ∷ []) ≡ record { tree = with_header (with_header tree one) two; added = one ∷ two ∷ []; full = true }
unfolding rounds
full_at_once limit tree one two three fine then_fine full = rw (fine, then_fine, full) refl
