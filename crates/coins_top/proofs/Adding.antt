-- One more block of a fold.
use Rattle.std.proofs.Common.{◌≡◌, ◌<◌, ◌+◌, ◌-◌, ℕ, suc, Bool, true, false, not, cond, List, [], ◌∷◌, ◌++◌, length, refl, sym, ap, ◌∙◌, arith}
use Rattle.std.specs.Prelude.{Option, Some, None, Result, Ok, Err, is_some, unwrap_or, slice_get}
use lib.Pointwise.{bytes_decides}
use Rattle.std.specs.Ordering.{is_eq}
use Rattle.std.specs.Cmp.{tied_itself}
use Rattle.std.specs.FinMap.{get, insert, contains_key, empty, get-insert}
use Rattle.std.proofs.lemmas.List.{length-append}
use Rattle.base_types.specs.Coins.{Coins}
use Rattle.base_types.specs.Keys.{hash_cmp}
use Rattle.base_types.proofs.KeyOrders.{hash_cmp_total}
use Rattle.base_types.specs.declared.hash.Hash32.{Hash32}
use Rattle.base_types.specs.declared.program.Rules.{Rules}
use Rattle.base_types.specs.declared.refused.HeaderRefused.{HeaderRefused}
use Rattle.base_types.specs.declared.refused.BodyRefused.{BodyRefused}
use Rattle.base_types.specs.declared.refused.CoinRefused.{CoinRefused}
use Rattle.block_codec.specs.declared.block.Block.{Block}
use Rattle.block_codec.specs.declared.block.Header.{Header}
use Rattle.block_codec.specs.Text.{hash_of_header, same_hash}
use Rattle.chain_model.specs.Apply.{outcome}
use Rattle.chain_model.specs.BodyRules.{body_broken, place_below}
use Rattle.chain_model.specs.Folding.{Folded, NotNext, BreaksHeader, BreaksBody, BreaksCoins, unless_header, unless_body, on_coins, with_block}
use Rattle.chain_model.specs.HeaderRules.{header_broken, with_header}
use Rattle.chain_model.specs.Tree.{Headers}
use Rattle.block_codec.specs.Genesis.{genesis, genesis_hash}
use Rattle.header_tree.specs.State.{State, first_state}
use Rattle.coins_top.specs.FoldState.{fold_state}
use Rattle.coins_top.specs.Folds.{EndsFold, HeaderEnds, BodyEnds, CoinsEnd}
use Rattle.coins_top.specs.declared.fold_end.FoldEnd.{FoldEnd}
use Rattle.coins_top.specs.declared.fold_end.FoldEnd.TheVariants.{NoMemory, Replied}

-- ---- a tree with one more header

pub known_there : (headers : Headers) (hash : Hash32) (header : Header) → get (insert headers hash header) hash ≡ Some header
known_there headers hash header = get-insert hash_cmp_total headers hash header hash ∙ ap (λ (b : Bool). cond b (Some header) (get headers hash)) (ap is_eq (tied_itself hash_cmp_total hash))

there : (b : Bool) (header : Header) (found : Option Header) → is_some found ≡ true → is_some (cond b (Some header) found) ≡ true
there true header found is = refl
there false header found is = is

pub still_known : (headers : Headers) (hash : Hash32) (header : Header) (other : Hash32) → contains_key headers other ≡ true → contains_key (insert headers hash header) other ≡ true
still_known headers hash header other is = ap is_some (get-insert hash_cmp_total headers hash header other) ∙ there _ header (get headers other) is

-- ---- the reasons to refuse a block, in their order

pub is_not_next : (limit : ℕ) (folded : Folded) (block : Block) → same_hash block.header.prev folded.tip ≡ false → with_block limit folded block ≡ Err (NotNext (hash_of_header block.header))
is_not_next limit folded block apart =
    let next = unless_header (hash_of_header block.header) (header_broken limit folded.tree block.header)
    (unless_body (hash_of_header block.header) (body_broken (place_below (with_header folded.tree block.header) block.header.prev) block)
    (on_coins folded (hash_of_header block.header) block (outcome (with_header folded.tree block.header) folded.coins block))) in
    ap (λ (b : Bool). cond (not b) (Err (NotNext (hash_of_header block.header))) next) apart

is_next : (limit : ℕ) (folded : Folded) (block : Block) → same_hash block.header.prev folded.tip ≡ true
    → with_block limit folded block ≡ unless_header (hash_of_header block.header) (header_broken limit folded.tree block.header)
    (unless_body (hash_of_header block.header) (body_broken (place_below (with_header folded.tree block.header) block.header.prev) block)
    (on_coins folded (hash_of_header block.header) block (outcome (with_header folded.tree block.header) folded.coins block)))
is_next limit folded block same =
    let next = unless_header (hash_of_header block.header) (header_broken limit folded.tree block.header)
    (unless_body (hash_of_header block.header) (body_broken (place_below (with_header folded.tree block.header) block.header.prev) block)
    (on_coins folded (hash_of_header block.header) block (outcome (with_header folded.tree block.header) folded.coins block))) in
    ap (λ (b : Bool). cond (not b) (Err (NotNext (hash_of_header block.header))) next) same

by_header : (limit : ℕ) (folded : Folded) (block : Block) (broken : Option HeaderRefused) → same_hash block.header.prev folded.tip ≡ true → header_broken limit folded.tree block.header ≡ broken
    → with_block limit folded block ≡ unless_header (hash_of_header block.header) broken
    (unless_body (hash_of_header block.header) (body_broken (place_below (with_header folded.tree block.header) block.header.prev) block)
    (on_coins folded (hash_of_header block.header) block (outcome (with_header folded.tree block.header) folded.coins block)))
by_header limit folded block broken same is =
    let next = unless_body (hash_of_header block.header) (body_broken (place_below (with_header folded.tree block.header) block.header.prev) block)
    (on_coins folded (hash_of_header block.header) block (outcome (with_header folded.tree block.header) folded.coins block)) in
    is_next limit folded block same ∙ ap (λ (o : Option HeaderRefused). unless_header (hash_of_header block.header) o next) is

by_body : (limit : ℕ) (folded : Folded) (block : Block) (broken : Option BodyRefused) → same_hash block.header.prev folded.tip ≡ true → header_broken limit folded.tree block.header ≡ None
    → body_broken (place_below (with_header folded.tree block.header) block.header.prev) block ≡ broken
    → with_block limit folded block ≡ unless_body (hash_of_header block.header) broken (on_coins folded (hash_of_header block.header) block (outcome (with_header folded.tree block.header) folded.coins block))
by_body limit folded block broken same fine is =
    let next = on_coins folded (hash_of_header block.header) block (outcome (with_header folded.tree block.header) folded.coins block) in
    by_header limit folded block None same fine ∙ ap (λ (o : Option BodyRefused). unless_body (hash_of_header block.header) o next) is

by_coins : (limit : ℕ) (folded : Folded) (block : Block) (result : Result Coins CoinRefused) → same_hash block.header.prev folded.tip ≡ true → header_broken limit folded.tree block.header ≡ None
    → body_broken (place_below (with_header folded.tree block.header) block.header.prev) block ≡ None → outcome (with_header folded.tree block.header) folded.coins block ≡ result
    → with_block limit folded block ≡ on_coins folded (hash_of_header block.header) block result
by_coins limit folded block result same fine sound is =
    by_body limit folded block None same fine sound ∙ ap (λ (r : Result Coins CoinRefused). on_coins folded (hash_of_header block.header) block r) is

-- ---- what the steps answer

-- a block that stands below the tip
abbrev IsChild : Block → Hash32 → Type 0
IsChild block tip = same_hash block.header.prev tip ≡ true

pub header_exit : (tree new : State) (coins : Coins) (tip : Hash32) (passed : ℕ) (block : Block) (ending : FoldEnd) → IsChild block tip
    → HeaderEnds tree block.header new (Err ending) → EndsFold (with_block tree.limit (fold_state tree coins tip passed).folded block) ending
header_exit tree new coins tip passed block NoMemory same ends = tt
header_exit tree new coins tip passed block (Replied reply) same ends =
    (BreaksHeader (hash_of_header block.header) ends.1.0, by_header tree.limit (fold_state tree coins tip passed).folded block (Some ends.1.0) same ends.1.1, ends.1.2)

pub body_exit : (tree new : State) (coins : Coins) (tip : Hash32) (passed : ℕ) (block : Block) (hash : Hash32) (ending : FoldEnd) → IsChild block tip
    → HeaderEnds tree block.header new (Ok hash) → BodyEnds {A = Unit {0}} (place_below new.tree block.header.prev) block (Err ending)
    → EndsFold (with_block tree.limit (fold_state tree coins tip passed).folded block) ending
body_exit tree new coins tip passed block hash NoMemory same header ends = tt
body_exit tree new coins tip passed block hash (Replied reply) same header ends =
    let broken = sym (ap (λ (s : State). body_broken (place_below s.tree block.header.prev) block) header.2) ∙ ends.1 in
    let refused = by_body tree.limit (fold_state tree coins tip passed).folded block (Some ends.0) same header.0 broken in
    (BreaksBody (hash_of_header block.header) ends.0, refused, ends.2)

pub coins_exit : (tree new : State) (coins after : Coins) (tip : Hash32) (passed : ℕ) (block : Block) (hash : Hash32) (ending : FoldEnd) → IsChild block tip
    → HeaderEnds tree block.header new (Ok hash) → body_broken (place_below new.tree block.header.prev) block ≡ None
    → CoinsEnd {A = Unit {0}} (outcome new.tree coins block) (hash_of_header block.header) after (Err ending)
    → EndsFold (with_block tree.limit (fold_state tree coins tip passed).folded block) ending
coins_exit tree new coins after tip passed block hash NoMemory same header sound ends = tt
coins_exit tree new coins after tip passed block hash (Replied reply) same header sound ends =
    let fine = sym (ap (λ (s : State). body_broken (place_below s.tree block.header.prev) block) header.2) ∙ sound in
    let broken = sym (ap (λ (s : State). outcome s.tree coins block) header.2) ∙ ends.1 in
    (BreaksCoins (hash_of_header block.header) ends.0, by_coins tree.limit (fold_state tree coins tip passed).folded block (Err ends.0) same header.0 fine broken, ends.2)

one_more : (order : List Hash32) (hash : Hash32) (passed : ℕ) → 0 < length order → suc (length order - 1 + passed) ≡ length (order ++ hash ∷ []) - 1 + passed
one_more order hash passed some = omega (arith, length-append order (hash ∷ []), some)

-- with one more block
pub added : (tree new : State) (coins after : Coins) (tip : Hash32) (passed : ℕ) (block : Block) (hash : Hash32) → 0 < length tree.order → IsChild block tip
    → HeaderEnds tree block.header new (Ok hash) → body_broken (place_below new.tree block.header.prev) block ≡ None
    → outcome new.tree coins block ≡ Ok after
    → with_block tree.limit (fold_state tree coins tip passed).folded block ≡ Ok (fold_state new after hash passed).folded
added tree new coins after tip passed block hash some same header sound applied =
    let next = hash_of_header block.header in
    let fine = sym (ap (λ (s : State). body_broken (place_below s.tree block.header.prev) block) header.2) ∙ sound in
    let coins_after = sym (ap (λ (s : State). outcome s.tree coins block) header.2) ∙ applied in
    by_coins tree.limit (fold_state tree coins tip passed).folded block (Ok after) same header.0 fine coins_after
    ∙ ap (λ (n : ℕ). Ok (record { frames = n; tip = next; tree = with_header tree.tree block.header; coins = after })) (one_more tree.order next passed some)
    ∙ ap (λ (s : State). Ok (fold_state s after next passed).folded) (sym header.2)
    ∙ ap (λ (h : Hash32). Ok (fold_state new after h passed).folded) (sym header.1)

-- ---- the tree after a header

pub parent_known : (tree new : State) (block : Block) (hash : Hash32) (tip : Hash32) → block.header.prev ≡ tip → contains_key tree.tree.headers tip ≡ true
    → HeaderEnds tree block.header new (Ok hash) → contains_key new.tree.headers block.header.prev ≡ true
parent_known tree new block hash tip same is header =
    ap (λ (s : State). contains_key s.tree.headers block.header.prev) header.2
    ∙ still_known tree.tree.headers (hash_of_header block.header) block.header block.header.prev (ap (contains_key tree.tree.headers) same ∙ is)

-- any hash of the tree is in it still
pub kept_known : (tree new : State) (block : Block) (hash other : Hash32) → contains_key tree.tree.headers other ≡ true → HeaderEnds tree block.header new (Ok hash) → contains_key new.tree.headers other ≡ true
kept_known tree new block hash other is header =
    ap (λ (s : State). contains_key s.tree.headers other) header.2 ∙ still_known tree.tree.headers (hash_of_header block.header) block.header other is

-- and the new one
pub new_known : (tree new : State) (block : Block) (hash : Hash32) → HeaderEnds tree block.header new (Ok hash) → get new.tree.headers (hash_of_header block.header) ≡ Some block.header
new_known tree new block hash header =
    ap (λ (s : State). get s.tree.headers (hash_of_header block.header)) header.2 ∙ known_there tree.tree.headers (hash_of_header block.header) block.header

pub new_there : (tree new : State) (block : Block) (hash : Hash32) → HeaderEnds tree block.header new (Ok hash) → contains_key new.tree.headers hash ≡ true
new_there tree new block hash header = ap (contains_key new.tree.headers) header.1 ∙ ap is_some (new_known tree new block hash header)

pub grown_order : (tree new : State) (block : Block) (hash : Hash32) → HeaderEnds tree block.header new (Ok hash) → 0 < length new.order
grown_order tree new block hash header =
    let len : length new.order ≡ length (tree.order ++ hash_of_header block.header ∷ []) = ap (λ (s : State). length s.order) header.2 in
    omega (arith, len, length-append tree.order (hash_of_header block.header ∷ []))

-- ---- equal hashes

pub same_hash-is : (a b : Hash32) → same_hash a b ≡ true → a ≡ b
same_hash-is a b is = ap (λ (bytes : List ℕ). let h : Hash32 = record { bytes = bytes } in h) ((bytes_decides a.bytes b.bytes).0 is)

pub same_hash-itself : (a : Hash32) → same_hash a a ≡ true
same_hash-itself a = (bytes_decides a.bytes a.bytes).1 refl

pub not_is : (a b : Bool) → a ≡ not b → a ≡ true → b ≡ false
not_is a true e is = sym is ∙ e
not_is a false e is = refl

pub not_not : (a b : Bool) → a ≡ not b → a ≡ false → b ≡ true
not_not a true e is = refl
not_not a false e is = sym is ∙ e

-- ---- the first tree

option_value : {A : Type 0} (a b : A) → Some a ≡ Some b → a ≡ b
option_value a b e = ap (λ (o : Option _). unwrap_or o a) e

pub first_there : (tree : State) (limit : ℕ) (rules : Rules) (tip : Hash32) → tree ≡ first_state limit rules → Some tip ≡ slice_get tree.order 0 → contains_key tree.tree.headers tip ≡ true
first_there tree limit rules tip first is =
    let named : tip ≡ genesis_hash = option_value tip genesis_hash (is ∙ ap (λ (s : State). slice_get s.order 0) first) in
    ap (λ (s : State). contains_key s.tree.headers tip) first
    ∙ ap (λ (h : Hash32). contains_key (insert {R = hash_cmp} empty genesis_hash genesis) h) named
    ∙ ap is_some (known_there empty genesis_hash genesis)

pub first_order : (tree : State) (limit : ℕ) (rules : Rules) → tree ≡ first_state limit rules → 0 < length tree.order
first_order tree limit rules first = let len : length tree.order ≡ 1 = ap (λ (s : State). length s.order) first in omega arith
