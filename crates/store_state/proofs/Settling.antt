-- Settled stores stay settled as headers, bodies and batches are added.
use Rattle.std.proofs.Common.{◌≡◌, ◌≢◌, ◌⊎◌, inl, inr, ℕ, zero, suc, ◌||◌, Bool, true, false, List, [], ◌∷◌, ◌++◌, Option, Some, None, refl, sym, ap, ◌∙◌, arith}
use Rattle.std.specs.Prelude.{All, AllPairs, is_some}
use Rattle.std.specs.FinMap.{get, insert, empty, contains_key, get-empty}
use Rattle.std.specs.Option.{option_and_then}
use Rattle.std.specs.Result.{result_ok}
use Rattle.std.proofs.lemmas.Option.{same_Some, none-some}
use Rattle.std.proofs.lemmas.List.Elements.{All-nil, All-cons, All-head, All-tail, All-append}
use Rattle.std.proofs.lemmas.List.Kept.{AllPairs-cons}
use Rattle.base_types.specs.Coins.{Coins}
use Rattle.base_types.specs.Keys.{hash_cmp}
use Rattle.base_types.specs.declared.hash.Hash32.{Hash32}
use Rattle.block_codec.specs.Genesis.{genesis_hash}
use Rattle.block_codec.specs.Text.{same_hash}
use Rattle.block_codec.specs.declared.block.Block.{Block}
use Rattle.block_codec.specs.declared.block.Header.{Header}
use Rattle.block_store.specs.Bodies.{body_of}
use Rattle.chain_model.specs.Above.{IsAbove}
use Rattle.chain_model.specs.Apply.{replayed}
use Rattle.chain_model.specs.Choice.{Bodies, Choice, blocks_to, is_complete, coins_at, is_valid}
use Rattle.chain_model.specs.Growth.{Grows}
use Rattle.chain_model.specs.HeaderRules.{IsTree}
use Rattle.chain_model.specs.Tree.{Headers, Tree}
use Rattle.chain_model.proofs.Growth.{grows_self, same_body}
use Rattle.chain_model.proofs.Hashes.{get_same, get_other, get_kept, same_or_not, same_self, there}
use Rattle.chain_model.proofs.Replays.{HasMore, same_coins_at, same_valid}
use Rattle.chain_model.proofs.Trees.{IsRooted, is_rooted, above_known}
use Rattle.coin_store.specs.declared.marker.Marker.{Marker}
use Rattle.coin_store.specs.declared.marker.Marker.TheVariants.{At, Between}
use Rattle.store_state.specs.Settled.{IsSettled, IsBody, IsReplay}
use Rattle.store_state.specs.State.{StoreState, StoredBody, with_body, blocks_in, has_record, choice_of, tips_of}
use Rattle.store_state.proofs.Appending.{blocks_more}

-- ---- stored blocks

-- a block that was put under a hash, or one from before
put_or_kept : (blocks : Bodies) (key : Hash32) (new : Block) (hash : Hash32) (block : Block) → get (insert blocks key new) hash ≡ Some block → ((hash ≡ key) × (new ≡ block)) ⊎ (get blocks hash ≡ Some block)
put_or_kept blocks key new hash block found = go (same_or_not hash key)
  where
    go : (hash ≡ key) ⊎ (hash ≡ key → ⊥) → ((hash ≡ key) × (new ≡ block)) ⊎ (get blocks hash ≡ Some block)
    go (inl is) = inl (is, same_Some new block (sym (get_same blocks key new) ∙ ap (get (insert blocks key new)) (sym is) ∙ found))
    go (inr apart) = inr (sym (get_other blocks key new hash apart) ∙ found)

-- each stored block's header stands in the tree under the block's hash
abbrev Stand : Headers → Bodies → Type 0
Stand headers blocks = (hash : Hash32) (block : Block) → get blocks hash ≡ Some block → get headers hash ≡ Some block.header

stand_more : (tree : Tree) (blocks : Bodies) (body : StoredBody) → IsBody tree body → Stand tree.headers blocks → Stand tree.headers (with_body body.hash (body_of body.payload) blocks)
stand_more tree blocks body is stand hash block found = go (put_or_kept blocks body.hash is.block hash block (sym (ap (λ (o : Option Block). get (with_body body.hash o blocks) hash) is.is) ∙ found))
  where
    go : ((hash ≡ body.hash) × (is.block ≡ block)) ⊎ (get blocks hash ≡ Some block) → get tree.headers hash ≡ Some block.header
    go (inl same) = ap (get tree.headers) same.0 ∙ is.header ∙ ap (λ (b : Block). Some b.header) same.1
    go (inr kept) = stand hash block kept

stand_all : (tree : Tree) (bodies : List StoredBody) (blocks : Bodies) → All (IsBody tree) bodies → Stand tree.headers blocks → Stand tree.headers (blocks_in blocks bodies)
unfolding blocks_in
stand_all tree [] blocks all stand = stand
stand_all tree (body ∷ bodies) blocks all stand =
    stand_all tree bodies (with_body body.hash (body_of body.payload) blocks) (All-tail (IsBody tree) body bodies all) (stand_more tree blocks body (All-head (IsBody tree) body bodies all) stand)

pub blocks_stand : (tree : Tree) (bodies : List StoredBody) → All (IsBody tree) bodies → (hash : Hash32) (block : Block) → get (blocks_in empty bodies) hash ≡ Some block → get tree.headers hash ≡ Some block.header
blocks_stand tree bodies all = stand_all tree bodies empty all (λ hash block found. absurd (none-some block (sym (get-empty hash_cmp hash) ∙ found)))

-- no record carries the hash
abbrev pub NoRecord : List StoredBody → Hash32 → Type 0
NoRecord bodies hash = All (λ body. body.hash ≢ hash) bodies

pub no_record : (bodies : List StoredBody) (hash : Hash32) → has_record bodies hash ≡ false → NoRecord bodies hash
no_record [] hash none = All-nil (λ body. body.hash ≢ hash)
no_record (body ∷ bodies) hash none = go (λ rest. no_record bodies hash rest) (same_hash body.hash hash) refl none
  where
    go : (has_record bodies hash ≡ false → NoRecord bodies hash) → (b : Bool) → same_hash body.hash hash ≡ b → (b || has_record bodies hash) ≡ false → NoRecord (body ∷ bodies) hash
    go others true is rest = absurd cc
    go others false is rest =
        All-cons (λ body. body.hash ≢ hash) body bodies
        (λ same. let self : same_hash body.hash hash ≡ true = ap (same_hash body.hash) (sym same) ∙ same_self body.hash in absurd cc)
        (others rest)

none_there : (bodies : List StoredBody) (hash : Hash32) (blocks : Bodies) → NoRecord bodies hash → get blocks hash ≡ None → get (blocks_in blocks bodies) hash ≡ None
unfolding blocks_in
none_there [] hash blocks all none = none
none_there (body ∷ bodies) hash blocks all none =
    none_there bodies hash (with_body body.hash (body_of body.payload) blocks) (All-tail (λ body. body.hash ≢ hash) body bodies all) (go (body_of body.payload))
  where
    go : (o : Option Block) → get (with_body body.hash o blocks) hash ≡ None
    go None = none
    go (Some block) = get_other blocks body.hash block hash (λ same. All-head (λ body. body.hash ≢ hash) body bodies all (sym same)) ∙ none

pub no_block : (bodies : List StoredBody) (hash : Hash32) → has_record bodies hash ≡ false → get (blocks_in empty bodies) hash ≡ None
no_block bodies hash none = none_there bodies hash empty (no_record bodies hash none) (get-empty hash_cmp hash)

-- ---- what is complete

complete_of : (choice : Choice) (tip : Hash32) (coins : Coins) → coins_at choice tip ≡ Some coins → is_complete choice tip ≡ true
complete_of choice tip coins e = go (blocks_to choice tip) e
  where
    go : (o : Option (List Block)) → option_and_then (λ blocks. result_ok (replayed choice.tree choice.start_coins blocks)) o ≡ Some coins → is_some o ≡ true
    go None e = absurd (none-some coins e)
    go (Some blocks) e = refl

valid_complete : (choice : Choice) (tip : Hash32) → is_valid choice tip ≡ true → is_complete choice tip ≡ true
valid_complete choice tip valid = let coins = there (coins_at choice tip) valid in complete_of choice tip coins.0 coins.1

-- ---- a store with more

-- tips and rows that stand, over more headers and blocks
module _ (limit : ℕ) (old new : StoreState) (more : HasMore limit (choice_of old old.active) (choice_of new old.active)) where
  tip_stays : (tip : Hash32) → is_valid (choice_of old old.active) tip ≡ true → is_valid (choice_of new old.active) tip ≡ true
  tip_stays tip valid = same_valid limit (choice_of old old.active) (choice_of new old.active) more tip (valid_complete (choice_of old old.active) tip valid) ∙ valid

  tips_stay : (tips : List Hash32) → All (λ tip. is_valid (choice_of old old.active) tip ≡ true) tips → All (λ tip. is_valid (choice_of new old.active) tip ≡ true) tips
  tips_stay [] all = All-nil (λ tip. is_valid (choice_of new old.active) tip ≡ true)
  tips_stay (tip ∷ tips) all =
      All-cons (λ tip. is_valid (choice_of new old.active) tip ≡ true) tip tips
      (tip_stays tip (All-head (λ tip. is_valid (choice_of old old.active) tip ≡ true) tip tips all))
      (tips_stay tips (All-tail (λ tip. is_valid (choice_of old old.active) tip ≡ true) tip tips all))

  rows_stay : (marker : Marker) → IsReplay old old.active marker → IsReplay new old.active marker
  rows_stay (At tip) rows = same_coins_at limit (choice_of old old.active) (choice_of new old.active) more tip (complete_of (choice_of old old.active) tip old.active.coins rows) ∙ rows
  rows_stay (Between new_tip old_tip) rows = absurd rows

-- ---- headers

-- the parent of a block above genesis is a member
parent_known : (headers : Headers) → IsRooted headers → (hash : Hash32) (header : Header) → get headers hash ≡ Some header → hash ≢ genesis_hash → contains_key headers header.prev ≡ true
parent_known headers rooted hash header found above = let way = rooted.high hash header found in go way.0 way.1
  where
    go : (n : ℕ) → IsAbove headers n hash genesis_hash → contains_key headers header.prev ≡ true
    go zero way = absurd (above way)
    go (suc n) (other, step, way) =
        ap (λ (h : Header). contains_key headers h.prev) (same_Some header other (sym found ∙ step.found)) ∙ above_known headers rooted n other.prev way

bodies_stay : (limit : ℕ) (old new : Tree) → Grows limit old new → (bodies : List StoredBody) → All (IsBody old) bodies → All (IsBody new) bodies
bodies_stay limit old new grows [] all = All-nil (IsBody new)
bodies_stay limit old new grows (body ∷ bodies) all =
    let is = All-head (IsBody old) body bodies all in
    let parent = parent_known old.headers (is_rooted limit old grows.before) body.hash is.block.header is.header is.above in
    All-cons (IsBody new) body bodies
    (record {
      block = is.block;
      is = is.is;
      header = grows.kept body.hash is.block.header is.header;
      above = is.above;
      meets = same_body limit old new grows is.block parent ∙ is.meets;
    })
    (bodies_stay limit old new grows bodies (All-tail (IsBody old) body bodies all))

pub settled_with_headers : (limit : ℕ) (state : StoreState) (tree : Tree) → Grows limit state.tree tree → IsSettled state → IsSettled (record state { tree = tree })
settled_with_headers limit state tree grows settled =
    let new : StoreState = record state { tree = tree } in
    let more : HasMore limit (choice_of state state.active) (choice_of new state.active) = record {
      tree = grows;
      bodies = λ hash block found. found;
      stand = blocks_stand state.tree state.bodies settled.bodies;
      start = refl;
      coins = refl;
    } in
    record {
      bodies = bodies_stay limit state.tree tree grows state.bodies settled.bodies;
      distinct = settled.distinct;
      tips = tips_stay limit state new more (tips_of state.active.marker) settled.tips;
      rows = rows_stay limit state new more state.active.marker settled.rows;
    }

-- ---- a body

-- the hash of a record is none of those of others
abbrev Apart : StoredBody → StoredBody → Type 0
Apart a b = a.hash ≢ b.hash

apart_from_new : (first : StoredBody) (bodies : List StoredBody) (body : StoredBody) → AllPairs Apart (first ∷ bodies) → first.hash ≢ body.hash → All (Apart first) (bodies ++ body ∷ [])
apart_from_new first bodies body distinct new =
    All-append (Apart first) bodies (body ∷ []) (λ j d within. distinct 0 (suc j) d (omega arith) (omega (arith, within))) (All-cons (Apart first) body [] new (All-nil (Apart first)))

distinct_more : (bodies : List StoredBody) (body : StoredBody) → AllPairs Apart bodies → NoRecord bodies body.hash → AllPairs Apart (bodies ++ body ∷ [])
distinct_more [] body distinct new = AllPairs-cons Apart body [] (All-nil (Apart body)) (λ i j d less within. absurd (omega (arith, within)))
distinct_more (first ∷ bodies) body distinct new =
    AllPairs-cons Apart first (bodies ++ body ∷ [])
    (apart_from_new first bodies body distinct (All-head (λ one. one.hash ≢ body.hash) first bodies new))
    (distinct_more bodies body (λ i j d less within. distinct (suc i) (suc j) d (omega (arith, less)) (omega (arith, within))) (All-tail (λ one. one.hash ≢ body.hash) first bodies new))

-- the blocks with one more
pub blocks_with : (tree : Tree) (bodies : List StoredBody) (body : StoredBody) (is : IsBody tree body) → blocks_in empty (bodies ++ body ∷ []) ≡ insert (blocks_in empty bodies) body.hash is.block
blocks_with tree bodies body is = blocks_more empty bodies body ∙ ap (λ (o : Option Block). with_body body.hash o (blocks_in empty bodies)) is.is

pub settled_with_body : (limit : ℕ) (state : StoreState) (body : StoredBody) → IsTree limit state.tree → IsBody state.tree body → has_record state.bodies body.hash ≡ false → IsSettled state
    → IsSettled (record state { bodies = state.bodies ++ body ∷ [] })
settled_with_body limit state body tree is fresh settled =
    let new : StoreState = record state { bodies = state.bodies ++ body ∷ [] } in
    let none = no_block state.bodies body.hash fresh in
    let more : HasMore limit (choice_of state state.active) (choice_of new state.active) = record {
      tree = grows_self limit state.tree tree;
      bodies = λ hash block found.
          ap (λ (blocks : Bodies). get blocks hash) (blocks_with state.tree state.bodies body is) ∙ get_kept (blocks_in empty state.bodies) body.hash is.block hash block none found;
      stand = blocks_stand state.tree state.bodies settled.bodies;
      start = refl;
      coins = refl;
    } in
    record {
      bodies = All-append (IsBody state.tree) state.bodies (body ∷ []) settled.bodies (All-cons (IsBody state.tree) body [] is (All-nil (IsBody state.tree)));
      distinct = distinct_more state.bodies body settled.distinct (no_record state.bodies body.hash fresh);
      tips = tips_stay limit state new more (tips_of state.active.marker) settled.tips;
      rows = rows_stay limit state new more state.active.marker settled.rows;
    }

-- ---- a batch

-- with rows that are the replay to a tip
pub settled_at : (state : StoreState) (tip : Hash32) (coins : Coins) → coins_at (choice_of state state.active) tip ≡ Some coins → IsSettled state
    → IsSettled (record state { active = record state.active { marker = At tip; coins = coins } })
settled_at state tip coins replay settled = record {
  bodies = settled.bodies;
  distinct = settled.distinct;
  tips =
      All-cons (λ tip. is_valid (choice_of state state.active) tip ≡ true) tip [] (ap (λ (o : Option Coins). is_some o) replay)
      (All-nil (λ tip. is_valid (choice_of state state.active) tip ≡ true));
  rows = replay;
}
