-- What a choice says of a complete block stays as its tree and its stored blocks grow.
use Rattle.std.proofs.Common.{◌≡◌, ℕ, zero, suc, Bool, true, false, cond, not, ◌||◌, List, [], ◌∷◌, ◌++◌, refl, sym, ap, subst, ◌∙◌}
use Rattle.std.specs.Prelude.{is_some, take_while}
use Rattle.std.specs.declared.option.Option.{Option}
use Rattle.std.specs.declared.option.Option.TheVariants.{Some, None}
use Rattle.std.specs.declared.result.Result.{Result}
use Rattle.std.specs.Option.{option_and_then}
use Rattle.std.specs.Result.{result_ok}
use Rattle.std.specs.List.{AllByRecursion, list_any}
use Rattle.std.specs.FinMap.{get, contains_key}
use Rattle.std.specs.FinMap as finite
use Rattle.std.proofs.lemmas.Option.{same_Some, none-some}
use Rattle.std.proofs.lemmas.List.Sums.{take_while-cons}
use Rattle.base_types.specs.Coins.{Coins}
use Rattle.base_types.specs.declared.hash.Hash32.{Hash32}
use Rattle.base_types.specs.declared.refused.CoinRefused.{CoinRefused}
use Rattle.block_codec.specs.declared.block.Block.{Block}
use Rattle.block_codec.specs.declared.block.Header.{Header}
use Rattle.block_codec.specs.Text.{same_hash}
use Rattle.chain_model.specs.Above.{IsAbove}
use Rattle.chain_model.specs.Growth.{Grows}
use Rattle.chain_model.specs.Tree.{Headers, chain, path}
use Rattle.block_codec.specs.Genesis.{genesis, genesis_hash}
use Rattle.chain_model.specs.Apply.{outcome, replayed}
use Rattle.chain_model.specs.Choice.{Bodies, Choice, RefusedAt, and_block, blocks_of, is_at_or_below, blocks_to, is_complete, coins_at, is_valid, refused_or, lowest_refused, refused_below}
use Rattle.chain_model.proofs.Chains.{line, whole_line, chain_none}
use Rattle.chain_model.proofs.Hashes.{same_self, same_true, absent, there}
use Rattle.chain_model.proofs.Trees.{IsRooted, is_rooted, above_known}
use Rattle.chain_model.proofs.Growth.{all_turned, same_chain, same_path, same_outcome, same_replay}

-- ---- the blocks of a path

-- a member with its header, whose parent is a member
pub record IsChildOfMember (headers : Headers) (hash : Hash32) : Type 0 where
  pub header : Header
  pub found : get headers hash ≡ Some header
  pub parent : contains_key headers header.prev ≡ true

goes_on : (test : Hash32 → Bool) (hash : Hash32) (hashes : List Hash32) → test hash ≡ true → take_while test (hash ∷ hashes) ≡ hash ∷ take_while test hashes
goes_on test hash hashes passes = take_while-cons test hash hashes ∙ ap (λ (b : Bool). cond b (hash ∷ take_while test hashes) []) passes

stops : (test : Hash32 → Bool) (hash : Hash32) (hashes : List Hash32) → test hash ≡ false → take_while test (hash ∷ hashes) ≡ []
stops test hash hashes fails = rw fails refl

abbrev is_other : Hash32 → Hash32 → Bool
is_other start hash = not (same_hash hash start)

any_rest : (start hash : Hash32) (hashes : List Hash32) → same_hash hash start ≡ false → list_any (same_hash start) (hash ∷ hashes) ≡ true → list_any (same_hash start) hashes ≡ true
any_rest start hash hashes apart on = go (same_hash start hash) refl on
  where
    go : (b : Bool) → same_hash start hash ≡ b → (b || list_any (same_hash start) hashes) ≡ true → list_any (same_hash start) hashes ≡ true
    go true is on =
        let same : start ≡ hash = same_true start hash is in
        let self : same_hash hash start ≡ true = subst (λ (h : Hash32). same_hash hash h ≡ true) (sym same) (same_self hash) in
        cc
    go false is on = on

-- one block more
one_more : (headers : Headers) (start hash : Hash32) (rest : List Hash32) → IsChildOfMember headers hash → list_any (same_hash start) (hash ∷ rest) ≡ true
    → (list_any (same_hash start) rest ≡ true → AllByRecursion (IsChildOfMember headers) (take_while (is_other start) rest)) → AllByRecursion (IsChildOfMember headers) (take_while (is_other start) (hash ∷ rest))
one_more headers start hash rest child on later = go (same_hash hash start) refl
  where
    go : (b : Bool) → same_hash hash start ≡ b → AllByRecursion (IsChildOfMember headers) (take_while (is_other start) (hash ∷ rest))
    go true is = subst (AllByRecursion (IsChildOfMember headers)) (sym (stops (is_other start) hash rest (ap not is))) tt
    go false is = subst (AllByRecursion (IsChildOfMember headers)) (sym (goes_on (is_other start) hash rest (ap not is))) (child, later (any_rest start hash rest is on))

-- the blocks of a way down that come before another block of it have parents
above_start : (headers : Headers) → IsRooted headers → (start : Hash32) (n : ℕ) (hash : Hash32) (way : IsAbove headers n hash genesis_hash)
    → list_any (same_hash start) (line headers n hash genesis_hash way ++ genesis_hash ∷ []) ≡ true
    → AllByRecursion (IsChildOfMember headers) (take_while (is_other start) (line headers n hash genesis_hash way ++ genesis_hash ∷ []))
above_start headers rooted start zero hash way on = at_first (same_hash start genesis_hash) refl on
  where
    at_first : (b : Bool) → same_hash start genesis_hash ≡ b → (b || false) ≡ true → AllByRecursion (IsChildOfMember headers) (take_while (is_other start) (genesis_hash ∷ []))
    at_first true is on =
        let same = same_true start genesis_hash is in
        let none = stops (is_other start) genesis_hash [] (ap (λ (h : Hash32). not (same_hash genesis_hash h)) same ∙ ap not (same_self genesis_hash)) in
        subst (AllByRecursion (IsChildOfMember headers)) (sym none) tt
    at_first false is on = absurd cc
above_start headers rooted start (suc n) hash (header, step, way) on =
    one_more headers start hash (line headers n header.prev genesis_hash way ++ genesis_hash ∷ [])
    (record { header = header; found = step.found; parent = above_known headers rooted n header.prev way }) on (above_start headers rooted start n header.prev way)

pub path_known : (headers : Headers) → IsRooted headers → (start hash : Hash32) → contains_key headers hash ≡ true → is_at_or_below headers start hash ≡ true → AllByRecursion (IsChildOfMember headers) (path headers start hash)
path_known headers rooted start hash known on =
    let header = there (get headers hash) known in
    let way = rooted.high hash header.0 header.1 in
    let whole = whole_line headers way.0 (finite.len headers) hash way.1 way.2 in
    all_turned (IsChildOfMember headers) (take_while (is_other start) (chain headers hash))
    (subst (λ (hashes : List Hash32). AllByRecursion (IsChildOfMember headers) (take_while (is_other start) hashes)) (sym whole)
    (above_start headers rooted start way.0 hash way.1 (ap (list_any (same_hash start)) (sym whole) ∙ on)))

-- a block with another on its chain is a member
pub on_chain_known : (headers : Headers) → IsRooted headers → (start hash : Hash32) → is_at_or_below headers start hash ≡ true → contains_key headers hash ≡ true
on_chain_known headers rooted start hash on = go (contains_key headers hash) refl
  where
    go : (b : Bool) → contains_key headers hash ≡ b → contains_key headers hash ≡ true
    go true is = is
    go false is =
        let missing = absent (get headers hash) is in
        let nothing = chain_none headers hash (λ same. none-some genesis (sym missing ∙ ap (get headers) same ∙ rooted.first)) missing in
        let none = ap (list_any (same_hash start)) nothing in
        absurd cc

-- ---- stored blocks

-- each stored block's header stands in the tree under the block's hash
abbrev pub BodiesStand : Headers → Bodies → Type 0
BodiesStand headers bodies = (hash : Hash32) (block : Block) → get bodies hash ≡ Some block → get headers hash ≡ Some block.header

-- a stored block and others
pub first_and_rest : (first : Option Block) (others : Option (List Block)) (blocks : List Block) → and_block first others ≡ Some blocks → (block : Block) × (rest : List Block) × (first ≡ Some block) × (others ≡ Some rest) × (block ∷ rest ≡ blocks)
first_and_rest None others blocks e = absurd cc
first_and_rest (Some block) None blocks e = absurd cc
first_and_rest (Some block) (Some rest) blocks e = (block, rest, refl, refl, cc)

parents_known : (headers : Headers) (bodies : Bodies) → BodiesStand headers bodies → (hashes : List Hash32) (blocks : List Block) → AllByRecursion (IsChildOfMember headers) hashes → blocks_of bodies hashes ≡ Some blocks
    → AllByRecursion (λ block. contains_key headers block.header.prev ≡ true) blocks
parents_known headers bodies stand [] blocks all e = let none : [] ≡ blocks = cc in subst (AllByRecursion (λ block. contains_key headers block.header.prev ≡ true)) none tt
parents_known headers bodies stand (hash ∷ hashes) blocks all e =
    let parts = first_and_rest (get bodies hash) (blocks_of bodies hashes) blocks e in
    let child = all.0 in
    let same = same_Some child.header parts.0.header (sym child.found ∙ stand hash parts.0 parts.2) in
    subst (AllByRecursion (λ block. contains_key headers block.header.prev ≡ true)) parts.4
    (ap (λ (header : Header). contains_key headers header.prev) (sym same) ∙ child.parent, parents_known headers bodies stand hashes parts.1 all.1 parts.3)

blocks_stay : (old new : Bodies) → ((hash : Hash32) (block : Block) → get old hash ≡ Some block → get new hash ≡ Some block) → (hashes : List Hash32) (blocks : List Block) → blocks_of old hashes ≡ Some blocks → blocks_of new hashes ≡ Some blocks
blocks_stay old new kept [] blocks e = e
blocks_stay old new kept (hash ∷ hashes) blocks e =
    let parts = first_and_rest (get old hash) (blocks_of old hashes) blocks e in
    ap (λ (o : Option Block). and_block o (blocks_of new hashes)) (kept hash parts.0 parts.2)
    ∙ ap (λ (o : Option (List Block)). and_block (Some parts.0) o) (blocks_stay old new kept hashes parts.1 parts.3)
    ∙ ap (λ (all : List Block). Some all) parts.4

-- ---- choices that grow

-- a choice with more headers, and more stored blocks
pub record HasMore (limit : ℕ) (old new : Choice) : Type 0 where
  pub tree : Grows limit old.tree new.tree
  pub bodies : (hash : Hash32) (block : Block) → get old.bodies hash ≡ Some block → get new.bodies hash ≡ Some block
  pub stand : BodiesStand old.tree.headers old.bodies
  pub start : new.start ≡ old.start
  pub coins : new.start_coins ≡ old.start_coins

module _ (limit : ℕ) (old new : Choice) (more : HasMore limit old new) where
  -- the blocks to a complete block, and that their parents are members
  parts : (hash : Hash32) (blocks : List Block) → blocks_to old hash ≡ Some blocks → (is_at_or_below old.tree.headers old.start hash ≡ true) × (blocks_of old.bodies (path old.tree.headers old.start hash) ≡ Some blocks)
  parts hash blocks e = go (is_at_or_below old.tree.headers old.start hash) refl e
    where
      go : (b : Bool) → is_at_or_below old.tree.headers old.start hash ≡ b → cond b (blocks_of old.bodies (path old.tree.headers old.start hash)) None ≡ Some blocks → (is_at_or_below old.tree.headers old.start hash ≡ true) × (blocks_of old.bodies (path old.tree.headers old.start hash) ≡ Some blocks)
      go true is e = (is, e)
      go false is e = absurd (none-some blocks e)

  known : (hash : Hash32) (blocks : List Block) → blocks_to old hash ≡ Some blocks → contains_key old.tree.headers hash ≡ true
  known hash blocks e = on_chain_known old.tree.headers (is_rooted limit old.tree more.tree.before) old.start hash (parts hash blocks e).0

  pub same_blocks_to : (hash : Hash32) (blocks : List Block) → blocks_to old hash ≡ Some blocks → blocks_to new hash ≡ Some blocks
  same_blocks_to hash blocks e =
      let p = parts hash blocks e in
      let member = known hash blocks e in
      let on = ap (λ (hashes : List Hash32). list_any (same_hash new.start) hashes) (same_chain limit old.tree new.tree more.tree hash member) ∙ ap (λ (start : Hash32). is_at_or_below old.tree.headers start hash) more.start ∙ p.0 in
      let way = same_path limit old.tree new.tree more.tree new.start hash member ∙ ap (λ (start : Hash32). path old.tree.headers start hash) more.start in
      ap (λ (b : Bool). cond b (blocks_of new.bodies (path new.tree.headers new.start hash)) None) on
      ∙ ap (blocks_of new.bodies) way
      ∙ blocks_stay old.bodies new.bodies more.bodies (path old.tree.headers old.start hash) blocks p.1

  parents : (hash : Hash32) (blocks : List Block) → blocks_to old hash ≡ Some blocks → AllByRecursion (λ block. contains_key old.tree.headers block.header.prev ≡ true) blocks
  parents hash blocks e =
      let p = parts hash blocks e in
      let rooted = is_rooted limit old.tree more.tree.before in
      parents_known old.tree.headers old.bodies more.stand (path old.tree.headers old.start hash) blocks (path_known old.tree.headers rooted old.start hash (known hash blocks e) p.0) p.1

  pub same_complete : (hash : Hash32) → is_complete old hash ≡ true → is_complete new hash ≡ true
  same_complete hash complete =
      let blocks = there (blocks_to old hash) complete in
      ap (λ (o : Option (List Block)). is_some o) (same_blocks_to hash blocks.0 blocks.1)

  pub same_coins_at : (hash : Hash32) → is_complete old hash ≡ true → coins_at new hash ≡ coins_at old hash
  same_coins_at hash complete =
      let blocks = there (blocks_to old hash) complete in
      ap (λ (o : Option (List Block)). option_and_then (λ blocks. result_ok (replayed new.tree new.start_coins blocks)) o) (same_blocks_to hash blocks.0 blocks.1)
      ∙ ap (λ (coins : Coins). result_ok (replayed new.tree coins blocks.0)) more.coins
      ∙ ap result_ok (same_replay limit old.tree new.tree more.tree blocks.0 (parents hash blocks.0 blocks.1) old.start_coins)
      ∙ ap (λ (o : Option (List Block)). option_and_then (λ blocks. result_ok (replayed old.tree old.start_coins blocks)) o) (sym blocks.1)

  pub same_valid : (hash : Hash32) → is_complete old hash ≡ true → is_valid new hash ≡ is_valid old hash
  same_valid hash complete = ap (λ (o : Option Coins). is_some o) (same_coins_at hash complete)

  -- the lowest refused block
  same_lowest : (hashes : List Hash32) (blocks : List Block) → AllByRecursion (λ block. contains_key old.tree.headers block.header.prev ≡ true) blocks → (coins : Coins) → lowest_refused new.tree coins hashes blocks ≡ lowest_refused old.tree coins hashes blocks
  unfolding lowest_refused
  same_lowest [] blocks all coins = refl
  same_lowest (hash ∷ hashes) [] all coins = refl
  same_lowest (hash ∷ hashes) (block ∷ blocks) all coins =
      let rest : (λ next. lowest_refused new.tree next hashes blocks) ≡ (λ next. lowest_refused old.tree next hashes blocks) = λ i next. same_lowest hashes blocks all.1 next i in
      ap (λ (r : Result Coins CoinRefused). refused_or hash r (λ next. lowest_refused new.tree next hashes blocks)) (same_outcome limit old.tree new.tree more.tree coins block all.0)
      ∙ ap (λ (f : Coins → Option RefusedAt). refused_or hash (outcome old.tree coins block) f) rest

  pub same_refused_below : (hash : Hash32) → is_complete old hash ≡ true → refused_below new hash ≡ refused_below old hash
  same_refused_below hash complete =
      let blocks = there (blocks_to old hash) complete in
      let member = known hash blocks.0 blocks.1 in
      let way = same_path limit old.tree new.tree more.tree new.start hash member ∙ ap (λ (start : Hash32). path old.tree.headers start hash) more.start in
      ap (λ (o : Option (List Block)). option_and_then (λ blocks. lowest_refused new.tree new.start_coins (path new.tree.headers new.start hash) blocks) o) (same_blocks_to hash blocks.0 blocks.1)
      ∙ ap (λ (hashes : List Hash32). lowest_refused new.tree new.start_coins hashes blocks.0) way
      ∙ ap (λ (coins : Coins). lowest_refused new.tree coins (path old.tree.headers old.start hash) blocks.0) more.coins
      ∙ same_lowest (path old.tree.headers old.start hash) blocks.0 (parents hash blocks.0 blocks.1) old.start_coins
      ∙ ap (λ (o : Option (List Block)). option_and_then (λ blocks. lowest_refused old.tree old.start_coins (path old.tree.headers old.start hash) blocks) o) (sym blocks.1)
