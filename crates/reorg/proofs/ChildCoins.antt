-- A child of a tip: where it stands, and the coins at it.
use Rattle.std.proofs.Common.{◌≡◌, ◌≤◌, ◌<◌, ◌+◌, ℕ, zero, suc, ◌||◌, Bool, true, false, not, cond, List, [], ◌∷◌, ◌++◌, reverse, Option, Some, None, Ok, Err, refl, sym, ap, subst, ◌∙◌, arith}
use Rattle.std.specs.Prelude.{Result, take_while}
use Rattle.std.specs.List.{list_any}
use Rattle.std.specs.Option.{option_and_then}
use Rattle.std.specs.Result.{result_ok}
use Rattle.std.specs.FinMap.{get}
use Rattle.std.specs.FinMap as finite
use Rattle.std.proofs.lemmas.List.{reverse-append}
use Rattle.std.proofs.lemmas.List.Sums.{take_while-cons}
use Rattle.std.proofs.lemmas.Option.{same_Some, none-some}
use Rattle.base_types.specs.Coins.{Coins}
use Rattle.base_types.specs.Reading.{◌>>=◌}
use Rattle.base_types.specs.declared.hash.Hash32.{Hash32}
use Rattle.base_types.specs.declared.refused.CoinRefused.{CoinRefused}
use Rattle.block_codec.specs.Genesis.{genesis_hash}
use Rattle.block_codec.specs.Text.{same_hash}
use Rattle.block_codec.specs.declared.block.Block.{Block}
use Rattle.block_codec.specs.declared.block.Header.{Header}
use Rattle.chain_model.specs.Above.{IsAbove}
use Rattle.chain_model.specs.Apply.{outcome, replayed}
use Rattle.chain_model.specs.Choice.{Bodies, Choice, and_block, blocks_of, blocks_to, coins_at, is_at_or_below}
use Rattle.chain_model.specs.Tree.{Headers, Tree, chain, path}
use Rattle.chain_model.proofs.Chains.{chain_above, line, one_height, whole_line}
use Rattle.chain_model.proofs.Hashes.{same_false, same_self, same_true}
use Rattle.chain_model.proofs.Joining.{joins}
use Rattle.chain_model.proofs.Replays.{first_and_rest}
use Rattle.chain_model.proofs.Trees.{IsRooted}

or_true : (b : Bool) → (b || true) ≡ true
or_true true = refl
or_true false = refl

-- a block on a way down to genesis is no higher than its first block
on_way : (headers : Headers) (hash : Hash32) (n : ℕ) (a : Hash32) (way : IsAbove headers n a genesis_hash) → list_any (same_hash hash) (line headers n a genesis_hash way ++ genesis_hash ∷ []) ≡ true
    → (k : ℕ) × IsAbove headers k hash genesis_hash × (k ≤ n)
on_way headers hash zero a way on = at (same_hash hash genesis_hash) refl on
  where
    at : (b : Bool) → same_hash hash genesis_hash ≡ b → (b || false) ≡ true → (k : ℕ) × IsAbove headers k hash genesis_hash × (k ≤ zero)
    at true is on = (zero, same_true hash genesis_hash is, omega arith)
    at false is on = absurd cc
on_way headers hash (suc n) a (x, step, way) on = at (λ rest. on_way headers hash n x.prev way rest) (same_hash hash a) refl on
  where
    at : (list_any (same_hash hash) (line headers n x.prev genesis_hash way ++ genesis_hash ∷ []) ≡ true → (k : ℕ) × IsAbove headers k hash genesis_hash × (k ≤ n)) → (b : Bool) → same_hash hash a ≡ b
        → (b || list_any (same_hash hash) (line headers n x.prev genesis_hash way ++ genesis_hash ∷ [])) ≡ true → (k : ℕ) × IsAbove headers k hash genesis_hash × (k ≤ suc n)
    at rest true is on = (suc n, subst (λ (h : Hash32). IsAbove headers (suc n) h genesis_hash) (sym (same_true hash a is)) (x, step, way), omega arith)
    at rest false is on = let low = rest on in let less = low.2 in (low.0, low.1, omega arith)

-- a block that isn't genesis, whose header names the tip
pub record IsChildOf (headers : Headers) (tip hash : Hash32) : Type 0 where
  pub header : Header
  pub known : get headers hash ≡ Some header
  pub above : header.prev ≡ tip
  pub later : hash ≡ genesis_hash → ⊥

module _ (headers : Headers) (rooted : IsRooted headers) (tip hash : Hash32) (child : IsChildOf headers tip hash) where
  tip_height : (m : ℕ) × IsAbove headers m tip genesis_hash × (suc m < finite.len headers)
  tip_height = let way = rooted.high hash child.header child.known in go way.0 way.1 way.2
    where
      go : (n : ℕ) → IsAbove headers n hash genesis_hash → n < finite.len headers → (m : ℕ) × IsAbove headers m tip genesis_hash × (suc m < finite.len headers)
      go zero way less = absurd (child.later way)
      go (suc m) (x, step, way) less =
          (m, subst (λ (h : Hash32). IsAbove headers m h genesis_hash) (ap (λ (h : Header). h.prev) (same_Some x child.header (sym step.found ∙ child.known)) ∙ child.above) way, less)

  one_step : IsAbove headers 1 hash tip
  one_step = (child.header, record { later = child.later; found = child.known }, child.above)

  chain_of_child : chain headers hash ≡ hash ∷ chain headers tip
  chain_of_child = let less = tip_height.2 in chain_above headers 1 tip_height.0 hash tip one_step tip_height.1 (omega arith)

  -- it isn't one of the tip and its ancestors
  pub not_below : is_at_or_below headers hash tip ≡ true → ⊥
  not_below on =
      let less = tip_height.2 in
      let whole = whole_line headers tip_height.0 (finite.len headers) tip tip_height.1 (omega arith) in
      let low = on_way headers hash tip_height.0 tip tip_height.1 (ap (list_any (same_hash hash)) (sym whole) ∙ on) in
      let up : IsAbove headers (suc tip_height.0) hash genesis_hash =
      (child.header, record { later = child.later; found = child.known }, subst (λ (h : Hash32). IsAbove headers tip_height.0 h genesis_hash) (sym child.above) tip_height.1) in
      let same = one_height headers (suc tip_height.0) low.0 hash up low.1 in
      let most = low.2 in
      absurd (omega arith)

  -- what is at or below the tip is so of the child
  pub on_child : (low : Hash32) → is_at_or_below headers low tip ≡ true → is_at_or_below headers low hash ≡ true
  on_child low on = ap (list_any (same_hash low)) chain_of_child ∙ ap (λ (b : Bool). same_hash low hash || b) on ∙ or_true (same_hash low hash)

  pub child_itself : is_at_or_below headers hash hash ≡ true
  child_itself = ap (list_any (same_hash hash)) chain_of_child ∙ ap (λ (b : Bool). b || list_any (same_hash hash) (chain headers tip)) (same_self hash)

  path_of_child : (start : Hash32) → is_at_or_below headers start tip ≡ true → path headers start hash ≡ path headers start tip ++ hash ∷ []
  path_of_child start on =
      let test : Hash32 → Bool = λ h. not (same_hash h start) in
      let apart = same_false hash start (λ same. not_below (ap (λ (h : Hash32). is_at_or_below headers h tip) same ∙ on)) in
      ap (λ (l : List Hash32). reverse (take_while test l)) chain_of_child
      ∙ ap (λ (l : List Hash32). reverse l) (take_while-cons test hash (chain headers tip) ∙ ap (λ (b : Bool). cond (not b) (hash ∷ take_while test (chain headers tip)) []) apart)
      ∙ reverse-append (hash ∷ []) (take_while test (chain headers tip))

-- one stored block more
blocks_with : (bodies : Bodies) (hash : Hash32) (block : Block) → get bodies hash ≡ Some block → (hashes : List Hash32) (blocks : List Block) → blocks_of bodies hashes ≡ Some blocks
    → blocks_of bodies (hashes ++ hash ∷ []) ≡ Some (blocks ++ block ∷ [])
blocks_with bodies hash block stored [] blocks e =
    ap (λ (o : Option Block). and_block o (Some [])) stored ∙ ap (λ (l : List Block). Some (l ++ block ∷ [])) (same_Some [] blocks e)
blocks_with bodies hash block stored (first ∷ hashes) blocks e =
    let parts = first_and_rest (get bodies first) (blocks_of bodies hashes) blocks e in
    ap (λ (o : Option Block). and_block o (blocks_of bodies (hashes ++ hash ∷ []))) parts.2
    ∙ ap (λ (o : Option (List Block)). and_block (Some parts.0) o) (blocks_with bodies hash block stored hashes parts.1 parts.3)
    ∙ ap (λ (l : List Block). Some (l ++ block ∷ [])) parts.4

one_replayed : (tree : Tree) (coins : Coins) (block : Block) → replayed tree coins (block ∷ []) ≡ outcome tree coins block
unfolding replayed
one_replayed tree coins block = go (outcome tree coins block)
  where
    go : (r : Result Coins CoinRefused) → (r >>= λ next. Ok next) ≡ r
    go (Ok next) = refl
    go (Err rule) = refl

-- the blocks to a block with coins, and their replay
record Replays (choice : Choice) (hash : Hash32) (coins : Coins) : Type 0 where
  above : is_at_or_below choice.tree.headers choice.start hash ≡ true
  blocks : List Block
  stored : blocks_of choice.bodies (path choice.tree.headers choice.start hash) ≡ Some blocks
  lead : replayed choice.tree choice.start_coins blocks ≡ Ok coins

replays : (choice : Choice) (hash : Hash32) (coins : Coins) → coins_at choice hash ≡ Some coins → Replays choice hash coins
replays choice hash coins e = go (is_at_or_below choice.tree.headers choice.start hash) refl (blocks_of choice.bodies (path choice.tree.headers choice.start hash)) refl e
  where
    ok : (r : Result Coins CoinRefused) → result_ok r ≡ Some coins → r ≡ Ok coins
    ok (Ok c) e = ap (λ (x : Coins). Ok x) (same_Some c coins e)
    ok (Err rule) e = absurd (none-some coins e)

    go : (b : Bool) → is_at_or_below choice.tree.headers choice.start hash ≡ b → (o : Option (List Block)) → blocks_of choice.bodies (path choice.tree.headers choice.start hash) ≡ o
        → option_and_then (λ blocks. result_ok (replayed choice.tree choice.start_coins blocks)) (cond b o None) ≡ Some coins → Replays choice hash coins
    go true above (Some blocks) stored e = record { above = above; blocks = blocks; stored = stored; lead = ok (replayed choice.tree choice.start_coins blocks) e }
    go true above None stored e = absurd (none-some coins e)
    go false above o stored e = absurd (none-some coins e)

-- the coins at a child are the outcome of its block over those at the tip
pub coins_at_child : (choice : Choice) → IsRooted choice.tree.headers → (tip hash : Hash32) → IsChildOf choice.tree.headers tip hash → (block : Block) → get choice.bodies hash ≡ Some block → (coins : Coins) → coins_at choice tip ≡ Some coins
    → coins_at choice hash ≡ result_ok (outcome choice.tree coins block)
coins_at_child choice rooted tip hash child block stored coins e =
    let at = replays choice tip coins e in
    let replay : Option (List Block) → Option Coins = option_and_then (λ blocks. result_ok (replayed choice.tree choice.start_coins blocks)) in
    ap (λ (b : Bool). replay (cond b (blocks_of choice.bodies (path choice.tree.headers choice.start hash)) None)) (on_child choice.tree.headers rooted tip hash child choice.start at.above)
    ∙ ap (λ (l : List Hash32). replay (blocks_of choice.bodies l)) (path_of_child choice.tree.headers rooted tip hash child choice.start at.above)
    ∙ ap replay (blocks_with choice.bodies hash block stored (path choice.tree.headers choice.start tip) at.blocks at.stored)
    ∙ ap result_ok
    (joins choice.tree choice.start_coins (at.blocks ++ block ∷ []) at.blocks (block ∷ []) refl
    ∙ ap (λ (r : Result Coins CoinRefused). r >>= (λ middle. replayed choice.tree middle (block ∷ []))) at.lead
    ∙ one_replayed choice.tree coins block)
