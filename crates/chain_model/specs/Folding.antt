-- Folding blocks from genesis, each of which has to be a child of the one before it.
use Rattle.std.specs.Prelude.{ℕ, suc, not, List, [], ◌∷◌, cond}
use Rattle.std.specs.declared.option.Option.{Option}
use Rattle.std.specs.declared.option.Option.TheVariants.{Some, None}
use Rattle.std.specs.declared.result.Result.{Result}
use Rattle.std.specs.declared.result.Result.TheVariants.{Ok, Err}
use Rattle.std.specs.FinMap.{empty}
use Rattle.base_types.specs.Coins.{Coins}
use Rattle.base_types.specs.declared.hash.Hash32.{Hash32}
use Rattle.base_types.specs.declared.program.Rules.{Rules}
use Rattle.base_types.specs.declared.refused.HeaderRefused.{HeaderRefused}
use Rattle.base_types.specs.declared.refused.BodyRefused.{BodyRefused}
use Rattle.base_types.specs.declared.refused.CoinRefused.{CoinRefused}
use Rattle.block_codec.specs.declared.block.Block.{Block}
use Rattle.block_codec.specs.Text.{hash_of_header, same_hash}
use Rattle.chain_model.specs.Tree.{Tree}
use Rattle.block_codec.specs.Genesis.{genesis_hash}
use Rattle.chain_model.specs.HeaderRules.{first_tree, header_broken, with_header}
use Rattle.chain_model.specs.BodyRules.{body_broken, place_below}
use Rattle.chain_model.specs.Apply.{outcome}

-- the blocks so far, the tip of the chain that they make, its tree, and the coins after it
pub record Folded : Type 0 where
  pub frames : ℕ
  pub tip : Hash32
  pub tree : Tree
  pub coins : Coins

-- why a block ends the fold: it isn't a child of the one before it, or breaks a rule of headers, bodies or coins
pub data FoldRefused : Type 0 where
  NotNext : Hash32 → FoldRefused
  BreaksHeader : Hash32 → HeaderRefused → FoldRefused
  BreaksBody : Hash32 → BodyRefused → FoldRefused
  BreaksCoins : Hash32 → CoinRefused → FoldRefused

abbrev pub nothing_folded : Rules → Folded
nothing_folded rules = record { frames = 0; tip = genesis_hash; tree = first_tree rules; coins = empty }

abbrev pub unless_header : Hash32 → Option HeaderRefused → Result Folded FoldRefused → Result Folded FoldRefused
unless_header hash None next = next
unless_header hash (Some why) next = Err (BreaksHeader hash why)

abbrev pub unless_body : Hash32 → Option BodyRefused → Result Folded FoldRefused → Result Folded FoldRefused
unless_body hash None next = next
unless_body hash (Some why) next = Err (BreaksBody hash why)

abbrev pub on_coins : Folded → Hash32 → Block → Result Coins CoinRefused → Result Folded FoldRefused
on_coins folded hash block (Ok coins) = Ok (record { frames = suc folded.frames; tip = hash; tree = with_header folded.tree block.header; coins = coins })
on_coins folded hash block (Err why) = Err (BreaksCoins hash why)

-- with one more block: a child of the one before it that breaks no rule of headers, and then, its header in the tree, none
-- of bodies and none of coins
abbrev pub with_block : ℕ → Folded → Block → Result Folded FoldRefused
with_block limit folded block =
    cond (not (same_hash block.header.prev folded.tip)) (Err (NotNext (hash_of_header block.header)))
    (unless_header (hash_of_header block.header) (header_broken limit folded.tree block.header)
    (unless_body (hash_of_header block.header) (body_broken (place_below (with_header folded.tree block.header) block.header.prev) block)
    (on_coins folded (hash_of_header block.header) block (outcome (with_header folded.tree block.header) folded.coins block))))

abbrev pub and_on : Result Folded FoldRefused → (Folded → Result Folded FoldRefused) → Result Folded FoldRefused
and_on (Ok folded) next = next folded
and_on (Err why) next = Err why

-- with one block after the other, until one is refused
unfoldable pub with_blocks : ℕ → Folded → List Block → Result Folded FoldRefused
with_blocks limit folded [] = Ok folded
with_blocks limit folded (block ∷ blocks) = and_on (with_block limit folded block) (λ next. with_blocks limit next blocks)

-- a first block that is genesis is counted and passed over
abbrev pub fold_of : ℕ → Rules → List Block → Result Folded FoldRefused
fold_of limit rules [] = Ok (nothing_folded rules)
fold_of limit rules (block ∷ blocks) =
    cond (same_hash (hash_of_header block.header) genesis_hash)
    (with_blocks limit (record (nothing_folded rules) { frames = 1 }) blocks)
    (with_blocks limit (nothing_folded rules) (block ∷ blocks))
