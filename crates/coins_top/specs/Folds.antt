-- What folding answers.
use Rattle.std.specs.Prelude.{◌≡◌, ℕ, cond, Some, None, Result, Ok, Err, ⊤}
use Rattle.base_types.specs.Coins.{Coins}
use Rattle.base_types.specs.declared.hash.Hash32.{Hash32}
use Rattle.base_types.specs.declared.refused.CoinRefused.{CoinRefused}
use Rattle.base_types.specs.declared.refused.BodyRefused.{BodyRefused}
use Rattle.base_types.specs.declared.refused.HeaderRefused.{HeaderRefused}
use Rattle.block_codec.specs.declared.block.Block.{Block}
use Rattle.block_codec.specs.declared.block.Header.{Header}
use Rattle.block_codec.specs.Text.{hash_of_header, same_hash}
use Rattle.block_codec.specs.Genesis.{genesis_hash}
use Rattle.chain_model.specs.HeaderRules.{header_broken}
use Rattle.chain_model.specs.BodyRules.{Place, body_broken}
use Rattle.chain_model.specs.Folding.{Folded, FoldRefused, with_block}
use Rattle.command_text.specs.declared.reply.Reply.TheVariants as says
use Rattle.command_text.specs.declared.reply.Rule.TheVariants as rule
use Rattle.header_tree.specs.State.{State, after_header}
use Rattle.machine.specs.Steps.{refusal_of}
use Rattle.coins_top.specs.declared.fold_end.FoldEnd.{FoldEnd}
use Rattle.coins_top.specs.declared.fold_end.FoldEnd.TheVariants.{NoMemory, Replied}

-- a first block, which is passed over where it is genesis
abbrev pub with_first : ℕ → Folded → Block → Result Folded FoldRefused
with_first limit folded block = cond (same_hash (hash_of_header block.header) genesis_hash) (Ok (record folded { frames = 1 })) (with_block limit folded block)

-- a refusal ends a fold by its reply; want of memory may come at any time
abbrev pub EndsFold : Result Folded FoldRefused → FoldEnd → Type 0
EndsFold meant NoMemory = ⊤
EndsFold meant (Replied reply) = (why : FoldRefused) × (meant ≡ Err why) × (reply ≡ refusal_of why)

-- the header is in the tree, or breaks the rule of the reply
abbrev pub HeaderEnds : State → Header → State → Result Hash32 FoldEnd → Type 0
HeaderEnds old header new (Ok hash) = (header_broken old.limit old.tree header ≡ None) × (hash ≡ hash_of_header header) × (new ≡ after_header old header)
HeaderEnds old header new (Err NoMemory) = new ≡ old
HeaderEnds old header new (Err (Replied reply)) = (new ≡ old) × ((why : HeaderRefused) × (header_broken old.limit old.tree header ≡ Some why) × (reply ≡ says.Block (hash_of_header header) (rule.Header why)))

-- the body breaks no rule, or that of the reply
abbrev pub BodyEnds : {A : Type 0} → Place → Block → Result A FoldEnd → Type 0
BodyEnds place block (Ok done) = body_broken place block ≡ None
BodyEnds place block (Err NoMemory) = ⊤
BodyEnds place block (Err (Replied reply)) = (why : BodyRefused) × (body_broken place block ≡ Some why) × (reply ≡ says.Block (hash_of_header block.header) (rule.Body why))

-- the coins are those after the block, or the block breaks the rule of the reply
abbrev pub CoinsEnd : {A : Type 0} → Result Coins CoinRefused → Hash32 → Coins → Result A FoldEnd → Type 0
CoinsEnd meant hash coins (Ok done) = meant ≡ Ok coins
CoinsEnd meant hash coins (Err NoMemory) = ⊤
CoinsEnd meant hash coins (Err (Replied reply)) = (why : CoinRefused) × (meant ≡ Err why) × (reply ≡ says.Block hash (rule.Coin why))
