-- A chainstate that moves forward.
use Rattle.std.specs.Prelude.{⊤, ◌≡◌, ◌⊎◌, ◌++◌, ◌∷◌, ℕ, List, [], map, None, Option, Some}
use Rattle.disk_model.specs.Disk.{Image, Rose}
use Rattle.base_types.specs.declared.fault.StoreFault.{StoreFault}
use Rattle.base_types.specs.declared.fault.StoreFault.TheVariants.{NoMemory, DiskFailed, Damaged, Full, CacheFull}
use Rattle.base_types.specs.declared.flushes.Chain.TheVariants.{Full as FromGenesis}
use Rattle.base_types.specs.declared.hash.Hash32.{Hash32}
use Rattle.base_types.specs.declared.refused.CoinRefused.{CoinRefused}
use Rattle.chain_state.specs.Standing.{IsStanding}
use Rattle.chain_state.specs.declared.state.ChainState.{ChainState}
use Rattle.chain_state.specs.declared.state.Shared.{Shared}
use Rattle.command_text.specs.declared.reply.Reply.{Reply}
use Rattle.command_text.specs.declared.reply.Reply.TheVariants.{BlockOf}
use Rattle.machine.specs.Moves.{forward, move_with}
use Rattle.machine.specs.State.{State}
use Rattle.reorg.specs.declared.refusals.RefusedBlock.{RefusedBlock}
use Rattle.store_state.specs.State.{StoreState, body_file, coin_file}

-- the line that tells of a refused block
abbrev pub refusal_reply : RefusedBlock → Reply
refusal_reply refused = BlockOf refused.chain refused.hash refused.why

-- the refused blocks, once this one was tried
abbrev pub also_refused : List RefusedBlock → Hash32 → Option CoinRefused → List RefusedBlock
also_refused refusals hash None = refusals
also_refused refusals hash (Some why) = refusals ++ record { chain = FromGenesis; hash = hash; why = why } ∷ []

-- the chainstate moved forward as far as it can, without a limit flush
pub record HasAdvanced (limit : ℕ) (contents : Option Image) (images : Image → Type 0) (shared : Shared) (chain : ChainState) (state : State) (store : StoreState) (refusals : List RefusedBlock) : Type 0 where
  pub replies : map refusal_reply refusals ≡ (forward state).replies
  pub stands : IsStanding limit contents images shared chain (move_with state []).state store

-- a body is broken
abbrev pub IsBodyFault : StoreFault → Type 0
IsBodyFault NoMemory = ⊥
IsBodyFault DiskFailed = ⊥
IsBodyFault (Damaged file at) = file ≡ body_file
IsBodyFault (Full file) = ⊥
IsBodyFault CacheFull = ⊥

-- why a chainstate may not move: a body or a coin that is read is broken
abbrev pub AdvanceFails : ℕ → ℕ → StoreFault → Type 0
AdvanceFails before now NoMemory = ⊤
AdvanceFails before now DiskFailed = Rose before now
AdvanceFails before now (Damaged file at) = (file ≡ body_file) ⊎ (file ≡ coin_file)
AdvanceFails before now (Full file) = ⊥
AdvanceFails before now CacheFull = ⊥
