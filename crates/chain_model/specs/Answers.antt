-- What a step of a replay answers.
use Rattle.std.specs.Prelude.{◌≡◌, ⊤, List, cond}
use Rattle.std.specs.declared.result.Result.{Result}
use Rattle.std.specs.declared.result.Result.TheVariants.{Ok, Err}
use Rattle.base_types.specs.Coins.{Coins}
use Rattle.base_types.specs.declared.hash.Hash32.{Hash32}
use Rattle.base_types.specs.declared.refused.CoinRefused.{CoinRefused}
use Rattle.base_types.specs.declared.refused.CoinRefused.TheVariants.{Bip30}
use Rattle.block_codec.specs.declared.block.Tx.{Tx}
use Rattle.chain_model.specs.Apply.{Position, overwrites, after_all}
use Rattle.chain_model.specs.declared.fault.ApplyFault.{ApplyFault}
use Rattle.chain_model.specs.declared.fault.ApplyFault.TheVariants.{NoMemory, Refused}
use Rattle.chain_model.specs.declared.fault.ConnectFault.{ConnectFault}
use Rattle.chain_model.specs.declared.fault.ConnectFault.TheVariants.{Refused as BreaksRule, Store}
use Rattle.chain_model.specs.declared.fault.ReplayFault.{ReplayFault}
use Rattle.chain_model.specs.declared.fault.ReplayFault.TheVariants.{NoMemory as OutOfMemory, Refused as RefusedBlock}

-- a fault comes with the rule that is broken; no memory says nothing
abbrev pub Refuses : {A : Type 0} → Result A CoinRefused → ApplyFault → Type 0
Refuses meant NoMemory = ⊤
Refuses meant (Refused rule) = meant ≡ Err rule

-- coins in memory have no fault of a store but that no memory is left
abbrev pub applied_fault : ConnectFault → ApplyFault
applied_fault (BreaksRule rule) = Refused rule
applied_fault (Store fault) = NoMemory

-- the coins after the transactions of a block at a position, or the first rule that they break
abbrev pub outcome_of : Position → Coins → List Tx → Result Coins CoinRefused
outcome_of position coins txs = cond (overwrites coins txs) (Err Bip30) (after_all position coins txs)

-- what is said of the block and the rule of a refusal
abbrev pub OnRefused : {A : Type 0} → Result A ReplayFault → (Hash32 → CoinRefused → Type 0) → Type 0
OnRefused (Ok a) P = ⊤
OnRefused (Err OutOfMemory) P = ⊤
OnRefused (Err (RefusedBlock hash rule)) P = P hash rule

-- it was refused by a rule, unless no memory was left
abbrev pub RefusedBy : {A : Type 0} → Result A ReplayFault → CoinRefused → Type 0
RefusedBy (Ok a) rule = ⊥
RefusedBy (Err OutOfMemory) rule = ⊤
RefusedBy (Err (RefusedBlock hash why)) rule = why ≡ rule

-- coins that stay where a step was refused by a rule
abbrev pub KeptOnRefusal : {A : Type 0} → Result A ApplyFault → Coins → Coins → Type 0
KeptOnRefusal (Ok a) old new = ⊤
KeptOnRefusal (Err NoMemory) old new = ⊤
KeptOnRefusal (Err (Refused rule)) old new = new ≡ old
