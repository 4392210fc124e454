-- Applying a block to coins that can be changed, call by call.
use Rattle.std.specs.Prelude.{◌≡◌, ◌≤◌, ℕ, ◌+◌, ◌*◌, ⊤, false, List, [], ◌∷◌, ◌++◌, length, map, sum_by, option_map, All}
use Rattle.std.specs.declared.option.Option.{Option}
use Rattle.std.specs.declared.result.Result.{Result}
use Rattle.std.specs.declared.result.Result.TheVariants.{Ok, Err}
use Rattle.std.specs.List.{flat_map}
use Rattle.base_types.specs.Coins.{Coins}
use Rattle.base_types.specs.Parameters.{max_money}
use Rattle.base_types.specs.declared.fault.StoreFault.{StoreFault}
use Rattle.base_types.specs.declared.hash.OutPoint.{OutPoint}
use Rattle.base_types.specs.declared.refused.CoinRefused.{CoinRefused}
use Rattle.block_codec.specs.declared.block.Tx.{Tx}
use Rattle.block_codec.specs.declared.block.Block.{Block}
use Rattle.chain_model.specs.BodyRules.{has_twin_inputs, others_of}
use Rattle.chain_model.specs.Coins.{output_value, outputs_of, spendable_of}
use Rattle.chain_model.specs.Laws.{inputs_named}
use Rattle.chain_model.specs.declared.fault.ConnectFault.{ConnectFault}
use Rattle.chain_model.specs.declared.fault.ConnectFault.TheVariants.{Refused, Store}

-- no two inputs name one outpoint, and no output's value is above those of coins
pub record IsPayable (tx : Tx) : Type 0 where
  pub single : has_twin_inputs tx.inputs ≡ false
  pub values : All (λ output. output_value output ≤ max_money) tx.outputs

-- ---- what is answered

-- the coins before lead to these, where they are told
abbrev pub Leads : (Coins → Result Coins CoinRefused) → Option Coins → Option Coins → Type 0
Leads outcome old new = option_map outcome old ≡ option_map (λ after. Ok after) new

-- what is said of the rule of a refusal
abbrev pub OnRefusal : {A : Type 0} → Result A ConnectFault → (CoinRefused → Type 0) → Type 0
OnRefusal (Ok a) P = ⊤
OnRefusal (Err (Refused rule)) P = P rule
OnRefusal (Err (Store fault)) P = ⊤

-- it was refused by a rule, unless the store failed
abbrev pub RefusedFor : {A : Type 0} → Result A ConnectFault → CoinRefused → Type 0
RefusedFor (Ok a) rule = ⊥
RefusedFor (Err (Refused why)) rule = why ≡ rule
RefusedFor (Err (Store fault)) rule = ⊤

-- how the last call of the coins ended: a refusal comes after calls that were answered
abbrev pub store_part : {A : Type 0} → Result A ConnectFault → Result (Unit {0}) StoreFault
store_part (Ok a) = Ok tt
store_part (Err (Refused rule)) = Ok tt
store_part (Err (Store fault)) = Err fault

-- ---- which outpoints are asked for, and how often

-- the outpoints of a transaction's outputs, whether they can be spent or not
abbrev pub outputs_asked : Tx → List OutPoint
outputs_asked tx = map (λ named. named.0) (outputs_of tx)

-- the inputs of a block's transactions but the coinbase, and all outputs
abbrev pub asked_by : Block → List OutPoint
asked_by block = flat_map inputs_named (others_of block.txs) ++ flat_map outputs_asked block.txs

-- each output that can be spent is asked for once and put once
abbrev pub calls_to_make : Tx → ℕ
calls_to_make tx = 2 * length (spendable_of tx)

-- each input is spent before that
abbrev pub calls_to_pay : Tx → ℕ
calls_to_pay tx = length tx.inputs + calls_to_make tx

abbrev pub calls_of_txs : List Tx → ℕ
calls_of_txs [] = 0
calls_of_txs (coinbase ∷ txs) = calls_to_make coinbase + sum_by calls_to_pay txs

-- each output is asked for once before all that
abbrev pub calls_of : List Tx → ℕ
calls_of txs = sum_by (λ tx. length tx.outputs) txs + calls_of_txs txs
