-- What has a text, as facts.
use Rattle.std.proofs.Common.{◌≡◌, ℕ, ◌^◌, ◌≤◌, ◌<◌, List, [], length}
use Rattle.std.specs.List.{AllByRecursion}
use Rattle.std.specs.Int.{w32, w64}
use Rattle.std.specs.Int.RustNames.{FitsSigned}
use Rattle.base_types.specs.Parameters.{max_size}
use Rattle.base_types.specs.declared.coin.TxOut.{TxOut}
use Rattle.block_codec.specs.declared.block.TxIn.{TxIn}
use Rattle.block_codec.specs.declared.block.Tx.{Tx}
use Rattle.block_codec.specs.declared.block.Header.{Header}
use Rattle.block_codec.specs.declared.block.Block.{Block}

abbrev pub IsLength : ℕ → Type 0
IsLength n = n ≤ max_size

abbrev pub ScriptFits : List ℕ → Type 0
ScriptFits script = IsLength (length script)

pub record OutputFits (o : TxOut) : Type 0 where
  pub value : FitsSigned w64 o.value
  pub script : ScriptFits o.script

pub record StackFits (stack : List (List ℕ)) : Type 0 where
  pub count : IsLength (length stack)
  pub items : AllByRecursion ScriptFits stack

-- an input, its stack aside
pub record SpendFits (i : TxIn) : Type 0 where
  pub txid : length i.prev.txid.bytes ≡ 32
  pub index : i.prev.index < 2 ^ 32
  pub script : ScriptFits i.script
  pub sequence : i.sequence < 2 ^ 32

pub record InputFits (i : TxIn) : Type 0 where
  pub spend : SpendFits i
  pub stack : StackFits i.stack

pub record TxFits (t : Tx) : Type 0 where
  pub version : t.version < 2 ^ 32
  pub input_count : IsLength (length t.inputs)
  pub inputs : AllByRecursion InputFits t.inputs
  pub output_count : IsLength (length t.outputs)
  pub outputs : AllByRecursion OutputFits t.outputs
  pub lock_time : t.lock_time < 2 ^ 32
  pub no_outputs_alone : t.inputs ≡ [] → t.outputs ≡ []

pub record HeaderFits (h : Header) : Type 0 where
  pub version : FitsSigned w32 h.version
  pub prev : length h.prev.bytes ≡ 32
  pub root : length h.root.bytes ≡ 32
  pub time : h.time < 2 ^ 32
  pub bits : h.bits < 2 ^ 32
  pub nonce : h.nonce < 2 ^ 32

pub record BlockFits (b : Block) : Type 0 where
  pub header : HeaderFits b.header
  pub tx_count : IsLength (length b.txs)
  pub txs : AllByRecursion TxFits b.txs
