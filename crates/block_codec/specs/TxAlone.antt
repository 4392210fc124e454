-- One transaction alone: its text, reading it, and its sizes and weight (BIP 141).
use Rattle.std.specs.Prelude.{ℕ, ◌+◌, ◌*◌, ◌==◌, List, length, Some, None, Result, Ok, Err, if◌then◌else◌}
use Rattle.std.specs.declared.option.Option.{Option}
use Rattle.base_types.specs.Reading.{place, ◌>>=◌}
use Rattle.base_types.specs.Codec.{at}
use Rattle.block_codec.specs.Reading.{Wrong, tx_at}
use Rattle.block_codec.specs.Text.{stripped_text, tx_text, tx_has_text}
use Rattle.block_codec.specs.declared.block.Tx.{Tx}
use Rattle.block_codec.specs.declared.fault.BlockError.TheVariants.{Trailing}

-- the text of a transaction, or none
abbrev pub tx_text_of : Tx → Option (List ℕ)
tx_text_of t = if tx_has_text t then Some (tx_text t) else None

-- the transaction that all of the bytes are, or the first fault
unfoldable pub tx_of : List ℕ → Result Tx Wrong
tx_of bytes = do
  tx ← tx_at (at (length bytes) bytes)
  if length tx.1.rest == 0 then Ok tx.0 else Err (Trailing, place tx.1)

-- ---- sizes in bytes

abbrev pub stripped_tx_size_of : Tx → ℕ
stripped_tx_size_of t = length (stripped_text t)

abbrev pub total_tx_size_of : Tx → ℕ
total_tx_size_of t = length (tx_text t)

abbrev pub tx_weight_of : Tx → ℕ
tx_weight_of t = 3 * stripped_tx_size_of t + total_tx_size_of t
