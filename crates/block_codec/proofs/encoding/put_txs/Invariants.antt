use Rattle.std.proofs.Common.{take}
use Rattle.std.specs.List.{flat_map}
use Rattle.block_codec.specs.Encoding.{Adds}
use Rattle.block_codec.specs.Text.{tx_text}
use Rattle.block_codec.proofs.encoding.put_txs.Given as goal

abbrev pub invariant-loop-tx : goal.invariant-loop-tx
invariant-loop-tx g l = Adds (g.E).Encoder.holds l.fn.encoder l.encoder (flat_map tx_text (take l.tx-index l.txs))
