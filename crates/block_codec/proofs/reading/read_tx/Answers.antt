use Rattle.std.proofs.Common.{ap, subst, ◌∙◌}
use Rattle.base_types.proofs.Codecs.{IsBytes-slice}
use Rattle.block_codec.specs.Reading.{Answers}
use Rattle.block_codec.specs.TxAlone.{tx_of}
use Rattle.block_codec.proofs.TxAlone.{is_found_tx, tx_text_from, tx_again}
use Rattle.block_codec.proofs.reading.read_tx.Goals as goal

pub returns-clause-found : goal.returns-clause-found
returns-clause-found c = is_found_tx c.args.bytes.now c.whole_tx.result (IsBytes-slice c.args.bytes.now c.type_inv.bytes) c.whole_tx.ensures

pub returns-clause-only : goal.returns-clause-only
returns-clause-only c = λ tx e.
    let p = tx_text_from tx c.args.bytes.now e in
    subst (λ answer. Answers c.whole_tx.result answer) (ap tx_of p.1 ∙ tx_again tx p.0) c.whole_tx.ensures
