use Rattle.std.proofs.Common.{ap, subst, ◌∙◌}
use Rattle.base_types.proofs.Codecs.{IsBytes-slice}
use Rattle.block_codec.specs.Reading.{Answers, block_of}
use Rattle.block_codec.proofs.BlockLaws.{whole_again}
use Rattle.block_codec.proofs.HasText.{is_found, text_from}
use Rattle.block_codec.proofs.reading.read_block.Goals as goal

pub returns-clause-found : goal.returns-clause-found
returns-clause-found c = is_found c.args.bytes.now c.whole_block.result (IsBytes-slice c.args.bytes.now c.type_inv.bytes) c.whole_block.ensures

pub returns-clause-only : goal.returns-clause-only
returns-clause-only c = λ block e.
    let p = text_from block c.args.bytes.now e in
    subst (λ answer. Answers c.whole_block.result answer) (ap block_of p.1 ∙ whole_again block p.0) c.whole_block.ensures
