use Rattle.std.proofs.Common.{sym, ap, ◌∙◌}
use Rattle.base_types.proofs.Codecs.{IsBytes-slice}
use Rattle.base_types.specs.Reading.{Input}
use Rattle.coin_codec.specs.Reading.{coin_at, is_whole}
use Rattle.coin_codec.proofs.WholeCoins.{is_text, parts_whole, parts_broken}
use Rattle.coin_codec.proofs.reading.is_coin.Goals as goal

pub returns-then-is_ok-clause-text : goal.returns-then-is_ok-clause-text
returns-then-is_ok-clause-text c =
    let whole = parts_whole c.parts_of.result c.new-cursor.result c.parts_of.new.cursor c.parts_of.ensures.value (sym c.is_ok.ensures.value ∙ c.if-is_ok.true) in
    is_text c.args.bytes.now (IsBytes-slice c.args.bytes.now c.type_inv.bytes) c.is_at_end.result (c.is_at_end.ensures ∙ sym whole ∙ ap (λ (i : Input). is_whole (coin_at i)) c.new-cursor.ensures)

pub returns-else-is_ok-clause-text : goal.returns-else-is_ok-clause-text
returns-else-is_ok-clause-text c =
    let broken = parts_broken c.parts_of.result c.new-cursor.result c.parts_of.new.cursor c.parts_of.ensures.value (sym c.is_ok.ensures.value ∙ c.if-is_ok.false) in
    is_text c.args.bytes.now (IsBytes-slice c.args.bytes.now c.type_inv.bytes) c.is_ok.result (c.if-is_ok.false ∙ sym broken ∙ ap (λ (i : Input). is_whole (coin_at i)) c.new-cursor.ensures)
