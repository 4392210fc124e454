use Rattle.std.specs.Prelude.{◌<◌, length}
use Rattle.std.proofs.Common.{◌∙◌, arith, sym, subst}
use Rattle.std.proofs.lemmas.Bool.{eqb-true, eqb-false}
use Rattle.coin_codec.specs.Reading.{coin_at, Fails}
use Rattle.coin_store.proofs.Heads.{value_whole, no_coin, the_coin, more_behind, no_such_coin}
use Rattle.coin_store.proofs.row.read_value.Goals as goal

pub returns-then-is_empty-clause-value : goal.returns-then-is_empty-clause-value
returns-then-is_empty-clause-value c = no_coin c.args.bytes.now (eqb-true _ _ (sym c.is_empty.ensures ∙ c.if-is_empty.true))

pub returns-in-Ok-clause-value : goal.returns-in-Ok-clause-value
returns-in-Ok-clause-value c =
    let some : 0 < length c.args.bytes.now = omega (arith, eqb-false _ _ (sym c.is_empty.ensures ∙ c.if-is_empty.false)) in
    value_whole c.args.bytes.now c.new-cursor.result c.new-cursor.ensures some
    ∙ the_coin _ c.in-Ok.coin c.read_coin.new.cursor c.in-Ok.ensures.exact (eqb-true _ _ (sym c.is_at_end.ensures ∙ c.if-is_at_end.true))

pub returns-in-Ok-2-clause-value : goal.returns-in-Ok-2-clause-value
returns-in-Ok-2-clause-value c =
    let some : 0 < length c.args.bytes.now = omega (arith, eqb-false _ _ (sym c.is_empty.ensures ∙ c.if-is_empty.false)) in
    value_whole c.args.bytes.now c.new-cursor.result c.new-cursor.ensures some
    ∙ more_behind _ c.in-Ok-2.field-0 c.read_coin.new.cursor c.in-Ok-2.ensures.exact (eqb-false _ _ (sym c.is_at_end.ensures ∙ c.if-is_at_end.false))

pub returns-in-Err-Bad-clause-value : goal.returns-in-Err-Bad-clause-value
returns-in-Err-Bad-clause-value c =
    let some : 0 < length c.args.bytes.now = omega (arith, eqb-false _ _ (sym c.is_empty.ensures ∙ c.if-is_empty.false)) in
    value_whole c.args.bytes.now c.new-cursor.result c.new-cursor.ensures some
    ∙ no_such_coin _ (c.in-Err-Bad.field-0-0, c.in-Err-Bad.field-0-1) (subst (λ f. Fails f (coin_at c.new-cursor.result)) c.in-Err-Bad.field-0-is c.in-Err-Bad.ensures.exact)
