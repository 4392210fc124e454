use Rattle.std.specs.Prelude.{◌<◌, length}
use Rattle.std.proofs.Common.{◌∙◌, arith, sym, subst}
use Rattle.std.proofs.lemmas.Bool.{eqb-true, eqb-false}
use Rattle.coin_store.specs.Rows.{IsChecked}
use Rattle.coin_store.proofs.Heads.{checked, checked_empty}
use Rattle.coin_store.proofs.row.is_value.Goals as goal

pub returns-then-is_empty : goal.returns-then-is_empty
returns-then-is_empty c = subst (IsChecked c.args.bytes.now) (sym c.if-is_empty.true) (checked_empty c.args.bytes.now (eqb-true _ _ (sym c.is_empty.ensures ∙ c.if-is_empty.true)))

pub returns-else-is_empty : goal.returns-else-is_empty
returns-else-is_empty c =
    let some : 0 < length c.args.bytes.now = omega (arith, eqb-false _ _ (sym c.is_empty.ensures ∙ c.if-is_empty.false)) in
    checked c.args.bytes.now c.is_coin.result some c.is_coin.ensures.whole
