use Rattle.std.proofs.Common.{Some, ap, ◌∙◌}
use Rattle.base_types.specs.Coins.{Coins}
use Rattle.chain_model.specs.Changes.{Changes, with_changes}
use Rattle.chain_model.proofs.Changing.{with_one_more}
use Rattle.chain_model.proofs.plain_edit.PlainEditCoinEdit.add.Goals as goal

pub returns-clause-coins : goal.returns-clause-coins
returns-clause-coins c = ap (λ (coins : Coins). Some coins) (
    ap (λ (changes : Changes). with_changes changes c.args.self.now.coins.now) c.in_ok-make.ensures.ok
    ∙ with_one_more c.args.self.now.changes c.args.self.now.coins.now c.args.key.now (Some c.args.coin))
