use Rattle.std.proofs.Common.{◌≡◌, Some, None, ap, ◌∙◌}
use Rattle.std.specs.Prelude.{Option}
use Rattle.std.specs.FinMap.{remove}
use Rattle.base_types.specs.Coins.{Coins}
use Rattle.chain_model.specs.Changes.{Changes, with_changes}
use Rattle.chain_model.proofs.Changing.{with_one_more}
use Rattle.chain_model.proofs.plain_edit.PlainEditCoinEdit.spend.Goals as goal

some : Coins → Option Coins
some coins = Some coins

same_told : (a b : Coins) → some a ≡ some b → a ≡ b
unfolding some
same_told a b e = cc

pub returns-clause-coins : goal.returns-clause-coins
unfolding some
returns-clause-coins c =
    let now = c.get.new.self in
    let same : with_changes now.changes now.coins.now ≡ with_changes c.args.self.now.changes c.args.self.now.coins.now = same_told _ _ c.in_ok-coin.ensures.coins in
    ap some (
    ap (λ (changes : Changes). with_changes changes now.coins.now) c.in_ok-spend.ensures.ok
    ∙ with_one_more now.changes now.coins.now c.args.key.now None
    ∙ ap (λ (coins : Coins). remove coins c.args.key.now) same)
