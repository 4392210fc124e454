use Rattle.std.proofs.Common.{◌≡◌, Ok, sym, subst}
use Rattle.std.specs.Prelude.{All}
use Rattle.chain_model.specs.Connecting.{IsPayable}
use Rattle.block_codec.specs.declared.block.Block.{Block}
use Rattle.chain_model.specs.Apply.{outcome, position_below}
use Rattle.chain_model.specs.BodyRules.{place_below}
use Rattle.chain_model.proofs.UntouchedCoins.{untouched}
use Rattle.chain_model.proofs.Minting.{makes_at_most}
use Rattle.chain_model.proofs.Payable.{payable}
use Rattle.chain_model.proofs.applying.apply_hashed_block.Goals as goal

pub returns-in-Ok-clause-untouched : goal.returns-in-Ok-clause-untouched
returns-in-Ok-clause-untouched g c =
    let tree = g.T.TreeView.tree c.args.tree.now in
    let block = c.args.block.now in
    let applied = subst (λ (b : Block). outcome tree c.args.coins.now b ≡ Ok c.apply.new.coins) c.block.ensures c.in-Ok.ensures.answers in
    untouched (position_below tree block.header.prev) c.args.coins.now block c.apply.new.coins applied

pub returns-in-Ok-clause-values : goal.returns-in-Ok-clause-values
returns-in-Ok-clause-values g c =
    let tree = g.T.TreeView.tree c.args.tree.now in
    let block = c.args.block.now in
    let applied = subst (λ (b : Block). outcome tree c.args.coins.now b ≡ Ok c.apply.new.coins) c.block.ensures c.in-Ok.ensures.answers in
    makes_at_most (position_below tree block.header.prev) (place_below tree block.header.prev) c.args.coins.now block c.apply.new.coins c.requires.sound applied

pub apply-requires-clause-payable : goal.apply-requires-clause-payable
apply-requires-clause-payable g c = let P : Block → Type 0 = λ b. All IsPayable b.txs in subst P (sym c.block.ensures) (payable (place_below (g.T.TreeView.tree c.args.tree.now) c.args.block.now.header.prev) c.args.block.now c.requires.sound)
