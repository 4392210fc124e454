use Rattle.chain_model.specs.Apply.{position_below}
use Rattle.chain_model.specs.BodyRules.{place_below}
use Rattle.chain_model.proofs.UntouchedCoins.{untouched}
use Rattle.chain_model.proofs.Minting.{makes_at_most}
use Rattle.chain_model.proofs.Payable.{payable}
use Rattle.chain_model.proofs.applying.apply_block.Goals as goal

pub returns-in-Ok-clause-untouched : goal.returns-in-Ok-clause-untouched
returns-in-Ok-clause-untouched g c =
    untouched (position_below (g.T.TreeView.tree c.args.tree.now) c.args.block.now.header.prev) c.args.coins.now c.args.block.now c.apply.new.coins c.in-Ok.ensures.answers

pub returns-in-Ok-clause-values : goal.returns-in-Ok-clause-values
returns-in-Ok-clause-values g c =
    makes_at_most (position_below (g.T.TreeView.tree c.args.tree.now) c.args.block.now.header.prev) (place_below (g.T.TreeView.tree c.args.tree.now) c.args.block.now.header.prev) c.args.coins.now c.args.block.now c.apply.new.coins c.requires.sound c.in-Ok.ensures.answers

pub apply-requires-clause-payable : goal.apply-requires-clause-payable
apply-requires-clause-payable g c = payable (place_below (g.T.TreeView.tree c.args.tree.now) c.args.block.now.header.prev) c.args.block.now c.requires.sound
