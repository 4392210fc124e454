use Rattle.std.specs.FinMap.{empty}
use Rattle.chain_model.specs.Tree.{height}
use Rattle.chain_model.proofs.EmptyTree.{no_member}
use Rattle.chain_model.proofs.tests.NoTreeTreeView.height.Goals as goal

pub returns : goal.returns
returns c = no_member c.args._hash.now (height empty c.args._hash.now)
