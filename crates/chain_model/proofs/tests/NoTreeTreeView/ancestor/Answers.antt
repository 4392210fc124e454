use Rattle.chain_model.proofs.EmptyTree.{no_ancestor}
use Rattle.chain_model.proofs.tests.NoTreeTreeView.ancestor.Goals as goal

pub returns : goal.returns
returns c = no_ancestor c.args._hash.now c.args._height
