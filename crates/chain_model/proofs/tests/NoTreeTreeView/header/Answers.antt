use Rattle.chain_model.proofs.EmptyTree.{no_header}
use Rattle.chain_model.proofs.tests.NoTreeTreeView.header.Goals as goal

pub returns : goal.returns
returns c = no_header c.args._hash.now
