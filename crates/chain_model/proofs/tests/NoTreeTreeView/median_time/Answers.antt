use Rattle.std.specs.FinMap.{empty}
use Rattle.chain_model.specs.Tree.{median_time}
use Rattle.chain_model.proofs.EmptyTree.{no_member}
use Rattle.chain_model.proofs.tests.NoTreeTreeView.median_time.Goals as goal

pub returns : goal.returns
returns c = no_member c.args._hash.now (median_time empty c.args._hash.now)
