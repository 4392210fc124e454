use Rattle.coin_index.proofs.Befores.{Toward}
use Rattle.coin_index.proofs.Chains.{ahead}
use Rattle.coin_index.proofs.index.before.Given as goal

abbrev pub invariant-loop-at : goal.invariant-loop-at
invariant-loop-at g l = Toward g.T.Chained.key_of g.T.Chained.chain_of l.pool.values l.slot l.fn.head l.last l.at

abbrev pub decreases-loop-at : goal.decreases-loop-at
decreases-loop-at g l = ahead g.T.Chained.chain_of l.pool.values l.at
