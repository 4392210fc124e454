use Rattle.coin_index.proofs.Chains.{ahead}
use Rattle.coin_index.proofs.Finds.{Seeks}
use Rattle.coin_index.proofs.index.Index.find.Given as goal

abbrev pub invariant-loop-at : goal.invariant-loop-at
invariant-loop-at g l = Seeks g.T.Chained.key_of g.T.Chained.chain_of l.pool.values l.self l.key l.at

abbrev pub decreases-loop-at : goal.decreases-loop-at
decreases-loop-at g l = ahead g.T.Chained.chain_of l.pool.values l.at
