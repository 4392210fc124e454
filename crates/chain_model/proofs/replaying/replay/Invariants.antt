use Rattle.std.proofs.Common.{◌≡◌, take, Ok}
use Rattle.chain_model.specs.Apply.{replayed}
use Rattle.chain_model.proofs.replaying.replay.Given as goal

abbrev pub invariant-loop-block : goal.invariant-loop-block
invariant-loop-block g l = replayed (g.T.TreeView.tree l.tree) l.start (take l.block-index l.blocks) ≡ Ok l.coins
