-- The round so far.
use Rattle.std.proofs.Common.{◌≡◌, take}
use Rattle.chain_model.specs.HeaderRules.{round}
use Rattle.chainstates.specs.Closing.{closed_of}
use Rattle.chainstates.proofs.closing.close_round.Given as goal

abbrev pub invariant-loop-header : goal.invariant-loop-header
invariant-loop-header l = (l.tree.limit ≡ l.fn.tree.limit) × (closed_of l.tree l.closing ≡ round l.fn.tree.limit (take l.header-index l.headers) (closed_of l.fn.tree l.fn.closing))
