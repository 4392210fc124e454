use Rattle.std.specs.Ordering.{is_eq}
use Rattle.chain_state.proofs.LeastBlock.{less_whole}
use Rattle.chain_state.proofs.BlockOrder.{block_cmp, takes_block, waiting_block}
use Rattle.chain_state.proofs.waiting.Waiting.remove.Goals as goal

pub returns : goal.returns
returns c p h = takes_block c.args.self.now.blocks c.remove.new.self (waiting_block c.args.parent.now c.args.hash.now) c.remove.ensures.updates.0 p h

pub invariant_of-self : goal.invariant_of-self
invariant_of-self c = record { whole = less_whole (λ block. is_eq (block_cmp (waiting_block c.args.parent.now c.args.hash.now) block)) c.args.self.now.blocks.keys c.remove.new.self.keys c.remove.ensures.keys c.args.self.now.whole }
