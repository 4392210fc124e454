use Rattle.std.proofs.Common.{◌≡◌, length, rules}
use Rattle.chain_state.proofs.LeastBlock.{still_whole}
use Rattle.chain_state.proofs.BlockOrder.{adds_block, waiting_block}
use Rattle.chain_state.proofs.waiting.Waiting.add.Goals as goal

pub returns-in-Ok-clause-ok : goal.returns-in-Ok-clause-ok
returns-in-Ok-clause-ok c p h = adds_block c.args.self.now.blocks c.insert.new.self (waiting_block c.args.parent.now c.args.hash.now) c.in-Ok.ensures.updates.0 p h

pub invariant_of-self : goal.invariant_of-self
invariant_of-self c =
    let one : length c.args.hash.now.bytes ≡ 32 = search rules in
    record { whole = still_whole c.insert.result (waiting_block c.args.parent.now c.args.hash.now) c.args.self.now.blocks.keys c.insert.new.self.keys c.insert.ensures.keys c.insert.ensures.err one c.args.self.now.whole }
