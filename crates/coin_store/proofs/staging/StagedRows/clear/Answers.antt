use Rattle.std.proofs.Common.{arith}
use Rattle.coin_store.proofs.staging.StagedRows.clear.Goals as goal

pub invariant_of-self : goal.invariant_of-self
invariant_of-self c =
    let many = c.args.self.now.many in
    let reserved = c.args.self.now.reserved in
    record { within = omega (arith, c.clear.ensures.len); reserved = omega (arith, reserved, c.resize.ensures.capacity); many = omega (arith, many, c.clear.ensures.capacity) }
