use Rattle.std.proofs.Common.{◌+◌, ◌^◌, true, false, sym, ◌∙◌, arith}
use Rattle.chain_gen.proofs.Nonces.{nonce_found, nonce_passed, no_nonce, same_but_nonce, tested}
use Rattle.chain_gen.proofs.mining.mine.Goals as goal

pub returns-then-meets_target : goal.returns-then-meets_target
returns-then-meets_target c =
    let meets = tested c.loop-nonce.header c.args.header.now c.loop-nonce.nonce c.block_hash-hash.result true c.loop-nonce.invariant.same c.block_hash-hash.ensures c.if-meets_target.ensures in (
      sym c.loop-nonce.invariant.left ∙ nonce_found (2 ^ 32) c.loop-nonce.nonce c.args.header.now (omega arith) meets,
      same_but_nonce c.loop-nonce.header c.args.header.now c.loop-nonce.nonce c.loop-nonce.invariant.same,
      c.block_hash-hash.ensures,
    )

pub loop-nonce-preserved : goal.loop-nonce-preserved
loop-nonce-preserved c =
    let fails = tested c.loop-nonce.header c.args.header.now c.loop-nonce.nonce c.block_hash-hash.result false c.loop-nonce.invariant.same c.block_hash-hash.ensures c.if-meets_target.ensures in
    record { left = sym (nonce_passed (2 ^ 32) c.loop-nonce.nonce c.args.header.now (omega arith) fails) ∙ c.loop-nonce.invariant.left; same = c.loop-nonce.invariant.same }

pub returns-else-meets_target : goal.returns-else-meets_target
returns-else-meets_target c =
    let fails = tested c.loop-nonce.header c.args.header.now c.loop-nonce.nonce c.block_hash-hash.result false c.loop-nonce.invariant.same c.block_hash-hash.ensures c.if-meets_target.ensures in
    sym c.loop-nonce.invariant.left ∙ nonce_passed (2 ^ 32) c.loop-nonce.nonce c.args.header.now (omega arith) fails ∙ no_nonce (2 ^ 32) (c.loop-nonce.nonce + 1) c.args.header.now (omega arith)
