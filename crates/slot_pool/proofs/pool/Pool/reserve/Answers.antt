use Rattle.std.proofs.Common.{refl, ap, arith}
use Rattle.std.specs.FinMap as map
use Rattle.slot_pool.proofs.Pools.{counts}
use Rattle.slot_pool.proofs.pool.Pool.reserve.Goals as goal

pub overflow_sub-used : goal.overflow_sub-used
overflow_sub-used g c =
    let n = counts c.self.inside.chunks.items _ _ c.self.invariant in omega (arith, n, c.self.inside.chunks.ok.0, c.self.inside.vacant.ok.0)

pub returns-then-used-n-gt4294967294-clause-full : goal.returns-then-used-n-gt4294967294-clause-full
returns-then-used-n-gt4294967294-clause-full g c =
    let n = counts c.self.inside.chunks.items _ _ c.self.invariant in let e = ap (λ p. map.len p.values) c.self.view_is in
    (λ _. omega (arith, n, e, c.self.inside.chunks.ok.0, c.self.inside.vacant.ok.0), λ _. refl)

pub grow-requires : goal.grow-requires
grow-requires g c =
    let n = counts c.self.inside.chunks.items _ _ c.self.invariant in let e = ap (λ p. map.len p.values) c.self.view_is in
    let s = ap (λ p. p.spare) c.self-in-loop-self.view_is in let same = ap map.len c.loop-self.invariant.values in
    omega (arith, n, e, s, same, c.self.inside.chunks.ok.0, c.self.inside.vacant.ok.0)

pub returns-then-is_err-clause-full : goal.returns-then-is_err-clause-full
returns-then-is_err-clause-full g c =
    let n = counts c.self.inside.chunks.items _ _ c.self.invariant in let e = ap (λ p. map.len p.values) c.self.view_is in
    (λ e. cc, λ lt. absurd (omega (arith, n, e, c.self.inside.chunks.ok.0, c.self.inside.vacant.ok.0)))

pub returns-clause-full : goal.returns-clause-full
returns-clause-full g c =
    let n = counts c.self.inside.chunks.items _ _ c.self.invariant in let e = ap (λ p. map.len p.values) c.self.view_is in
    (λ e. cc, λ lt. absurd (omega (arith, n, e, c.self.inside.chunks.ok.0, c.self.inside.vacant.ok.0)))
