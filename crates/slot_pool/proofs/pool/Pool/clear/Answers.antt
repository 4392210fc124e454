use Rattle.std.proofs.Common.{◌+◌, sym, ap, ◌∙◌, arith}
use Rattle.std.specs.FinMap as map
use Rattle.slot_pool.specs.Pool.{contents}
use Rattle.slot_pool.proofs.Clears.{emptying_first, emptying_taken, emptying_skipped, emptied}
use Rattle.slot_pool.proofs.Pools.{counts}
use Rattle.slot_pool.proofs.pool.Pool.clear.Goals as goal
use Rattle.slot_pool.proofs.pool.Pool.clear.Goals.{then-is_taken, else-is_taken}

pub loop-place-init : goal.loop-place-init
loop-place-init g c = emptying_first c.self.inside.chunks.items _ _ _ c.self.invariant c.self.inside.vacant.ok.0 c.args.self.now c.self.view_is

pub is_taken-requires : goal.is_taken-requires
is_taken-requires g c =
    let n = counts c.self.inside.chunks.items _ _ c.self.invariant in let e = ap (λ p. map.len p.values + p.spare) c.self.view_is in
    omega (arith, n, e, c.loop-place.invariant.total, c.loop-place-test.true, c.len-place-end.ensures, c.self.inside.chunks.ok.0, c.self.inside.vacant.ok.0)

pub loop-place-preserved : goal.loop-place-preserved
loop-place-preserved g c =
    let l = c.loop-place in
    elim c.if-is_taken.branch [
      | then-is_taken w ↦ emptying_taken l.place _ l.self l.invariant c.if-is_taken.self (sym c.is_taken.ensures ∙ w.if-is_taken.true) (w.self-is ∙ w.take.ensures.rest)
      | else-is_taken w ↦ emptying_skipped l.place _ l.self l.invariant c.if-is_taken.self (sym c.is_taken.ensures ∙ w.if-is_taken.false) w.self-is
    ]

pub returns : goal.returns
returns g c =
    let n = counts c.self.inside.chunks.items _ _ c.self.invariant in let e = ap (λ p. map.len p.values + p.spare) c.self.view_is in
    let i = c.args.self.now in
    emptied c.loop-place.place _ c.loop-place.self c.loop-place.invariant (omega (arith, n, e, c.loop-place-test.false, c.len-place-end.ensures, c.self.inside.chunks.ok.0, c.self.inside.vacant.ok.0))
    ∙ ap (contents map.empty) (omega arith)
