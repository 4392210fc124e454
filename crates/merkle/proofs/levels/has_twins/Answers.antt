use Rattle.std.proofs.Common.{sym, ◌∙◌}
use Rattle.merkle.proofs.Rising.{has_twins-found, has_twins-passed, has_twins_few}
use Rattle.merkle.proofs.levels.has_twins.Goals as goal

pub returns-then-eq : goal.returns-then-eq
returns-then-eq c = sym (sym c.loop-rest.invariant ∙ has_twins-found c.loop-rest.rest.now _ _ c.eq.result c.in-len2-up.len_at_least c.eq.ensures c.if-eq.true)

pub loop-rest-preserved : goal.loop-rest-preserved
loop-rest-preserved c = has_twins-passed c.loop-rest.rest.now _ _ c.eq.result c.in-len2-up.len_at_least c.eq.ensures c.if-eq.false ∙ c.loop-rest.invariant

pub returns : goal.returns
returns c = sym (sym c.loop-rest.invariant ∙ has_twins_few c.loop-rest.rest.now c.in_default.len_below)
