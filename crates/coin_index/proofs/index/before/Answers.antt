use Rattle.std.proofs.Common.{◌≡◌, ◌∙◌, Some, true, false, sym, ap, subst}
use Rattle.std.proofs.lemmas.Bool.{eqb-true, eq-eqb}
use Rattle.coin_index.proofs.Befores.{Toward, sets_out, there, passes, nears, arrives, not_lost}
use Rattle.coin_index.proofs.index.before.Goals as goal

pub loop-at-init : goal.loop-at-init
loop-at-init g c =
    let K = g.T.Chained.key_of in let C = g.T.Chained.chain_of in let q = c.requires in sets_out K C c.args.pool.now.values c.args.slot c.args.head q.0 q.1 q.2 q.3 q.4

pub returns-then-eq : goal.returns-then-eq
returns-then-eq g c =
    let K = g.T.Chained.key_of in let C = g.T.Chained.chain_of in let m = c.args.pool.now.values in let s = c.args.slot in
    let one : c.in-Some.here ≡ s = eqb-true c.in-Some.here s (sym c.eq.ensures ∙ c.if-eq.true) in
    arrives K C m s c.args.head c.loop-at.last (subst (Toward K C m s c.args.head c.loop-at.last) (c.in-Some.is ∙ ap Some one) c.loop-at.invariant)

pub get-requires : goal.get-requires
get-requires g c =
    let K = g.T.Chained.key_of in let C = g.T.Chained.chain_of in let m = c.args.pool.now.values in let s = c.args.slot in
    there K C m s c.args.head c.loop-at.last c.in-Some.here (subst (Toward K C m s c.args.head c.loop-at.last) c.in-Some.is c.loop-at.invariant)

pub loop-at-smaller : goal.loop-at-smaller
loop-at-smaller g c =
    let K = g.T.Chained.key_of in let C = g.T.Chained.chain_of in let m = c.args.pool.now.values in let s = c.args.slot in
    rw c.in-Some.is (nears K C m s c.args.head c.loop-at.last c.in-Some.here c.get.result.now c.chain-at.result c.get.ensures c.chain-at.ensures
    (λ e. let f : true ≡ false = sym (eq-eqb c.in-Some.here s e) ∙ sym c.eq.ensures ∙ c.if-eq.false in cc)
    (subst (Toward K C m s c.args.head c.loop-at.last) c.in-Some.is c.loop-at.invariant))

pub loop-at-preserved : goal.loop-at-preserved
loop-at-preserved g c =
    let K = g.T.Chained.key_of in let C = g.T.Chained.chain_of in let m = c.args.pool.now.values in let s = c.args.slot in
    passes K C m s c.args.head c.loop-at.last c.in-Some.here c.get.result.now c.chain-at.result c.get.ensures c.chain-at.ensures
    (λ e. let f : true ≡ false = sym (eq-eqb c.in-Some.here s e) ∙ sym c.eq.ensures ∙ c.if-eq.false in cc)
    (subst (Toward K C m s c.args.head c.loop-at.last) c.in-Some.is c.loop-at.invariant)

pub returns : goal.returns
returns g c =
    let K = g.T.Chained.key_of in let C = g.T.Chained.chain_of in
    absurd (not_lost K C c.args.pool.now.values c.args.slot c.args.head c.loop-at.last c.loop-at.at c.in_default.is c.loop-at.invariant)
