use Rattle.std.proofs.Common.{◌∙◌, None, sym, subst}
use Rattle.std.proofs.lemmas.List.{get_or_default}
use Rattle.coin_index.proofs.Finds.{Seeks, begins, passes, arrives, ends, nears}
use Rattle.coin_index.proofs.index.Index.find.Goals as goal

pub loop-at-init : goal.loop-at-init
loop-at-init g c =
    let K = g.T.Chained.key_of in let C = g.T.Chained.chain_of in let i = c.args.self.now in let q = c.requires in
    begins K C c.args.pool.now.values i c.args.key.now q.0 q.1 c.place.result c.index-at.result.now c.place.ensures.bucket
    (c.index-at.ensures ∙ get_or_default i.buckets.items c.place.result c.index-at.result.now None c.place.ensures.below)

pub returns-then-is_same : goal.returns-then-is_same
returns-then-is_same g c =
    let K = g.T.Chained.key_of in let C = g.T.Chained.chain_of in let m = c.args.pool.now.values in let i = c.args.self.now in let k = c.args.key.now in let s = c.in-Some.slot in
    arrives K C m i k s c.get-value.result.now c.get-value.ensures (sym c.key.ensures ∙ c.is_same.ensures.same c.if-is_same.true) (subst (Seeks K C m i k) c.in-Some.is c.loop-at.invariant)

pub loop-at-smaller : goal.loop-at-smaller
loop-at-smaller g c =
    let K = g.T.Chained.key_of in let C = g.T.Chained.chain_of in let m = c.args.pool.now.values in let i = c.args.self.now in let k = c.args.key.now in let s = c.in-Some.slot in
    rw c.in-Some.is (nears K C m i k s c.get-value.result.now c.chain-at.result c.get-value.ensures c.chain-at.ensures (subst (Seeks K C m i k) c.in-Some.is c.loop-at.invariant))

pub loop-at-preserved : goal.loop-at-preserved
loop-at-preserved g c =
    let K = g.T.Chained.key_of in let C = g.T.Chained.chain_of in let m = c.args.pool.now.values in let i = c.args.self.now in let k = c.args.key.now in let s = c.in-Some.slot in
    passes K C m i k s c.get-value.result.now c.chain-at.result c.get-value.ensures (λ e. c.is_same.ensures.other c.if-is_same.false (c.key.ensures ∙ e)) c.chain-at.ensures (subst (Seeks K C m i k) c.in-Some.is c.loop-at.invariant)

pub returns : goal.returns
returns g c =
    let K = g.T.Chained.key_of in let C = g.T.Chained.chain_of in let m = c.args.pool.now.values in let i = c.args.self.now in let k = c.args.key.now in
    ends K C m i k c.loop-at.at c.in_default.is c.loop-at.invariant
