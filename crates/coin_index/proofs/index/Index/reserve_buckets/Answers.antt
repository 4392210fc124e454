use Rattle.std.proofs.Common.{◌∙◌, None, length, length-set, refl, ap, arith}
use Rattle.slot_pool.proofs.ChangeLaws.{changes_none, changes_then}
use Rattle.coin_index.proofs.Moves.{split_first, split_last, emptied_more, emptied_all}
use Rattle.coin_index.proofs.index.Index.reserve_buckets.Goals as goal

pub returns-then-wanted-len-clause-changes : goal.returns-then-wanted-len-clause-changes
returns-then-wanted-len-clause-changes g c = let law = g.met.T.Chained in changes_none g.T.Chained.chain_of g.T.Chained.with_chain law.set_own law.set_twice c.args.pool.now

pub returns-in_err-buckets-clause-changes : goal.returns-in_err-buckets-clause-changes
returns-in_err-buckets-clause-changes g c = let law = g.met.T.Chained in changes_none g.T.Chained.chain_of g.T.Chained.with_chain law.set_own law.set_twice c.args.pool.now

pub loop-b-init : goal.loop-b-init
loop-b-init g c =
    let T = g.T.Chained in let law = g.met.T.Chained in record {
      index = λ all h. split_first T.key_of T.chain_of c.args.pool.now.values _ _ all _ c.in_ok-buckets.ensures h;
      kept = changes_none T.chain_of T.with_chain law.set_own law.set_twice c.args.pool.now;
      emptied = λ k lt. absurd (omega arith);
      count = refl;
      target = (refl, refl);
    }

pub empty_bucket-requires-clause-index : goal.empty_bucket-requires-clause-index
empty_bucket-requires-clause-index g c = (c.requires.0, c.loop-b.invariant.index c.requires.0 c.requires.1)

pub loop-b-preserved : goal.loop-b-preserved
loop-b-preserved g c =
    let T = g.T.Chained in let law = g.met.T.Chained in let l = c.loop-b in let i = l.invariant in let e = c.empty_bucket.ensures in record {
      index = λ all h. e.index all (i.index all h);
      kept = changes_then T.chain_of T.with_chain law.set_own law.set_twice c.args.pool.now l.pool c.empty_bucket.new.pool i.kept e.changes;
      emptied = emptied_more l.self.buckets.items c.empty_bucket.new.self.buckets.items l.b e.bucket i.emptied;
      count = ap length e.bucket ∙ length-set l.self.buckets.items l.b None ∙ i.count;
      target = (e.target.0 ∙ i.target.0, e.target.1 ∙ i.target.1);
    }

pub returns-clause-index : goal.returns-clause-index
returns-clause-index g c =
    λ all h. let T = g.T.Chained in let l = c.loop-b in
    split_last T.key_of T.chain_of l.pool.values l.self l.target all (emptied_all l.self.buckets.items l.b (omega (arith, l.invariant.count, c.loop-b-test.false, c.len-b-end.ensures, c.args.self.now.buckets.ok.0)) l.invariant.emptied) (l.invariant.index all h)
