use Rattle.std.proofs.Common.{◌∙◌, None, length-set, refl, sym, arith}
use Rattle.slot_pool.proofs.Chunks.{all_empty}
use Rattle.coin_index.proofs.Moves.{emptied_more}
use Rattle.coin_index.proofs.index.Index.clear.Goals as goal

pub loop-place-preserved : goal.loop-place-preserved
loop-place-preserved c =
    let l = c.loop-place in record {
      emptied = emptied_more l.self.buckets.items _ l.place refl l.invariant.emptied;
      count = length-set l.self.buckets.items l.place None ∙ l.invariant.count;
      salt = l.invariant.salt;
    }

pub returns-clause-buckets : goal.returns-clause-buckets
returns-clause-buckets c =
    let l = c.loop-place in
    all_empty l.self.buckets.items _ (l.invariant.count ∙ sym c.args.self.now.buckets.ok.0) (λ k lt. l.invariant.emptied k (omega (arith, lt, c.loop-place-test.false, c.len-place-end.ensures)))
