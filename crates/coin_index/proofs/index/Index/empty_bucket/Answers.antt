use Rattle.std.proofs.Common.{◌<◌, ◌∙◌, None, length, length-set, set, get_or, refl, sym, ap, arith}
use Rattle.std.proofs.lemmas.List.{get_or_default, set-get_or}
use Rattle.slot_pool.proofs.ChangeLaws.{changes_none, changes_then}
use Rattle.coin_index.proofs.Moves.{first_held, first_new, moved_first, moved_less, set_again}
use Rattle.coin_index.proofs.index.Index.empty_bucket.Goals as goal

pub loop-slot-init : goal.loop-slot-init
loop-slot-init g c =
    let law = g.met.T.Chained in record {
      index = λ all h. h;
      kept = changes_none g.T.Chained.chain_of g.T.Chained.with_chain law.set_own law.set_twice c.args.pool.now;
      others = sym (set-get_or c.args.self.now.buckets.items c.args.b None);
      target = (refl, refl);
    }

pub get-requires : goal.get-requires
get-requires g c =
    let T = g.T.Chained in let l = c.loop-slot in let os = l.self.buckets.items in let h = l.invariant.index c.requires.index.0 c.requires.index.1 in
    let below : c.args.b < length os = omega (arith, c.requires.bucket, ap length l.invariant.others, length-set c.args.self.now.buckets.items c.args.b (get_or os c.args.b None)) in
    let head = sym (c.index.ensures ∙ get_or_default os c.args.b c.index.result.now None below) ∙ c.in-Some.is in
    first_held T.key_of T.chain_of l.pool.values l.self l.target c.requires.index.0 h c.args.b c.in-Some.slot below head

pub link-requires-clause-index : goal.link-requires-clause-index
link-requires-clause-index g c =
    let T = g.T.Chained in let l = c.loop-slot in let os = l.self.buckets.items in let h = l.invariant.index c.requires.index.0 c.requires.index.1 in
    let below : c.args.b < length os = omega (arith, c.requires.bucket, ap length l.invariant.others, length-set c.args.self.now.buckets.items c.args.b (get_or os c.args.b None)) in
    let head = sym (c.index.ensures ∙ get_or_default os c.args.b c.index.result.now None below) ∙ c.in-Some.is in
    (h.moved, h.new, λ x at. first_new T.key_of T.chain_of l.pool.values l.self l.target c.requires.index.0 h c.args.b c.in-Some.slot below head x at)

pub loop-slot-smaller : goal.loop-slot-smaller
loop-slot-smaller g c =
    let T = g.T.Chained in let l = c.loop-slot in let os = l.self.buckets.items in let h = l.invariant.index c.requires.index.0 c.requires.index.1 in
    let below : c.args.b < length os = omega (arith, c.requires.bucket, ap length l.invariant.others, length-set c.args.self.now.buckets.items c.args.b (get_or os c.args.b None)) in
    let head = sym (c.index.ensures ∙ get_or_default os c.args.b c.index.result.now None below) ∙ c.in-Some.is in
    moved_less T.key_of T.chain_of l.pool.values l.self l.target c.requires.index.0 h c.args.b c.in-Some.slot below head c.get.result.now c.get.ensures
    (set os c.args.b c.chain.result) (ap (set os c.args.b) c.chain.ensures) c.link.new.pool.values c.link.ensures.others

pub loop-slot-preserved : goal.loop-slot-preserved
loop-slot-preserved g c =
    let T = g.T.Chained in let law = g.met.T.Chained in let l = c.loop-slot in let os = l.self.buckets.items in let b = c.args.b in let x = c.get.result.now in let slot = c.in-Some.slot in
    let below : b < length os = omega (arith, c.requires.bucket, ap length l.invariant.others, length-set c.args.self.now.buckets.items b (get_or os b None)) in
    let head = sym (c.index.ensures ∙ get_or_default os b c.index.result.now None below) ∙ c.in-Some.is in record {
      index = λ all s. let h = l.invariant.index all s in
          moved_first T.key_of T.chain_of l.pool.values l.self l.target all h b slot below head x c.get.ensures _ (ap (set os b) c.chain.ensures) refl c.link.new.pool.values c.link.ensures.others
          c.link.new.self (c.link.ensures.index h.moved x h.new c.get.ensures (first_new T.key_of T.chain_of l.pool.values l.self l.target all h b slot below head x c.get.ensures));
      kept = changes_then T.chain_of T.with_chain law.set_own law.set_twice c.args.pool.now l.pool c.link.new.pool l.invariant.kept c.link.ensures.changes;
      others = set_again c.args.self.now.buckets.items os b c.chain.result c.requires.bucket l.invariant.others;
      target = (c.link.ensures.buckets ∙ l.invariant.target.0, c.link.ensures.salt ∙ l.invariant.target.1);
    }
