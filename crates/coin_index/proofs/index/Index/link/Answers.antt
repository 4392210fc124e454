use Rattle.std.proofs.Common.{◌≡◌, ◌∙◌, None, length, ap, refl}
use Rattle.std.proofs.lemmas.List.{get_or_default}
use Rattle.std.specs.FinMap as map
use Rattle.slot_pool.proofs.ChangeLaws.{changes_one}
use Rattle.slot_pool.proofs.SlotLaws.{some_of, get_off}
use Rattle.coin_index.specs.Hash.{bucket_of}
use Rattle.coin_index.proofs.Links.{linked_pool}
use Rattle.coin_index.proofs.index.Index.link.Goals as goal

pub returns-clause-index : goal.returns-clause-index
returns-clause-index g c =
    λ found x h at new. let T = g.T.Chained in let law = g.met.T.Chained in let p = c.args.pool.now in let i = c.args.self.now in let b = c.place-b.result in
    let same : c.get.result.now ≡ x = cc (c.get.ensures, at) in
    linked_pool T.key_of T.chain_of T.with_chain law.chain_set law.key_kept p c.set_chain.new.pool i found h c.args.slot b x at new
    (c.place-b.ensures.bucket ∙ ap (bucket_of i.salt (length i.buckets.items)) (c.key-key.ensures ∙ ap T.key_of same)) c.place-b.ensures.below
    c.index.result.now (c.index.ensures ∙ get_or_default i.buckets.items b c.index.result.now None c.place-b.ensures.below) (c.set_chain.ensures x at) _ refl refl

pub returns-clause-changes : goal.returns-clause-changes
returns-clause-changes g c =
    let T = g.T.Chained in let law = g.met.T.Chained in let x = some_of _ c.requires.held in
    changes_one T.chain_of T.with_chain law.set_own law.set_twice c.args.pool.now c.set_chain.new.pool c.args.slot x.0 c.index.result.now x.1 (c.set_chain.ensures x.0 x.1)

pub returns-clause-others : goal.returns-clause-others
returns-clause-others g c =
    λ s ne. let x = some_of _ c.requires.held in
    ap (λ p. map.get p.values s) (c.set_chain.ensures x.0 x.1) ∙ get_off c.args.pool.now.values c.args.slot (g.T.Chained.with_chain x.0 c.index.result.now) s ne
