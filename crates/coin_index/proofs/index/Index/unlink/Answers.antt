use Rattle.std.proofs.Common.{is_some, ap, refl}
use Rattle.slot_pool.proofs.ChangeLaws.{changes_none, changes_one}
use Rattle.coin_index.proofs.Unlinks.{asks, last_there, unlinked_first, unlinked_next}
use Rattle.coin_index.proofs.index.Index.unlink.Goals as goal

pub before-requires : goal.before-requires
before-requires g c =
    let T = g.T.Chained in let law = g.met.T.Chained in let r = c.requires in
    let q = asks T.key_of T.chain_of T.with_chain law.chain_set law.key_kept c.args.pool.now c.args.self.now r.0 r.2 c.args.slot c.place-b.result r.1 r.3 r.4 c.get.result.now c.get.ensures c.key-key.result c.key-key.ensures c.place-b.ensures.bucket c.place-b.ensures.below c.index.result.now c.index.ensures in (q.0, q.1, q.2, q.3, q.4)

pub set_chain-requires : goal.set_chain-requires
set_chain-requires g c =
    let T = g.T.Chained in let law = g.met.T.Chained in let r = c.requires in
    ap is_some (last_there T.key_of T.chain_of T.with_chain law.chain_set law.key_kept c.args.pool.now c.args.self.now r.0 r.2 c.args.slot c.place-b.result r.1 r.3 r.4 c.get.result.now c.get.ensures c.key-key.result c.key-key.ensures c.place-b.ensures.bucket c.place-b.ensures.below c.index.result.now c.index.ensures c.before-2.result c.in-Some.last c.in-Some.is c.before-2.ensures).1

pub returns-in-Some-clause-index : goal.returns-in-Some-clause-index
returns-in-Some-clause-index g c =
    λ slots x h at was. let T = g.T.Chained in let law = g.met.T.Chained in
    unlinked_next T.key_of T.chain_of T.with_chain law.chain_set law.key_kept c.args.pool.now c.args.self.now slots h c.args.slot c.place-b.result x at was c.get.result.now c.get.ensures c.key-key.result c.key-key.ensures c.place-b.ensures.bucket c.place-b.ensures.below c.index.result.now c.index.ensures c.before-2.result c.in-Some.last c.in-Some.is c.before-2.ensures
    c.get-2.result.now c.get-2.ensures c.chain-next.result c.chain-next.ensures c.set_chain.new.pool c.set_chain.ensures

pub returns-in-None-clause-index : goal.returns-in-None-clause-index
returns-in-None-clause-index g c =
    λ slots x h at was. let T = g.T.Chained in let law = g.met.T.Chained in
    unlinked_first T.key_of T.chain_of T.with_chain law.chain_set law.key_kept c.args.pool.now c.args.self.now slots h c.args.slot c.place-b.result x at was c.get.result.now c.get.ensures c.key-key.result c.key-key.ensures c.place-b.ensures.bucket c.place-b.ensures.below c.index.result.now c.index.ensures c.before-2.result c.in-None.is c.before-2.ensures
    c.get-2.result.now c.get-2.ensures c.chain-next.result c.chain-next.ensures _ refl refl

pub returns-in-Some-clause-changes : goal.returns-in-Some-clause-changes
returns-in-Some-clause-changes g c =
    let T = g.T.Chained in let law = g.met.T.Chained in let r = c.requires in
    let y = last_there T.key_of T.chain_of T.with_chain law.chain_set law.key_kept c.args.pool.now c.args.self.now r.0 r.2 c.args.slot c.place-b.result r.1 r.3 r.4 c.get.result.now c.get.ensures c.key-key.result c.key-key.ensures c.place-b.ensures.bucket c.place-b.ensures.below c.index.result.now c.index.ensures c.before-2.result c.in-Some.last c.in-Some.is c.before-2.ensures in
    changes_one T.chain_of T.with_chain law.set_own law.set_twice c.args.pool.now c.set_chain.new.pool c.in-Some.last y.0 c.chain-next.result y.1 (c.set_chain.ensures y.0 y.1)

pub returns-in-None-clause-changes : goal.returns-in-None-clause-changes
returns-in-None-clause-changes g c = let law = g.met.T.Chained in changes_none g.T.Chained.chain_of g.T.Chained.with_chain law.set_own law.set_twice c.args.pool.now
