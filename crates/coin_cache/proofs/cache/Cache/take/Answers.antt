use Rattle.std.proofs.Common.{◌≡◌, ◌∙◌, is_some, ap, refl, subst}
use Rattle.std.specs.FinMap.{get, remove}
use Rattle.slot_pool.proofs.ChangeLaws.{kept_value, still_held}
use Rattle.coin_index.specs.Index.{IsIndex}
use Rattle.coin_cache.specs.Contents.{Entry}
use Rattle.coin_cache.specs.Inside.{entry_of, key_of, chain_of}
use Rattle.coin_cache.proofs.Puts.{with_chain}
use Rattle.coin_cache.proofs.Steps.{take_key, less, take_inside, take_view}
use Rattle.coin_cache.proofs.Views.{sound_is, slot_in, node_in}
use Rattle.coin_cache.proofs.cache.Cache.take.Goals as goal

pub unlink-requires : goal.unlink-requires
unlink-requires c =
    let i = c.self.inside in let h = c.self.invariant in let s = c.args.self.now in let r = c.requires in let n = node_in i h s c.self.view_is c.args.slot r.0 r.1 in
    (h.found, n.0, h.index, n.1, ap (λ (e : Entry). get h.found e.key) n.2 ∙ take_key i h s c.self.view_is c.args.slot r.0 (slot_in i h s c.self.view_is c.args.slot r.0 r.1) r.2)

pub overflow_sub-self : goal.overflow_sub-self
overflow_sub-self c =
    let i = c.self.inside in let h = c.self.invariant in let s = c.args.self.now in let r = c.requires in
    less i h s c.self.view_is c.args.slot r.0 (slot_in i h s c.self.view_is c.args.slot r.0 r.1) r.2

pub take-requires : goal.take-requires
take-requires c =
    let r = c.requires in let n = node_in c.self.inside c.self.invariant c.args.self.now c.self.view_is c.args.slot r.0 r.1 in
    still_held with_chain c.self.inside.pool c.unlink.new.pool c.args.slot c.unlink.ensures.changes (ap is_some n.1)

pub invariant_of-self : goal.invariant_of-self
invariant_of-self c =
    let i = c.self.inside in let h = c.self.invariant in let s = c.args.self.now in let r = c.requires in let n = node_in i h s c.self.view_is c.args.slot r.0 r.1 in
    let has = slot_in i h s c.self.view_is c.args.slot r.0 r.1 in let key = ap (λ (e : Entry). e.key) n.2 in
    let index = c.unlink.ensures.index h.found n.0 h.index n.1 (ap (get h.found) key ∙ take_key i h s c.self.view_is c.args.slot r.0 has r.2) in
    take_inside i h s c.self.view_is c.args.slot r.0 has r.2 c.unlink.new.pool c.take.new.self c.unlink.new.self c.unlink.ensures.changes (subst (λ k. IsIndex key_of chain_of c.unlink.new.pool.values c.unlink.new.self (remove h.found k)) key index) c.take.ensures.rest c.unlink.ensures.buckets c.unlink.ensures.salt _ refl

pub returns-clause-node : goal.returns-clause-node
returns-clause-node c =
    λ x at. let n = node_in c.self.inside c.self.invariant c.args.self.now c.self.view_is c.args.slot x at in
    let k = kept_value with_chain c.self.inside.pool c.unlink.new.pool c.args.slot n.0 c.unlink.ensures.changes n.1 in
    let same : c.take.result ≡ with_chain n.0 k.0 = cc (c.take.ensures.value, k.1) in let e = ap entry_of same ∙ n.2 in
    (ap (λ (e : Entry). e.key) e, ap (λ (e : Entry). e.coin) e, ap (λ (e : Entry). e.fresh) e)

pub returns-clause-rest : goal.returns-clause-rest
returns-clause-rest c =
    let i = c.self.inside in let h = c.self.invariant in let s = c.args.self.now in let r = c.requires in let n = node_in i h s c.self.view_is c.args.slot r.0 r.1 in
    let has = slot_in i h s c.self.view_is c.args.slot r.0 r.1 in let key = ap (λ (e : Entry). e.key) n.2 in
    let index = c.unlink.ensures.index h.found n.0 h.index n.1 (ap (get h.found) key ∙ take_key i h s c.self.view_is c.args.slot r.0 has r.2) in
    take_view i h s c.self.view_is c.args.slot r.0 has r.2 c.unlink.new.pool c.take.new.self c.unlink.new.self c.unlink.ensures.changes (subst (λ k. IsIndex key_of chain_of c.unlink.new.pool.values c.unlink.new.self (remove h.found k)) key index) c.take.ensures.rest c.unlink.ensures.buckets c.unlink.ensures.salt 0

pub returns-clause-sound : goal.returns-clause-sound
returns-clause-sound c = sound_is _ (invariant_of-self c) _ refl
