use Rattle.std.proofs.Common.{ap, refl, ◌∙◌}
use Rattle.std.specs.FinMap.{get}
use Rattle.coin_cache.proofs.Nodes.{slot_none}
use Rattle.coin_cache.proofs.Puts.{ready, put_inside, put_view}
use Rattle.coin_cache.proofs.Views.{sound_is, slots_are}
use Rattle.coin_cache.proofs.cache.Cache.put.Goals as goal

pub link-requires-clause-index : goal.link-requires-clause-index
link-requires-clause-index c =
    let r = ready c.self.inside c.self.invariant c.args.self.now c.self.view_is c.put-slot.result c.new.result c.args.key c.args.coin c.args.fresh c.new.ensures c.put-slot.ensures.fresh c.requires.free c.put-slot.new.self c.put-slot.ensures.stored in
    (c.self.invariant.found, r.0, r.1)

pub invariant_of-self : goal.invariant_of-self
invariant_of-self c =
    put_inside c.self.inside c.self.invariant c.args.self.now c.self.view_is c.put-slot.result c.new.result c.args.key c.args.coin c.args.fresh c.new.ensures c.put-slot.ensures.fresh c.requires.free c.put-slot.new.self c.put-slot.ensures.stored
    c.put-slot.ensures.held c.link.new.pool c.link.new.self c.link.ensures.changes c.link.ensures.index c.link.ensures.buckets c.link.ensures.salt c.requires.fits c.requires.room _ refl

pub returns-clause-slot : goal.returns-clause-slot
returns-clause-slot c = ap (λ m. get m c.put-slot.result) (slots_are c.self.inside c.self.invariant c.args.self.now c.self.view_is) ∙ slot_none c.self.inside.pool.values c.put-slot.result c.put-slot.ensures.fresh

pub returns-clause-put : goal.returns-clause-put
returns-clause-put c =
    put_view c.self.inside c.self.invariant c.args.self.now c.self.view_is c.put-slot.result c.new.result c.args.key c.args.coin c.args.fresh c.new.ensures c.put-slot.ensures.fresh c.requires.free c.put-slot.new.self c.put-slot.ensures.stored
    c.put-slot.ensures.held c.link.new.pool c.link.new.self c.link.ensures.changes c.link.ensures.index c.link.ensures.buckets c.link.ensures.salt c.requires.fits c.requires.room 0

pub returns-clause-sound : goal.returns-clause-sound
returns-clause-sound c = sound_is _ (invariant_of-self c) _ refl
