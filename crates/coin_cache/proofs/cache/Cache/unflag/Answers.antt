use Rattle.std.proofs.Common.{◌≡◌, ◌∙◌, false, ◌++◌, ◌∷◌, is_some, length, sym, ap, refl, subst, arith}
use Rattle.std.specs.FinMap.{insert}
use Rattle.std.proofs.lemmas.List.{length-append}
use Rattle.slot_pool.specs.Slots.{IsIn}
use Rattle.slot_pool.proofs.SlotLaws.{cut_at}
use Rattle.slot_pool.proofs.ChangeLaws.{still_held}
use Rattle.flag_list.specs.List.{IsList}
use Rattle.coin_cache.specs.Contents.{contents}
use Rattle.coin_cache.specs.Inside.{entry_of, links_of}
use Rattle.coin_cache.proofs.Nodes.{node_at}
use Rattle.coin_cache.proofs.Steps.{with_links, unflag_inside, unflag_view, unflag_seen}
use Rattle.coin_cache.proofs.Views.{sound_is, changes_are, slot_in}
use Rattle.coin_cache.proofs.cache.Cache.unflag.Goals as goal

pub unlink-requires : goal.unlink-requires
unlink-requires c =
    let h = c.self.invariant in let p = cut_at h.flagged c.args.slot (subst (IsIn c.args.slot) (changes_are c.self.inside h c.args.self.now c.self.view_is) c.requires) in
    (p.0, p.1, subst (IsList links_of c.self.inside.pool.values c.self.inside.flags) p.2 h.list)

pub get_mut-node-requires : goal.get_mut-node-requires
get_mut-node-requires c =
    let h = c.self.invariant in let x = h.sound.dirty c.args.slot (subst (IsIn c.args.slot) (changes_are c.self.inside h c.args.self.now c.self.view_is) c.requires) in
    let n = node_at c.self.inside.pool.values c.args.slot x.0 x.1 in
    still_held with_links c.self.inside.pool c.unlink.new.pool c.args.slot c.unlink.ensures.changes (ap is_some n.1)

pub overflow_sub-self : goal.overflow_sub-self
overflow_sub-self c =
    let h = c.self.invariant in let p = cut_at h.flagged c.args.slot (subst (IsIn c.args.slot) (changes_are c.self.inside h c.args.self.now c.self.view_is) c.requires) in
    omega (arith, h.changes, ap length p.2, length-append p.0 (c.args.slot ∷ p.1))

pub invariant_of-self : goal.invariant_of-self
invariant_of-self c =
    let h = c.self.invariant in let p = cut_at h.flagged c.args.slot (subst (IsIn c.args.slot) (changes_are c.self.inside h c.args.self.now c.self.view_is) c.requires) in
    unflag_inside c.self.inside h c.args.self.now c.self.view_is c.args.slot c.unlink.new.pool c.unlink.new.self c.unlink.ensures.changes c.unlink.ensures.list c.get_mut-node.result.now c.get_mut-node.ensures.value p.0 p.1 p.2 _ refl

pub returns-clause-flag : goal.returns-clause-flag
returns-clause-flag c =
    λ x xs ys at split. let i = c.self.inside in let h = c.self.invariant in let s = c.args.self.now in let y = c.get_mut-node.result.now in
    let seen = unflag_seen i h s c.self.view_is c.args.slot c.unlink.new.pool c.unlink.new.self c.unlink.ensures.changes c.unlink.ensures.list y c.get_mut-node.ensures.value in
    let has = slot_in i h s c.self.view_is c.args.slot x at in let e : entry_of y ≡ x = cc (seen, has) in
    unflag_view i h s c.self.view_is c.args.slot c.unlink.new.pool c.unlink.new.self c.unlink.ensures.changes c.unlink.ensures.list y c.get_mut-node.ensures.value xs ys (sym (changes_are i h s c.self.view_is) ∙ split) 0
    ∙ (λ k. contents (insert s.slots c.args.slot (record (e k) { dirty = false; fresh = false })) (xs ++ ys) s.spare s.salt)

pub returns-clause-sound : goal.returns-clause-sound
returns-clause-sound c = sound_is _ (invariant_of-self c) _ refl
