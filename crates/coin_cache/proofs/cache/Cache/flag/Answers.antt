use Rattle.std.proofs.Common.{◌≡◌, ◌∙◌, ◌++◌, ◌∷◌, [], is_some, true, ap, refl}
use Rattle.std.specs.FinMap.{insert}
use Rattle.slot_pool.proofs.SlotLaws.{get_here}
use Rattle.coin_cache.specs.Contents.{Entry, contents}
use Rattle.coin_cache.specs.Inside.{entry_of}
use Rattle.coin_cache.proofs.Steps.{fits_more, push_out, push_ready, flag_inside, flag_view}
use Rattle.coin_cache.proofs.Views.{sound_is, held_in, node_in}
use Rattle.coin_cache.proofs.cache.Cache.flag.Goals as goal

pub get_mut-requires : goal.get_mut-requires
get_mut-requires c = held_in c.self.inside c.self.invariant c.args.self.now c.self.view_is c.args.slot (ap is_some c.requires.1)

pub push_back-requires-clause-held : goal.push_back-requires-clause-held
push_back-requires-clause-held c = ap is_some (get_here c.self.inside.pool.values c.args.slot _)

pub push_back-requires-clause-out : goal.push_back-requires-clause-out
push_back-requires-clause-out c =
    let i = c.self.inside in let h = c.self.invariant in let n = node_in i h c.args.self.now c.self.view_is c.args.slot c.requires.0 c.requires.1 in
    let same : c.get_mut.result.now ≡ n.0 = cc (c.get_mut.ensures.value, n.1) in let clean = ap (λ (e : Entry). e.dirty) (ap entry_of same ∙ n.2) ∙ c.requires.2 in
    (h.flagged, push_ready i h c.args.self.now c.self.view_is c.args.slot c.get_mut.result.now _ c.get_mut.ensures.value refl refl refl clean refl refl, push_out i h c.args.self.now c.self.view_is c.args.slot c.get_mut.result.now (record c.get_mut.result.now { dirty = true }) c.get_mut.ensures.value refl refl refl clean refl refl)

pub overflow_add-self : goal.overflow_add-self
overflow_add-self c = record { fits = fits_more c.self.inside c.self.invariant c.args.self.now c.self.view_is }

pub invariant_of-self : goal.invariant_of-self
invariant_of-self c =
    let i = c.self.inside in let h = c.self.invariant in let n = node_in i h c.args.self.now c.self.view_is c.args.slot c.requires.0 c.requires.1 in
    let same : c.get_mut.result.now ≡ n.0 = cc (c.get_mut.ensures.value, n.1) in let clean = ap (λ (e : Entry). e.dirty) (ap entry_of same ∙ n.2) ∙ c.requires.2 in
    flag_inside i h c.args.self.now c.self.view_is c.args.slot c.get_mut.result.now _ c.get_mut.ensures.value refl refl refl clean refl refl c.push_back.new.pool c.push_back.new.self c.push_back.ensures.changes c.push_back.ensures.list _ refl

pub returns-clause-flag : goal.returns-clause-flag
returns-clause-flag c =
    λ x at. let i = c.self.inside in let h = c.self.invariant in let s = c.args.self.now in let n = node_in i h s c.self.view_is c.args.slot x at in
    let same : c.get_mut.result.now ≡ n.0 = cc (c.get_mut.ensures.value, n.1) in let e = ap entry_of same ∙ n.2 in
    let one : x ≡ c.requires.0 = cc (at, c.requires.1) in let clean = ap (λ (e : Entry). e.dirty) (e ∙ one) ∙ c.requires.2 in
    flag_view i h s c.self.view_is c.args.slot c.get_mut.result.now _ c.get_mut.ensures.value refl refl refl clean refl refl c.push_back.new.pool c.push_back.new.self c.push_back.ensures.changes c.push_back.ensures.list 0
    ∙ (λ k. contents (insert s.slots c.args.slot (record (e k) { dirty = true })) (s.changes ++ c.args.slot ∷ []) s.spare s.salt)

pub returns-clause-sound : goal.returns-clause-sound
returns-clause-sound c = sound_is _ (invariant_of-self c) _ refl
