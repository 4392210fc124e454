use Rattle.std.proofs.Common.{◌≡◌, ◌∙◌, true, false, sym, ap, refl, subst}
use Rattle.slot_pool.specs.Slots.{IsIn}
use Rattle.slot_pool.proofs.SlotLaws.{some_of, cut_at, in_middle}
use Rattle.coin_cache.specs.Contents.{Entry, Contents}
use Rattle.coin_cache.proofs.Lookups.{same_slot}
use Rattle.coin_cache.proofs.cache.Cache.clean.Goals as goal

pub unflag-requires : goal.unflag-requires
unflag-requires c = let x = some_of _ c.requires in c.entry.ensures.sound.flagged c.args.slot x.0 x.1 (sym (c.entry.ensures.entry x.0 x.1).2 ∙ c.if-entry.true)

pub returns-then-entry-clause-slots : goal.returns-then-entry-clause-slots
returns-then-entry-clause-slots c =
    λ x at. let i = c.entry.ensures.sound.flagged c.args.slot x at (sym (c.entry.ensures.entry x at).2 ∙ c.if-entry.true) in let p = cut_at c.args.self.now.changes c.args.slot i in
    (record x { dirty = false; fresh = false }, ap (λ (k : Contents). k.slots) (c.unflag.ensures.flag x p.0 p.1 at p.2), refl, refl, refl)

pub returns-then-entry-clause-changes : goal.returns-then-entry-clause-changes
returns-then-entry-clause-changes c = λ xs ys split. let x = some_of _ c.requires in ap (λ (k : Contents). k.changes) (c.unflag.ensures.flag x.0 xs ys x.1 split)

pub returns-then-entry-clause-room : goal.returns-then-entry-clause-room
returns-then-entry-clause-room c =
    let x = some_of _ c.requires in let i = c.entry.ensures.sound.flagged c.args.slot x.0 x.1 (sym (c.entry.ensures.entry x.0 x.1).2 ∙ c.if-entry.true) in let p = cut_at c.args.self.now.changes c.args.slot i in
    let v = c.unflag.ensures.flag x.0 p.0 p.1 x.1 p.2 in (ap (λ (k : Contents). k.spare) v, ap (λ (k : Contents). k.salt) v)

pub returns-else-entry-clause-slots : goal.returns-else-entry-clause-slots
returns-else-entry-clause-slots c = λ x at. (x, same_slot c.args.self.now.slots c.args.slot x x at refl, refl, refl, sym (c.entry.ensures.entry x at).2 ∙ c.if-entry.false)

pub returns-else-entry-clause-changes : goal.returns-else-entry-clause-changes
returns-else-entry-clause-changes c =
    λ xs ys split. let x = some_of _ c.requires in let y = c.entry.ensures.sound.dirty c.args.slot (subst (IsIn c.args.slot) (sym split) (in_middle xs c.args.slot ys)) in
    let one : x.0 ≡ y.0 = cc (x.1, y.1) in let f : true ≡ false = sym y.2 ∙ sym (ap (λ (e : Entry). e.dirty) one) ∙ sym (c.entry.ensures.entry x.0 x.1).2 ∙ c.if-entry.false in cc

pub returns-then-entry-clause-same : goal.returns-then-entry-clause-same
returns-then-entry-clause-same c = λ x at d. let f : true ≡ false = sym (sym (c.entry.ensures.entry x at).2 ∙ c.if-entry.true) ∙ d in cc
