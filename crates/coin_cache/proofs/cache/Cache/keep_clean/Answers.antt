use Rattle.std.proofs.Common.{[], is_some, length, refl, sym, ap, subst, ◌∙◌, arith}
use Rattle.slot_pool.specs.Slots.{IsIn}
use Rattle.slot_pool.proofs.SlotLaws.{some_first, empty_first, in_middle}
use Rattle.coin_cache.specs.Entries.{entries_of}
use Rattle.coin_cache.proofs.Lookups.{entry_at}
use Rattle.coin_cache.proofs.Merges.{settles_none, settles_one, settled_means, settled_adds}
use Rattle.coin_cache.proofs.cache.Cache.keep_clean.Goals as goal

pub loop-slot-init : goal.loop-slot-init
loop-slot-init c = record { entries = settles_none (entries_of c.args.self.now); room = refl; salt = refl }

pub settle-requires-clause-held : goal.settle-requires-clause-held
settle-requires-clause-held c =
    let v = some_first c.loop-slot.self.changes c.in-Some.slot (sym c.first_change.ensures.first ∙ c.in-Some.is) in
    ap is_some (c.first_change.ensures.sound.dirty c.in-Some.slot (subst (IsIn c.in-Some.slot) (sym v.1) (in_middle [] c.in-Some.slot v.0))).1

pub settle-requires-clause-flagged : goal.settle-requires-clause-flagged
settle-requires-clause-flagged c =
    let v = some_first c.loop-slot.self.changes c.in-Some.slot (sym c.first_change.ensures.first ∙ c.in-Some.is) in
    subst (IsIn c.in-Some.slot) (sym v.1) (in_middle [] c.in-Some.slot v.0)

pub loop-slot-smaller : goal.loop-slot-smaller
loop-slot-smaller c =
    let v = some_first c.loop-slot.self.changes c.in-Some.slot (sym c.first_change.ensures.first ∙ c.in-Some.is) in
    let less = ap length (c.settle.ensures.changes [] v.0 v.1) in let was = ap length v.1 in omega (arith, less, was)

pub loop-slot-preserved : goal.loop-slot-preserved
loop-slot-preserved c =
    let v = some_first c.loop-slot.self.changes c.in-Some.slot (sym c.first_change.ensures.first ∙ c.in-Some.is) in let h = c.first_change.ensures.sound in
    let x = h.dirty c.in-Some.slot (subst (IsIn c.in-Some.slot) (sym v.1) (in_middle [] c.in-Some.slot v.0)) in
    let i = c.loop-slot.invariant in record {
      entries = settles_one (entries_of c.args.self.now) (entries_of c.loop-slot.self) (entries_of c.settle.new.self) x.0 (entry_at c.loop-slot.self h c.in-Some.slot x.0 x.1) i.entries (c.settle.ensures.entries x.0 x.1);
      room = c.settle.ensures.room.0 ∙ i.room;
      salt = c.settle.ensures.room.1 ∙ i.salt;
    }

pub returns-clause-changes : goal.returns-clause-changes
returns-clause-changes c = empty_first c.loop-slot.self.changes (sym c.first_change.ensures.first ∙ c.in_default.is)

pub returns-clause-coins : goal.returns-clause-coins
returns-clause-coins c = settled_means c.args.self.now c.loop-slot.self c.loop-slot.invariant.entries c.first_change.ensures.sound (empty_first c.loop-slot.self.changes (sym c.first_change.ensures.first ∙ c.in_default.is))

pub returns-clause-entries : goal.returns-clause-entries
returns-clause-entries c = settled_adds c.args.self.now c.loop-slot.self c.loop-slot.invariant.entries
