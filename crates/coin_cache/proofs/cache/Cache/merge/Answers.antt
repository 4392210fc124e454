use Rattle.std.proofs.Common.{[], length, refl, sym, ap, subst, ◌∙◌, arith}
use Rattle.slot_pool.specs.Slots.{IsIn}
use Rattle.slot_pool.proofs.SlotLaws.{some_first, empty_first, in_middle}
use Rattle.std.specs.FinMap.{get, empty}
use Rattle.coin_cache.specs.Contents.{contents}
use Rattle.coin_cache.specs.Entries.{entries_of}
use Rattle.coin_cache.specs.Flags.{keys_in, flagged, flags_merged}
use Rattle.coin_cache.proofs.Flags.{flags_one}
use Rattle.coin_cache.proofs.Lookups.{entry_at, key_gone}
use Rattle.coin_cache.proofs.Merges.{merging_none, merging_one, merged_means, merged_each}
use Rattle.coin_cache.proofs.cache.Cache.merge.Goals as goal

pub loop-slot-init : goal.loop-slot-init
loop-slot-init c = record { entries = merging_none (entries_of c.args.self.now) (entries_of c.args.child.now); room = c.requires; flags = refl; total = (refl, refl); salt = (refl, refl) }

pub take_over-requires-clause-flagged : goal.take_over-requires-clause-flagged
take_over-requires-clause-flagged c =
    let v = some_first c.loop-slot.child.changes c.in-Some.slot (sym c.first_change.ensures.first ∙ c.in-Some.is) in
    let x = c.first_change.ensures.sound.dirty c.in-Some.slot (subst (IsIn c.in-Some.slot) (sym v.1) (in_middle [] c.in-Some.slot v.0)) in (x.0, x.1)

pub take_over-requires-clause-room : goal.take_over-requires-clause-room
take_over-requires-clause-room c =
    let v = some_first c.loop-slot.child.changes c.in-Some.slot (sym c.first_change.ensures.first ∙ c.in-Some.is) in let was = ap length v.1 in omega (arith, was, c.loop-slot.invariant.room)

pub loop-slot-smaller : goal.loop-slot-smaller
loop-slot-smaller c =
    let v = some_first c.loop-slot.child.changes c.in-Some.slot (sym c.first_change.ensures.first ∙ c.in-Some.is) in
    let less = ap length (c.take_over.ensures.changes [] v.0 v.1) in let was = ap length v.1 in omega (arith, less, was)

pub loop-slot-preserved : goal.loop-slot-preserved
loop-slot-preserved c =
    let v = some_first c.loop-slot.child.changes c.in-Some.slot (sym c.first_change.ensures.first ∙ c.in-Some.is) in let h = c.first_change.ensures.sound in
    let x = h.dirty c.in-Some.slot (subst (IsIn c.in-Some.slot) (sym v.1) (in_middle [] c.in-Some.slot v.0)) in let e = c.take_over.ensures in
    let less = ap length (e.changes [] v.0 v.1) in let was = ap length v.1 in let one = e.one x.0 x.1 in let i = c.loop-slot.invariant in
    let has = entry_at c.loop-slot.child h c.in-Some.slot x.0 x.1 in let gone = e.child_entries x.0 x.1 in
    let entries = merging_one (entries_of c.args.self.now) (entries_of c.args.child.now) (entries_of c.loop-slot.self) (entries_of c.loop-slot.child) (entries_of c.take_over.new.self) (entries_of c.take_over.new.child) x.0
    i.entries x.2 has (e.self_entries x.0 x.1) gone in record {
      entries = entries;
      room = omega (arith, less, was, i.room, e.room);
      flags = flags_one (entries_of c.args.self.now) (entries_of c.args.child.now) c.loop-slot.self c.loop-slot.child c.take_over.new.self c.take_over.new.child x.0 i.entries entries x.2 has
          (ap (λ m. get m x.0.key) gone ∙ key_gone (entries_of c.loop-slot.child) x.0.key) c.in-Some.slot v.0 h v.1 x.1 one.0 one.1 ∙ i.flags;
      total = (e.total.0 ∙ i.total.0, e.total.1 ∙ i.total.1);
      salt = (one.0.salt ∙ i.salt.0, one.1.salt ∙ i.salt.1);
    }

pub returns-clause-child : goal.returns-clause-child
returns-clause-child c = c.clear.ensures.cleared ∙ (λ i. contents empty [] (c.loop-slot.invariant.total.1 i) (c.loop-slot.invariant.salt.1 i))

pub returns-clause-order : goal.returns-clause-order
returns-clause-order c =
    let l = c.loop-slot in let none = empty_first l.child.changes (sym c.first_change.ensures.first ∙ c.in_default.is) in
    sym (ap (λ ss. flags_merged (entries_of c.args.self.now) (entries_of c.args.child.now) (keys_in l.child.slots ss) (flagged l.self)) none) ∙ l.invariant.flags

pub returns-clause-coins : goal.returns-clause-coins
returns-clause-coins c =
    merged_means c.args.self.now c.args.child.now c.loop-slot.self c.loop-slot.child c.loop-slot.invariant.entries c.first_change.ensures.sound (empty_first c.loop-slot.child.changes (sym c.first_change.ensures.first ∙ c.in_default.is))

pub returns-clause-entries : goal.returns-clause-entries
returns-clause-entries c = c.loop-slot.invariant.entries.adds

pub returns-clause-each : goal.returns-clause-each
returns-clause-each c =
    merged_each c.args.self.now c.args.child.now c.loop-slot.self c.loop-slot.child c.loop-slot.invariant.entries c.first_change.ensures.sound (empty_first c.loop-slot.child.changes (sym c.first_change.ensures.first ∙ c.in_default.is))
