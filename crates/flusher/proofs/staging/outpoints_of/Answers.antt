use Rattle.std.proofs.Common.{ℕ, option_copied, subst, sym}
use Rattle.slot_pool.specs.Slots.{IsIn}
use Rattle.flusher.proofs.Staged.{change_at, keys_turn}
use Rattle.flusher.proofs.staging.outpoints_of.Goals as goal

pub change-requires : goal.change-requires
change-requires c = subst (λ (s : ℕ). IsIn s c.args.cache.now.changes) (sym c.slot-item.is) (c.requires.flagged c.loop-slot.slot-index c.slot-item.result c.loop-slot-test.true)

pub loop-slot-preserved : goal.loop-slot-preserved
loop-slot-preserved c =
    let change = change_at c.args.cache.now c.args.slots.now c.loop-slot.slot-index c.slot-item.result c.requires.sound c.requires.flagged c.loop-slot-test.true c.slot-item.is c.change.result.key (option_copied c.change.result.coin) c.change.ensures in
    keys_turn c.args.cache.now c.args.slots.now c.loop-slot.slot-index c.change.result.key (option_copied c.change.result.coin) c.loop-slot-test.true change
    c.loop-slot.keys.items c.push.new.self.items c.loop-slot.invariant c.in_ok-push.ensures.items
