use Rattle.std.proofs.Common.{ℕ, option_copied, subst, sym}
use Rattle.slot_pool.specs.Slots.{IsIn}
use Rattle.flusher.proofs.Staged.{change_at, length_turn}
use Rattle.flusher.proofs.staging.length_of.Goals as goal

pub change-change-requires : goal.change-change-requires
change-change-requires c = subst (λ (s : ℕ). IsIn s c.args.cache.now.changes) (sym c.slot-item.is) (c.requires.flagged c.loop-slot.slot-index c.slot-item.result c.loop-slot-test.true)

pub row_len-row-requires : goal.row_len-row-requires
row_len-row-requires c =
    (change_at c.args.cache.now c.args.slots.now c.loop-slot.slot-index c.slot-item.result c.requires.sound c.requires.flagged c.loop-slot-test.true c.slot-item.is c.change-change.result.key (option_copied c.change-change.result.coin) c.change-change.ensures).fits

pub loop-slot-preserved : goal.loop-slot-preserved
loop-slot-preserved c mask =
    let change = change_at c.args.cache.now c.args.slots.now c.loop-slot.slot-index c.slot-item.result c.requires.sound c.requires.flagged c.loop-slot-test.true c.slot-item.is c.change-change.result.key (option_copied c.change-change.result.coin) c.change-change.ensures in
    length_turn c.args.cache.now c.args.slots.now c.loop-slot.slot-index c.change-change.result.key (option_copied c.change-change.result.coin) c.loop-slot-test.true change
    mask c.loop-slot.len c.row_len-row.result (c.loop-slot.invariant mask) (c.row_len-row.ensures mask)
