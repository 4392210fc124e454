use Rattle.std.proofs.Common.{ℕ, ap, option_copied, subst, sym, ◌∙◌}
use Rattle.slot_pool.specs.Slots.{IsIn}
use Rattle.coin_store.specs.declared.store.CoinStore.{CoinStore}
use Rattle.flusher.proofs.Staged.{change_at, stage_room, stage_turn}
use Rattle.flusher.proofs.staging.stage_rows.Goals as goal

pub change-change-requires : goal.change-change-requires
change-change-requires c = subst (λ (s : ℕ). IsIn s c.args.cache.now.changes) (sym c.slot-item.is) (c.requires.flagged c.loop-slot.slot-index c.slot-item.result c.loop-slot-test.true)

pub stage-requires-clause-coin : goal.stage-requires-clause-coin
stage-requires-clause-coin c =
    (change_at c.args.cache.now c.args.slots.now c.loop-slot.slot-index c.slot-item.result c.requires.sound c.requires.flagged c.loop-slot-test.true c.slot-item.is c.change-change.result.key (option_copied c.change-change.result.coin) c.change-change.ensures).fits

pub stage-requires-clause-room : goal.stage-requires-clause-room
stage-requires-clause-room c =
    let change = change_at c.args.cache.now c.args.slots.now c.loop-slot.slot-index c.slot-item.result c.requires.sound c.requires.flagged c.loop-slot-test.true c.slot-item.is c.change-change.result.key (option_copied c.change-change.result.coin) c.change-change.ensures in
    stage_room c.args.cache.now c.args.slots.now c.loop-slot.slot-index c.change-change.result.key (option_copied c.change-change.result.coin) c.loop-slot-test.true change
    c.args.coins.now.mask c.loop-slot.coins (ap (λ (k : CoinStore). k.mask) c.loop-slot.invariant.same) c.loop-slot.invariant.staged

pub loop-slot-preserved : goal.loop-slot-preserved
loop-slot-preserved c =
    let change = change_at c.args.cache.now c.args.slots.now c.loop-slot.slot-index c.slot-item.result c.requires.sound c.requires.flagged c.loop-slot-test.true c.slot-item.is c.change-change.result.key (option_copied c.change-change.result.coin) c.change-change.ensures in
    record {
      staged =
          stage_turn c.args.cache.now c.args.slots.now c.loop-slot.slot-index c.change-change.result.key (option_copied c.change-change.result.coin) c.loop-slot-test.true change
          c.args.coins.now.mask c.loop-slot.coins c.stage.new.self c.stage.ensures.staged c.loop-slot.invariant.staged;
      same = c.stage.ensures.same ∙ ap (λ (k : CoinStore). record k { staged = c.stage.new.self.staged }) c.loop-slot.invariant.same;
    }
