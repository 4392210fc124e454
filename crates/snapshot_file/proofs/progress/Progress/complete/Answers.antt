use Rattle.std.proofs.Common.{arith, ◌≡◌, ◌∙◌, ◌+◌, ◌-◌, length}
use Rattle.snapshot_file.proofs.Completing.{added_more, completed, completing_breaks}
use Rattle.snapshot_file.proofs.progress.Progress.complete.Goals as goal

pub loop-added-preserved : goal.loop-added-preserved
loop-added-preserved c =
    let i = c.loop-added.invariant in
    let stayed = rw c.in-Err-Unfinished.field-0-is at c.in-Err-Unfinished.ensures.step in
    record {
      held = added_more c.args.held.now.items c.args.piece.now c.loop-added.held.items c.extend_from_slice.new.self.items c.loop-added.added c.min-more.result i.held c.in_ok-extend_from_slice.ensures.items;
      within = omega arith;
      self = stayed.same ∙ i.self;
      coins = stayed.coins ∙ i.coins;
      waits = λ _. rw (← i.self, ← c.deref.ensures.value) stayed.waits;
    }

pub returns-in-Ok-clause-step : goal.returns-in-Ok-clause-step
returns-in-Ok-clause-step c = λ waits.
    let i = c.loop-added.invariant in
    let held = added_more c.args.held.now.items c.args.piece.now c.loop-added.held.items c.extend_from_slice.new.self.items c.loop-added.added c.min-more.result i.held c.in_ok-extend_from_slice.ensures.items in
    let used : c.saturating_sub.result ≡ c.in-Ok.len - length c.args.held.now.items = omega arith in
    rw used (
    completed c.args.self.now c.loop-added.self c.read_item.new.self c.args.at c.args.held.now.items c.args.piece.now c.deref.result.now (c.loop-added.added + c.min-more.result) c.in-Ok.len c.args.coins.now c.loop-added.coins c.read_item.new.coins
    (c.deref.ensures.value ∙ held) (omega arith) i.self i.coins waits c.in-Ok.ensures.step
    )

pub returns-in-Err-Bad-clause-step : goal.returns-in-Err-Bad-clause-step
returns-in-Err-Bad-clause-step c = λ waits.
    let i = c.loop-added.invariant in
    let held = added_more c.args.held.now.items c.args.piece.now c.loop-added.held.items c.extend_from_slice.new.self.items c.loop-added.added c.min-more.result i.held c.in_ok-extend_from_slice.ensures.items in
    completing_breaks c.args.self.now c.loop-added.self c.args.at c.args.held.now.items c.args.piece.now c.deref.result.now (c.loop-added.added + c.min-more.result) c.in-Err-Bad.offset c.in-Err-Bad.error c.fault_at.result c.args.coins.now c.loop-added.coins c.read_item.new.coins
    (c.deref.ensures.value ∙ held) i.self i.coins c.fault_at.ensures (rw c.in-Err-Bad.field-0-is at c.in-Err-Bad.ensures.step)
