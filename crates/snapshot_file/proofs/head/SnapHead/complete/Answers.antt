use Rattle.std.proofs.Common.{arith, ◌≡◌, ◌-◌, length, ◌∙◌}
use Rattle.std.specs.Prelude.{min}
use Rattle.snapshot_file.proofs.HeadLaws.{head_whole, head_waits, head_breaks}
use Rattle.snapshot_file.proofs.head.SnapHead.complete.Goals as goal

pub returns-in-Ok-clause-step : goal.returns-in-Ok-clause-step
returns-in-Ok-clause-step c = λ waits.
    let added = c.in_ok-extend_from_slice.ensures.items in
    let used : c.min-used.result ≡ min (51 - length c.args.held.now.items) (length c.args.piece.now) = omega arith in
    head_whole c.in-Ok.head c.args.held.now.items c.args.piece.now c.deref.result.now c.min-used.result waits used (c.deref.ensures.value ∙ added) c.in-Ok.ensures

pub returns-in-Err-Unfinished-clause-step : goal.returns-in-Err-Unfinished-clause-step
returns-in-Err-Unfinished-clause-step c = λ waits.
    let added = c.in_ok-extend_from_slice.ensures.items in
    let used : c.min-used.result ≡ min (51 - length c.args.held.now.items) (length c.args.piece.now) = omega arith in
    let read = rw c.in-Err-Unfinished.field-0-is at c.in-Err-Unfinished.ensures in
    head_waits c.args.held.now.items c.args.piece.now c.extend_from_slice.new.self.items c.min-used.result waits used added (rw (← c.deref.ensures.value) read)

pub returns-in-Err-Bad-clause-step : goal.returns-in-Err-Bad-clause-step
returns-in-Err-Bad-clause-step c = λ waits.
    let added = c.in_ok-extend_from_slice.ensures.items in
    let read = rw c.in-Err-Bad.field-0-is at c.in-Err-Bad.ensures in
    head_breaks c.in-Err-Bad.error c.in-Err-Bad.at c.args.held.now.items c.args.piece.now c.deref.result.now c.min-used.result (c.deref.ensures.value ∙ added) read
