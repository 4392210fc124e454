use Rattle.std.proofs.Common.{ℕ, List, sym, subst}
use Rattle.flusher.specs.Changes.{rows_in}
use Rattle.flusher.specs.Flushing.{AreChanges}
use Rattle.flusher.proofs.Moved.{flagged_all}
use Rattle.flusher.proofs.Rows.{are_changes}
use Rattle.flusher.proofs.Staged.{ready_for, rows_again, stage_fails, staged_rows}
use Rattle.flusher.proofs.staging.stage_changes.Goals as goal

pub prepare_rows-requires-clause-flagged : goal.prepare_rows-requires-clause-flagged
prepare_rows-requires-clause-flagged c = flagged_all c.args.cache.now.changes c.in-Ok.slots.items c.deref.result.now c.in-Ok.ensures.moved c.deref.ensures.value

pub returns-in-Err-prepare_rows-clause-cause : goal.returns-in-Err-prepare_rows-clause-cause
returns-in-Err-prepare_rows-clause-cause c before now =
    let cache = c.args.cache.now in
    let shown = c.deref.result.now in
    let are = subst (λ (l : List ℕ). AreChanges cache (rows_in cache.slots l)) (sym c.deref.ensures.value) (are_changes cache c.in-Ok.slots.items c.changes_in_order.ensures.sound c.in-Ok.ensures.moved) in
    stage_fails c.args.coins.now cache (rows_in cache.slots shown) c.args.tip.now before now are c.is_hash.ensures c.in-Err-prepare_rows.fault c.in-Err-prepare_rows.ensures.cause

pub stage_rows-requires-clause-flagged : goal.stage_rows-requires-clause-flagged
stage_rows-requires-clause-flagged c = flagged_all c.args.cache.now.changes c.in-Ok.slots.items c.deref-2.result.now c.in-Ok.ensures.moved c.deref-2.ensures.value

pub returns-clause-ready : goal.returns-clause-ready
returns-clause-ready c =
    let same = staged_rows c.prepare_rows.new.coins c.stage_rows.new.coins c.stage_rows.ensures.same in
    ready_for c.prepare_rows.new.coins.mask c.stage_rows.new.coins (rows_in c.args.cache.now.slots c.deref-2.result.now) c.args.tip.now same.mask c.is_hash.ensures c.stage_rows.ensures.staged

pub returns-clause-same : goal.returns-clause-same
returns-clause-same c =
    rows_again c.args.coins.now c.prepare_rows.new.coins c.stage_rows.new.coins c.prepare_rows.ensures.same (staged_rows c.prepare_rows.new.coins c.stage_rows.new.coins c.stage_rows.ensures.same)
