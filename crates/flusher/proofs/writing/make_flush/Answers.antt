use Rattle.std.proofs.Common.{[], ap, not, sym, ◌∙◌}
use Rattle.std.proofs.lemmas.Result.{on_err_weaker, on_ok_weaker}
use Rattle.flusher.proofs.Begins.{marker_is}
use Rattle.flusher.proofs.Made.{none_changed, not_begun, nothing_changed}
use Rattle.flusher.proofs.Unwritten.{unwritten}
use Rattle.flusher.proofs.writing.make_flush.Goals as goal

pub returns-then-is_at-clause-ok : goal.returns-then-is_at-clause-ok
returns-then-is_at-clause-ok g c limit blocks store meant touched on leads =
    let disk = c.args.disk.now in
    let time = g.D.Disk.time disk in
    let left = g.D.Disk.left_since disk in
    let contents = g.D.Disk.contents disk in
    let cache = c.args.cache.now in
    let none = none_changed cache.changes c.first_change.result c.first_change.ensures.first (c.is_none-unchanged.ensures ∙ ap not c.if-unchanged.true) in
    on_ok_weaker c.note_flush.result
    (unwritten limit left time contents blocks c.args.coins.now store c.args.tip.now meant c.args.why touched (g.met.D.Disk.since_earlier disk) on
    (sym (marker_is limit contents (left time) blocks c.args.coins.now store on leads.begun) ∙ c.is_at.ensures [] on.batches on.coin_rows.knows c.if-is_at.true)
    (nothing_changed cache store.active.coins meant c.first_change.ensures.sound none leads.stands leads.meaning)
    c.args.flushes.now c.note_flush.new.flushes)
    c.note_flush.ensures.ok

pub returns-then-is_at-clause-err : goal.returns-then-is_at-clause-err
returns-then-is_at-clause-err g c limit blocks store meant touched on leads =
    let disk = c.args.disk.now in
    on_err_weaker c.note_flush.result
    (not_begun limit (g.D.Disk.left_since disk) (g.D.Disk.time disk) (g.D.Disk.contents disk) blocks c.args.coins.now store c.args.tip.now c.args.why touched c.args.flushes.now c.note_flush.new.flushes (g.met.D.Disk.since_earlier disk) on)
    c.note_flush.ensures.err
