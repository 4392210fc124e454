use Rattle.std.proofs.Common.{ℕ, ◌++◌, ap, ◌∙◌}
use Rattle.std.proofs.lemmas.Result.{on_ok_weaker}
use Rattle.base_types.specs.declared.flushes.Chain.TheVariants.{Full}
use Rattle.command_text.specs.Replies.{reply_text}
use Rattle.command_text.specs.declared.reply.Reply.TheVariants as says
use Rattle.disk_model.proofs.Entering.{if_err}
use Rattle.store_lines.proofs.FlushWork.{flush_served, flush_stopped, flush_untold}
use Rattle.store_lines.proofs.flushes.flush_line.Goals as goal

pub returns-in-Err-clause-err : goal.returns-in-Err-clause-err
returns-in-Err-clause-err g c = λ setting before state from held faults at given.
    let disk = c.flush.new.disk in
    flush_stopped setting given (g.D.Disk.left_since c.args.disk.now) (g.D.Disk.left_since disk) (g.D.Disk.time c.args.disk.now) (g.D.Disk.time disk) (g.D.Disk.contents c.args.disk.now) (g.D.Disk.contents disk) c.args.session.now held faults before state from at c.args.why
    c.args.flushes.now c.flush.new.flushes (c.in-Err.ensures.err setting.limit state from at.stood at.settled)

pub returns-clause-ok : goal.returns-clause-ok
returns-clause-ok g c = λ setting before state from held faults at given told.
    let disk = c.flush.new.disk in
    on_ok_weaker c.say.result (λ said.
    flush_served setting given (g.D.Disk.left_since c.args.disk.now) (g.D.Disk.left_since disk) (g.D.Disk.time c.args.disk.now) (g.D.Disk.time disk) (g.D.Disk.contents c.args.disk.now) (g.D.Disk.contents disk) c.args.session.now held faults before state from at c.args.why
    c.args.flushes.now c.flush.new.flushes c.flush.new.self (c.in_default.ensures.ok setting.limit state from at.stood at.settled)
    c.info-info.result c.args.out.now.items c.say.new.out.items told (record { headers = c.info-info.ensures.headers; height = c.info-info.ensures.height; tip = c.info-info.ensures.tip })
    (said ∙ ap (λ (n : ℕ). c.args.out.now.items ++ reply_text (says.Flushed Full n c.info-info.result.tip)) c.from.ensures)) c.say.ensures.ok

pub returns-clause-err : goal.returns-clause-err
returns-clause-err g c = λ setting before state from held faults at given.
    let disk = c.flush.new.disk in
    if_err c.say.result _
    (flush_untold setting given (g.D.Disk.left_since c.args.disk.now) (g.D.Disk.left_since disk) (g.D.Disk.time c.args.disk.now) (g.D.Disk.time disk) (g.D.Disk.contents c.args.disk.now) (g.D.Disk.contents disk) c.args.session.now held faults before state from at c.args.why
    c.args.flushes.now c.flush.new.flushes c.flush.new.self (c.in_default.ensures.ok setting.limit state from at.stood at.settled))
