use Rattle.std.proofs.Common.{ℕ, ◌++◌, inl, refl, ap, ◌∙◌}
use Rattle.std.proofs.lemmas.Result.{on_ok_weaker}
use Rattle.command_text.specs.Replies.{reply_text}
use Rattle.command_text.specs.declared.line.Line.TheVariants as line
use Rattle.command_text.specs.declared.reply.Reply.TheVariants as says
use Rattle.disk_model.proofs.Entering.{if_err}
use Rattle.store_lines.proofs.HeaderWork.{headers_served, headers_unsaid}
use Rattle.store_lines.proofs.headers.headers_line.Goals as goal

pub returns-in-Ok-Some-clause-ok : goal.returns-in-Ok-Some-clause-ok
returns-in-Ok-Some-clause-ok g c = λ setting before state from had at given.
    let disk = c.take_headers.new.disk in
    let host = c.take_headers.new.host in
    let has = rw c.in-Ok-Some.field-0-is at c.in-Ok-Some.ensures.ok setting before state from had at given in
    on_ok_weaker c.say.result (λ said.
    headers_served setting (g.D.Disk.left_since c.args.disk.now) (g.D.Disk.left_since disk) before state from c.take_headers.new.session (g.D.Disk.time disk) (g.D.Disk.contents disk) (g.H.Host.held host) (g.H.Host.faults host) c.args.name.now c.args.key had
    c.args.out.now.items c.take_headers.new.out.items c.in-Ok-Some.taken has
    c.info.result c.say.new.out.items (record { headers = c.info.ensures.headers; height = c.info.ensures.height; tip = c.info.ensures.tip })
    (said ∙ ap (λ (n : ℕ). c.take_headers.new.out.items ++ reply_text (says.Headers c.in-Ok-Some.taken.frames c.in-Ok-Some.taken.added n)) c.from.ensures)) c.say.ensures.ok

pub returns-in-Ok-Some-clause-err : goal.returns-in-Ok-Some-clause-err
returns-in-Ok-Some-clause-err g c = λ setting before state from had at given.
    let disk = c.take_headers.new.disk in
    let host = c.take_headers.new.host in
    let has = rw c.in-Ok-Some.field-0-is at c.in-Ok-Some.ensures.ok setting before state from had at given in
    if_err c.say.result _
    (headers_unsaid setting (g.D.Disk.left_since c.args.disk.now) (g.D.Disk.left_since disk) before state from c.take_headers.new.session (g.D.Disk.time disk) (g.D.Disk.contents disk) (g.H.Host.held host) (g.H.Host.faults host) c.args.name.now c.args.key had
    c.args.out.now.items c.take_headers.new.out.items c.in-Ok-Some.taken has)

pub returns-in-Ok-None-clause-ok : goal.returns-in-Ok-None-clause-ok
returns-in-Ok-None-clause-ok g c = λ setting before state from had at given.
    let served = rw c.in-Ok-None.field-0-is at c.in-Ok-None.ensures.ok setting before state from had at given in
    served (line.Headers c.args.name.now c.args.key) (inl refl)

pub returns-in-Err-clause-err : goal.returns-in-Err-clause-err
returns-in-Err-clause-err g c = λ setting before state from had at given.
    c.in-Err.ensures.err setting before state from had (line.Headers c.args.name.now c.args.key) at given (inl refl)
