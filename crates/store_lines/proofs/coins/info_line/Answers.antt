use Rattle.std.proofs.Common.{◌++◌, ◌∙◌}
use Rattle.std.specs.Prelude.{None}
use Rattle.std.proofs.lemmas.Result.{on_ok_weaker}
use Rattle.command_text.specs.Replies.{reply_text}
use Rattle.command_text.specs.declared.reply.Reply.TheVariants as says
use Rattle.command_text.specs.declared.reply.Role.TheVariants as role
use Rattle.disk_model.proofs.Entering.{if_err}
use Rattle.store_lines.proofs.CoinWork.{tell_served, tell_stopped}
use Rattle.store_lines.proofs.coins.info_line.Goals as goal

pub returns-clause-ok : goal.returns-clause-ok
returns-clause-ok g c = λ setting before state from held faults had at.
    let disk = c.args._disk.now in
    on_ok_weaker c.say.result (λ said.
    tell_served setting (g.D.Disk.left_since disk) (g.D.Disk.time disk) (g.D.Disk.contents disk) c.args.session.now held faults before state from at had (λ t u m low high now. g.met.D.Disk.since_earlier disk t u m low high now)
    c.info-info.result c.args.out.now.items c.say.new.out.items (record { headers = c.info-info.ensures.headers; height = c.info-info.ensures.height; tip = c.info-info.ensures.tip })
    (said ∙ (λ i. c.args.out.now.items ++ reply_text (says.Info None (c.from.ensures i) (c.from-2.ensures i) role.Full c.info-info.result.tip)))) c.say.ensures.ok

pub returns-clause-err : goal.returns-clause-err
returns-clause-err g c = λ setting before state from held faults had at.
    let disk = c.args._disk.now in
    if_err c.say.result _
    (tell_stopped setting (g.D.Disk.left_since disk) (g.D.Disk.time disk) (g.D.Disk.contents disk) c.args.session.now held faults before state from at had (λ t u m low high now. g.met.D.Disk.since_earlier disk t u m low high now))
