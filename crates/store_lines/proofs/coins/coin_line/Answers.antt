use Rattle.std.proofs.Common.{◌++◌, ap, ◌∙◌}
use Rattle.std.proofs.lemmas.Result.{on_ok_weaker}
use Rattle.command_text.specs.Replies.{reply_text}
use Rattle.command_text.specs.declared.reply.Reply.{Reply}
use Rattle.disk_model.proofs.Entering.{if_err}
use Rattle.store_lines.proofs.CoinWork.{ask_served, ask_stopped}
use Rattle.store_lines.proofs.coins.coin_line.Goals as goal

pub returns-in-Ok-clause-ok : goal.returns-in-Ok-clause-ok
returns-in-Ok-clause-ok g c = λ setting before state from held faults had at given.
    let disk = c.get_coin.new.disk in
    let quiet = c.get_coin.ensures.quiet in
    on_ok_weaker c.say.result (λ said.
    ask_served setting (g.D.Disk.left_since c.args.disk.now) (g.D.Disk.left_since disk) (g.D.Disk.time c.args.disk.now) (g.D.Disk.time disk) (g.D.Disk.contents c.args.disk.now) (g.D.Disk.contents disk) c.args.session.now held faults before state from at c.args.key.now had
    quiet.later quiet.since (λ t u m low high now. g.met.D.Disk.since_earlier disk t u m low high now) (λ m told. g.met.D.Disk.reads_as disk m told) c.get_coin.ensures.contents
    c.get_coin.new.self c.info.result c.in-Ok.coin c.args.out.now.items c.say.new.out.items (c.in-Ok.ensures.ok setting.limit state from at.stood at.settled)
    (record { headers = c.info.ensures.headers; height = c.info.ensures.height; tip = c.info.ensures.tip })
    (said ∙ ap (λ (r : Reply). c.args.out.now.items ++ reply_text r) c.coin_reply.ensures)) c.say.ensures.ok

pub returns-in-Ok-clause-err : goal.returns-in-Ok-clause-err
returns-in-Ok-clause-err g c = λ setting before state from held faults had at given.
    let disk = c.get_coin.new.disk in
    let quiet = c.get_coin.ensures.quiet in
    if_err c.say.result _
    (ask_stopped setting (g.D.Disk.left_since c.args.disk.now) (g.D.Disk.left_since disk) (g.D.Disk.time c.args.disk.now) (g.D.Disk.time disk) (g.D.Disk.contents c.args.disk.now) (g.D.Disk.contents disk) c.args.session.now held faults before state from at c.args.key.now had
    quiet.later quiet.since (λ t u m low high now. g.met.D.Disk.since_earlier disk t u m low high now) (λ m told. g.met.D.Disk.reads_as disk m told) c.get_coin.ensures.contents)

pub returns-in-Err-clause-err : goal.returns-in-Err-clause-err
returns-in-Err-clause-err g c = λ setting before state from held faults had at given.
    let disk = c.get_coin.new.disk in
    let quiet = c.get_coin.ensures.quiet in
    ask_stopped setting (g.D.Disk.left_since c.args.disk.now) (g.D.Disk.left_since disk) (g.D.Disk.time c.args.disk.now) (g.D.Disk.time disk) (g.D.Disk.contents c.args.disk.now) (g.D.Disk.contents disk) c.args.session.now held faults before state from at c.args.key.now had
    quiet.later quiet.since (λ t u m low high now. g.met.D.Disk.since_earlier disk t u m low high now) (λ m told. g.met.D.Disk.reads_as disk m told) c.get_coin.ensures.contents
