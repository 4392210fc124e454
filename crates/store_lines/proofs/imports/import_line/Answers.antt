use Rattle.std.proofs.Common.{inr, refl}
use Rattle.std.proofs.lemmas.Result.{on_ok_weaker}
use Rattle.disk_model.proofs.Entering.{if_err}
use Rattle.block_codec.specs.Frames.{frames}
use Rattle.command_text.specs.declared.line.Line.TheVariants as line
use Rattle.machine.specs.Steps.{closure_of, with_headers}
use Rattle.store_lines.proofs.ImportedFiles.{file_there, import_served, import_stopped}
use Rattle.store_lines.proofs.PassSteps.{ended_in_part}
use Rattle.store_lines.proofs.imports.import_line.Goals as goal

pub returns-in-Ok-None-clause-ok : goal.returns-in-Ok-None-clause-ok
returns-in-Ok-None-clause-ok g c setting before state from had at rules =
    let ends = rw c.in-Ok-None.field-0-is at c.in-Ok-None.ensures.ok setting before state from had at rules in
    ends (line.Import c.args.name.now c.args.key) (inr refl)

pub returns-in-Err-clause-err : goal.returns-in-Err-clause-err
returns-in-Err-clause-err g c setting before state from had at rules = c.in-Err.ensures.err setting before state from had (line.Import c.args.name.now c.args.key) at rules (inr refl)

pub returns-in-Ok-clause-ok : goal.returns-in-Ok-clause-ok
returns-in-Ok-clause-ok g c setting before state from had at rules =
    let first = c.args.disk.now in
    let mid = c.take_headers.new.disk in
    let last = c.offer_file.new.disk in
    let host = c.take_headers.new.host in
    let end = c.in-Ok.end in
    let takes = rw c.in-Ok-Some.field-0-is at c.in-Ok-Some.ensures.ok setting before state from had at rules in
    let headed = (with_headers state (closure_of setting state (frames takes.bytes c.args.key)).added).state in
    let there = file_there setting rules (g.D.Disk.left_since first) (g.D.Disk.left_since mid) (g.D.Disk.left_since last) before state from c.args.name.now c.args.key c.args.out.now.items c.take_headers.new.out.items c.in-Ok-Some.taken
    (g.D.Disk.time mid) (g.D.Disk.contents mid) (g.H.Host.held host) (g.H.Host.faults host) c.take_headers.new.session takes (g.D.Disk.time last) (g.D.Disk.contents last) (g.H.Host.held c.offer_file.new.host) (g.H.Host.faults c.offer_file.new.host)
    c.offer_file.new.session c.in-Ok.ensures.faults.1 in
    let passes = c.in-Ok.ensures.ok setting.limit headed takes.on takes.now.told.host takes.bytes takes.now.told.held there takes.now.stood takes.now.settled in
    on_ok_weaker c.say_end.result (λ said. import_served setting rules (g.D.Disk.left_since first) (g.D.Disk.left_since mid) (g.D.Disk.left_since last) before state from c.args.name.now c.args.key c.args.out.now.items c.take_headers.new.out.items c.in-Ok-Some.taken
    (g.D.Disk.time mid) (g.D.Disk.contents mid) (g.H.Host.held host) (g.H.Host.faults host) c.take_headers.new.session takes (g.D.Disk.time last) (g.D.Disk.contents last) (g.H.Host.held c.offer_file.new.host) (g.H.Host.faults c.offer_file.new.host)
    c.offer_file.new.session c.in-Ok.ensures.faults.1 c.info.result (record { headers = c.info.ensures.headers; height = c.info.ensures.height; tip = c.info.ensures.tip }) had c.offer_file.new.out.items c.say_end.new.out.items end c.in-Ok.ensures.told passes said)
    c.say_end.ensures.ok

pub returns-in-Ok-clause-err : goal.returns-in-Ok-clause-err
returns-in-Ok-clause-err g c setting before state from had at rules =
    let first = c.args.disk.now in
    let mid = c.take_headers.new.disk in
    let last = c.offer_file.new.disk in
    let host = c.take_headers.new.host in
    let end = c.in-Ok.end in
    let takes = rw c.in-Ok-Some.field-0-is at c.in-Ok-Some.ensures.ok setting before state from had at rules in
    let headed = (with_headers state (closure_of setting state (frames takes.bytes c.args.key)).added).state in
    let there = file_there setting rules (g.D.Disk.left_since first) (g.D.Disk.left_since mid) (g.D.Disk.left_since last) before state from c.args.name.now c.args.key c.args.out.now.items c.take_headers.new.out.items c.in-Ok-Some.taken
    (g.D.Disk.time mid) (g.D.Disk.contents mid) (g.H.Host.held host) (g.H.Host.faults host) c.take_headers.new.session takes (g.D.Disk.time last) (g.D.Disk.contents last) (g.H.Host.held c.offer_file.new.host) (g.H.Host.faults c.offer_file.new.host)
    c.offer_file.new.session c.in-Ok.ensures.faults.1 in
    let passes = c.in-Ok.ensures.ok setting.limit headed takes.on takes.now.told.host takes.bytes takes.now.told.held there takes.now.stood takes.now.settled in
    if_err c.say_end.result _ (import_stopped setting rules (g.D.Disk.left_since first) (g.D.Disk.left_since mid) (g.D.Disk.left_since last) before state from c.args.name.now c.args.key c.args.out.now.items c.take_headers.new.out.items c.in-Ok-Some.taken
    (g.D.Disk.time mid) (g.D.Disk.contents mid) (g.H.Host.held host) (g.H.Host.faults host) c.take_headers.new.session takes (g.D.Disk.time last) (g.D.Disk.contents last) (g.H.Host.held c.offer_file.new.host) (g.H.Host.faults c.offer_file.new.host)
    c.offer_file.new.session c.in-Ok.ensures.faults.1 had _ c.in-Ok.ensures.told
    (ended_in_part setting.limit (g.D.Disk.left_since mid) (g.D.Disk.left_since last) (g.D.Disk.time mid) (g.D.Disk.time last) (g.D.Disk.contents mid) (g.D.Disk.contents last) headed takes.on c.offer_file.new.session
    c.take_headers.new.out.items c.offer_file.new.out.items (frames takes.bytes c.args.key) end passes))

pub returns-in-Err-offer_file-clause-err : goal.returns-in-Err-offer_file-clause-err
returns-in-Err-offer_file-clause-err g c setting before state from had at rules =
    let first = c.args.disk.now in
    let mid = c.take_headers.new.disk in
    let last = c.offer_file.new.disk in
    let host = c.take_headers.new.host in
    let takes = rw c.in-Ok-Some.field-0-is at c.in-Ok-Some.ensures.ok setting before state from had at rules in
    let headed = (with_headers state (closure_of setting state (frames takes.bytes c.args.key)).added).state in
    let later = c.in-Err-offer_file.ensures.faults.1 in
    let there = file_there setting rules (g.D.Disk.left_since first) (g.D.Disk.left_since mid) (g.D.Disk.left_since last) before state from c.args.name.now c.args.key c.args.out.now.items c.take_headers.new.out.items c.in-Ok-Some.taken
    (g.D.Disk.time mid) (g.D.Disk.contents mid) (g.H.Host.held host) (g.H.Host.faults host) c.take_headers.new.session takes (g.D.Disk.time last) (g.D.Disk.contents last) (g.H.Host.held c.offer_file.new.host) (g.H.Host.faults c.offer_file.new.host)
    c.offer_file.new.session later in
    import_stopped setting rules (g.D.Disk.left_since first) (g.D.Disk.left_since mid) (g.D.Disk.left_since last) before state from c.args.name.now c.args.key c.args.out.now.items c.take_headers.new.out.items c.in-Ok-Some.taken
    (g.D.Disk.time mid) (g.D.Disk.contents mid) (g.H.Host.held host) (g.H.Host.faults host) c.take_headers.new.session takes (g.D.Disk.time last) (g.D.Disk.contents last) (g.H.Host.held c.offer_file.new.host) (g.H.Host.faults c.offer_file.new.host)
    c.offer_file.new.session later had _ c.in-Err-offer_file.ensures.told
    (c.in-Err-offer_file.ensures.err setting.limit headed takes.on takes.now.told.host takes.bytes takes.now.told.held there takes.now.stood takes.now.settled)
