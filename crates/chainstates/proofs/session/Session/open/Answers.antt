use Rattle.std.proofs.Common.{◌∙◌, [], ap, refl, sym}
use Rattle.coin_cache.specs.Contents.{Contents}
use Rattle.store_state.specs.State.{first_rules, tip_of_marker}
use Rattle.chainstates.proofs.Breaks.{stops_break}
use Rattle.chainstates.proofs.Entries.{leaves_read}
use Rattle.chainstates.proofs.Leaving.{opening_fails}
use Rattle.chainstates.proofs.Opened.{opens_session}
use Rattle.chainstates.proofs.session.Session.open.Goals as goal

pub returns-in-Err-clause-err : goal.returns-in-Err-clause-err
returns-in-Err-clause-err g c contents told =
    opening_fails g.D.Disk.time g.D.Disk.left_since g.D.Disk.contents g.met.D.Disk.since_earlier g.met.D.Disk.reads_as c.args.limits.now.headers first_rules c.args.disk.now c.open_files.new.disk (c.open_files.ensures.same contents told)

pub returns-in-Err-clause-damaged : goal.returns-in-Err-clause-damaged
returns-in-Err-clause-damaged g c contents told = c.in-Err.ensures.damaged contents told c.args.limits.now.headers

pub returns-in-Ok-find_waiting-clause-ok : goal.returns-in-Ok-find_waiting-clause-ok
returns-in-Ok-find_waiting-clause-ok g c contents told =
    let has = c.in-Ok.ensures.ok contents told in
    let read = c.in-Ok-read_files.ensures.ok has.payloads has.rows.batches has.block_files has.rows.coin_rows.knows has.rows.mask in
    opens_session g.D.Disk.time g.D.Disk.left_since g.D.Disk.contents g.met.D.Disk.since_earlier g.met.D.Disk.reads_as c.args.disk.now c.open_files.new.disk c.read_files.new.disk c.args.limits.now.headers contents c.in-Ok.files.0 c.in-Ok.files.1 told has
    (c.open_files.ensures.same contents told) c.in-Ok-read_files.ensures.quiet c.in-Ok-read_files.ensures.contents c.in-Ok-read_files.tree.tree read.0 read.1
    (record {
      shared = record { tree = c.in-Ok-read_files.tree; blocks = c.in-Ok.files.0 };
      active = record { tip = c.tip_of-tip.result; store = c.in-Ok.files.1; layers = c.new.result; waiting = c.in-Ok-find_waiting.waiting };
    })
    refl c.in-Ok-read_files.ensures.limit refl refl
    (c.tip_of-tip.ensures ∙ ap tip_of_marker (c.marker.ensures.held [] has.rows.batches has.rows.coin_rows.knows))
    (sym c.marker.ensures.last ∙ c.marker.ensures.held [] has.rows.batches has.rows.coin_rows.knows)
    (ap (λ (v : Contents). v.slots) c.new.ensures.tip) (ap (λ (v : Contents). v.slots) c.new.ensures.block) c.in-Ok-find_waiting.ensures

pub returns-in-Err-find_waiting-clause-err : goal.returns-in-Err-find_waiting-clause-err
returns-in-Err-find_waiting-clause-err g c contents told =
    opening_fails g.D.Disk.time g.D.Disk.left_since g.D.Disk.contents g.met.D.Disk.since_earlier g.met.D.Disk.reads_as c.args.limits.now.headers first_rules c.args.disk.now c.read_files.new.disk
    (leaves_read g.D.Disk.time g.D.Disk.left_since g.D.Disk.contents g.met.D.Disk.since_earlier c.args.disk.now c.open_files.new.disk c.read_files.new.disk (c.open_files.ensures.same contents told) c.read_files.ensures.quiet)

pub returns-in-Err-read_files-clause-err : goal.returns-in-Err-read_files-clause-err
returns-in-Err-read_files-clause-err g c contents told =
    opening_fails g.D.Disk.time g.D.Disk.left_since g.D.Disk.contents g.met.D.Disk.since_earlier g.met.D.Disk.reads_as c.args.limits.now.headers first_rules c.args.disk.now c.read_files.new.disk
    (leaves_read g.D.Disk.time g.D.Disk.left_since g.D.Disk.contents g.met.D.Disk.since_earlier c.args.disk.now c.open_files.new.disk c.read_files.new.disk (c.open_files.ensures.same contents told) c.read_files.ensures.quiet)

pub returns-in-Err-read_files-clause-damaged : goal.returns-in-Err-read_files-clause-damaged
returns-in-Err-read_files-clause-damaged g c contents told =
    let has = c.in-Ok.ensures.ok contents told in
    stops_break c.args.limits.now.headers contents has.payloads has.rows.batches (record { headers = has.headers; bodies = has.bodies; coins = has.rows.rows }) c.in-Err-read_files.fault
    (c.in-Err-read_files.ensures.damaged has.payloads has.rows.batches has.block_files has.rows.coin_rows.knows has.rows.mask)
