use Rattle.std.proofs.Common.{List, refl, sym, ap}
use Rattle.std.proofs.lemmas.Result.{on_err_weaker}
use Rattle.std.specs.Prelude.{Ok, Err}
use Rattle.block_codec.specs.declared.block.Header.{Header}
use Rattle.store_lines.specs.Serving.{standing_of}
use Rattle.store_lines.proofs.HeaderWork.{offer_stopped, offer_taken_of, open_read, read_stopped, unread_served}
use Rattle.store_lines.proofs.taking.take_headers.Goals as goal

pub returns-in-Ok-clause-ok : goal.returns-in-Ok-clause-ok
returns-in-Ok-clause-ok g c = λ setting before state from had at given.
    let disk = c.args.disk.now in
    let host = c.read_headers.new.host in
    let mid = open_read setting (standing_of setting.limit c.args.session.now) (g.D.Disk.time disk) (g.D.Disk.contents disk) (g.D.Disk.left_since disk) (g.H.Host.held c.args.host.now) (g.H.Host.held host) (g.H.Host.faults c.args.host.now) (g.H.Host.faults host) before state from at c.args.name.now c.args.key
    (Ok c.in-Ok.headers) c.in-Ok.ensures.told c.in-Ok.ensures.later in
    offer_taken_of setting (standing_of setting.limit c.args.session.now) (g.D.Disk.time disk) (g.D.Disk.contents disk) (g.D.Disk.left_since disk) (g.H.Host.held c.args.host.now) (g.H.Host.held host) (g.H.Host.faults c.args.host.now) (g.H.Host.faults host) before state from at c.args.name.now c.args.key
    (Ok c.in-Ok.headers) c.in-Ok.ensures.told c.in-Ok.ensures.later c.as_slice.result.now (ap (λ (l : List Header). Ok l) (sym c.as_slice.ensures)) (g.D.Disk.left_since c.offer_read.new.disk) had _ c.args.out.now.items c.offer_read.new.out.items c.offer_read.result
    (c.offer_read.ensures.ok setting _ state from (g.H.Host.held host) (g.H.Host.faults host) mid given)

pub returns-in-Ok-clause-err : goal.returns-in-Ok-clause-err
returns-in-Ok-clause-err g c = λ setting before state from had asked at given takes.
    let disk = c.args.disk.now in
    let host = c.read_headers.new.host in
    let mid = open_read setting (standing_of setting.limit c.args.session.now) (g.D.Disk.time disk) (g.D.Disk.contents disk) (g.D.Disk.left_since disk) (g.H.Host.held c.args.host.now) (g.H.Host.held host) (g.H.Host.faults c.args.host.now) (g.H.Host.faults host) before state from at c.args.name.now c.args.key
    (Ok c.in-Ok.headers) c.in-Ok.ensures.told c.in-Ok.ensures.later in
    on_err_weaker c.offer_read.result (λ broken.
    offer_stopped setting (standing_of setting.limit c.args.session.now) (g.D.Disk.time disk) (g.D.Disk.contents disk) (g.D.Disk.left_since disk) (g.H.Host.held c.args.host.now) (g.H.Host.held host) (g.H.Host.faults c.args.host.now) (g.H.Host.faults host) before state from at c.args.name.now c.args.key
    (Ok c.in-Ok.headers) c.in-Ok.ensures.told c.in-Ok.ensures.later c.as_slice.result.now (ap (λ (l : List Header). Ok l) (sym c.as_slice.ensures)) (g.D.Disk.left_since c.offer_read.new.disk) had asked _ takes broken)
    (c.offer_read.ensures.err setting _ state from (g.H.Host.held host) (g.H.Host.faults host) mid given)

pub returns-in-Ok-say_fault-clause-ok : goal.returns-in-Ok-say_fault-clause-ok
returns-in-Ok-say_fault-clause-ok g c = λ setting before state from had at given.
    let disk = c.args.disk.now in
    let host = c.read_headers.new.host in
    unread_served setting (standing_of setting.limit c.args.session.now) (g.D.Disk.time disk) (g.D.Disk.contents disk) (g.D.Disk.left_since disk) (g.H.Host.held c.args.host.now) (g.H.Host.held host) (g.H.Host.faults c.args.host.now) (g.H.Host.faults host) before state from at c.args.name.now c.args.key
    (Err c.in-Err.fault) c.in-Err.ensures.told c.in-Err.ensures.later had (λ t u m low high now. g.met.D.Disk.since_earlier disk t u m low high now) c.in-Err.fault c.args.out.now.items c.say_fault.new.out.items refl c.in-Ok-say_fault.ensures.ok

pub returns-in-Err-say_fault-clause-err : goal.returns-in-Err-say_fault-clause-err
returns-in-Err-say_fault-clause-err g c = λ setting before state from had asked at given takes.
    let disk = c.args.disk.now in
    let host = c.read_headers.new.host in
    read_stopped setting (standing_of setting.limit c.args.session.now) (g.D.Disk.time disk) (g.D.Disk.contents disk) (g.D.Disk.left_since disk) (g.H.Host.held c.args.host.now) (g.H.Host.held host) (g.H.Host.faults c.args.host.now) (g.H.Host.faults host) before state from at c.args.name.now c.args.key
    (Err c.in-Err.fault) c.in-Err.ensures.told c.in-Err.ensures.later had (λ t u m low high now. g.met.D.Disk.since_earlier disk t u m low high now) asked
