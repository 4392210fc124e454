use Rattle.std.proofs.Common.{refl}
use Rattle.store_lines.proofs.HeaderWork.{all_offered, full_broken, full_offered, headers_broken}
use Rattle.store_lines.proofs.taking.offer_read.Goals as goal

pub returns-in-Err-clause-err : goal.returns-in-Err-clause-err
returns-in-Err-clause-err g c = λ setting before state from held count at given.
    let disk = c.offer_headers.new.disk in
    headers_broken setting given (g.D.Disk.left_since c.args.disk.now) (g.D.Disk.left_since disk) (g.D.Disk.time c.args.disk.now) (g.D.Disk.time disk) (g.D.Disk.contents c.args.disk.now) (g.D.Disk.contents disk) c.args.session.now held count before state from at c.args.headers.now
    (c.in-Err.ensures.err setting.limit state from at.stood at.settled)

pub returns-in-Ok-say-clause-ok : goal.returns-in-Ok-say-clause-ok
returns-in-Ok-say-clause-ok g c = λ setting before state from held count at given.
    let disk = c.offer_headers.new.disk in
    full_offered setting given (g.D.Disk.left_since c.args.disk.now) (g.D.Disk.left_since disk) (g.D.Disk.time c.args.disk.now) (g.D.Disk.time disk) (g.D.Disk.contents c.args.disk.now) (g.D.Disk.contents disk) c.args.session.now held count before state from at c.args.headers.now
    c.offer_headers.new.self c.in-Ok.closure (c.in-Ok.ensures.ok setting.limit state from at.stood at.settled) c.args.out.now.items c.say.new.out.items c.if-closure.true c.in-Ok-say.ensures.ok

pub returns-in-Err-say-clause-err : goal.returns-in-Err-say-clause-err
returns-in-Err-say-clause-err g c = λ setting before state from held count at given.
    let disk = c.offer_headers.new.disk in
    full_broken setting given (g.D.Disk.left_since c.args.disk.now) (g.D.Disk.left_since disk) (g.D.Disk.time c.args.disk.now) (g.D.Disk.time disk) (g.D.Disk.contents c.args.disk.now) (g.D.Disk.contents disk) c.args.session.now held count before state from at c.args.headers.now
    c.offer_headers.new.self c.in-Ok.closure (c.in-Ok.ensures.ok setting.limit state from at.stood at.settled)

pub returns-clause-ok : goal.returns-clause-ok
returns-clause-ok g c = λ setting before state from held count at given.
    let disk = c.offer_headers.new.disk in
    all_offered setting given (g.D.Disk.left_since c.args.disk.now) (g.D.Disk.left_since disk) (g.D.Disk.time c.args.disk.now) (g.D.Disk.time disk) (g.D.Disk.contents c.args.disk.now) (g.D.Disk.contents disk) c.args.session.now held count before state from at c.args.headers.now
    c.offer_headers.new.self c.in-Ok.closure (c.in-Ok.ensures.ok setting.limit state from at.stood at.settled) c.args.out.now.items c.args.out.now.items _ c.if-closure.false refl refl c.from.ensures
