use Rattle.std.proofs.Common.{ap}
use Rattle.batch_log.specs.OpenLog.{OpenLog}
use Rattle.disk_model.proofs.Moments.{on_ok, on_err}
use Rattle.store_writes.proofs.Events.{headers_part, headers_now, headers_whole}
use Rattle.store_writes.proofs.headers.store_headers.Goals as goal

pub returns-clause-ok : goal.returns-clause-ok
returns-clause-ok g c limit coins store tree on grown =
    let put = c.put_headers in
    on_ok put.result _ _
    (λ holds. (
      headers_whole g.D.Disk.time g.D.Disk.left_since g.D.Disk.contents g.met.D.Disk.since_earlier g.met.D.Disk.reads_as c.args.disk.now put.new.disk limit c.args.blocks.now coins store on c.args.headers.now tree grown
          put.ensures.again (put.ensures.any_moment on.payloads on.block_files) put.ensures.others put.new.self holds,
      headers_now g.D.Disk.time g.D.Disk.left_since g.D.Disk.contents g.met.D.Disk.since_earlier g.met.D.Disk.reads_as c.args.disk.now put.new.disk limit c.args.blocks.now coins store on c.args.headers.now tree grown
          put.ensures.again (put.ensures.any_moment on.payloads on.block_files) put.ensures.others put.new.self holds,
    ))
    (put.ensures.ok on.payloads on.block_files)

pub returns-clause-err : goal.returns-clause-err
returns-clause-err g c limit coins store tree on grown =
    let put = c.put_headers in
    on_err put.result _ _
    (λ same. headers_part g.D.Disk.time g.D.Disk.left_since g.D.Disk.contents g.met.D.Disk.since_earlier g.met.D.Disk.reads_as c.args.disk.now put.new.disk limit c.args.blocks.now coins store on c.args.headers.now tree grown
    put.ensures.again (put.ensures.any_moment on.payloads on.block_files) put.ensures.others)
    put.ensures.err

pub returns-clause-files : goal.returns-clause-files
returns-clause-files g c =
    let bodies = c.put_headers.ensures.bodies.0 in record {
      headers = c.put_headers.ensures.same;
      bodies = record { file = ap (λ (l : OpenLog). l.file) bodies; limit = ap (λ (l : OpenLog). l.limit) bodies };
    }
