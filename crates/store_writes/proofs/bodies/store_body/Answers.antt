use Rattle.std.proofs.Common.{ap}
use Rattle.batch_log.specs.OpenLog.{OpenLog}
use Rattle.disk_model.proofs.Moments.{on_ok, on_err}
use Rattle.store_writes.proofs.Events.{body_part, body_now, body_whole}
use Rattle.store_writes.proofs.bodies.store_body.Goals as goal

pub returns-clause-ok : goal.returns-clause-ok
returns-clause-ok g c limit coins store text on is found above meets fresh =
    let put = c.put_body in
    on_ok put.result _ _
    (λ holds. (
      body_whole g.D.Disk.time g.D.Disk.left_since g.D.Disk.contents g.met.D.Disk.since_earlier g.met.D.Disk.reads_as c.args.disk.now put.new.disk limit c.args.blocks.now coins store on c.args.hash.now c.args.block.now
          found above meets fresh put.ensures.carries (put.ensures.again text is) (put.ensures.any_moment on.payloads on.block_files) put.ensures.others put.new.self holds,
      body_now g.D.Disk.time g.D.Disk.left_since g.D.Disk.contents g.met.D.Disk.since_earlier g.met.D.Disk.reads_as c.args.disk.now put.new.disk limit c.args.blocks.now coins store on c.args.hash.now c.args.block.now
          found above meets fresh put.ensures.carries (put.ensures.again text is) (put.ensures.any_moment on.payloads on.block_files) put.ensures.others put.new.self holds,
    ))
    (put.ensures.ok on.payloads on.block_files)

pub returns-clause-err : goal.returns-clause-err
returns-clause-err g c limit coins store text on is found above meets fresh =
    let put = c.put_body in
    on_err put.result _ _
    (λ same. body_part g.D.Disk.time g.D.Disk.left_since g.D.Disk.contents g.met.D.Disk.since_earlier g.met.D.Disk.reads_as c.args.disk.now put.new.disk limit c.args.blocks.now coins store on c.args.hash.now c.args.block.now
    found above meets fresh put.ensures.carries (put.ensures.again text is) (put.ensures.any_moment on.payloads on.block_files) put.ensures.others)
    put.ensures.err

pub returns-clause-files : goal.returns-clause-files
returns-clause-files g c =
    let headers = c.put_body.ensures.headers in record {
      headers = record { file = ap (λ (l : OpenLog). l.file) headers; limit = ap (λ (l : OpenLog). l.limit) headers };
      bodies = c.put_body.ensures.same;
    }
