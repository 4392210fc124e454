use Rattle.std.specs.Prelude.{length}
use Rattle.disk_model.proofs.Follows.{no_tear, none_at}
use Rattle.disk_model.proofs.FuseCalls.{refused_moves}
use Rattle.disk_model.proofs.fuse.FuseDiskDisk.write_at.Goals as goal

pub returns-in_err-spend-clause-crash : goal.returns-in_err-spend-clause-crash
returns-in_err-spend-clause-crash g c =
    let e = c.in_err-spend.ensures.err in
    refused_moves _ (g.D.Disk.left_since c.args.self.now.inner) _ _ _ _ (none_at _ _ (no_tear c.args.at (length c.args.bytes.now))) e.2 e.0 c.from_residual.ensures.0
