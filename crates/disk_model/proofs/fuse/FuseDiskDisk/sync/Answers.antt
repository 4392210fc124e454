use Rattle.disk_model.proofs.Moments.{on_ok}
use Rattle.disk_model.proofs.FuseCalls.{only_behind}
use Rattle.disk_model.proofs.fuse.FuseDiskDisk.sync.Goals as goal

pub returns-clause-durable : goal.returns-clause-durable
returns-clause-durable g c m is =
    on_ok _ _ _ (λ only. only_behind (g.D.Disk.left_since c.sync.new.self) c.args.file (m c.args.file) _ _ c.in_ok-spend.ensures.ok.1 only) (c.sync.ensures.durable m is)
