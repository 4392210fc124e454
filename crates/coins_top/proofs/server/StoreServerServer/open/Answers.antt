use Rattle.coins_top.proofs.Serving.{opens_store}
use Rattle.coins_top.proofs.server.StoreServerServer.open.Goals as goal

pub returns-in-Ok-clause-ok : goal.returns-in-Ok-clause-ok
returns-in-Ok-clause-ok g c contents told =
    opens_store c.args.settings.now c.requires.rules (g.D.Disk.left_since c.args.disk.now) (g.D.Disk.left_since c.open.new.disk) (g.D.Disk.time c.args.disk.now) (g.D.Disk.time c.open.new.disk) contents (g.D.Disk.contents c.open.new.disk)
    c.in-Ok.session c.found.result (c.in-Ok.ensures.ok contents told) c.found.ensures
