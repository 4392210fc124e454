use Rattle.chainstates.proofs.OpenCoins.{opened_coins}
use Rattle.chainstates.proofs.opening.open_coins.Goals as goal

pub returns-clause-ok : goal.returns-clause-ok
returns-clause-ok g c contents told =
    opened_coins contents (g.D.Disk.contents c.open.new.disk) (g.D.Disk.left_since c.open.new.disk (g.D.Disk.time c.open.new.disk)) c.args.limits.now.file_bytes c.genesis_hash.result c.args.salt.now c.open.result
    c.genesis_hash.ensures (c.open.ensures.ok contents told) c.open.ensures.opened
