use Rattle.std.proofs.Common.{ap}
use Rattle.coin_cache.specs.Contents.{Contents}
use Rattle.coin_views.proofs.Commits.{committed}
use Rattle.coin_views.proofs.layers.Layers.commit.Goals as goal

pub returns-clause-coins : goal.returns-clause-coins
returns-clause-coins c told stand =
    committed c.args.self.now (record { tip = c.merge.new.self; block = c.merge.new.child }) c.reserve.new.self c.reserve.ensures.entries told stand (c.merge.ensures.coins told) (ap (λ (k : Contents). k.slots) c.merge.ensures.child)
