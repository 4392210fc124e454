use Rattle.coin_store.proofs.HeldCoins.{held_coins}
use Rattle.coin_store.proofs.store.CoinStore.view.Goals as goal

pub returns-clause-held : goal.returns-clause-held
returns-clause-held g c = λ base batches holds. held_coins (g.D.Disk.contents c.args.disk.now) (g.D.Disk.left_since c.args.disk.now (g.D.Disk.time c.args.disk.now)) c.args.self.now base batches holds
