use Rattle.coin_store.proofs.HeldCoins.{held_base}
use Rattle.coin_store.proofs.store.CoinStore.base_view.Goals as goal

pub returns-clause-held : goal.returns-clause-held
returns-clause-held g c = λ base batches holds. held_base (g.D.Disk.contents c.args.disk.now) (g.D.Disk.left_since c.args.disk.now (g.D.Disk.time c.args.disk.now)) c.args.self.now base batches holds
