use Rattle.std.specs.Option.{option_copied}
use Rattle.std.proofs.Common.{refl}
use Rattle.coin_store.proofs.Payloads.{staged_push}
use Rattle.coin_store.proofs.store.CoinStore.stage.Goals as goal

pub returns-clause-staged : goal.returns-clause-staged
returns-clause-staged c = λ keys payload payloads total rows staged named.
    staged_push c.args.self.now _ keys payload payloads total rows (record { key = c.args.key.now; coin = option_copied c.args.coin }) c.push.ensures.text c.push.ensures.coin c.push.ensures.room refl refl refl refl staged named
    (record { key = c.push.ensures.fits; value = c.requires.coin })
