use Rattle.coin_cache.proofs.Meanings.{answers_entry, entry_fits}
use Rattle.coin_cache.proofs.cache.Cache.get.Goals as goal

pub returns-in-Some-clause-coin : goal.returns-in-Some-clause-coin
returns-in-Some-clause-coin g c =
    let x = c.find.ensures.some c.in-Some.slot c.in-Some.is in answers_entry c.args.self.now (g.V.View.coins c.args.under.now) c.args.key.now x.0 c.coin_in.result x.3 (c.coin_in.ensures.coin x.0 x.1)

pub returns-in-Some-clause-fits : goal.returns-in-Some-clause-fits
returns-in-Some-clause-fits g c =
    let x = c.find.ensures.some c.in-Some.slot c.in-Some.is in entry_fits c.coin_in.result x.0.coin (c.coin_in.ensures.coin x.0 x.1) (c.find.ensures.sound.fits c.in-Some.slot x.0 x.1)
