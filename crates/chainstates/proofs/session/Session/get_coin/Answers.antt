use Rattle.std.proofs.Common.{[], ◌∷◌, Option, Ok, refl, sym, ap, subst, ◌∙◌}
use Rattle.base_types.specs.Coins.{Coins}
use Rattle.base_types.specs.Views.{AnswersCoin}
use Rattle.base_types.specs.declared.coin.Coin.{Coin}
use Rattle.base_types.specs.declared.fault.StoreFault.{StoreFault}
use Rattle.coin_cache.specs.Contents.{Contents}
use Rattle.coin_cache.specs.Entries.{StandsOver, means}
use Rattle.coin_store.specs.Viewing.{coins_seen}
use Rattle.chainstates.proofs.CoinSteps.{has_answered}
use Rattle.chainstates.specs.declared.session.Session.{Session}
use Rattle.chainstates.proofs.session.Session.get_coin.Goals as goal

pub returns-in-Ok-clause-ok : goal.returns-in-Ok-clause-ok
returns-in-Ok-clause-ok g c limit state store stands settled =
    let before = c.args.self.now in
    let old = c.args.disk.now in
    let new = c.find_coin.new.disk in
    let session : Session = record before { active = record before.active { layers = record { tip = c.find_coin.new.cache; block = c.drop_top.new.self.block } } } in
    let rows = coins_seen before.active.store.mask before.active.store.index (g.D.Disk.contents old) in
    let same = c.tip_cache.ensures.value ∙ c.drop_top.ensures.tip in
    has_answered g.D.Disk.time g.D.Disk.left_since g.D.Disk.contents g.met.D.Disk.since_earlier g.met.D.Disk.reads_as old new c.find_coin.ensures.read.quiet c.find_coin.ensures.read.stays limit
    before session state store stands settled c.args.key.now refl refl c.find_coin.new.cache refl (ap (λ (k : Contents). k.slots) c.drop_top.ensures.block)
    (c.find_coin.ensures.coins ∙ ap (λ (k : Contents). means k rows) same)
    (λ over. c.find_coin.ensures.stands (subst (λ (k : Contents). StandsOver k rows) (sym same) over))
    (Ok c.in-Ok.coin) (subst (λ (k : Contents). AnswersCoin (means k rows) c.args.key.now (Ok c.in-Ok.coin)) same c.in-Ok.ensures.coin)

pub returns-in-Err-clause-cause : goal.returns-in-Err-clause-cause
returns-in-Err-clause-cause g c = c.as_coin_fault.ensures (g.D.Disk.faults c.args.disk.now) (g.D.Disk.faults c.find_coin.new.disk) c.in-Err.ensures.failed
