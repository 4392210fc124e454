use Rattle.std.proofs.Common.{◌≡◌, [], ◌∷◌, arith, refl, rules, subst, sym, ◌∙◌}
use Rattle.coin_cache.specs.Entries.{StandsOver}
use Rattle.coin_store.specs.Viewing.{coins_seen}
use Rattle.chainstates.proofs.CoinSteps.{failed_by}
use Rattle.chainstates.proofs.coins.find_coin.Goals as goal

pub returns-clause-stands : goal.returns-clause-stands
returns-clause-stands g c stands =
    let view = c.view-rows.result in
    let index = c.view-rows.ensures.index.0 in
    let mask = c.view-rows.ensures.index.1 in
    let disk = c.view-rows.ensures.disk in
    let at : coins_seen view.mask.now view.index.now (g.D.Disk.contents view.disk.now) ≡ coins_seen c.args.store.now.mask c.args.store.now.index (g.D.Disk.contents c.args.disk.now) =
    (λ i. coins_seen (mask i) (index i) (g.D.Disk.contents (disk i))) in
    subst (StandsOver c.get.new.self) (c.get.ensures.parent ∙ at) (c.get.ensures.stands (subst (StandsOver c.args.cache.now) (sym at) stands))

pub returns-clause-read : goal.returns-clause-read
returns-clause-read g c =
    let b = c.get.ensures.behind (c.args.key.now ∷ []) (0, omega arith, refl) in
    let n = b.2 in
    let s = b.4 in
    let f = c.disk-1.given.1 in
    search rules

pub returns-clause-faults : goal.returns-clause-faults
returns-clause-faults g c =
    let b = c.get.ensures.behind (c.args.key.now ∷ []) (0, omega arith, refl) in
    let n = b.2 in
    let m = b.5.later in
    let f = c.disk-1.given.1 in
    search rules

pub returns-clause-failed : goal.returns-clause-failed
returns-clause-failed g c =
    let b = c.get.ensures.behind (c.args.key.now ∷ []) (0, omega arith, refl) in
    let n = b.2 in
    let w = failed_by 1 _ _ c.get.result c.get.ensures.cause in
    let f = c.disk-1.given.1 in
    search rules
