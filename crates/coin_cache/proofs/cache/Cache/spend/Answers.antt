use Rattle.std.proofs.Common.{◌≡◌, None, Some, Ok, sym, subst, ◌∙◌}
use Rattle.coin_cache.specs.Entries.{IsSpent, entries_of}
use Rattle.coin_cache.proofs.Meanings.{answers_entry, spent_means, spent_stands, spent_adds}
use Rattle.coin_cache.specs.Flags.{ChangesOne}
use Rattle.coin_cache.proofs.cache.Cache.spend.Goals as goal

pub returns-in-Some-clause-coin : goal.returns-in-Some-clause-coin
returns-in-Some-clause-coin g c = let x = c.find.ensures.some c.in-Some.slot c.in-Some.is in answers_entry c.args.self.now (g.V.View.coins c.args.under.now) c.args.key.now x.0 (Ok c.spend_entry.result) x.3 (c.spend_entry.ensures.coin x.0 x.1)

pub returns-in-Some-clause-coins : goal.returns-in-Some-clause-coins
returns-in-Some-clause-coins g c = let x = c.find.ensures.some c.in-Some.slot c.in-Some.is in spent_means c.args.self.now c.spend_entry.new.self c.args.key.now x.0 x.3 x.2 (g.V.View.coins c.args.under.now) c.spend_entry.result (c.spend_entry.ensures.entries x.0 x.1)

pub returns-in-Some-clause-stands : goal.returns-in-Some-clause-stands
returns-in-Some-clause-stands g c = let x = c.find.ensures.some c.in-Some.slot c.in-Some.is in spent_stands c.args.self.now c.spend_entry.new.self c.args.key.now x.0 x.3 x.2 (g.V.View.coins c.args.under.now) c.spend_entry.result (c.spend_entry.ensures.entries x.0 x.1)

pub returns-in-Some-clause-entries : goal.returns-in-Some-clause-entries
returns-in-Some-clause-entries g c = let x = c.find.ensures.some c.in-Some.slot c.in-Some.is in spent_adds c.args.self.now c.spend_entry.new.self c.args.key.now x.0 x.3 x.2 (g.V.View.coins c.args.under.now) c.spend_entry.result (c.spend_entry.ensures.entries x.0 x.1)

pub returns-in-Some-clause-entry : goal.returns-in-Some-clause-entry
returns-in-Some-clause-entry g c =
    λ y at. let x = c.find.ensures.some c.in-Some.slot c.in-Some.is in let one : x.0 ≡ y = cc (x.3, at) in
    subst (λ z. IsSpent z (entries_of c.args.self.now) (entries_of c.spend_entry.new.self)) one (c.spend_entry.ensures.entries x.0 x.1)

pub returns-in-None-clause-entry : goal.returns-in-None-clause-entry
returns-in-None-clause-entry g c = λ y at. let e : None ≡ Some y = sym (c.find.ensures.absent c.in-None.is) ∙ at in cc

pub returns-in-Some-clause-one : goal.returns-in-Some-clause-one
returns-in-Some-clause-one g c =
    let x = c.find.ensures.some c.in-Some.slot c.in-Some.is in subst (λ k. ChangesOne k c.args.self.now c.spend_entry.new.self) x.2 (c.spend_entry.ensures.one x.0 x.1)
