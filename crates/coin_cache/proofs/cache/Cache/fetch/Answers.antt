use Rattle.std.proofs.Common.{None, Ok, sym, ap, subst, ◌∙◌}
use Rattle.base_types.specs.Views.{AnswersCoin}
use Rattle.coin_cache.specs.Entries.{means}
use Rattle.coin_cache.proofs.Meanings.{answers_parent, held_answer}
use Rattle.coin_cache.proofs.cache.Cache.fetch.Goals as goal

pub returns-in-Ok-None-clause-coin : goal.returns-in-Ok-None-clause-coin
returns-in-Ok-None-clause-coin g c = answers_parent c.args.self.now (g.V.View.coins c.args.under.now) c.args.key.now None c.requires.absent (subst (λ o. AnswersCoin (g.V.View.coins c.args.under.now) c.args.key.now (Ok o)) c.in-Ok-None.field-0-is c.in-Ok-None.ensures.coin)

pub returns-in-Ok-Some-clause-coin : goal.returns-in-Ok-Some-clause-coin
returns-in-Ok-Some-clause-coin g c =
    (held_answer c.args.self.now c.hold.new.self c.args.key.now c.in-Ok-Some.coin c.requires.absent (g.V.View.coins c.args.under.now) (subst (λ o. AnswersCoin (g.V.View.coins c.args.under.now) c.args.key.now (Ok o)) c.in-Ok-Some.field-0-is c.in-Ok-Some.ensures.coin) c.hold.result c.hold.ensures.ok c.hold.ensures.err).0

pub returns-in-Ok-Some-clause-coins : goal.returns-in-Ok-Some-clause-coins
returns-in-Ok-Some-clause-coins g c =
    ap (means c.hold.new.self) c.in-Ok-Some.ensures.coins
    ∙ (held_answer c.args.self.now c.hold.new.self c.args.key.now c.in-Ok-Some.coin c.requires.absent (g.V.View.coins c.args.under.now) (subst (λ o. AnswersCoin (g.V.View.coins c.args.under.now) c.args.key.now (Ok o)) c.in-Ok-Some.field-0-is c.in-Ok-Some.ensures.coin) c.hold.result c.hold.ensures.ok c.hold.ensures.err).1

pub returns-in-Ok-Some-clause-stands : goal.returns-in-Ok-Some-clause-stands
returns-in-Ok-Some-clause-stands g c =
    λ h m told. (held_answer c.args.self.now c.hold.new.self c.args.key.now c.in-Ok-Some.coin c.requires.absent (g.V.View.coins c.args.under.now) (subst (λ o. AnswersCoin (g.V.View.coins c.args.under.now) c.args.key.now (Ok o)) c.in-Ok-Some.field-0-is c.in-Ok-Some.ensures.coin) c.hold.result c.hold.ensures.ok c.hold.ensures.err).2 h m (sym c.in-Ok-Some.ensures.coins ∙ told)

pub returns-in-Ok-Some-clause-held : goal.returns-in-Ok-Some-clause-held
returns-in-Ok-Some-clause-held g c =
    (held_answer c.args.self.now c.hold.new.self c.args.key.now c.in-Ok-Some.coin c.requires.absent (g.V.View.coins c.args.under.now) (subst (λ o. AnswersCoin (g.V.View.coins c.args.under.now) c.args.key.now (Ok o)) c.in-Ok-Some.field-0-is c.in-Ok-Some.ensures.coin) c.hold.result c.hold.ensures.ok c.hold.ensures.err).3

pub returns-in-Ok-Some-clause-entries : goal.returns-in-Ok-Some-clause-entries
returns-in-Ok-Some-clause-entries g c =
    (held_answer c.args.self.now c.hold.new.self c.args.key.now c.in-Ok-Some.coin c.requires.absent (g.V.View.coins c.args.under.now) (subst (λ o. AnswersCoin (g.V.View.coins c.args.under.now) c.args.key.now (Ok o)) c.in-Ok-Some.field-0-is c.in-Ok-Some.ensures.coin) c.hold.result c.hold.ensures.ok c.hold.ensures.err).4
