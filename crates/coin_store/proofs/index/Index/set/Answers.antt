use Rattle.std.proofs.Common.{◌∙◌, ap, arith}
use Rattle.std.specs.FinMap.{insert}
use Rattle.coin_store.specs.OpenIndex.{OpenIndex}
use Rattle.coin_store.proofs.Indexes.{set_is, not_there}
use Rattle.coin_store.proofs.Vacant.{vacancies_few, vacancies_put}
use Rattle.coin_store.proofs.index.Index.set.Goals as goal

pub prove-unreachable-requires : goal.prove-unreachable-requires
prove-unreachable-requires c = absurd (omega (arith, c.if-prove.true, c.len.ensures.len, c.self.invariant.0, vacancies_few c.self.inside.places))

pub returns-in_err-old-clause-known : goal.returns-in_err-old-clause-known
returns-in_err-old-clause-known c = λ some. not_there c.self.inside.places (record { outpoint = c.args.key.now }) c.args.self.now.places (ap (λ (i : OpenIndex). i.places) c.self.view_is) c.in_err-old.ensures.absent some

pub overflow_sub-self : goal.overflow_sub-self
overflow_sub-self c =
    let kept = vacancies_put c.self.inside.places c.insert.new.self (record { outpoint = c.args.key.now }) c.args.place c.in_ok-old.old c.in_ok-old.ensures.old c.in_ok-old.ensures.entries in
    omega (arith, kept, c.vacancy.ensures, c.vacancy-2.ensures, c.self.invariant.0)

pub invariant_of-self-2 : goal.invariant_of-self-2
invariant_of-self-2 c =
    let kept = vacancies_put c.self.inside.places c.insert.new.self (record { outpoint = c.args.key.now }) c.args.place c.in_ok-old.old c.in_ok-old.ensures.old c.in_ok-old.ensures.entries in
    (omega (arith, kept, c.vacancy.ensures, c.vacancy-2.ensures, c.self.invariant.0), c.in_ok-old.ensures.hasher ∙ c.self.invariant.1)

pub returns-clause-ok : goal.returns-clause-ok
returns-clause-ok c =
    set_is c.self.inside.places c.insert.new.self (record { outpoint = c.args.key.now }) c.args.place c.in_ok-old.ensures.updates ∙ ap (λ (i : OpenIndex). insert i.places c.args.key.now c.args.place) c.self.view_is
