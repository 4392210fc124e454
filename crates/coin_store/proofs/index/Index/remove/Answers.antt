use Rattle.std.proofs.Common.{◌∙◌, ap, arith}
use Rattle.std.specs.FinMap.{remove}
use Rattle.coin_store.specs.OpenIndex.{OpenIndex}
use Rattle.coin_store.proofs.Indexes.{remove_is}
use Rattle.coin_store.proofs.Vacant.{vacancies_taken}
use Rattle.coin_store.proofs.index.Index.remove.Goals as goal

pub overflow_sub-self : goal.overflow_sub-self
overflow_sub-self c =
    let taken = vacancies_taken c.self.inside.places c.remove-old.new.self (record { outpoint = c.args.key.now }) c.remove-old.result c.remove-old.ensures.value c.remove-old.ensures.entries in
    omega (arith, taken, c.vacancy.ensures, c.self.invariant.0)

pub invariant_of-self : goal.invariant_of-self
invariant_of-self c =
    let taken = vacancies_taken c.self.inside.places c.remove-old.new.self (record { outpoint = c.args.key.now }) c.remove-old.result c.remove-old.ensures.value c.remove-old.ensures.entries in
    (omega (arith, taken, c.vacancy.ensures, c.self.invariant.0), c.remove-old.ensures.hasher ∙ c.self.invariant.1)

pub returns-clause-places : goal.returns-clause-places
returns-clause-places c =
    remove_is c.self.inside.places c.remove-old.new.self (record { outpoint = c.args.key.now }) c.remove-old.ensures.updates ∙ ap (λ (i : OpenIndex). remove i.places c.args.key.now) c.self.view_is
