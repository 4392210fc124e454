-- What a check of rules answers.
use Rattle.std.specs.Prelude.{◌≡◌}
use Rattle.std.specs.declared.option.Option.{Option}
use Rattle.std.specs.declared.option.Option.TheVariants.{Some, None}
use Rattle.std.specs.declared.result.Result.{Result}
use Rattle.std.specs.declared.result.Result.TheVariants.{Ok, Err}
use Rattle.base_types.specs.declared.refused.BodyRefused.{BodyRefused}
use Rattle.block_checks.specs.declared.fault.CheckFault.{CheckFault}
use Rattle.block_checks.specs.declared.fault.CheckFault.TheVariants.{NoMemory, Refused}

-- Ok exactly where no rule is broken, and a refusal by exactly the broken rule; no memory says nothing
abbrev pub Answers : {A : Type 0} → Option BodyRefused → Result A CheckFault → Type 0
Answers broken (Ok done) = broken ≡ None
Answers broken (Err (Refused rule)) = broken ≡ Some rule
Answers broken (Err NoMemory) = Unit {0}
