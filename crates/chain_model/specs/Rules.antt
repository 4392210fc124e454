-- Rules in their order.
use Rattle.std.specs.Prelude.{Bool, List, [], ◌∷◌, cond}
use Rattle.std.specs.declared.option.Option.{Option}
use Rattle.std.specs.declared.option.Option.TheVariants.{Some, None}

-- the first of the rules that is broken
unfoldable pub first_broken : {R : Type 0} → List (Bool × R) → Option R
first_broken [] = None
first_broken (rule ∷ rules) = cond rule.0 (Some rule.1) (first_broken rules)

-- the first answer that there is
unfoldable pub first_some : {R : Type 0} → List (Option R) → Option R
first_some [] = None
first_some (None ∷ others) = first_some others
first_some (Some rule ∷ others) = Some rule
