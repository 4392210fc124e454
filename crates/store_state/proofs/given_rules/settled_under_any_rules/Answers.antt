use Rattle.store_state.proofs.OtherRules.{alike}
use Rattle.store_state.proofs.given_rules.settled_under_any_rules.Goals as goal

pub returns : goal.returns
returns c = λ limit given other image store stands settled. alike limit given other image store stands settled
