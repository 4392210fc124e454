use Rattle.chain_model.proofs.SmallChoices.{child_first, full_later, full_at_once}
use Rattle.chain_model.proofs.small_choices.headers_in_any_order.Goals as goal

pub returns : goal.returns
returns c = record { child_first = child_first; full_later = full_later; full_at_once = full_at_once }
