use Rattle.store_state.proofs.OneHeader.{one_header_stands}
use Rattle.store_state.proofs.small_stores.one_header_stands.Goals as goal

pub returns : goal.returns
returns c = λ limit given header fits child image has. one_header_stands limit given header fits child image has
