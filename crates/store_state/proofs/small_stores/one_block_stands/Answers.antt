use Rattle.store_state.specs.State.{first_rules}
use Rattle.store_state.proofs.OneBlock.{one_block_stands, stored_block}
use Rattle.store_state.proofs.small_stores.one_block_stands.Goals as goal

pub returns-clause-stands : goal.returns-clause-stands
returns-clause-stands c = λ limit given first image has. one_block_stands limit given first image has

pub returns-clause-stored : goal.returns-clause-stored
returns-clause-stored c = λ limit first. stored_block limit first_rules first
