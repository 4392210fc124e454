use Rattle.store_state.proofs.TwoReplayed.{coins_after_two, second_refused, first_refused}
use Rattle.store_state.proofs.small_stores.two_blocks_replayed.Goals as goal

pub returns-clause-coins : goal.returns-clause-coins
returns-clause-coins c = λ limit given blocks start middle first. coins_after_two limit given blocks start middle first

pub returns-clause-second : goal.returns-clause-second
returns-clause-second c = λ limit given blocks start middle rule first second. second_refused limit given blocks start middle rule first second

pub returns-clause-first : goal.returns-clause-first
returns-clause-first c = λ limit given blocks start rule first. first_refused limit given blocks start rule first
