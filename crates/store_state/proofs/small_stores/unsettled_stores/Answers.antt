use Rattle.store_state.proofs.Unsettled.{twice_stored, rows_at_genesis, coins_from_nowhere}
use Rattle.store_state.proofs.small_stores.unsettled_stores.Goals as goal

pub returns-clause-twice : goal.returns-clause-twice
returns-clause-twice c = λ store a b same is settled. twice_stored store a b same is settled

pub returns-clause-stands : goal.returns-clause-stands
returns-clause-stands c = λ limit given image rows fits has. rows_at_genesis limit given image rows fits has

pub returns-clause-rows : goal.returns-clause-rows
returns-clause-rows c = λ given rows some settled. coins_from_nowhere given rows some settled
