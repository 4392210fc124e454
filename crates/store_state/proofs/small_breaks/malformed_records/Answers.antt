use Rattle.store_state.proofs.BrokenImages.{short_headers, short_body, between_tips}
use Rattle.store_state.proofs.small_breaks.malformed_records.Goals as goal

pub returns-clause-headers : goal.returns-clause-headers
returns-clause-headers c = λ limit given image is. short_headers limit given image is

pub returns-clause-body : goal.returns-clause-body
returns-clause-body c = λ limit given image headers is. short_body limit given image headers is

pub returns-clause-between : goal.returns-clause-between
returns-clause-between c = λ limit given image new_tip old_tip rows fits has. between_tips limit given image new_tip old_tip rows fits has.headers has.bodies has.coins
