use Rattle.store_state.proofs.BrokenReferences.{unknown_tip, unknown_second_tip, unknown_body, header_twice, unreached_tip}
use Rattle.store_state.proofs.small_breaks.broken_references.Goals as goal

pub returns-clause-tip : goal.returns-clause-tip
returns-clause-tip c = λ limit given image tip rows apart fits has. unknown_tip limit given image tip rows apart fits has.headers has.bodies has.coins

pub returns-clause-second_tip : goal.returns-clause-second_tip
returns-clause-second_tip c = λ limit given image tip first rows apart first_fits fits has. unknown_second_tip limit given image tip first rows apart first_fits fits has.headers has.bodies has.coins

pub returns-clause-body : goal.returns-clause-body
returns-clause-body c = λ limit given image hash block apart fits headers is. unknown_body limit given image hash block apart fits headers is

pub returns-clause-header : goal.returns-clause-header
returns-clause-header c = λ limit given image header fits child is. header_twice limit given image header fits child is

pub returns-clause-unreached : goal.returns-clause-unreached
returns-clause-unreached c = λ limit given image header rows fits child batch_fits has. unreached_tip limit given image header rows fits child batch_fits has
