use Rattle.store_state.proofs.BrokenImages.{open_gate_alone, second_record_cut}
use Rattle.store_state.proofs.small_breaks.damaged_logs.Goals as goal

pub returns-clause-alone : goal.returns-clause-alone
returns-clause-alone c = λ limit given image is. open_gate_alone limit given image is

pub returns-clause-cut : goal.returns-clause-cut
returns-clause-cut c = λ limit given image first second n a b headers bodies is. second_record_cut limit given image first second n a b headers bodies is
