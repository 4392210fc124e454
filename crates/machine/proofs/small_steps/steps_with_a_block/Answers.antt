use Rattle.machine.proofs.ImportSteps.{import_line, import_fault, headers_line, advances_with_flush}
use Rattle.machine.proofs.small_steps.steps_with_a_block.Goals as goal

pub returns-clause-import : goal.returns-clause-import
returns-clause-import c = λ setting first files name bytes held short one_frame. import_line setting first files name bytes held short one_frame

pub returns-clause-fault : goal.returns-clause-fault
returns-clause-fault c = λ setting first files name bytes held short one_frame. import_fault setting first files name bytes held short one_frame

pub returns-clause-headers : goal.returns-clause-headers
returns-clause-headers c = λ setting first files name bytes held short one_frame. headers_line setting first files name bytes held short one_frame

pub returns-clause-flush : goal.returns-clause-flush
returns-clause-flush c = λ setting first due. advances_with_flush setting.limit setting.given first setting due
