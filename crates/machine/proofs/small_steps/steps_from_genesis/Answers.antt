use Rattle.machine.proofs.GenesisSteps.{empty_line, unknown_line, bad_name, flush_line, end_of_input, info_line, gettxout_line, missing_file, long_file, fold_line, generate_line, no_nonce_line, generate_fault}
use Rattle.machine.proofs.small_steps.steps_from_genesis.Goals as goal

pub returns-clause-empty : goal.returns-clause-empty
returns-clause-empty c = λ setting now. empty_line setting now

pub returns-clause-unknown : goal.returns-clause-unknown
returns-clause-unknown c = λ setting now. unknown_line setting now

pub returns-clause-no_name : goal.returns-clause-no_name
returns-clause-no_name c = λ setting now. bad_name setting now

pub returns-clause-flush : goal.returns-clause-flush
returns-clause-flush c = λ setting given files. flush_line setting given files

pub returns-clause-end : goal.returns-clause-end
returns-clause-end c = λ given files. end_of_input given files

pub returns-clause-info : goal.returns-clause-info
returns-clause-info c = λ setting given files. info_line setting given files

pub returns-clause-gettxout : goal.returns-clause-gettxout
returns-clause-gettxout c = λ setting given files key. gettxout_line setting given files key

pub returns-clause-missing : goal.returns-clause-missing
returns-clause-missing c = λ setting now name none. missing_file setting now name none

pub returns-clause-long : goal.returns-clause-long
returns-clause-long c = λ setting now name bytes held long. long_file setting now name bytes held long

pub returns-clause-fold : goal.returns-clause-fold
returns-clause-fold c = λ setting now name held. fold_line setting now name held

pub returns-clause-generate : goal.returns-clause-generate
returns-clause-generate c = λ setting now number name block made. generate_line setting now number name block made

pub returns-clause-no_nonce : goal.returns-clause-no_nonce
returns-clause-no_nonce c = λ setting now number name block made. no_nonce_line setting now number name block made

pub returns-clause-fault : goal.returns-clause-fault
returns-clause-fault c = λ setting now number count name. generate_fault setting now number count name
