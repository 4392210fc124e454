-- The numbers with which the program ends.
use Rattle.std.specs.Prelude.{ℕ}
use Rattle.base_types.specs.declared.program.Status.{Status}
use Rattle.base_types.specs.declared.program.Status.TheVariants.{Done, DiskFault, HostFault, InFault, OutFault, NoMemory, Damaged, Usage, TooLong, Full, BadCommitments, CacheFull}

abbrev pub number_of : Status → ℕ
number_of Done = 0
number_of DiskFault = 1
number_of HostFault = 2
number_of InFault = 3
number_of OutFault = 4
number_of NoMemory = 5
number_of (Damaged file at) = 6
number_of Usage = 7
number_of TooLong = 8
number_of (Full file) = 9
number_of BadCommitments = 10
number_of CacheFull = 12
