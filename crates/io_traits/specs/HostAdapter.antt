-- What stands below a host's adapter.
use Rattle.std.specs.Prelude.{Option}
use Rattle.io_traits.specs.declared.untold_host.UntoldHost.{UntoldHost}

abbrev pub files_of : {F I O : Type 0} → UntoldHost F I O → F
files_of host = host.files

abbrev pub input_of : {F I O : Type 0} → UntoldHost F I O → Option I
input_of host = host.input

abbrev pub created_of : {F I O : Type 0} → UntoldHost F I O → Option O
created_of host = host.created
