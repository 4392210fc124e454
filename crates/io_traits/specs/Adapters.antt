-- What stands below an adapter.
use Rattle.std.specs.Prelude.{Option}
use Rattle.io_traits.specs.declared.untold_streams.UntoldSource.{UntoldSource}
use Rattle.io_traits.specs.declared.untold_streams.UntoldSink.{UntoldSink}

abbrev pub reader_of : {R : Type 0} → UntoldSource R → R
reader_of source = source.reader

abbrev pub writer_of : {W : Type 0} → UntoldSink W → W
writer_of sink = sink.writer
