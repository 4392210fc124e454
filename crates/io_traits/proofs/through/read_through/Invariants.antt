use Rattle.std.proofs.Common.{◌≡◌, length}
use Rattle.io_traits.specs.Told.{OnTold}
use Rattle.io_traits.specs.RawCalls.{interrupted}
use Rattle.io_traits.proofs.through.read_through.Given as goal

abbrev pub invariant-loop : goal.invariant-loop
invariant-loop g l = record {
  name : g.R.RawReader.name l.reader ≡ g.R.RawReader.name l.fn.reader;
  room : length l.buf ≡ length l.fn.buf;
  tried : OnTold (g.R.RawReader.reads l.fn.reader) (g.R.RawReader.reads l.reader) (λ before now. now ≡ interrupted (length l.fn.buf) l.counter before);
}
