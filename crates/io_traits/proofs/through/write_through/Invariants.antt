use Rattle.std.proofs.Common.{◌≡◌}
use Rattle.io_traits.specs.Told.{OnTold}
use Rattle.io_traits.proofs.Writes.{Writes}
use Rattle.io_traits.proofs.through.write_through.Given as goal

abbrev pub invariant-loop : goal.invariant-loop
invariant-loop g l = record {
  name : g.W.RawWriter.name l.writer ≡ g.W.RawWriter.name l.fn.writer;
  calls : OnTold (g.W.RawWriter.writes l.fn.writer) (g.W.RawWriter.writes l.writer) (Writes l.counter l.fn.bytes l.rest);
}
