use Rattle.std.proofs.Common.{◌≡◌}
use Rattle.chain_gen.proofs.Making.{Making}
use Rattle.chain_gen.proofs.generation.write_blocks.Given as goal

abbrev pub invariant-loop-below : goal.invariant-loop-below
invariant-loop-below g l = record {
  making : Making (g.H.Host.held l.fn.host) (g.H.Host.held l.host) l.number l.below l.tip;
  steady : g.H.Host.faults l.host ≡ g.H.Host.faults l.fn.host;
}
