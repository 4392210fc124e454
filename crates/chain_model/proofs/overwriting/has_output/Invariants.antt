use Rattle.std.proofs.Common.{◌≡◌, List, drop, map, Ok}
use Rattle.std.specs.Prelude.{IfSome}
use Rattle.base_types.specs.Views.{FindsFault}
use Rattle.base_types.specs.declared.hash.OutPoint.{OutPoint}
use Rattle.chain_model.specs.Coins.{numbered}
use Rattle.chain_model.specs.Editing.{Among}
use Rattle.chain_model.proofs.KnownOutputs.{some_known}
use Rattle.chain_model.proofs.overwriting.has_output.Given as goal

abbrev pub invariant-loop-index : goal.invariant-loop-index
invariant-loop-index g l = record {
  same : g.V.View.coins l.coins ≡ g.V.View.coins l.initial.coins;
  found : IfSome (g.V.View.coins l.initial.coins) (λ coins. some_known coins l.txid l.index (drop l.index l.outputs) ≡ some_known coins l.txid 0 l.outputs);
  finds : FindsFault {T = Unit {0}} l.index (g.V.View.counts l.initial.coins) (g.V.View.counts l.coins) (Ok tt);
  behind : (keys : List OutPoint) → Among keys (map (λ named. named.0) (numbered l.txid 0 l.outputs)) → Among keys (map (λ named. named.0) (numbered l.txid l.index (drop l.index l.outputs))) × g.V.View.behind keys l.initial.coins l.coins;
}
