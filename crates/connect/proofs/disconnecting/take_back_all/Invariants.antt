use Rattle.std.proofs.Common.{◌≡◌, ◌≤◌, List, length, drop, Ok}
use Rattle.std.specs.Prelude.{option_map, sum_by}
use Rattle.std.specs.List.{flat_map}
use Rattle.base_types.specs.Views.{FindsFault}
use Rattle.base_types.specs.declared.hash.OutPoint.{OutPoint}
use Rattle.chain_model.specs.Editing.{Among, EditsOnly}
use Rattle.chain_model.specs.Laws.{inputs_named, outputs_named}
use Rattle.connect.specs.Rolling.{all_taken_back, calls_to_take_back}
use Rattle.connect.proofs.disconnecting.take_back_all.Given as goal

abbrev pub invariant-loop-left : goal.invariant-loop-left
invariant-loop-left g l = record {
  in_txs : l.left ≤ length l.txs;
  in_undo : l.left ≤ length l.undo;
  coins : g.E.View.coins l.coins ≡ option_map (all_taken_back (drop l.left l.txs) (drop l.left l.undo)) (g.E.View.coins l.initial.coins);
  finds : FindsFault {T = Unit {0}} (sum_by calls_to_take_back (drop l.left l.txs)) (g.E.View.counts l.initial.coins) (g.E.View.counts l.coins) (Ok tt);
  within : (keys : List OutPoint) → Among keys (flat_map inputs_named l.txs) → Among keys (flat_map outputs_named l.txs) → g.E.View.behind keys l.initial.coins l.coins × EditsOnly keys (g.E.View.coins l.initial.coins) (g.E.View.coins l.coins);
}

abbrev pub decreases-loop-left : goal.decreases-loop-left
decreases-loop-left g l = l.left
