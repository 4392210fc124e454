use Rattle.std.proofs.Common.{◌≡◌, ◌≤◌, ◌*◌, List, length, drop, map, Ok}
use Rattle.std.specs.Prelude.{option_map}
use Rattle.base_types.specs.Views.{FindsFault}
use Rattle.base_types.specs.declared.hash.OutPoint.{OutPoint}
use Rattle.chain_model.specs.Editing.{Among, EditsOnly}
use Rattle.connect.specs.Rolling.{given_back}
use Rattle.connect.proofs.disconnecting.give_back.Given as goal

abbrev pub invariant-loop-left : goal.invariant-loop-left
invariant-loop-left g l = record {
  in_inputs : l.left ≤ length l.inputs;
  in_spent : l.left ≤ length l.spent;
  coins : g.E.View.coins l.coins ≡ option_map (given_back (drop l.left l.inputs) (drop l.left l.spent)) (g.E.View.coins l.initial.coins);
  finds : FindsFault {T = Unit {0}} (2 * length (drop l.left l.inputs)) (g.E.View.counts l.initial.coins) (g.E.View.counts l.coins) (Ok tt);
  within : (keys : List OutPoint) → Among keys (map (λ input. input.prev) l.inputs) → g.E.View.behind keys l.initial.coins l.coins × EditsOnly keys (g.E.View.coins l.initial.coins) (g.E.View.coins l.coins);
}

abbrev pub decreases-loop-left : goal.decreases-loop-left
decreases-loop-left g l = l.left
