use Rattle.std.proofs.Common.{◌≡◌, false, List, drop, map, All, Ok}
use Rattle.std.specs.Prelude.{option_map}
use Rattle.base_types.specs.Coins.{CoinFits}
use Rattle.base_types.specs.Views.{FindsFault}
use Rattle.base_types.specs.declared.hash.OutPoint.{OutPoint}
use Rattle.chain_model.specs.BodyRules.{has_twin_inputs}
use Rattle.chain_model.specs.Coins.{spent_by, without}
use Rattle.chain_model.specs.Editing.{Among, EditsOnly}
use Rattle.chain_model.proofs.InputSteps.{behind}
use Rattle.chain_model.proofs.editing.spend_inputs.Given as goal

abbrev pub invariant-loop-input : goal.invariant-loop-input
invariant-loop-input g l = record {
  single : has_twin_inputs (drop l.input-index l.inputs) ≡ false;
  spent : option_map (λ coins. behind l.spent (spent_by coins (drop l.input-index l.inputs))) (g.E.View.coins l.coins) ≡ option_map (λ coins. spent_by coins l.inputs) (g.E.View.coins l.initial.coins);
  left : option_map (without (drop l.input-index l.inputs)) (g.E.View.coins l.coins) ≡ option_map (without l.inputs) (g.E.View.coins l.initial.coins);
  fits : All CoinFits l.spent;
  finds : FindsFault {T = Unit {0}} l.input-index (g.E.View.counts l.initial.coins) (g.E.View.counts l.coins) (Ok tt);
  within : (keys : List OutPoint) → Among keys (map (λ input. input.prev) l.inputs) → Among keys (map (λ input. input.prev) (drop l.input-index l.inputs)) × g.E.View.behind keys l.initial.coins l.coins × EditsOnly keys (g.E.View.coins l.initial.coins) (g.E.View.coins l.coins);
}
