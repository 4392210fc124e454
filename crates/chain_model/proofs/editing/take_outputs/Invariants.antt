use Rattle.std.proofs.Common.{◌≡◌, ◌+◌, ℕ, List, length, map, Ok}
use Rattle.std.specs.Prelude.{option_map}
use Rattle.base_types.specs.Views.{FindsFault}
use Rattle.base_types.specs.declared.hash.OutPoint.{OutPoint}
use Rattle.block_codec.specs.Text.{txid_of}
use Rattle.chain_model.specs.Coins.{spendable_of, without_outputs}
use Rattle.chain_model.specs.Editing.{Among, EditsOnly}
use Rattle.chain_model.specs.Laws.{outputs_named}
use Rattle.chain_model.proofs.Entering.{left_from, left_without}
use Rattle.chain_model.proofs.editing.take_outputs.Given as goal

abbrev pub invariant-loop-index : goal.invariant-loop-index
invariant-loop-index g l = record {
  coins : option_map (left_without (left_from (txid_of l.tx) l.index l.output-items)) (g.E.View.coins l.coins) ≡ option_map (without_outputs l.tx) (g.E.View.coins l.initial.coins);
  finds : (n : ℕ) × FindsFault {T = Unit {0}} n (g.E.View.counts l.initial.coins) (g.E.View.counts l.coins) (Ok tt) × (n + length (left_from (txid_of l.tx) l.index l.output-items) ≡ length (spendable_of l.tx));
  within : (keys : List OutPoint) → Among keys (outputs_named l.tx) → Among keys (map (λ named. named.0) (left_from (txid_of l.tx) l.index l.output-items)) × g.E.View.behind keys l.initial.coins l.coins × EditsOnly keys (g.E.View.coins l.initial.coins) (g.E.View.coins l.coins);
}
