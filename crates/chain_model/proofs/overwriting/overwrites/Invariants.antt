use Rattle.std.proofs.Common.{◌≡◌, ◌+◌, ℕ, List, length, map, Ok}
use Rattle.std.specs.Prelude.{IfSome, sum_by}
use Rattle.std.specs.List.{flat_map}
use Rattle.std.specs.Slice.Iter.{iter_rest}
use Rattle.std.specs.Iterator.Adapters.{zip_first, zip_second}
use Rattle.base_types.specs.Views.{FindsFault}
use Rattle.base_types.specs.declared.hash.OutPoint.{OutPoint}
use Rattle.block_codec.specs.Text.{txid_of}
use Rattle.chain_model.specs.Apply.{overwrites}
use Rattle.chain_model.specs.Connecting.{outputs_asked}
use Rattle.chain_model.specs.Editing.{Among}
use Rattle.chain_model.proofs.overwriting.overwrites.Given as goal

abbrev pub invariant-loop-tx : goal.invariant-loop-tx
invariant-loop-tx g l = record {
  can_next : (goal.iterator-loop-tx g).can_next l.tx-iterator;
  is_finite : (goal.iterator-loop-tx g).is_finite l.tx-iterator;
  ids : iter_rest (zip_second l.tx-iterator) ≡ map txid_of (iter_rest (zip_first l.tx-iterator));
  same : g.V.View.coins l.coins ≡ g.V.View.coins l.initial.coins;
  found : IfSome (g.V.View.coins l.initial.coins) (λ coins. overwrites coins (iter_rest (zip_first l.tx-iterator)) ≡ overwrites coins l.txs);
  finds : (n : ℕ) × FindsFault {T = Unit {0}} n (g.V.View.counts l.initial.coins) (g.V.View.counts l.coins) (Ok tt) × (n + sum_by (λ tx. length tx.outputs) (iter_rest (zip_first l.tx-iterator)) ≡ sum_by (λ tx. length tx.outputs) l.txs);
  behind : (keys : List OutPoint) → Among keys (flat_map outputs_asked l.txs) → Among keys (flat_map outputs_asked (iter_rest (zip_first l.tx-iterator))) × g.V.View.behind keys l.initial.coins l.coins;
}
