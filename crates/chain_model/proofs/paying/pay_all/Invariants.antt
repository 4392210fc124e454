use Rattle.std.proofs.Common.{◌≡◌, ◌≤◌, ◌+◌, ◌++◌, ℕ, List, map, All, Ok}
use Rattle.std.specs.Prelude.{option_map, sum_by}
use Rattle.std.specs.List.{flat_map}
use Rattle.std.specs.Slice.Iter.{iter_rest}
use Rattle.std.specs.Iterator.Adapters.{zip_first, zip_second}
use Rattle.base_types.specs.Coins.{CoinFits}
use Rattle.base_types.specs.Parameters.{max_money}
use Rattle.base_types.specs.Views.{FindsFault}
use Rattle.base_types.specs.declared.hash.OutPoint.{OutPoint}
use Rattle.block_codec.specs.Text.{txid_of}
use Rattle.chain_model.specs.Apply.{Position, after_txs, spent_in}
use Rattle.chain_model.specs.Connecting.{IsPayable, calls_to_pay}
use Rattle.chain_model.specs.Editing.{Among, EditsOnly}
use Rattle.chain_model.specs.Laws.{inputs_named, outputs_named}
use Rattle.chain_model.proofs.paying.pay_all.Given as goal

abbrev pub invariant-loop-tx : goal.invariant-loop-tx
invariant-loop-tx g l =
    let position : Position = record { tree = g.T.TreeView.tree l.context.tree.now; parent = l.context.parent.now; at = l.context.height } in
    let rest = iter_rest (zip_first l.tx-iterator) in
    record {
      can_next : (goal.iterator-loop-tx g).can_next l.tx-iterator;
      is_finite : (goal.iterator-loop-tx g).is_finite l.tx-iterator;
      ids : iter_rest (zip_second l.tx-iterator) ≡ map txid_of rest;
      payable : All IsPayable rest;
      in_range : l.fees ≤ max_money;
      paid : option_map (λ coins. after_txs position (record { coins = coins; fees = l.fees }) rest) (g.E.View.coins l.coins) ≡ option_map (λ coins. after_txs position (record { coins = coins; fees = 0 }) l.txs) (g.E.View.coins l.initial.coins);
      undo : option_map (λ coins. l.undo ++ spent_in l.context.height coins rest) (g.E.View.coins l.coins) ≡ option_map (λ coins. spent_in l.context.height coins l.txs) (g.E.View.coins l.initial.coins);
      fits : All (λ spent. All CoinFits spent) l.undo;
      finds : (n : ℕ) × FindsFault {T = Unit {0}} n (g.E.View.counts l.initial.coins) (g.E.View.counts l.coins) (Ok tt) × (n + sum_by calls_to_pay rest ≡ sum_by calls_to_pay l.txs);
      within : (keys : List OutPoint) → Among keys (flat_map inputs_named l.txs) → Among keys (flat_map outputs_named l.txs) → Among keys (flat_map inputs_named rest) × Among keys (flat_map outputs_named rest) × g.E.View.behind keys l.initial.coins l.coins × EditsOnly keys (g.E.View.coins l.initial.coins) (g.E.View.coins l.coins);
    }
