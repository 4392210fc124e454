use Rattle.std.proofs.Common.{◌≡◌}
use Rattle.std.specs.Prelude.{IfSome}
use Rattle.std.specs.List.{AllByRecursion}
use Rattle.base_types.specs.Coins.{CoinFits}
use Rattle.chain_model.specs.Changes.{changed_by, with_changes}
use Rattle.chain_model.proofs.changes.Changes.merge_into.Given as goal

abbrev pub invariant-loop-key : goal.invariant-loop-key
invariant-loop-key l = record {
  changed : changed_by l.coins l.key-iterator ≡ with_changes l.fn.self l.fn.coins;
  fits : AllByRecursion (λ change. IfSome change.1 CoinFits) l.key-iterator;
}
