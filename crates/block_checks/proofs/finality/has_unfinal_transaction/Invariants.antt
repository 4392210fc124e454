use Rattle.std.proofs.Common.{◌≡◌, drop, not}
use Rattle.std.specs.List.{list_any}
use Rattle.chain_model.specs.BodyRules.{is_final}
use Rattle.block_checks.specs.Place.{place_of}
use Rattle.block_checks.proofs.finality.has_unfinal_transaction.Given as goal

abbrev pub invariant-loop-tx : goal.invariant-loop-tx
invariant-loop-tx l = list_any (λ tx. not (is_final (place_of l.place) l.block tx)) (drop l.tx-index l.tx-items) ≡ list_any (λ tx. not (is_final (place_of l.place) l.block tx)) l.tx-items
