use Rattle.std.specs.Prelude.{Bool}
use Rattle.std.proofs.Common.{subst}
use Rattle.coin_store.specs.BatchReads.{HasRows}
use Rattle.coin_store.proofs.BatchSteps.{base_bare, base_faulty}
use Rattle.coin_store.proofs.batch.read_base.Goals as goal

pub returns-in-Ok-false-clause-broken : goal.returns-in-Ok-false-clause-broken
returns-in-Ok-false-clause-broken c =
    base_bare c.args.gate.file c.args.gate.at c.args.mask.now c.args.payload.now c.args.index.now.places c.read_rows.new.index.places
    (subst (λ (b : Bool). HasRows c.args.gate.file c.args.gate.at 0 c.args.mask.now c.args.payload.now c.args.index.now.places c.read_rows.new.index.places b) c.in-Ok-false.field-0-test c.in-Ok-false.ensures.ok)

pub returns-in-Err-clause-broken : goal.returns-in-Err-clause-broken
returns-in-Err-clause-broken c = base_faulty c.args.mask.now c.args.payload.now c.in-Err.fault c.in-Err.ensures.broken
