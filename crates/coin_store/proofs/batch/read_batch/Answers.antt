use Rattle.std.specs.Prelude.{◌≡◌, ◌-◌, ℕ, length}
use Rattle.std.proofs.Common.{sym, ap, ◌∙◌}
use Rattle.base_types.specs.Reading.{Input}
use Rattle.coin_store.proofs.BatchLaws.{batch_unmarked}
use Rattle.coin_store.specs.Reading.{marker_of}
use Rattle.coin_store.proofs.BatchSteps.{batch_read, batch_faulty}
use Rattle.coin_store.proofs.batch.read_batch.Goals as goal

pub returns-in_default-clause-broken : goal.returns-in_default-clause-broken
returns-in_default-clause-broken c = batch_unmarked c.args.mask.now c.args.payload.now (ap (λ (i : Input). marker_of i.rest) (sym c.new-cursor.ensures) ∙ c.in_default.ensures.marker)

pub returns-in-Err-clause-broken : goal.returns-in-Err-clause-broken
returns-in-Err-clause-broken c =
    let is = ap (λ (i : Input). marker_of i.rest) (sym c.new-cursor.ensures) ∙ c.in-Some.ensures.marker in
    let end : c.marker_of.new.cursor.end ≡ length c.args.payload.now = c.marker_of.ensures.end ∙ ap (λ (i : Input). i.end) c.new-cursor.ensures in
    batch_faulty c.args.mask.now c.args.payload.now c.in-Some.marker c.marker_of.new.cursor.rest c.place-start.result is (c.place-start.ensures ∙ ap (λ (n : ℕ). n - length c.marker_of.new.cursor.rest) end)
    c.in-Err.fault c.in-Err.ensures.broken

pub returns-in-Ok-clause-ok : goal.returns-in-Ok-clause-ok
returns-in-Ok-clause-ok c =
    let is = ap (λ (i : Input). marker_of i.rest) (sym c.new-cursor.ensures) ∙ c.in-Some.ensures.marker in
    let end : c.marker_of.new.cursor.end ≡ length c.args.payload.now = c.marker_of.ensures.end ∙ ap (λ (i : Input). i.end) c.new-cursor.ensures in
    batch_read c.args.gate.file c.args.gate.at c.args.mask.now c.args.payload.now c.args.index.now.places c.read_rows.new.index.places c.in-Some.marker c.marker_of.new.cursor.rest c.place-start.result _ is
    (c.place-start.ensures ∙ ap (λ (n : ℕ). n - length c.marker_of.new.cursor.rest) end) c.in-Ok.ensures.ok
