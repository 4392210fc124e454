use Rattle.std.proofs.Common.{◌≡◌, ◌∙◌, Err, List, ap, subst, true}
use Rattle.std.specs.List.{list_all}
use Rattle.std.proofs.lemmas.List.{take_all}
use Rattle.chainstates.proofs.BatchSteps.{marked_is, marker_there, marks_end, none_marked, stops_between, under_key}
use Rattle.chainstates.proofs.Gates.{all_more}
use Rattle.coin_store.specs.Batches.{Batch}
use Rattle.store_state.specs.State.{coin_file, is_at}
use Rattle.chainstates.proofs.checks.check_markers.Goals as goal

pub returns-in-Some-Between-default-clause-damaged : goal.returns-in-Some-Between-default-clause-damaged
returns-in-Some-Between-default-clause-damaged c base batches knows key tree bodies =
    let m = marked_is _ c.marker_at.result c.in-Some-Between-default.field-0-0 c.in-Some-Between-default.at (c.marker_at.ensures.held base batches knows) c.in-Some-Between-default.is in
    stops_between tree bodies batches knows.fits c.loop-number.number m.0 (under_key c.args.coins.now.mask batches c.loop-number.number _ key m.1) (c.loop-number.invariant base batches knows)
    (ap is_at (m.2 ∙ c.in-Some-Between-default.field-0-0-is))
    ∙ ap (λ at. Err (record { file = coin_file; at = at })) m.3

pub returns-in-None-clause-ok : goal.returns-in-None-clause-ok
returns-in-None-clause-ok c base batches knows =
    let none = none_marked _ c.marker_at.result (c.marker_at.ensures.held base batches knows) c.in-None.is in
    subst (λ (l : List Batch). list_all (λ batch. is_at batch.marker) l ≡ true) (take_all c.loop-number.number batches (marks_end c.args.coins.now.mask 0 batches c.loop-number.number none)) (c.loop-number.invariant base batches knows)

pub loop-number-preserved : goal.loop-number-preserved
loop-number-preserved c base batches knows =
    let m = marked_is _ c.marker_at.result c.in-Some-At-default.field-0-0 c.in-Some-At-default.field-0-1 (c.marker_at.ensures.held base batches knows) c.in-Some-At-default.is in
    let there = marker_there c.args.coins.now.mask 0 batches c.loop-number.number m.0 m.1 in
    all_more (λ batch. is_at batch.marker) batches c.loop-number.number there.batch there.there (c.loop-number.invariant base batches knows)
    (ap is_at (there.marker ∙ m.2 ∙ c.in-Some-At-default.field-0-0-is))
