use Rattle.std.proofs.Common.{◌≡◌, ◌∙◌, Err, List, ap, arith, false, subst, sym, true}
use Rattle.std.specs.List.{list_all}
use Rattle.std.proofs.lemmas.List.{take_all}
use Rattle.std.proofs.lemmas.Option.{slice_get_within}
use Rattle.chainstates.specs.Reading.{known_tips}
use Rattle.chainstates.proofs.BatchSteps.{marked_is, marker_there, marks_end, none_marked, stops_unknown, tips_known, under_key}
use Rattle.chainstates.proofs.BodySteps.{in_tree}
use Rattle.chainstates.proofs.Gates.{all_at, all_more}
use Rattle.coin_store.specs.Batches.{Batch}
use Rattle.store_state.specs.State.{coin_file, is_at, is_in, tip_of_marker}
use Rattle.chainstates.proofs.checks.count_tips.Goals as goal

pub returns-in_default-clause-ok : goal.returns-in_default-clause-ok
returns-in_default-clause-ok c base batches knows all =
    let none = none_marked _ c.marker_at.result (c.marker_at.ensures.held base batches knows) c.in_default.is in
    let over = marks_end c.args.coins.now.mask 0 batches c.loop-number.number none in
    let far = c.loop-number.invariant base batches knows all in
    let within = far.1 in
    (omega (arith, over, within), subst (λ (l : List Batch). list_all (known_tips c.args.tree.now.tree) l ≡ true) (take_all c.loop-number.number batches over) far.0)

pub returns-then-is_none-clause-damaged : goal.returns-then-is_none-clause-damaged
returns-then-is_none-clause-damaged c base batches knows key all bodies =
    let m = marked_is _ c.marker_at.result c.in-Some.marker c.in-Some.at (c.marker_at.ensures.held base batches knows) c.in-Some.is in
    let there = marker_there c.args.coins.now.mask 0 batches c.loop-number.number m.0 m.1 in
    let at = ap is_at (sym there.marker) ∙ all_at (λ batch. is_at batch.marker) batches c.loop-number.number there.batch all there.there in
    let unknown = in_tree c.args.tree.now.tree c.tip_of.result c.header.result false c.header.ensures c.if-is_none.ensures in
    stops_unknown c.args.tree.now.tree bodies batches knows.fits all c.loop-number.number m.0 (under_key c.args.coins.now.mask batches c.loop-number.number _ key m.1) (c.loop-number.invariant base batches knows all).0
    (tips_known c.args.tree.now.tree m.0.marker false at (ap (is_in c.args.tree.now.tree) (ap tip_of_marker m.2 ∙ sym c.tip_of.ensures) ∙ unknown))
    ∙ ap (λ at. Err (record { file = coin_file; at = at })) m.3

pub loop-number-preserved : goal.loop-number-preserved
loop-number-preserved c base batches knows all =
    let m = marked_is _ c.marker_at.result c.in-Some.marker c.in-Some.at (c.marker_at.ensures.held base batches knows) c.in-Some.is in
    let there = marker_there c.args.coins.now.mask 0 batches c.loop-number.number m.0 m.1 in
    let at = all_at (λ batch. is_at batch.marker) batches c.loop-number.number there.batch all there.there in
    let known = in_tree c.args.tree.now.tree c.tip_of.result c.header.result true c.header.ensures c.if-is_none.ensures in
    let within = slice_get_within batches c.loop-number.number there.batch there.there in (
      all_more (known_tips c.args.tree.now.tree) batches c.loop-number.number there.batch there.there (c.loop-number.invariant base batches knows all).0
          (tips_known c.args.tree.now.tree there.batch.marker true at (ap (is_in c.args.tree.now.tree) (ap tip_of_marker (there.marker ∙ m.2) ∙ sym c.tip_of.ensures) ∙ known)),
      omega (arith, within),
    )
