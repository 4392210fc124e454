use Rattle.std.proofs.Common.{◌∙◌, ◌-◌, Err, ap, arith, false, sym, true}
use Rattle.chainstates.proofs.BatchSteps.{marked_is, marker_there, marks_end, none_marked, reads_none, reads_reached, stops_unreached, tip_reached, under_key}
use Rattle.chainstates.proofs.Gates.{all_at}
use Rattle.block_codec.specs.Genesis.{genesis_hash}
use Rattle.store_state.specs.State.{coin_file, is_at, is_reached, tip_of_marker}
use Rattle.chainstates.proofs.checks.check_batches.Goals as goal

pub returns-in-Err-clause-damaged : goal.returns-in-Err-clause-damaged
returns-in-Err-clause-damaged c base batches bodies knows key e = c.in-Err.ensures.damaged base batches knows key c.args.tree.now.tree bodies

pub returns-in-Err-count_tips-clause-damaged : goal.returns-in-Err-count_tips-clause-damaged
returns-in-Err-count_tips-clause-damaged c base batches bodies knows key e = c.in-Err-count_tips.ensures.damaged base batches knows key (c.in_default.ensures.ok base batches knows) bodies

pub returns-then-count-eq0-clause-ok : goal.returns-then-count-eq0-clause-ok
returns-then-count-eq0-clause-ok c base batches bodies knows key e =
    let all = c.in_default.ensures.ok base batches knows in
    let counted = c.in-Ok.ensures.ok base batches knows all in
    reads_none c.args.tree.now.tree bodies batches knows.fits all counted.1 (sym counted.0 ∙ c.if-count-eq0.true)

pub returns-in_default-marker_at-clause-ok : goal.returns-in_default-marker_at-clause-ok
returns-in_default-marker_at-clause-ok c base batches bodies knows key e =
    let all = c.in_default.ensures.ok base batches knows in
    let counted = c.in-Ok.ensures.ok base batches knows all in
    let none = none_marked _ c.marker_at.result (c.marker_at.ensures.held base batches knows) c.in_default-marker_at.is in
    let over = marks_end c.args.coins.now.mask 0 batches (c.in-Ok.count - 1) none in
    let count = counted.0 in
    let some = c.if-count-eq0.false in
    absurd (omega (arith, over, count, some))

pub returns-then-is_reached-clause-ok : goal.returns-then-is_reached-clause-ok
returns-then-is_reached-clause-ok c base batches bodies knows key e =
    let all = c.in_default.ensures.ok base batches knows in
    let counted = c.in-Ok.ensures.ok base batches knows all in
    let m = marked_is _ c.marker_at.result c.in-Some.marker c.in-Some.at (c.marker_at.ensures.held base batches knows) c.in-Some.is in
    let there = marker_there c.args.coins.now.mask 0 batches (c.in-Ok.count - 1) m.0 m.1 in
    let at = ap is_at (sym there.marker) ∙ all_at (λ batch. is_at batch.marker) batches (c.in-Ok.count - 1) there.batch all there.there in
    let count = counted.0 in
    let some = c.if-count-eq0.false in
    reads_reached c.args.tree.now.tree bodies batches knows.fits all counted.1 (c.in-Ok.count - 1) m.0 (under_key c.args.coins.now.mask batches (c.in-Ok.count - 1) _ key m.1) (omega (arith, count, some))
    (tip_reached c.args.tree.now.tree bodies m.0.marker true at (ap (is_reached c.args.tree.now.tree bodies genesis_hash) (ap tip_of_marker m.2 ∙ sym c.tip_of.ensures) ∙ sym (c.is_reached.ensures bodies e) ∙ c.if-is_reached.true))

pub returns-clause-damaged : goal.returns-clause-damaged
returns-clause-damaged c base batches bodies knows key e =
    let all = c.in_default.ensures.ok base batches knows in
    let counted = c.in-Ok.ensures.ok base batches knows all in
    let m = marked_is _ c.marker_at.result c.in-Some.marker c.in-Some.at (c.marker_at.ensures.held base batches knows) c.in-Some.is in
    let there = marker_there c.args.coins.now.mask 0 batches (c.in-Ok.count - 1) m.0 m.1 in
    let at = ap is_at (sym there.marker) ∙ all_at (λ batch. is_at batch.marker) batches (c.in-Ok.count - 1) there.batch all there.there in
    let count = counted.0 in
    let some = c.if-count-eq0.false in
    stops_unreached c.args.tree.now.tree bodies batches knows.fits all counted.1 (c.in-Ok.count - 1) m.0 (under_key c.args.coins.now.mask batches (c.in-Ok.count - 1) _ key m.1) (omega (arith, count, some))
    (tip_reached c.args.tree.now.tree bodies m.0.marker false at (ap (is_reached c.args.tree.now.tree bodies genesis_hash) (ap tip_of_marker m.2 ∙ sym c.tip_of.ensures) ∙ sym (c.is_reached.ensures bodies e) ∙ c.if-is_reached.false))
    ∙ ap (λ at. Err (record { file = coin_file; at = at })) m.3
