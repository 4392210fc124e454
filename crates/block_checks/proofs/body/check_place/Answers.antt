use Rattle.std.proofs.Common.{◌≡◌, false, sym, ◌∙◌}
use Rattle.std.proofs.lemmas.Result.{err_from_is_err_and}
use Rattle.chain_model.specs.Rules.{first_broken}
use Rattle.block_checks.specs.Place.{place_of}
use Rattle.chain_model.specs.BodyRules.{place_rules, has_unfinal, has_bad_height}
use Rattle.block_checks.proofs.Order.{handed_on, refused_by_witness}
use Rattle.block_checks.proofs.body.check_place.Goals as goal

pub returns-in_err-check_witness : goal.returns-in_err-check_witness
returns-in_err-check_witness c =
    let p = err_from_is_err_and c.from_residual-in_err-check_witness.result c.from_residual-in_err-check_witness.ensures.1 in
    let final : has_unfinal (place_of c.args.place.now) c.args.block.now ≡ false = sym c.if-has_unfinal_transaction.ensures in
    let high : has_bad_height (place_of c.args.place.now) c.args.block.now ≡ false = sym c.in_ok-has_bad_height.ensures ∙ c.if-branch.false in
    handed_on (first_broken (place_rules (place_of c.args.place.now) c.args.block.now)) c.in_err-check_witness.field-0.0 c.from_residual-in_err-check_witness.result (cc (p.1, p.2))
    (refused_by_witness (place_of c.args.place.now) c.args.block.now c.knows_witnesses.result c.commitment.result c.in_err-check_witness.field-0.0 c.knows_witnesses.ensures c.commitment.ensures final high c.in_err-check_witness.ensures)
