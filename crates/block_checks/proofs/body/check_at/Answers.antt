use Rattle.std.proofs.Common.{List, map, subst}
use Rattle.std.proofs.lemmas.Result.{err_from_is_err_and}
use Rattle.std.specs.declared.result.Result.TheVariants.{Err}
use Rattle.block_codec.specs.declared.block.Tx.{Tx}
use Rattle.chain_model.specs.Rules.{first_broken, first_some}
use Rattle.chain_model.specs.BodyRules.{body_broken, tx_broken}
use Rattle.block_checks.specs.Answer.{Answers}
use Rattle.block_checks.specs.Place.{place_of}
use Rattle.chain_model.specs.BodyRules.{place_rules}
use Rattle.block_checks.proofs.Order.{handed_on, refused_by_structure, refused_by_transactions, left_to_place, answers_same}
use Rattle.block_checks.proofs.body.check_at.Goals as goal

pub returns-in_err-check_structure : goal.returns-in_err-check_structure
returns-in_err-check_structure c =
    let p = err_from_is_err_and c.from_residual.result c.from_residual.ensures.1 in
    handed_on (body_broken (place_of c.args.place.now) c.args.block.now) c.in_err-check_structure.field-0.0 c.from_residual.result (cc (p.1, p.2))
    (refused_by_structure (place_of c.args.place.now) c.args.block.now c.in_err-check_structure.field-0.0 c.in_err-check_structure.ensures)

pub returns-in_err-check_transactions : goal.returns-in_err-check_transactions
returns-in_err-check_transactions c =
    let p = err_from_is_err_and c.from_residual-in_err-check_transactions.result c.from_residual-in_err-check_transactions.ensures.1 in
    handed_on (body_broken (place_of c.args.place.now) c.args.block.now) c.in_err-check_transactions.field-0.0 c.from_residual-in_err-check_transactions.result (cc (p.1, p.2))
    (refused_by_transactions (place_of c.args.place.now) c.args.block.now c.in_err-check_transactions.field-0.0 c.in_ok-check_structure.ensures (subst (λ (txs : List Tx). Answers {A = Unit {0}} (first_some (map tx_broken txs)) (Err c.in_err-check_transactions.field-0.0)) c.as_slice.ensures c.in_err-check_transactions.ensures))

pub returns : goal.returns
returns c =
    answers_same (first_broken (place_rules (place_of c.args.place.now) c.args.block.now)) (body_broken (place_of c.args.place.now) c.args.block.now)
    (left_to_place (place_of c.args.place.now) c.args.block.now c.in_ok-check_structure.ensures (rw (← c.as_slice.ensures) c.in_ok-check_transactions.ensures))
    c.check_place.result c.check_place.ensures
