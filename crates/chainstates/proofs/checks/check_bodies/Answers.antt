use Rattle.std.proofs.Common.{◌≡◌, ◌∙◌, Err, List, ap, false, subst, true}
use Rattle.std.specs.List.{list_all}
use Rattle.std.proofs.lemmas.List.{take_all}
use Rattle.base_types.specs.declared.hash.Hash32.{Hash32}
use Rattle.chainstates.proofs.BodySteps.{bodies_known, body_unknown, in_tree, place_there}
use Rattle.chainstates.proofs.Gates.{all_more}
use Rattle.store_state.specs.State.{is_in, body_file}
use Rattle.chainstates.proofs.checks.check_bodies.Goals as goal

pub returns-in_default-clause-ok : goal.returns-in_default-clause-ok
returns-in_default-clause-ok c payloads has =
    bodies_known c.args.tree.now.tree c.args.blocks.now payloads has
    (subst (λ (l : List Hash32). list_all (is_in c.args.tree.now.tree) l ≡ true) (take_all c.loop-number.number c.args.blocks.now.hashes c.in_default.ensures) c.loop-number.invariant)

pub returns-then-is_none-clause-damaged : goal.returns-then-is_none-clause-damaged
returns-then-is_none-clause-damaged c payloads has =
    let place = place_there _ c.in-Some.at c.in-Some.ensures.1 in
    body_unknown c.args.tree.now.tree c.args.blocks.now payloads has c.loop-number.number c.in-Some.hash place.0 c.in-Some.ensures.0 place.1 c.loop-number.invariant
    (in_tree c.args.tree.now.tree c.in-Some.hash c.header.result false c.header.ensures c.if-is_none.ensures)
    ∙ ap (λ at. Err (record { file = body_file; at = at })) place.2

pub loop-number-preserved : goal.loop-number-preserved
loop-number-preserved c =
    all_more (is_in c.args.tree.now.tree) c.args.blocks.now.hashes c.loop-number.number c.in-Some.hash c.in-Some.ensures.0 c.loop-number.invariant
    (in_tree c.args.tree.now.tree c.in-Some.hash c.header.result true c.header.ensures c.if-is_none.ensures)
