use Rattle.std.proofs.Common.{◌∙◌, rules, tests}
use Rattle.std.specs.Prelude.{not}
use Rattle.std.proofs.lemmas.Iterator.{YieldsList-from_slice}
use Rattle.std.proofs.lemmas.Iterator.Search.{find_from_yields_List}
use Rattle.batch_log.specs.declared.places.Place.{Place}
use Rattle.block_store.specs.Opening.{has_length}
use Rattle.block_store.proofs.opening.first_wrong_place.Goals as goal

pub returns : goal.returns
returns c =
    c.copied.ensures
    ∙ find_from_yields_List (λ (place : Place). not (has_length c.args.kind place.len)) _ _ c.find.result c.find.ensures.ran (YieldsList-from_slice c.args.places.now cc) (λ x b q k. search (rules, tests))
