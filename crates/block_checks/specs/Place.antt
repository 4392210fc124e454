-- Where a block stands, in the words of the rules.
use Rattle.chain_model.specs.BodyRules.{Place}
use Rattle.block_checks.specs.declared.place.Place.{Place as GivenPlace}

abbrev pub place_of : GivenPlace → Place
place_of place = record { at = place.height; median = place.median; rules = place.rules }
