use Rattle.std.proofs.Common.{◌∙◌, sym}
use Rattle.std.proofs.lemmas.Map.Entries.{sum_by_values_permutation}
use Rattle.coin_store.specs.IndexMaps.{vacancy}
use Rattle.coin_store.proofs.Vacant.{only_room}
use Rattle.coin_store.proofs.index.Index.reserve.Goals as goal

pub invariant_of-self : goal.invariant_of-self
invariant_of-self c =
    (c.self.invariant.0 ∙ sym (sum_by_values_permutation vacancy c.self.inside.places.entries c.reserve.new.self.entries c.reserve.ensures.entries.0), c.reserve.ensures.hasher ∙ c.self.invariant.1)

pub returns-clause-same : goal.returns-clause-same
returns-clause-same c = only_room c.self.inside.places c.reserve.new.self c.self.inside.vacant c.self.inside.salt c.args.self.now c.self.view_is c.reserve.ensures.entries
