use Rattle.std.proofs.Common.{ℕ, sym, ap, ◌∙◌}
use Rattle.std.specs.FinMap as finite
use Rattle.base_types.specs.Keys.{hash_cmp}
use Rattle.base_types.proofs.KeyOrders.{hash_cmp_total, hash_cmp-IsAntisymmetric}
use Rattle.base_types.proofs.OrderedMaps.{get-map_of}
use Rattle.header_tree.proofs.numbers.Numbers.get.Goals as goal

pub returns : goal.returns
returns c =
    c.copied.ensures ∙ c.get.ensures.value
    ∙ sym (get-map_of hash_cmp hash_cmp_total hash_cmp-IsAntisymmetric c.self.inside.map.entries c.args.hash.now)
    ∙ ap (λ (m : finite.FinMap hash_cmp ℕ). finite.get m c.args.hash.now) c.self.view_is
