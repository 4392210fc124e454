use Rattle.std.proofs.Common.{ℕ, ap, ◌∙◌}
use Rattle.std.specs.FinMap as finite
use Rattle.base_types.specs.Keys.{hash_cmp}
use Rattle.base_types.proofs.KeyOrders.{hash_cmp_total, hash_cmp-IsAntisymmetric}
use Rattle.base_types.proofs.OrderedMaps.{inserts}
use Rattle.header_tree.proofs.numbers.Numbers.insert.Goals as goal

pub returns-clause-ok : goal.returns-clause-ok
returns-clause-ok c =
    inserts hash_cmp hash_cmp_total hash_cmp-IsAntisymmetric c.self.inside.map.entries c.insert.new.self.entries c.args.hash c.args.number c.in_ok-insert.ensures.updates.0
    ∙ ap (λ (m : finite.FinMap hash_cmp ℕ). finite.insert m c.args.hash c.args.number) c.self.view_is
