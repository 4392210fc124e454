use Rattle.std.specs.FinMap as map
use Rattle.coins_bench.specs.declared.shelf.Entry.{Entry}
use Rattle.coin_index.proofs.IndexLaws.{new_index}
use Rattle.coins_bench.proofs.shelf.Shelf.new.Goals as goal

pub invariant_of-result : goal.invariant_of-result
invariant_of-result c = (map.empty, new_index (λ (e : Entry). e.key) (λ e. e.next) c.new.result.values c.new-2.result _ c.new-2.ensures)
