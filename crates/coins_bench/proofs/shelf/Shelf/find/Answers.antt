use Rattle.std.proofs.Common.{sym, ap, is_some, ◌∙◌}
use Rattle.coins_bench.specs.declared.shelf.Entry.{Entry}
use Rattle.coin_index.proofs.IndexLaws.{found_held}
use Rattle.coins_bench.proofs.shelf.Shelf.find.Goals as goal

pub get-requires : goal.get-requires
get-requires c =
    let q = c.self.invariant in
    ap is_some (found_held (λ (e : Entry). e.key) (λ e. e.next) c.self.inside.pool.values c.self.inside.index q.0 c.args.key.now c.in-Some.slot q.1 (sym (c.find.ensures q.0 q.1) ∙ c.in-Some.is)).1
