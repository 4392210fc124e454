use Rattle.std.proofs.Common.{ℕ, Option, is_some, sym, ap, subst, ◌∙◌}
use Rattle.std.specs.FinMap.{get, remove}
use Rattle.slot_pool.specs.Pool.{Contents}
use Rattle.slot_pool.proofs.ChangeLaws.{still_held}
use Rattle.coins_bench.specs.declared.shelf.Entry.{Entry}
use Rattle.coin_index.specs.Index.{IsIndex}
use Rattle.coin_index.proofs.IndexLaws.{found_held, found_no_more, index_take}
use Rattle.coins_bench.proofs.shelf.Shelf.take.Goals as goal

pub unlink-requires : goal.unlink-requires
unlink-requires c =
    let q = c.self.invariant in
    let is = sym (c.find.ensures q.0 q.1) ∙ c.in-Some.is in
    let x = found_held (λ (e : Entry). e.key) (λ e. e.next) c.self.inside.pool.values c.self.inside.index q.0 c.args.key.now c.in-Some.slot q.1 is in
    (q.0, x.0, q.1, x.1, ap (get q.0) x.2 ∙ is)

pub take-requires : goal.take-requires
take-requires c =
    let q = c.self.invariant in
    let is = sym (c.find.ensures q.0 q.1) ∙ c.in-Some.is in
    let x = found_held (λ (e : Entry). e.key) (λ e. e.next) c.self.inside.pool.values c.self.inside.index q.0 c.args.key.now c.in-Some.slot q.1 is in
    still_held (λ (e : Entry) (n : Option ℕ). record e { next = n }) c.self.inside.pool c.unlink.new.pool c.in-Some.slot c.unlink.ensures.changes (ap is_some x.1)

pub invariant_of-self : goal.invariant_of-self
invariant_of-self c =
    let q = c.self.invariant in
    let is = sym (c.find.ensures q.0 q.1) ∙ c.in-Some.is in
    let x = found_held (λ (e : Entry). e.key) (λ e. e.next) c.self.inside.pool.values c.self.inside.index q.0 c.args.key.now c.in-Some.slot q.1 is in
    let found = ap (get q.0) x.2 ∙ is in
    let rest = remove q.0 x.0.key in
    let out = found_no_more (λ (e : Entry). e.key) (λ e. e.next) c.self.inside.pool.values c.self.inside.index q.0 q.1 x.0.key c.in-Some.slot found in
    let gone = index_take (λ (e : Entry). e.key) (λ e. e.next) c.unlink.new.pool.values c.unlink.new.self rest (c.unlink.ensures.index q.0 x.0 q.1 x.1 found) c.in-Some.slot out in
    (rest, subst (λ (p : Contents Entry). IsIndex (λ e. e.key) (λ e. e.next) p.values c.unlink.new.self rest) (sym c.take.ensures.rest) gone)
