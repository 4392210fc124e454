use Rattle.std.proofs.lemmas.Result.{IfOk-weaker}
use Rattle.flusher.proofs.Walk.{slots_moved}
use Rattle.flusher.proofs.changes.changes_in_order.Goals as goal

pub returns-clause-moved : goal.returns-clause-moved
returns-clause-moved c =
    IfOk-weaker c.slots_of.result _ _
    (λ slots e. slots_moved c.in_ok-names.names.items c.sort_by.new.self.items c.deref.result.now c.args.cache.now.changes slots.items c.in_ok-names.ensures.changes c.in_ok-sort_by.ensures.permutation c.deref.ensures.value e)
    c.slots_of.ensures
