use Rattle.coin_store.proofs.Ordering.{same_keys, keys_sorted}
use Rattle.coin_store.proofs.key_order.in_key_order.Goals as goal

pub returns-clause-same : goal.returns-clause-same
returns-clause-same c = same_keys c.in_ok-names.names.items c.sort.new.self.items c.deref.result.now c.args.keys.now c.in_ok-sort.ensures.permutation c.deref.ensures.value c.in_ok-names.ensures.keys c.keys_of.result c.keys_of.ensures

pub returns-clause-sorted : goal.returns-clause-sorted
returns-clause-sorted c =
    keys_sorted c.in_ok-names.names.items c.sort.new.self.items c.deref.result.now c.args.keys.now c.in_ok-sort.ensures.permutation c.deref.ensures.value c.in_ok-names.ensures.named c.in_ok-sort.ensures.sorted c.keys_of.result
    c.keys_of.ensures
