use Rattle.std.proofs.Common.{◌≡◌, take, map}
use Rattle.coin_store.specs.KeyOrder.{key_of}
use Rattle.coin_store.proofs.key_order.keys_of.Given as goal

abbrev pub invariant-loop-named : goal.invariant-loop-named
invariant-loop-named l = l.keys.items ≡ map key_of (take l.named-index l.names)
