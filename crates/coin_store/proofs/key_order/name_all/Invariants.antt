use Rattle.std.proofs.Common.{◌≡◌, take, map}
use Rattle.std.specs.Prelude.{All}
use Rattle.coin_store.specs.KeyOrder.{IsNamed, key_of}
use Rattle.coin_store.proofs.key_order.name_all.Given as goal

abbrev pub invariant-loop-key : goal.invariant-loop-key
invariant-loop-key l = All IsNamed l.names.items × (map key_of l.names.items ≡ take l.key-index l.keys)
