-- The orders of hashes and of outpoints, by which finite maps keep them.
use Rattle.std.specs.declared.cmp.Ordering.{Ordering}
use Rattle.std.specs.Ordering.{nat_cmp, on, then_cmp}
use Rattle.std.specs.Cmp.Lexicographic.{slice_cmp}
use Rattle.base_types.specs.declared.hash.Hash32.{Hash32}
use Rattle.base_types.specs.declared.hash.OutPoint.{OutPoint}

-- by the bytes
abbrev pub hash_cmp : Hash32 → Hash32 → Ordering
hash_cmp = on (λ h. h.bytes) (slice_cmp nat_cmp)

-- by the bytes of the transaction's hash and then by the number
abbrev pub outpoint_cmp : OutPoint → OutPoint → Ordering
outpoint_cmp = then_cmp (on (λ o. o.txid) hash_cmp) (on (λ o. o.index) nat_cmp)
