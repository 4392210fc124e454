-- How the keys of the index are compared and hashed.
use Rattle.std.specs.Prelude.{◌≡◌, ℕ, List, ◌∷◌, IsTrue}
use Rattle.std.specs.declared.cmp.Ordering.{Ordering}
use Rattle.std.specs.declared.cmp.Ordering.TheVariants.{Less, Equal, Greater}
use Rattle.std.specs.Ordering.{on, eq_by_cmp, is_eq}
use Rattle.std.specs.Cmp.{IsTotalOrder, on_total}
use Rattle.std.specs.Hash as fed
use Rattle.std.proofs.Common.{ap, refl}
use Rattle.base_types.specs.Keys.{outpoint_cmp}
use Rattle.base_types.proofs.KeyOrders.{outpoint_cmp_total, outpoint_cmp-IsAntisymmetric}
use Rattle.base_types.specs.declared.hash.OutPoint.{OutPoint}
use Rattle.coin_store.specs.declared.index.IndexKey.{IndexKey}

-- by the outpoint
abbrev pub key_cmp : IndexKey → IndexKey → Ordering
key_cmp = on (λ k. k.outpoint) outpoint_cmp

pub key_total : IsTotalOrder key_cmp
key_total = on_total (λ (k : IndexKey). k.outpoint) outpoint_cmp_total

-- what is hashed: the bytes of the transaction's hash, and the number
abbrev pub key_writes : IndexKey → List (List ℕ)
key_writes key = key.outpoint.txid.bytes ∷ fed.u64 key.outpoint.index

equal_of : (r : Ordering) → IsTrue (is_eq r) → r ≡ Equal
equal_of Less e = absurd cc
equal_of Equal e = refl
equal_of Greater e = absurd cc

pub same_writes : (x y : IndexKey) → IsTrue (eq_by_cmp key_cmp x y) → key_writes x ≡ key_writes y
same_writes x y e =
    ap (λ (o : OutPoint). o.txid.bytes ∷ fed.u64 o.index) (outpoint_cmp-IsAntisymmetric x.outpoint y.outpoint (equal_of (outpoint_cmp x.outpoint y.outpoint) e))
