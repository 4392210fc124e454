use Rattle.std.proofs.Common.{◌≡◌, ◌-◌, ◌^◌}
use Rattle.chain_model.specs.Generated.{least_nonce, with_nonce}
use Rattle.chain_gen.proofs.mining.mine.Given as goal

abbrev pub invariant-loop-nonce : goal.invariant-loop-nonce
invariant-loop-nonce l = record {
  left : least_nonce (2 ^ 32 - l.nonce) l.nonce l.fn.header ≡ least_nonce (2 ^ 32) 0 l.fn.header;
  same : with_nonce l.header 0 ≡ with_nonce l.fn.header 0;
}
