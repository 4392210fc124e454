use Rattle.std.proofs.Common.{◌≡◌, length}
use Rattle.coins_bench.proofs.headers.chain.Given as goal

abbrev pub invariant-loop : goal.invariant-loop
invariant-loop l = length l.headers.items ≡ l.counter
