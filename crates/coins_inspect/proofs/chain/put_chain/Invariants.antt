use Rattle.std.proofs.Common.{◌≡◌, ◌-◌, ◌++◌}
use Rattle.coins_inspect.specs.ChainReports.{chain_lines}
use Rattle.coins_inspect.proofs.chain.put_chain.Given as goal

abbrev pub invariant-loop : goal.invariant-loop
invariant-loop l = l.out.items ++ chain_lines (l.most - l.counter) l.tree l.cursor ≡ l.fn.out.items ++ chain_lines l.most l.fn.tree l.fn.cursor
