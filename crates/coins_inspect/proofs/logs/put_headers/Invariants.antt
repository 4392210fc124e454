use Rattle.std.proofs.Common.{◌≡◌, ◌++◌, take}
use Rattle.std.specs.List.{flat_map}
use Rattle.coins_inspect.specs.LogReports.{stored_header_line}
use Rattle.coins_inspect.proofs.logs.put_headers.Given as goal

abbrev pub invariant-loop-header : goal.invariant-loop-header
invariant-loop-header l = l.out.items ≡ l.fn.out.items ++ flat_map stored_header_line (take l.header-index l.headers)
