use Rattle.std.proofs.Common.{◌≡◌, ◌++◌, ℕ, subst}
use Rattle.std.specs.Prelude.{OnOk}
use Rattle.coins_inspect.specs.Reports.{coin_line}
use Rattle.coins_inspect.proofs.coins.put_coin_line.Goals as goal

pub returns : goal.returns
unfolding coin_line
returns c = subst (λ (n : ℕ). OnOk c.put_line.result (c.put_line.new.out.items ≡ c.args.out.now.items ++ coin_line n c.args.coinbase.now c.args.value c.args.end)) c.from.ensures c.put_line.ensures
