use Rattle.std.proofs.Common.{◌+◌, ◌≤◌, sym, ◌∙◌, arith}
use Rattle.base_types.specs.Parameters.{max_money}
use Rattle.chain_model.proofs.SpentCoins.{immature_at, range_at, fine_at, value_at, coins_fine}
use Rattle.chain_model.proofs.spending.value_of_spent.Goals as goal

pub returns-then-is_immature-clause-err : goal.returns-then-is_immature-clause-err
returns-then-is_immature-clause-err c =
    sym c.loop-coin.invariant.so_far
    ∙ immature_at c.args.height c.loop-coin.total c.args.coins.now c.loop-coin.coin-index c.coin-item.result (omega arith) c.coin-item.is (sym c.is_immature.ensures ∙ c.if-is_immature.true)

pub returns-then-coin-total-clause-err : goal.returns-then-coin-total-clause-err
returns-then-coin-total-clause-err c =
    sym c.loop-coin.invariant.so_far
    ∙ range_at c.args.height c.loop-coin.total c.args.coins.now c.loop-coin.coin-index c.coin-item.result (omega arith) c.coin-item.is (sym c.is_immature.ensures ∙ c.if-is_immature.false) (omega arith)

pub loop-coin-preserved : goal.loop-coin-preserved
loop-coin-preserved c =
    let small : c.loop-coin.total + c.coin-item.result.value ≤ max_money = omega arith in
    let value = value_at c.args.height c.loop-coin.total c.args.coins.now c.loop-coin.coin-index c.coin-item.result (omega arith) c.coin-item.is in
    record {
      so_far = fine_at c.args.height c.loop-coin.total c.args.coins.now c.loop-coin.coin-index c.coin-item.result (omega arith) c.coin-item.is (sym c.is_immature.ensures ∙ c.if-is_immature.false) small ∙ c.loop-coin.invariant.so_far;
      total = omega (arith, value, c.loop-coin.invariant.total);
      in_range = small;
    }

pub returns-clause-ok : goal.returns-clause-ok
returns-clause-ok c = sym c.loop-coin.invariant.so_far ∙ coins_fine c.args.height c.loop-coin.total c.args.coins.now c.loop-coin.coin-index (omega arith)
