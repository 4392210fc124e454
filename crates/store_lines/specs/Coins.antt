-- A coin as it is told at the tip.
use Rattle.std.specs.Prelude.{◌+◌, ◌-◌}
use Rattle.base_types.specs.declared.coin.Coin.{Coin}
use Rattle.chainstates.specs.declared.session.Info.{Info}
use Rattle.command_text.specs.declared.reply.TxOutFound.{TxOutFound}

abbrev pub found_at : Info → Coin → TxOutFound
found_at info coin = record {
  bestblock = info.tip;
  coinbase = coin.coinbase;
  confirmations = info.height - coin.height + 1;
  height = coin.height;
  script = coin.script;
  value = coin.value;
}
