use Rattle.std.proofs.Common.{refl, ap, ap₂, ◌∙◌}
use Rattle.hex.specs.Hex.{encode_lower}
use Rattle.base_types.specs.Printed.{printed}
use Rattle.command_text.specs.JsonValues.{coin_data}
use Rattle.command_text.proofs.JsonTexts.{coin_text, gives}
use Rattle.command_text.proofs.json_text.coin_json.Goals as goal

pub returns : goal.returns
returns c =
    let coin = c.args.coin.now in
    let script = c.in_ok-script.ensures.text ∙ ap encode_lower c.as_slice.ensures in
    let built = c.in_ok-value.ensures ∙ ap₂ (coin_data coin) c.in_ok-bestblock.ensures.text script in
    gives c.to_string.result _ (coin_data coin (printed coin.bestblock) (encode_lower coin.script)) _ c.to_string.ensures.text built refl (coin_text coin c.in_ok-bestblock.ensures.plain (rw c.as_slice.ensures at c.in_ok-script.ensures.plain))
