use Rattle.std.proofs.Common.{ap₂, ◌∙◌}
use Rattle.base_types.specs.Printed.{printed}
use Rattle.command_text.specs.JsonValues.{background_data, info_data}
use Rattle.command_text.proofs.JsonTexts.{info_text, gives, without_float}
use Rattle.command_text.proofs.json_text.info_json.Goals as goal

pub returns : goal.returns
returns c =
    let info = c.args.info.now in
    let built = c.in_ok-value.ensures ∙ ap₂ (info_data info) c.in_ok-background.ensures.value c.in_ok-tip.ensures.text in
    gives c.to_string.result _ (info_data info (background_data info.background) (printed info.tip)) _ c.to_string.ensures.text built (without_float info info.background (printed info.tip)) (info_text info c.in_ok-background.ensures.plain c.in_ok-tip.ensures.plain)
