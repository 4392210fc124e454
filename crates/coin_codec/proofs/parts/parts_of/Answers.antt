use Rattle.coin_codec.specs.Parts.{script_in}
use Rattle.coin_codec.proofs.CoinLaws.{coin_taken}
use Rattle.coin_codec.proofs.Further.{further_then, further_three}
use Rattle.coin_codec.proofs.parts.parts_of.Goals as goal

pub returns-clause-found : goal.returns-clause-found
returns-clause-found c =
    let code = c.in_ok-height_code.ensures in
    let value = c.in_ok-value.ensures in
    let script = c.in_ok-script.ensures in
    coin_taken c.args.cursor.now c.height_code_of.new.cursor c.amount_of.new.cursor c.script_of.new.cursor c.in_ok-height_code.height_code c.in_ok-value.value (script_in c.in_ok-script.script) code.number value.number script.number code.value value.value
    script.value

pub returns-in_err-value-clause-further : goal.returns-in_err-value-clause-further
returns-in_err-value-clause-further c = further_then c.args.cursor.now c.height_code_of.new.cursor c.amount_of.new.cursor c.height_code_of.ensures.further c.amount_of.ensures.further

pub returns-in_err-script-clause-further : goal.returns-in_err-script-clause-further
returns-in_err-script-clause-further c = further_three c.args.cursor.now c.height_code_of.new.cursor c.amount_of.new.cursor c.script_of.new.cursor c.height_code_of.ensures.further c.amount_of.ensures.further c.script_of.ensures.further

pub returns-clause-further : goal.returns-clause-further
returns-clause-further c = further_three c.args.cursor.now c.height_code_of.new.cursor c.amount_of.new.cursor c.script_of.new.cursor c.height_code_of.ensures.further c.amount_of.ensures.further c.script_of.ensures.further
