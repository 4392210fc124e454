use Rattle.coin_codec.proofs.Further.{further_then}
use Rattle.coin_codec.proofs.parts.script_of.Goals as goal

pub returns-in-0-to-3-clause-further : goal.returns-in-0-to-3-clause-further
returns-in-0-to-3-clause-further c = further_then c.args.cursor.now c.script_code_of.new.cursor c.kept_of.new.cursor c.script_code_of.ensures.further c.kept_of.ensures.further

pub returns-in_default-clause-further : goal.returns-in_default-clause-further
returns-in_default-clause-further c = further_then c.args.cursor.now c.script_code_of.new.cursor c.raw_of.new.cursor c.script_code_of.ensures.further c.raw_of.ensures.further
