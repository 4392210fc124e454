use Rattle.std.proofs.Common.{◌≡◌, ◌++◌, map, take}
use Rattle.std.specs.List.{flat_map}
use Rattle.command_text.specs.Replies.{reply_text}
use Rattle.reorg.specs.Advancing.{refusal_reply}
use Rattle.store_lines.proofs.passes.say_refusals.Given as goal

abbrev pub invariant-loop-refused : goal.invariant-loop-refused
invariant-loop-refused l = l.out.items ≡ l.fn.out.items ++ flat_map reply_text (map refusal_reply (take l.refused-index l.fn.refusals))
