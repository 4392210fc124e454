use Rattle.std.proofs.Common.{◌≡◌, ◌-◌, length, [], ap, ◌∙◌, sym, arith}
use Rattle.std.proofs.lemmas.List.{nil_from_length}
use Rattle.chain_model.specs.BodyRules.{without_sign}
use Rattle.block_checks.proofs.Pushes.{signed, unsigned_none}
use Rattle.block_checks.proofs.height_push.ends_with_sign.Goals as goal

pub returns-in-empty : goal.returns-in-empty
returns-in-empty c =
    let none : c.args.bytes.now ≡ [] = nil_from_length c.args.bytes.now (omega arith) in
    ap without_sign none ∙ unsigned_none ∙ sym none

pub returns-in-len1-up : goal.returns-in-len1-up
returns-in-len1-up c = signed c.args.bytes.now (length c.args.bytes.now - 1) (omega arith)
