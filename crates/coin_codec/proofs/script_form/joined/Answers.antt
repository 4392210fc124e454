use Rattle.std.proofs.Common.{◌≡◌, subst, IfOk}
use Rattle.coin_codec.proofs.Between.{written}
use Rattle.coin_codec.proofs.script_form.joined.Goals as goal

pub returns : goal.returns
returns c =
    let first = c.copy_from_slice.ensures.after in
    let second = c.copy_from_slice-2.ensures.after in
    let third = c.copy_from_slice-3.ensures.after in
    subst (λ v. IfOk c.from_slice.result (λ s. s ≡ v)) (written c.args.front.now c.args.kept.now c.args.back.now c.copy_from_slice.new.self c.copy_from_slice-2.new.self c.copy_from_slice-3.new.self _ _ _ first second third) c.from_slice.ensures
