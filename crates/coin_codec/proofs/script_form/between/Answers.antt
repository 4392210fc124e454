use Rattle.std.proofs.Common.{sym}
use Rattle.coin_codec.proofs.Between.{not_before, after_front, before_back, not_behind, not_so_long, is_between}
use Rattle.coin_codec.proofs.script_form.between.Goals as goal

pub returns-in_err-strip_prefix : goal.returns-in_err-strip_prefix
returns-in_err-strip_prefix c =
    rw c.from_residual.ensures (sym (not_before c.args.front.now c.args.len c.args.back.now c.args.bytes.now c.in_err-strip_prefix.ensures.cases))

pub returns-in_err-kept : goal.returns-in_err-kept
returns-in_err-kept c =
    let f = c.in_ok-strip_prefix.ensures.cases in
    let parts = after_front c.args.front.now c.args.bytes.now c.in_ok-strip_prefix.field-0.now f.0 f.1 in
    rw c.from_residual-in_err-kept.ensures (sym (not_behind c.args.front.now c.args.len c.args.back.now c.args.bytes.now c.in_ok-strip_prefix.field-0.now parts c.in_err-kept.ensures.cases))

pub returns-then-kept-len : goal.returns-then-kept-len
returns-then-kept-len c =
    let f = c.in_ok-strip_prefix.ensures.cases in
    let b = c.in_ok-kept.ensures.cases in
    let parts = after_front c.args.front.now c.args.bytes.now c.in_ok-strip_prefix.field-0.now f.0 f.1 in
    let ends = before_back c.args.back.now c.in_ok-strip_prefix.field-0.now c.in_ok-kept.kept.now b.0 b.1 in
    sym (not_so_long c.args.front.now c.args.len c.args.back.now c.args.bytes.now c.in_ok-strip_prefix.field-0.now c.in_ok-kept.kept.now parts ends c.if-kept-len.true)

pub returns : goal.returns
returns c =
    let f = c.in_ok-strip_prefix.ensures.cases in
    let b = c.in_ok-kept.ensures.cases in
    let parts = after_front c.args.front.now c.args.bytes.now c.in_ok-strip_prefix.field-0.now f.0 f.1 in
    let ends = before_back c.args.back.now c.in_ok-strip_prefix.field-0.now c.in_ok-kept.kept.now b.0 b.1 in
    sym (is_between c.args.front.now c.args.len c.args.back.now c.args.bytes.now c.in_ok-strip_prefix.field-0.now c.in_ok-kept.kept.now parts ends c.if-kept-len.false)
