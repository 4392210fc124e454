use Rattle.std.proofs.Common.{◌<◌, ◌+◌, List, ℕ, length, drop, sym, ap, ◌∙◌, subst, arith}
use Rattle.std.specs.Prelude.{◌==◌, is_ok}
use Rattle.std.specs.List.{between}
use Rattle.block_codec.specs.Reading.{block_of}
use Rattle.frame_scan.specs.declared.head.Head.TheVariants.{Absent, Cut, Whole}
use Rattle.frame_scan.specs.Head.{IsHeadOf}
use Rattle.frame_scan.proofs.Scanning.{absent_passed, cut_passed, head_passed, SameFrames-any}
use Rattle.frame_scan.proofs.Searching.{goes_on, some_bytes}
use Rattle.frame_scan.proofs.search.find_frame.Goals as goal

pub loop-window-preserved-in-Absent : goal.loop-window-preserved-in-Absent
loop-window-preserved-in-Absent c =
    let at = c.pass_to_magic.new.window in
    let is : IsHeadOf at Absent = subst (λ (zs : List ℕ). IsHeadOf zs Absent) c.as_slice.ensures c.in-Absent.ensures in
    goes_on c.args.is_end c.args.window.now c.loop-window.window at c.pass.new.self 1 c.loop-window.invariant.same c.loop-window.invariant.rest c.pass_to_magic.ensures.same c.pass_to_magic.ensures.rest
    (SameFrames-any c.args.is_end at (drop 1 at) (absent_passed at is)) is.0 c.pass.ensures

pub loop-window-preserved-in-Cut : goal.loop-window-preserved-in-Cut
loop-window-preserved-in-Cut c =
    let at = c.pass_to_magic.new.window in
    let is : IsHeadOf at Cut = subst (λ (zs : List ℕ). IsHeadOf zs Cut) c.as_slice.ensures c.in-Cut.ensures in
    let some : 0 < length at = some_bytes at (sym (c.if-is_empty.ensures ∙ ap (λ (zs : List ℕ). length zs == 0) c.as_slice-else-not-is_end.ensures)) in
    goes_on c.args.is_end c.args.window.now c.loop-window.window at c.pass-in-Cut.new.self 1 c.loop-window.invariant.same c.loop-window.invariant.rest c.pass_to_magic.ensures.same c.pass_to_magic.ensures.rest
    (cut_passed c.args.is_end at c.if-not-is_end.false some is.0) some c.pass-in-Cut.ensures

pub loop-window-preserved : goal.loop-window-preserved
loop-window-preserved c =
    let at = c.pass_to_magic.new.window in
    let is : IsHeadOf at (Whole c.in-Whole.len) = subst (λ (zs : List ℕ). IsHeadOf zs (Whole c.in-Whole.len)) c.as_slice.ensures c.in-Whole.ensures in
    let refused = sym (c.is_block.ensures ∙ ap (λ (zs : List ℕ). is_ok (block_of (between 8 (8 + c.in-Whole.len) zs))) c.as_slice-in-Whole.ensures) ∙ c.if-is_block.false in
    goes_on c.args.is_end c.args.window.now c.loop-window.window at c.pass-in-Whole.new.self 1 c.loop-window.invariant.same c.loop-window.invariant.rest c.pass_to_magic.ensures.same c.pass_to_magic.ensures.rest
    (SameFrames-any c.args.is_end at (drop 1 at) (head_passed at c.in-Whole.len is refused)) (omega (arith, is.0)) c.pass-in-Whole.ensures
