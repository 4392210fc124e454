use Rattle.std.proofs.Common.{List, ℕ, length, drop, sym, ap, subst, ◌∙◌}
use Rattle.memchr.specs.Find.{IsFirstByte, is_byte}
use Rattle.std.specs.Option.{unwrap_or}
use Rattle.frame_scan.specs.Search.{SameFrames}
use Rattle.std.specs.Prelude.{false}
use Rattle.frame_scan.proofs.Scanning.{before_magic}
use Rattle.frame_scan.proofs.search.pass_to_magic.Goals as goal

pub returns-clause-same : goal.returns-clause-same
returns-clause-same c =
    let bytes = c.args.window.now in
    let place = c.memchr.result in
    let found : IsFirstByte (is_byte 250) bytes place = subst (λ (zs : List ℕ). IsFirstByte (is_byte 250) zs place) c.as_slice-bytes.ensures c.memchr.ensures in
    let count = c.unwrap_or-count.ensures ∙ ap (λ (zs : List ℕ). unwrap_or place (length zs)) c.as_slice-bytes.ensures in
    subst (λ (zs : List ℕ). SameFrames false bytes zs) (sym (c.pass.ensures ∙ ap (λ n. drop n bytes) count)) (before_magic bytes place found)
