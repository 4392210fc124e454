use Rattle.std.proofs.Common.{◌+◌, List, ℕ, sym, ap, ◌∙◌, subst}
use Rattle.std.specs.Prelude.{false}
use Rattle.std.specs.List.{between}
use Rattle.block_codec.specs.Reading.{block_of}
use Rattle.frame_scan.specs.Search.{HasFrame}
use Rattle.frame_scan.proofs.Scanning.{block_taken}
use Rattle.frame_scan.proofs.search.take_block.Goals as goal

pub returns-in-Ok-clause-block : goal.returns-in-Ok-clause-block
returns-in-Ok-clause-block c =
    let bytes = c.args.window.now in
    let len = c.args.len in
    let read = sym (ap (λ (zs : List ℕ). block_of (between 8 (8 + len) zs)) c.as_slice.ensures) ∙ c.in-Ok.ensures.exact in
    subst (λ (zs : List ℕ). HasFrame false bytes c.in-Ok.block zs) (sym c.pass.ensures) (block_taken bytes len c.in-Ok.block c.requires.head read)
