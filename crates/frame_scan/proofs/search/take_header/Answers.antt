use Rattle.std.proofs.Common.{◌≡◌, ◌+◌, List, ℕ, length, sym, ap, ◌∙◌, subst}
use Rattle.std.specs.Prelude.{false}
use Rattle.std.specs.List.{between}
use Rattle.base_types.specs.Reading.{Input}
use Rattle.block_codec.specs.Reading.{Fails, header_at}
use Rattle.frame_scan.specs.Search.{HasFrame}
use Rattle.frame_scan.proofs.Scanning.{block_taken}
use Rattle.frame_scan.proofs.Headers.{block_there, header_is, no_fault}
use Rattle.frame_scan.proofs.search.take_header.Goals as goal

pub unreachable-requires : goal.unreachable-requires
unreachable-requires c =
    let bytes = between 8 (8 + c.args.len) c.args.window.now in
    let there = block_there bytes c.requires.block in
    let read : c.new.result ≡ record { end = length bytes; rest = bytes } = c.new.ensures ∙ ap (λ (zs : List ℕ). record { end = length (between 8 (8 + c.args.len) zs); rest = between 8 (8 + c.args.len) zs }) c.as_slice.ensures in
    no_fault bytes there.0 c.in-Err-Bad.field-0 c.in-Err-Bad.field-0-0 c.in-Err-Bad.field-0-1 c.in-Err-Bad.field-0-is there.1 (subst (λ (i : Input). Fails c.in-Err-Bad.field-0 (header_at i)) read c.in-Err-Bad.ensures.exact)

pub returns-in-Ok-clause-header : goal.returns-in-Ok-clause-header
returns-in-Ok-clause-header c =
    let window = c.args.window.now in
    let len = c.args.len in
    let bytes = between 8 (8 + len) window in
    let there = block_there bytes c.requires.block in
    let read : c.new.result ≡ record { end = length bytes; rest = bytes } = c.new.ensures ∙ ap (λ (zs : List ℕ). record { end = length (between 8 (8 + len) zs); rest = between 8 (8 + len) zs }) c.as_slice.ensures in (
      there.0,
      subst (λ (zs : List ℕ). HasFrame false window there.0 zs) (sym c.pass.ensures) (block_taken window len there.0 c.requires.head there.1),
      header_is bytes c.in-Ok.header c.read_header.new.cursor there.0 there.1 (sym (ap header_at read) ∙ c.in-Ok.ensures.exact),
    )
