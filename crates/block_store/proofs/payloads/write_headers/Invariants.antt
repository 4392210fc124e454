use Rattle.std.proofs.Common.{◌≡◌, ◌*◌, ◌++◌, length, take}
use Rattle.std.specs.Prelude.{replicate}
use Rattle.block_store.specs.Headers.{headers_text}
use Rattle.block_store.proofs.payloads.write_headers.Given as goal

abbrev pub invariant-loop-header : goal.invariant-loop-header
invariant-loop-header l = record {
  text : l.out.items ≡ replicate 4 0 ++ headers_text (take l.header-index l.headers);
  len : length (headers_text (take l.header-index l.headers)) ≡ 80 * l.header-index;
}
