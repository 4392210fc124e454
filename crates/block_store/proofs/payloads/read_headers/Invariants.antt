use Rattle.std.proofs.Common.{◌≡◌, ◌*◌, ◌-◌, length}
use Rattle.base_types.specs.Codec.{many_at, at}
use Rattle.block_codec.specs.Reading.{header_at}
use Rattle.block_codec.proofs.Loop.{with_front}
use Rattle.block_store.proofs.payloads.read_headers.Given as goal

abbrev pub invariant-loop : goal.invariant-loop
invariant-loop l = record {
  read : with_front l.headers (many_at header_at (l.count - l.counter) l.cursor) ≡ many_at header_at l.count (at (length l.payload) l.payload);
  left : length l.cursor.rest ≡ 80 * (l.count - l.counter);
}
