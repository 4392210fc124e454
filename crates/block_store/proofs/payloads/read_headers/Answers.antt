use Rattle.std.proofs.Common.{◌/◌, length, arith, subst}
use Rattle.base_types.specs.Codec.{many_at, at}
use Rattle.block_codec.specs.declared.fault.BlockFault.{BlockFault}
use Rattle.block_codec.specs.Reading.{Fails, header_at}
use Rattle.block_codec.proofs.Loop.{goes_on, is_done}
use Rattle.block_store.proofs.HeaderSteps.{no_fault, takes_80, all_read}
use Rattle.block_store.proofs.payloads.read_headers.Goals as goal

pub unreachable-requires : goal.unreachable-requires
unreachable-requires c =
    let left = c.loop.invariant.left in
    let lt = c.loop-test.true in
    no_fault c.loop.cursor (c.in-Err-Bad.field-0-0, c.in-Err-Bad.field-0-1) (omega arith)
    (subst (λ (f : BlockFault). Fails f (header_at c.loop.cursor)) c.in-Err-Bad.field-0-is c.in-Err-Bad.ensures.exact)

pub loop-preserved : goal.loop-preserved
loop-preserved c =
    let left = c.loop.invariant.left in
    let lt = c.loop-test.true in
    let took = takes_80 c.loop.cursor c.read_header.new.cursor c.in-Ok.header (omega arith) c.in-Ok.ensures.exact in
    record {
      read = rw c.in_ok-push-in-Ok.ensures.ok (goes_on header_at c.loop.headers (length c.args.payload.now / 80) c.loop.counter c.loop.cursor c.in-Ok.header c.read_header.new.cursor
          (many_at header_at (length c.args.payload.now / 80) (at (length c.args.payload.now) c.args.payload.now)) lt c.in-Ok.ensures.exact c.loop.invariant.read);
      left = omega arith;
    }

pub returns : goal.returns
returns c = all_read c.args.payload.now c.loop.headers c.loop.cursor c.requires
    (is_done header_at c.loop.headers (length c.args.payload.now / 80) c.loop.counter c.loop.cursor
    (many_at header_at (length c.args.payload.now / 80) (at (length c.args.payload.now) c.args.payload.now)) c.loop-test.false c.loop.invariant.read)
