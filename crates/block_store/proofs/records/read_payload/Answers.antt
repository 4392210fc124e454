use Rattle.std.proofs.Common.{length, arith}
use Rattle.block_store.proofs.HashSteps.{length_here}
use Rattle.block_store.proofs.Finding.{read_from}
use Rattle.block_store.proofs.records.read_payload.Goals as goal

pub returns-clause-payload : goal.returns-clause-payload
returns-clause-payload g c payloads i payload stands there here =
    let p = c.in_ok-read_part.ensures.payload payloads i payload stands there here in
    let long = length_here c.args.log.now.places payloads i c.args.place payload stands.places there here in
    let within = c.requires.within in
    let size = c.in_ok-bytes.ensures.len in
    let lent = c.deref_mut.ensures.len in
    (read_from payload c.in_ok-bytes.bytes.items c.read_part.new.buf c.args.from (length c.deref_mut.result.now) c.in_ok-bytes.bytes.len p.0 (omega arith) (omega arith) (omega arith), tt)
