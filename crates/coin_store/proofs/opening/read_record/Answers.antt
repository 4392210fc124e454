use Rattle.std.proofs.Common.{subst}
use Rattle.coin_store.specs.BatchReads.{IsNoPayload}
use Rattle.coin_store.specs.Rows.{IsBrokenBy}
use Rattle.coin_store.proofs.opening.read_record.Goals as goal

pub returns-in-Err-Broken-clause-ok : goal.returns-in-Err-Broken-clause-ok
returns-in-Err-Broken-clause-ok g c = λ payloads i bytes stands there here.
    let read = (c.in_ok-read.ensures.payload payloads i bytes stands there here).0 in
    let broken = subst (λ fault. IsBrokenBy (IsNoPayload c.args.kind c.args.mask.now c.read.new.buf) fault) c.in-Err-Broken.field-0-is c.in-Err-Broken.ensures.broken in
    (tt, subst (IsNoPayload c.args.kind c.args.mask.now) read broken)
