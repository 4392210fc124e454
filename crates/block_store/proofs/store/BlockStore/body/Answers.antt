use Rattle.std.proofs.Common.{◌≡◌, None, subst}
use Rattle.std.specs.Prelude.{MatchResult, IsSomeAnd}
use Rattle.batch_log.specs.declared.places.Place.{Place}
use Rattle.block_codec.specs.Text.{text_of}
use Rattle.batch_log.specs.Reading.{OnDamaged}
use Rattle.block_store.specs.Reading.{whole_part, block_there}
use Rattle.block_store.proofs.Lookups.{fault_found, same_place}
use Rattle.block_store.proofs.store.BlockStore.body.Goals as goal

pub returns-clause-found : goal.returns-clause-found
returns-clause-found g c number place last there m told =
    let it = same_place c.args.self.now.bodies.places number c.in-Some.place place (c.in-Some.ensures.some number last) there in
    subst (λ (p : Place). MatchResult c.read_body.result (λ found. (block_there p (m 2) ≡ found) × IsSomeAnd found (λ block. text_of block ≡ whole_part p 32 (m 2))) (λ fault. OnDamaged fault (block_there p (m 2) ≡ None))) it
    (c.read_body.ensures.found m told)

pub returns-clause-fault : goal.returns-clause-fault
returns-clause-fault g c = fault_found 2 c.in-Some.place.at (g.D.Disk.faults c.args.disk.now) (g.D.Disk.faults c.read_body.new.disk) c.read_body.result c.read_body.ensures.cause.1
