use Rattle.std.proofs.Common.{[], ap, false, None, refl, sym, true}
use Rattle.base_types.specs.declared.refused.BodyRefused.{BodyRefused}
use Rattle.chain_model.specs.BodyRules.{body_broken, place_below}
use Rattle.block_codec.specs.Text.{hash_of_header}
use Rattle.chainstates.proofs.OfferSteps.{body_offered, body_offered_in_part, broken_by, does_either, does_known, does_take, does_unknown, header_by, is_new, no_header_by, nothing_offered, nothing_stored, refusal_offered, stored_by, why_refused}
use Rattle.chainstates.specs.declared.offers.Offered.TheVariants.{Stored, Known, NoHeader, Refused}
use Rattle.chainstates.proofs.session.Session.offer_body.Goals as goal

pub returns-then-is_stored-clause-ok : goal.returns-then-is_stored-clause-ok
returns-then-is_stored-clause-ok g c limit state store text stands settled is =
    let past = g.D.Disk.left_since c.args.disk.now in
    let t = g.D.Disk.time c.args.disk.now in
    let before = g.D.Disk.contents c.args.disk.now in
    let session = c.args.self.now in
    let block = c.args.block.now in
    let stored = stored_by limit before (past t) session state store stands settled c.hash-hash.result.now (hash_of_header block.header) c.hash-hash.ensures true (sym c.if-is_stored.ensures) in
    nothing_offered limit past t before session state store block (λ u v i. g.met.D.Disk.since_earlier c.args.disk.now u v i) stands settled [] Known (does_known state block stored) refl refl

pub returns-then-not-is_known-clause-ok : goal.returns-then-not-is_known-clause-ok
returns-then-not-is_known-clause-ok g c limit state store text stands settled is =
    let past = g.D.Disk.left_since c.args.disk.now in
    let t = g.D.Disk.time c.args.disk.now in
    let before = g.D.Disk.contents c.args.disk.now in
    let session = c.args.self.now in
    let block = c.args.block.now in
    let unstored = stored_by limit before (past t) session state store stands settled c.hash-hash.result.now (hash_of_header block.header) c.hash-hash.ensures false (sym c.if-is_stored.ensures) in
    let apart = no_header_by limit before (past t) session state store stands settled c.hash-hash.result.now c.block.result.now block c.hash-hash.ensures c.block.ensures (c.is_known.ensures.no c.if-not-is_known.true) in
    nothing_offered limit past t before session state store block (λ u v i. g.met.D.Disk.since_earlier c.args.disk.now u v i) stands settled [] NoHeader (does_unknown state block unstored apart) refl refl

pub returns-in-Ok-take_body-clause-ok : goal.returns-in-Ok-take_body-clause-ok
returns-in-Ok-take_body-clause-ok g c limit state store text stands settled is =
    let past = g.D.Disk.left_since c.args.disk.now in
    let t = g.D.Disk.time c.args.disk.now in
    let before = g.D.Disk.contents c.args.disk.now in
    let session = c.args.self.now in
    let block = c.args.block.now in
    let unstored = stored_by limit before (past t) session state store stands settled c.hash-hash.result.now (hash_of_header block.header) c.hash-hash.ensures false (sym c.if-is_stored.ensures) in
    let there = header_by limit before (past t) session state store stands settled c.hash-hash.result.now c.block.result.now block c.hash-hash.ensures c.block.ensures (c.is_known.ensures.yes c.if-not-is_known.false) in
    let meets = broken_by limit before (past t) session state store stands settled block None c.in-Ok.ensures in
    body_offered limit past (g.D.Disk.left_since c.take_body.new.disk) t (g.D.Disk.time c.take_body.new.disk) before (g.D.Disk.contents c.take_body.new.disk) state store block (does_take state block unstored there meets)
    c.take_body.new.self c.in-Ok-take_body.refusals (Stored c.in-Ok-take_body.refusals) refl refl
    (c.in-Ok-take_body.ensures.ok limit state store text stands settled is (is_new state block unstored there meets))

pub returns-in-Err-clause-err : goal.returns-in-Err-clause-err
returns-in-Err-clause-err g c limit state store text stands settled is =
    let past = g.D.Disk.left_since c.args.disk.now in
    let t = g.D.Disk.time c.args.disk.now in
    let before = g.D.Disk.contents c.args.disk.now in
    let session = c.args.self.now in
    let block = c.args.block.now in
    let unstored = stored_by limit before (past t) session state store stands settled c.hash-hash.result.now (hash_of_header block.header) c.hash-hash.ensures false (sym c.if-is_stored.ensures) in
    let there = header_by limit before (past t) session state store stands settled c.hash-hash.result.now c.block.result.now block c.hash-hash.ensures c.block.ensures (c.is_known.ensures.yes c.if-not-is_known.false) in
    let meets = broken_by limit before (past t) session state store stands settled block None c.in-Ok.ensures in
    body_offered_in_part limit past (g.D.Disk.left_since c.take_body.new.disk) t (g.D.Disk.time c.take_body.new.disk) before (g.D.Disk.contents c.take_body.new.disk) state store block (does_take state block unstored there meets)
    (c.in-Err.ensures.err limit state store text stands settled is (is_new state block unstored there meets))

pub returns-in-Err-Refused-clause-ok : goal.returns-in-Err-Refused-clause-ok
returns-in-Err-Refused-clause-ok g c limit state store text stands settled is =
    let past = g.D.Disk.left_since c.args.disk.now in
    let t = g.D.Disk.time c.args.disk.now in
    let before = g.D.Disk.contents c.args.disk.now in
    let session = c.args.self.now in
    let block = c.args.block.now in
    let unstored = stored_by limit before (past t) session state store stands settled c.hash-hash.result.now (hash_of_header block.header) c.hash-hash.ensures false (sym c.if-is_stored.ensures) in
    let there = header_by limit before (past t) session state store stands settled c.hash-hash.result.now c.block.result.now block c.hash-hash.ensures c.block.ensures (c.is_known.ensures.yes c.if-not-is_known.false) in
    let refused = c.in-Err-Refused in
    refusal_offered limit past t before session state store block (λ u v i. g.met.D.Disk.since_earlier c.args.disk.now u v i) stands settled unstored there refused.why _
    (ap (λ (why : BodyRefused). Refused why) refused.why-is)
    (why_refused (body_broken (place_below session.shared.tree.tree block.header.prev) block) refused.field-0 refused.why refused.field-0-is refused.ensures)

pub returns-in-Err-NoMemory-clause-err : goal.returns-in-Err-NoMemory-clause-err
returns-in-Err-NoMemory-clause-err g c limit state store text stands settled is =
    let past = g.D.Disk.left_since c.args.disk.now in
    let t = g.D.Disk.time c.args.disk.now in
    let before = g.D.Disk.contents c.args.disk.now in
    let session = c.args.self.now in
    let block = c.args.block.now in
    let unstored = stored_by limit before (past t) session state store stands settled c.hash-hash.result.now (hash_of_header block.header) c.hash-hash.ensures false (sym c.if-is_stored.ensures) in
    let there = header_by limit before (past t) session state store stands settled c.hash-hash.result.now c.block.result.now block c.hash-hash.ensures c.block.ensures (c.is_known.ensures.yes c.if-not-is_known.false) in
    let either = does_either state block unstored there in
    nothing_stored limit past t before session state store block (λ u v i. g.met.D.Disk.since_earlier c.args.disk.now u v i) stands settled either.0 either.1
