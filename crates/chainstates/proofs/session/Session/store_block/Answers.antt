use Rattle.std.proofs.Common.{◌∙◌, [], ◌∷◌, subst, sym}
use Rattle.std.proofs.lemmas.Result.{IfErr-weaker}
use Rattle.disk_model.proofs.Moments.{on_ok, on_err}
use Rattle.block_codec.specs.Text.{hash_of_header}
use Rattle.chainstates.proofs.OfferSteps.{fresh_there, header_there, meets_there, store_fails, stored_under}
use Rattle.chainstates.proofs.Pieces.{none_written}
use Rattle.base_types.specs.declared.hash.Hash32.{Hash32}
use Rattle.machine.specs.State.{BodyStored}
use Rattle.store_writes.specs.Written.{WritesPart}
use Rattle.chainstates.proofs.session.Session.store_block.Goals as goal

pub returns-in-Err-clause-err : goal.returns-in-Err-clause-err
returns-in-Err-clause-err g c limit state store text stands settled is new =
    none_written limit (g.D.Disk.left_since c.args.disk.now) (g.D.Disk.time c.args.disk.now) (g.D.Disk.contents c.args.disk.now) c.args.self.now.shared.blocks c.args.self.now.active.store store
    (λ u v i. g.met.D.Disk.since_earlier c.args.disk.now u v i) stands.files (BodyStored (hash_of_header c.args.block.now.header) c.args.block.now ∷ [])

pub returns-clause-ok : goal.returns-clause-ok
returns-clause-ok g c limit state store text stands settled is new =
    let before = g.D.Disk.contents c.args.disk.now in
    let images = g.D.Disk.left_since c.args.disk.now (g.D.Disk.time c.args.disk.now) in
    let session = c.args.self.now in
    let block = c.args.block.now in
    let key = c.args.hash.now in
    on_ok c.store_body.result _ _
    (λ done. stored_under limit (g.D.Disk.left_since c.args.disk.now) (g.D.Disk.left_since c.store_body.new.disk) (g.D.Disk.time c.args.disk.now) (g.D.Disk.time c.store_body.new.disk) (g.D.Disk.contents c.args.disk.now) (g.D.Disk.contents c.store_body.new.disk)
    session state store stands settled block new key c.requires c.store_body.new.blocks c.add.new.self (λ parent hash. c.in_default.ensures.ok parent hash) done.0 done.1)
    (c.store_body.ensures.ok limit session.active.store store text stands.files is
    (header_there limit before images session state store stands settled block new key c.requires)
    (λ same. new.above (sym c.requires ∙ same))
    (meets_there limit before images session state store stands settled block new)
    (fresh_there limit before images session state store stands settled block new key c.requires))

pub returns-clause-err : goal.returns-clause-err
returns-clause-err g c limit state store text stands settled is new =
    let before = g.D.Disk.contents c.args.disk.now in
    let images = g.D.Disk.left_since c.args.disk.now (g.D.Disk.time c.args.disk.now) in
    let session = c.args.self.now in
    let block = c.args.block.now in
    let key = c.args.hash.now in
    on_err c.store_body.result _ _
    (λ part. subst (λ (k : Hash32). WritesPart limit (g.D.Disk.left_since c.args.disk.now) (g.D.Disk.left_since c.store_body.new.disk) (g.D.Disk.time c.args.disk.now) (g.D.Disk.time c.store_body.new.disk) (g.D.Disk.contents c.args.disk.now) (g.D.Disk.contents c.store_body.new.disk) [] (BodyStored k block) store) c.requires part)
    (c.store_body.ensures.err limit session.active.store store text stands.files is
    (header_there limit before images session state store stands settled block new key c.requires)
    (λ same. new.above (sym c.requires ∙ same))
    (meets_there limit before images session state store stands settled block new)
    (fresh_there limit before images session state store stands settled block new key c.requires))

pub returns-clause-cause : goal.returns-clause-cause
returns-clause-cause g c =
    IfErr-weaker c.store_body.result _ _
    (λ fault cause. store_fails c.args.self.now.shared.blocks.bodies c.args.block.now c.args.hash.now (g.D.Disk.faults c.args.disk.now) (g.D.Disk.faults c.store_body.new.disk) fault c.requires cause)
    c.store_body.ensures.cause
