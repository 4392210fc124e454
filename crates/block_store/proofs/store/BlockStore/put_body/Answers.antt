use Rattle.std.proofs.Common.{◌≡◌, ◌≤◌, ℕ, false, List, [], ◌∷◌, ◌++◌, length, Some, Result, Ok, Err, ap, ◌∙◌, sym, subst, arith, length-append}
use Rattle.std.specs.Prelude.{OnOk, is_err}
use Rattle.disk_model.proofs.Moments.{on_ok}
use Rattle.base_types.specs.declared.hash.Hash32.{Hash32}
use Rattle.batch_log.specs.declared.places.Place.{Place}
use Rattle.batch_log.specs.Records.{payload_in}
use Rattle.block_codec.specs.Text.{block_text}
use Rattle.block_store.specs.Bodies.{body_hash, body_text}
use Rattle.block_store.specs.OpenStore.{OpenStore, Holds, with_body}
use Rattle.block_store.proofs.Adding.{body_added, one_each, all_long}
use Rattle.block_store.proofs.store.BlockStore.put_body.Goals as goal

surely : {T E P : Type 0} (r : Result T E) → is_err r ≡ false → OnOk r P → P
surely (Ok x) e p = p
surely (Err x) e p = absurd (cc)

pub invariant_of-self-else-is_err : goal.invariant_of-self-else-is_err
invariant_of-self-else-is_err g c =
    let i = c.self.invariant in
    let ok : is_err c.append_in_place-added.result ≡ false = sym c.is_err.ensures.value ∙ c.if-is_err.false in
    let listed = surely c.append_in_place-added.result ok c.append_in_place-added.ensures.listed in
    let payload = payload_in c.deref_mut.result.now in
    let place : Place = record { at = c.self.inside.bodies.end; len = length payload } in
    let text : payload ≡ body_text c.args.hash.now c.args.block.now = ap payload_in c.deref_mut.ensures.value ∙ c.in_ok-write_body.ensures.payload in
    let long : 32 ≤ length payload =
    omega (arith, ap length text, length-append c.args.hash.now.bytes (block_text c.args.block.now), c.in_ok-before.ensures.whole) in (
      i.0,
      c.append_in_place-added.ensures.same.file ∙ i.1,
      one_each c.self.inside.index c.add.new.self c.args.hash.now c.self.inside.bodies.places c.append_in_place-added.new.self.places place i.2 c.in_ok-before.ensures.ok.0 listed,
      i.3,
      all_long c.self.inside.bodies.places c.append_in_place-added.new.self.places place i.4 listed long,
    )

pub returns-else-is_err-clause-ok : goal.returns-else-is_err-clause-ok
returns-else-is_err-clause-ok g c payloads holds =
    let store : OpenStore = record { headers = c.self.inside.headers; bodies = c.self.inside.bodies; hashes = c.self.inside.index } in
    let old = subst (λ (s : OpenStore). Holds (g.D.Disk.contents c.args.disk.now) (g.D.Disk.left_since c.args.disk.now (g.D.Disk.time c.args.disk.now)) s payloads) (sym c.self.view_is) holds in
    let payload = payload_in c.deref_mut.result.now in
    let text : payload ≡ body_text c.args.hash.now c.args.block.now = ap payload_in c.deref_mut.ensures.value ∙ c.in_ok-write_body.ensures.payload in
    let carries : body_hash payload ≡ Some c.args.hash.now = ap body_hash text ∙ c.in_ok-write_body.ensures.carries in
    subst (λ (l : List Hash32). OnOk c.append_in_place-added.result (Holds (g.D.Disk.contents c.append_in_place-added.new.disk) (g.D.Disk.left_since c.append_in_place-added.new.disk (g.D.Disk.time c.append_in_place-added.new.disk)) (record { headers = store.headers; bodies = c.append_in_place-added.new.self; hashes = l }) (with_body payloads (body_text c.args.hash.now c.args.block.now)))) (sym c.in_ok-before.ensures.ok.0)
    (subst (λ (p : List ℕ). OnOk c.append_in_place-added.result (Holds (g.D.Disk.contents c.append_in_place-added.new.disk) (g.D.Disk.left_since c.append_in_place-added.new.disk (g.D.Disk.time c.append_in_place-added.new.disk)) (record { headers = store.headers; bodies = c.append_in_place-added.new.self; hashes = store.hashes ++ c.args.hash.now ∷ [] }) (with_body payloads p))) text
    (on_ok c.append_in_place-added.result _ _
    (body_added g.D.Disk.time g.D.Disk.left_since g.D.Disk.contents g.met.D.Disk.since_earlier c.args.disk.now c.append_in_place-added.new.disk store payloads payload c.append_in_place-added.new.self old c.args.hash.now
    (c.append_in_place-added.ensures.any_moment payloads.bodies old.bodies) c.append_in_place-added.ensures.others c.append_in_place-added.ensures.same.file carries)
    (c.append_in_place-added.ensures.ok payloads.bodies old.bodies)))
