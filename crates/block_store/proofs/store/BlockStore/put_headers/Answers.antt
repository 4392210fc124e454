use Rattle.std.proofs.Common.{◌≡◌, ◌*◌, ℕ, List, length, ap, ◌∙◌, sym, subst}
use Rattle.std.specs.Prelude.{IsTrue, OnOk}
use Rattle.disk_model.proofs.Moments.{on_ok}
use Rattle.batch_log.specs.Records.{payload_in}
use Rattle.block_store.specs.Headers.{is_headers_length, headers_text}
use Rattle.block_store.proofs.PayloadLaws.{right_length}
use Rattle.block_store.specs.OpenStore.{OpenStore, Holds, with_headers}
use Rattle.block_store.proofs.Adding.{headers_added}
use Rattle.block_store.proofs.store.BlockStore.put_headers.Goals as goal

pub returns-clause-ok : goal.returns-clause-ok
returns-clause-ok g c payloads holds =
    let store : OpenStore = record { headers = c.self.inside.headers; bodies = c.self.inside.bodies; hashes = c.self.inside.index } in
    let old = subst (λ (s : OpenStore). Holds (g.D.Disk.contents c.args.disk.now) (g.D.Disk.left_since c.args.disk.now (g.D.Disk.time c.args.disk.now)) s payloads) (sym c.self.view_is) holds in
    let payload = payload_in c.deref_mut.result.now in
    let text : payload ≡ headers_text c.args.headers.now = ap payload_in c.deref_mut.ensures.value ∙ c.in_ok-write_headers.ensures.payload in
    let long : length payload ≡ 80 * length c.args.headers.now = ap length text ∙ c.in_ok-write_headers.ensures.len in
    let right : IsTrue (is_headers_length (length payload)) = subst (λ (n : ℕ). IsTrue (is_headers_length n)) (sym long) (right_length (length c.args.headers.now) c.requires.some c.requires.few) in
    subst (λ (p : List ℕ). OnOk c.append_in_place.result (Holds (g.D.Disk.contents c.append_in_place.new.disk) (g.D.Disk.left_since c.append_in_place.new.disk (g.D.Disk.time c.append_in_place.new.disk)) (record { headers = c.append_in_place.new.self; bodies = store.bodies; hashes = store.hashes }) (with_headers payloads p))) text
    (on_ok c.append_in_place.result _ _
    (headers_added g.D.Disk.time g.D.Disk.left_since g.D.Disk.contents g.met.D.Disk.since_earlier c.args.disk.now c.append_in_place.new.disk store payloads payload c.append_in_place.new.self old
    (c.append_in_place.ensures.any_moment payloads.headers old.headers) c.append_in_place.ensures.others c.append_in_place.ensures.same.file right)
    (c.append_in_place.ensures.ok payloads.headers old.headers))
