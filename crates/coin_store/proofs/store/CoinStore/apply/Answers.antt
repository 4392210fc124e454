use Rattle.std.specs.Prelude.{◌≡◌, ℕ, ◌+◌, ◌-◌, All, List, [], ◌∷◌, ◌++◌, length, take, drop, vec_len, vec_capacity, Some, option_map, refl}
use Rattle.std.proofs.Common.{◌≤◌, sym, ap, subst, ◌∙◌, arith}
use Rattle.std.specs.Global.{Vec}
use Rattle.std.proofs.lemmas.List.{length-append, length-drop}
use Rattle.std.proofs.lemmas.Result.{err_from_is_err_and}
use Rattle.disk_model.specs.Disk.{At, Torn, Leaves, changed_at, written}
use Rattle.batch_log.specs.OpenLog.{OpenLog, HasRoomInPlace, AppendCause}
use Rattle.batch_log.proofs.OtherLogs.{other_holds}
use Rattle.batch_log.specs.Records.{body, payload_in, WithOrWithout}
use Rattle.coin_store.specs.Base.{base_texts}
use Rattle.coin_store.specs.Batches.{marker_text}
use Rattle.coin_store.specs.Staged.{HasEntry, StandsFrom, places_noted}
use Rattle.coin_store.specs.declared.staging.StagedRow.{StagedRow}
use Rattle.coin_store.proofs.StagingLaws.{knows_same}
use Rattle.coin_store.specs.Store.{texts}
use Rattle.coin_store.proofs.StagedBytes.{in_any_case}
use Rattle.coin_store.proofs.Payloads.{marker_some, payload_is, staged_is, staged_named, staged_stand, applied, learned, restaged, rows_kept, still_staged}
use Rattle.coin_store.proofs.store.CoinStore.apply.Goals as goal

pub returns-in_err-appended-clause-any_moment : goal.returns-in_err-appended-clause-any_moment
returns-in_err-appended-clause-any_moment g c = λ base batches keys payload payloads total rows holds staged.
    let is = payload_is c.deref_mut.result.now _ _ (c.frame-from.result - 4) c.deref_mut.ensures.value c.frame-from.ensures.text ∙ staged_is c.args.self.now c.args.marker.now keys payload payloads total rows staged in
    subst (λ (p : List ℕ). Leaves g.D.Disk.time g.D.Disk.left_since (At c.args.self.now.log.file (WithOrWithout (texts c.args.self.now.mask batches) p)) c.args.disk.now c.append_in_place-appended.new.disk) is
    (c.append_in_place-appended.ensures.any_moment (texts c.args.self.now.mask batches) holds.stands)

pub returns-in_err-appended-clause-knows : goal.returns-in_err-appended-clause-knows
returns-in_err-appended-clause-knows g c = λ base batches knows. in_any_case c.from_residual.result (knows_same c.args.self.now _ base batches (record { log = c.in_err-appended.ensures.err; base = refl; mask = refl; start = refl; markers = refl; salt = refl; base_index = refl; places = λ q. refl }) knows)

pub returns-in_err-appended-clause-kept : goal.returns-in_err-appended-clause-kept
returns-in_err-appended-clause-kept g c = λ keys payload payloads total rows staged.
    let s = c.args.self.now in
    let front = staged.front in
    let bytes = c.frame-from.new.self.bytes in
    let text = rows_kept c.frame-from.result bytes.len bytes.items c.deref_mut.result.now c.append_in_place-appended.new.framed c.unframe.new.self.bytes.items (marker_text c.args.marker.now) (drop 69 s.staged.bytes.items)
    c.deref_mut.ensures.value bytes.ok.0 (omega (arith, front, s.staged.bytes.ok.0, c.frame-from.ensures.len)) c.frame-from.ensures.length_room c.frame-from.ensures.begins c.frame-from.ensures.text
    c.append_in_place-appended.ensures.buffer.0 c.append_in_place-appended.ensures.buffer.1 c.unframe.ensures.bytes in
    let len : vec_len c.unframe.new.self.bytes ≡ vec_len s.staged.bytes = omega (arith, c.unframe.ensures.len, c.frame-from.ensures.len) in
    let size : s.index.size ≤ s.index.size = omega arith in
    let kept : vec_capacity s.markers ≤ vec_capacity s.markers = omega arith in
    in_any_case c.from_residual.result (still_staged s _ keys payload payloads total rows staged c.in_err-appended.ensures.err refl size refl refl kept text len (c.unframe.ensures.room ∙ c.frame-from.ensures.room)
    (ap (λ (v : Vec StagedRow). v.items) (c.unframe.ensures.rows ∙ c.frame-from.ensures.rows)))

pub returns-clause-any_moment : goal.returns-clause-any_moment
returns-clause-any_moment g c = λ base batches keys payload payloads total rows holds staged.
    let is = payload_is c.deref_mut.result.now _ _ (c.frame-from.result - 4) c.deref_mut.ensures.value c.frame-from.ensures.text ∙ staged_is c.args.self.now c.args.marker.now keys payload payloads total rows staged in
    subst (λ (p : List ℕ). Leaves g.D.Disk.time g.D.Disk.left_since (At c.args.self.now.log.file (WithOrWithout (texts c.args.self.now.mask batches) p)) c.args.disk.now c.append_in_place-appended.new.disk) is
    (c.append_in_place-appended.ensures.any_moment (texts c.args.self.now.mask batches) holds.stands)

pub returns-in_err-appended-clause-cause : goal.returns-in_err-appended-clause-cause
returns-in_err-appended-clause-cause g c =
    let r = c.requires in
    let text = payload_is c.deref_mut.result.now _ _ (c.frame-from.result - 4) c.deref_mut.ensures.value c.frame-from.ensures.text in
    let is = ap length (text ∙ staged_is c.args.self.now c.args.marker.now r.keys r.payload (1 + r.payloads) _ r.rows r.staged) in
    let short = r.staged.short in
    let fits = r.fits in
    let room = subst (λ (n : ℕ). HasRoomInPlace c.args.self.now.log (1 + r.payloads) (5 + n + r.total)) (sym is) r.staged.room in
    let failed = c.in_err-appended.ensures.only r.payloads r.total (omega (arith, is, short, fits)) room in
    let e = err_from_is_err_and c.from_residual.result c.from_residual.ensures.1 in
    rw (e.1, e.2) (failed, subst (AppendCause c.args.self.now.log _ (g.D.Disk.faults c.args.disk.now) (g.D.Disk.faults c.append_in_place-appended.new.disk)) failed c.in_err-appended.ensures.cause)

pub frame-from-requires-clause-room : goal.frame-from-requires-clause-room
frame-from-requires-clause-room g c =
    let s = c.args.self.now in
    let r = c.requires in
    let bytes = r.staged.bytes in
    let front = r.staged.front in
    let fits = r.fits in
    let text = ap length (staged_is s c.args.marker.now r.keys r.payload (1 + r.payloads) _ r.rows r.staged) in
    omega (arith, bytes, front, fits, text, marker_some c.args.marker.now, s.staged.bytes.ok.0, length-append (marker_text c.args.marker.now) (drop 69 s.staged.bytes.items), length-drop 69 s.staged.bytes.items)

pub returns-clause-part : goal.returns-clause-part
returns-clause-part g c =
    let is = payload_is c.deref_mut.result.now _ _ (c.frame-from.result - 4) c.deref_mut.ensures.value c.frame-from.ensures.text in
    let log = c.args.self.now.log in
    subst (λ (p : List ℕ). Leaves g.D.Disk.time g.D.Disk.left_since (At log.file (Torn log.end (6 + length p))) c.args.disk.now c.append_in_place-appended.new.disk) is c.append_in_place-appended.ensures.part

pub returns-in_err-appended-clause-part : goal.returns-in_err-appended-clause-part
returns-in_err-appended-clause-part g c =
    let is = payload_is c.deref_mut.result.now _ _ (c.frame-from.result - 4) c.deref_mut.ensures.value c.frame-from.ensures.text in
    let log = c.args.self.now.log in
    subst (λ (p : List ℕ). Leaves g.D.Disk.time g.D.Disk.left_since (At log.file (Torn log.end (6 + length p))) c.args.disk.now c.append_in_place-appended.new.disk) is c.append_in_place-appended.ensures.part

pub returns-clause-written : goal.returns-clause-written
returns-clause-written g c =
    let is = payload_is c.deref_mut.result.now _ _ (c.frame-from.result - 4) c.deref_mut.ensures.value c.frame-from.ensures.text in
    let log = c.args.self.now.log in
    subst (λ (p : List ℕ). g.D.Disk.contents c.append_in_place-appended.new.disk
    ≡ option_map (changed_at log.file (written log.end (1 ∷ []))) (option_map (changed_at log.file (written (log.end + 1) (body p ++ 0 ∷ []))) (g.D.Disk.contents c.args.disk.now))) is c.in_ok-appended.ensures.written

pub keep_staged-requires-clause-named : goal.keep_staged-requires-clause-named
keep_staged-requires-clause-named g c =
    let r = c.requires in
    subst (λ (l : List StagedRow). All (λ (row : StagedRow). HasEntry c.args.self.now.index.places row.key) l) (sym (ap (λ (v : Vec StagedRow). v.items) (c.unframe.ensures.rows ∙ c.frame-from.ensures.rows))) (staged_named c.args.self.now r.keys r.payload (1 + r.payloads) _ r.rows r.staged)

pub keep_staged-requires-clause-listed : goal.keep_staged-requires-clause-listed
keep_staged-requires-clause-listed g c =
    let s = c.args.self.now in
    let r = c.requires in
    let from = c.frame-from.result in
    let text = payload_is c.deref_mut.result.now _ _ (from - 4) c.deref_mut.ensures.value c.frame-from.ensures.text in
    let is = ap length (text ∙ staged_is s c.args.marker.now r.keys r.payload (1 + r.payloads) _ r.rows r.staged) in
    let short = r.staged.short in
    let fits = r.fits in
    let parts = length-append (marker_text c.args.marker.now) (drop 69 s.staged.bytes.items) in
    let begins = c.frame-from.ensures.begins in (
      s.log.places,
      _,
      c.in_ok-appended.ensures.listed,
      λ far. subst (λ (l : List StagedRow). All (StandsFrom s.log.end from) l) (sym (ap (λ (v : Vec StagedRow). v.items) (c.unframe.ensures.rows ∙ c.frame-from.ensures.rows)))
          (staged_stand s r.keys r.payload (1 + r.payloads) _ r.rows s.log.end from (length (payload_in (take (length c.deref_mut.result.now - (from - 4)) (drop (from - 4) c.deref_mut.result.now)))) r.staged (omega (arith, begins))
          (omega (arith, ap length text, parts, begins, ap length r.staged.text)) far (omega (arith, is, short, fits))),
    )

pub returns-clause-learns : goal.returns-clause-learns
returns-clause-learns g c = λ base batches keys payload payloads total rows knows staged.
    let s = c.args.self.now in
    let k = c.keep_staged.ensures in
    let from = c.frame-from.result in
    let is = payload_is c.deref_mut.result.now _ _ (from - 4) c.deref_mut.ensures.value c.frame-from.ensures.text ∙ staged_is s c.args.marker.now keys payload payloads total rows staged in
    let listed = c.in_ok-appended.ensures.listed in
    learned s c.keep_staged.new.self base batches keys payload payloads total c.args.marker.now rows from knows staged c.frame-from.ensures.fits c.frame-from.ensures.begins
    (ap (λ (l : OpenLog). l.end) k.log ∙ c.in_ok-appended.ensures.end ∙ ap (λ (p : List ℕ). s.log.end + (5 + length p)) is) k.base_index k.base k.mask (ap (λ (l : OpenLog). l.file) k.log ∙ c.append_in_place-appended.ensures.same.file)
    (k.marked s.log.places _ listed) (k.places s.log.places _ listed
    ∙ ap (λ (l : List StagedRow). places_noted c.append_in_place-appended.new.self.file s.log.end from s.index.places l) (ap (λ (v : Vec StagedRow). v.items) (c.unframe.ensures.rows ∙ c.frame-from.ensures.rows))
    ∙ ap (λ (f : ℕ). places_noted f s.log.end from s.index.places s.staged.rows.items) c.append_in_place-appended.ensures.same.file)

pub returns-clause-ok : goal.returns-clause-ok
returns-clause-ok g c = λ base batches keys payload payloads total rows holds staged.
    let s = c.args.self.now in
    let from = c.frame-from.result in
    let is = payload_is c.deref_mut.result.now _ _ (from - 4) c.deref_mut.ensures.value c.frame-from.ensures.text ∙ staged_is s c.args.marker.now keys payload payloads total rows staged in
    applied (g.D.Disk.contents c.args.disk.now) (g.D.Disk.left_since c.args.disk.now (g.D.Disk.time c.args.disk.now)) s c.keep_staged.new.self c.append_in_place-appended.new.self base batches (record { marker = c.args.marker.now; rows = rows }) _ holds
    (g.D.Disk.contents c.append_in_place-appended.new.disk) (g.D.Disk.left_since c.append_in_place-appended.new.disk (g.D.Disk.time c.append_in_place-appended.new.disk)) (c.in_ok-appended.ensures.ok (texts s.mask batches) holds.stands)
    (λ f this. other_holds g.D.Disk.time g.D.Disk.left_since g.D.Disk.contents g.met.D.Disk.since_earlier s.log.file (WithOrWithout (texts s.mask batches) _) c.args.disk.now c.append_in_place-appended.new.disk (c.append_in_place-appended.ensures.any_moment (texts s.mask batches) holds.stands)
    c.append_in_place-appended.ensures.others f (λ e. holds.apart (this ∙ ap (λ (n : ℕ). Some n) e)) (base_texts s.mask base) (holds.base_stands f this))
    is c.keep_staged.ensures.log c.append_in_place-appended.ensures.same.file c.keep_staged.ensures.base c.keep_staged.ensures.mask (returns-clause-learns g c base batches keys payload payloads total rows holds.knows staged)

pub returns-clause-staged : goal.returns-clause-staged
returns-clause-staged g c = λ keys payload payloads total rows staged.
    let s = c.args.self.now in
    let k = c.keep_staged.ensures in
    let from = c.frame-from.result in
    let is = payload_is c.deref_mut.result.now _ _ (from - 4) c.deref_mut.ensures.value c.frame-from.ensures.text ∙ staged_is s c.args.marker.now keys payload (1 + payloads) _ rows staged in
    let room = subst (λ (n : ℕ). HasRoomInPlace s.log (1 + payloads) (5 + n + total)) (sym (ap length is)) staged.room in
    let left = subst (λ (l : OpenLog). HasRoomInPlace l payloads total) (sym k.log) (c.in_ok-appended.ensures.left payloads total room) in
    restaged s c.keep_staged.new.self keys payload payloads _ total rows from staged (k.places s.log.places _ c.in_ok-appended.ensures.listed
    ∙ ap (λ (l : List StagedRow). places_noted c.append_in_place-appended.new.self.file s.log.end from s.index.places l) (ap (λ (v : Vec StagedRow). v.items) (c.unframe.ensures.rows ∙ c.frame-from.ensures.rows))
    ∙ ap (λ (f : ℕ). places_noted f s.log.end from s.index.places s.staged.rows.items) c.append_in_place-appended.ensures.same.file) k.size k.none_left.0 k.none_left.1 (k.capacity.1 ∙ c.unframe.ensures.room ∙ c.frame-from.ensures.room) k.marks k.capacity.0 left
