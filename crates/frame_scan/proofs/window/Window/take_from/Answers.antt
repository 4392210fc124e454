use Rattle.std.proofs.Common.{rules, ◌≡◌, ◌<◌, ◌+◌, ◌-◌, ◌++◌, List, ℕ, take, vec_len, ap, ◌∙◌, arith}
use Rattle.std.specs.List.{between}
use Rattle.std.specs.Vec.{with_items}
use borrow.Rule.Slice.PartMut.{put_mid}
use Rattle.io_traits.proofs.Told.{OnTold-weaker}
use Rattle.frame_scan.specs.Scan.{Takes, ReadsPlain}
use Rattle.frame_scan.proofs.Windows.{written, grown_by, kept_by}
use Rattle.frame_scan.proofs.Scans.{read_takes, nothing_taken}
use Rattle.frame_scan.proofs.window.Window.take_from.Goals as goal

pub returns-in_err-count-clause-kept : goal.returns-in_err-count-clause-kept
returns-in_err-count-clause-kept g c =
    let w = c.self.inside in
    let at = c.in_ok-self-inside.field-0 in
    let e = at + (w.end - w.start) in
    let zs = c.deref_mut.result.now in
    let k = e + c.min-room.result - e in
    let piece = c.read_plain.new.piece in
    let v = c.make_room.new.bytes in
    let behind : e < vec_len v = c.in_ok-self-inside.ensures.room in
    let shown : between at e zs ≡ c.args.self.now = ap (λ (l : List ℕ). between at e l) c.deref_mut.ensures.value ∙ c.in_ok-self-inside.ensures.same ∙ c.self.view_is in
    let kept : between at e (with_items v (put_mid e k zs piece)).items ≡ c.args.self.now =
    kept_by at e k c.args.self.now (with_items v (put_mid e k zs piece)).items zs piece (written v e k zs piece (omega arith) (omega arith) (omega arith)) shown (omega arith) (omega arith) in
    search (rules, kept)

pub returns-in_err-count-clause-bytes : goal.returns-in_err-count-clause-bytes
returns-in_err-count-clause-bytes g c =
    let w = c.self.inside in
    let at = c.in_ok-self-inside.field-0 in
    let e = at + (w.end - w.start) in
    let zs = c.deref_mut.result.now in
    let k = e + c.min-room.result - e in
    let piece = c.read_plain.new.piece in
    let v = c.make_room.new.bytes in
    let behind : e < vec_len v = c.in_ok-self-inside.ensures.room in
    let shown : between at e zs ≡ c.args.self.now = ap (λ (l : List ℕ). between at e l) c.deref_mut.ensures.value ∙ c.in_ok-self-inside.ensures.same ∙ c.self.view_is in
    let now = between at e (with_items v (put_mid e k zs piece)).items in
    let kept : now ≡ c.args.self.now =
    kept_by at e k c.args.self.now (with_items v (put_mid e k zs piece)).items zs piece (written v e k zs piece (omega arith) (omega arith) (omega arith)) shown (omega arith) (omega arith) in
    OnTold-weaker (λ s t. t ≡ s) (Takes c.args.key.now c.args.offset c.args.self.now now) (g.H.Host.held c.args.host.now) (g.H.Host.held c.read_plain.new.host)
    (λ s t same. nothing_taken c.args.key.now c.args.offset c.args.self.now now s t kept same)
    c.in_err-count.ensures.kept

pub returns-clause-bytes : goal.returns-clause-bytes
returns-clause-bytes g c =
    let w = c.self.inside in
    let at = c.in_ok-self-inside.field-0 in
    let e = at + (w.end - w.start) in
    let zs = c.deref_mut.result.now in
    let k = e + c.min-room.result - e in
    let piece = c.read_plain.new.piece in
    let v = c.make_room.new.bytes in
    let n = c.in_ok-count.count in
    let behind : e < vec_len v = c.in_ok-self-inside.ensures.room in
    let shown : between at e zs ≡ c.args.self.now = ap (λ (l : List ℕ). between at e l) c.deref_mut.ensures.value ∙ c.in_ok-self-inside.ensures.same ∙ c.self.view_is in
    let now = between at (e + n) (with_items v (put_mid e k zs piece)).items in
    let grown : now ≡ c.args.self.now ++ take n piece =
    grown_by at e k n c.args.self.now (with_items v (put_mid e k zs piece)).items zs piece (written v e k zs piece (omega arith) (omega arith) (omega arith)) shown (omega arith) (omega arith) c.in_ok-count.ensures.count in
    OnTold-weaker (ReadsPlain c.args.key.now c.args.offset (take n piece)) (Takes c.args.key.now c.args.offset c.args.self.now now) (g.H.Host.held c.args.host.now) (g.H.Host.held c.read_plain.new.host)
    (λ s t read. read_takes c.args.key.now c.args.offset c.args.self.now now (take n piece) s t grown read)
    c.in_ok-count.ensures.read
