-- The whole payload is its part from the start on.
use Rattle.std.proofs.Common.{◌≡◌, ◌≤◌, ◌+◌, ◌-◌, ◌<◌, ℕ, List, length, take, drop, arith, subst}
use Rattle.std.specs.Prelude.{MatchResult, OnOk}
use Rattle.std.proofs.lemmas.List.{take_all}
use Rattle.batch_log.specs.Reading.{OnDamaged}
use Rattle.batch_log.proofs.PayloadBytes.{payload_read}
use Rattle.batch_log.proofs.gated_log.Log.read.Goals as goal

pub returns-clause-bytes : goal.returns-clause-bytes
returns-clause-bytes g c m told =
    let start : c.args.place.at + 5 + 0 ≡ c.args.place.at + 5 = omega arith in
    subst (λ (k : ℕ). OnOk c.read_part.result (c.read_part.new.buf ≡ take c.args.place.len (drop k (m c.args.self.now.file)))) start
    (subst (λ (n : ℕ). OnOk c.read_part.result (c.read_part.new.buf ≡ take n (drop (c.args.place.at + 5 + 0) (m c.args.self.now.file)))) c.requires.whole
    (c.read_part.ensures.bytes m told))

pub returns-clause-payload : goal.returns-clause-payload
returns-clause-payload g c payloads i payload stands there here =
    let r = payload_read payloads (stands.holds.image c.args.self.now.file) stands.holds.reads c.args.self.now.places stands.places i c.args.place payload there here in
    let long = r.long in
    let whole = c.requires.whole in
    let part = c.read_part.ensures.payload payloads i payload stands there here in
    (subst (λ (l : List ℕ). OnOk c.read_part.result (c.read_part.new.buf ≡ l)) (take_all (length c.args.buf.now) payload (omega arith)) part.0, part.1)

pub returns-clause-short : goal.returns-clause-short
returns-clause-short g c m told =
    let start : c.args.place.at + 5 + 0 ≡ c.args.place.at + 5 = omega arith in
    subst (λ (k : ℕ). MatchResult c.read_part.result (λ x. c.args.place.len ≤ length (m c.args.self.now.file) - k) (λ e. OnDamaged e (length (m c.args.self.now.file) - k < c.args.place.len))) start
    (subst (λ (n : ℕ). MatchResult c.read_part.result (λ x. n ≤ length (m c.args.self.now.file) - (c.args.place.at + 5 + 0)) (λ e. OnDamaged e (length (m c.args.self.now.file) - (c.args.place.at + 5 + 0) < n))) c.requires.whole
    (c.read_part.ensures.short m told))
