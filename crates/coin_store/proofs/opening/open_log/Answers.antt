use Rattle.std.specs.Prelude.{◌<◌, ℕ, length, sum_by}
use Rattle.std.proofs.Common.{◌∙◌, subst}
use Rattle.batch_log.proofs.ReadLaws.{read_then, read_wider}
use Rattle.batch_log.specs.Reading.{ReadAtMost}
use Rattle.batch_log.specs.Records.{EndsClosed}
use Rattle.batch_log.specs.declared.places.Place.{Place}
use Rattle.coin_store.specs.Opening.{HasPayloads}
use Rattle.coin_store.proofs.Opens.{only_still, closed_in, reads_within, heads_within}
use Rattle.batch_log.proofs.CallerLemmas.{quiet_stands}
use Rattle.coin_store.proofs.opening.open_log.Goals as goal

pub returns-in_err-log-clause-read : goal.returns-in_err-log-clause-read
returns-in_err-log-clause-read g c = λ m told.
    let r = c.in_err-log.ensures.read_err m told in
    read_wider c.args.file _ _ _ _ (heads_within (m c.args.file) r.0 r.1) r.2

pub returns-in_err-markers-clause-read : goal.returns-in_err-markers-clause-read
returns-in_err-markers-clause-read g c = λ m told.
    let o = c.in_ok-log.ensures.ok m told in
    let closed : 1 < length (m c.args.file) → EndsClosed o.0 (m c.args.file) = λ more.
    closed_in (g.D.Disk.contents c.open.new.disk) (g.D.Disk.left_since c.open.new.disk (g.D.Disk.time c.open.new.disk)) c.in_ok-log.log o.0 m c.args.file o.2 ((c.in_ok-log.ensures.long m told more).0 ∙ told) c.in_ok-log.ensures.named.0 in
    let within = reads_within (m c.args.file) o.0 c.in_ok-log.log.places o.2.places o.1 closed in
    read_wider c.args.file _ _ _ _ within (read_then c.args.file _ _ _ _ _ c.in_ok-log.ensures.read
    (subst (λ (f : ℕ). ReadAtMost f (sum_by (λ (p : Place). p.len) c.in_ok-log.log.places) (g.D.Disk.bytes_read c.open.new.disk) (g.D.Disk.bytes_read c.read_log.new.disk)) c.in_ok-log.ensures.named.0 c.read_log.ensures.read))

pub returns-clause-read : goal.returns-clause-read
returns-clause-read g c = λ m told.
    let o = c.in_ok-log.ensures.ok m told in
    let closed : 1 < length (m c.args.file) → EndsClosed o.0 (m c.args.file) = λ more.
    closed_in (g.D.Disk.contents c.open.new.disk) (g.D.Disk.left_since c.open.new.disk (g.D.Disk.time c.open.new.disk)) c.in_ok-log.log o.0 m c.args.file o.2 ((c.in_ok-log.ensures.long m told more).0 ∙ told) c.in_ok-log.ensures.named.0 in
    let within = reads_within (m c.args.file) o.0 c.in_ok-log.log.places o.2.places o.1 closed in
    read_wider c.args.file _ _ _ _ within (read_then c.args.file _ _ _ _ _ c.in_ok-log.ensures.read
    (subst (λ (f : ℕ). ReadAtMost f (sum_by (λ (p : Place). p.len) c.in_ok-log.log.places) (g.D.Disk.bytes_read c.open.new.disk) (g.D.Disk.bytes_read c.read_log.new.disk)) c.in_ok-log.ensures.named.0 c.read_log.ensures.read))

pub returns-clause-tiny : goal.returns-clause-tiny
returns-clause-tiny g c = λ m told few. only_still g.D.Disk.time g.D.Disk.left_since g.met.D.Disk.since_earlier c.args.file _ c.open.new.disk c.read_log.new.disk (c.in_ok-log.ensures.tiny m told few) c.read_log.ensures.quiet

pub returns-clause-ok : goal.returns-clause-ok
returns-clause-ok g c = λ m told.
    let o = c.in_ok-log.ensures.ok m told in
    let later = quiet_stands g.D.Disk.time g.D.Disk.left_since g.D.Disk.contents g.met.D.Disk.since_earlier c.open.new.disk c.read_log.new.disk c.read_log.ensures.quiet c.read_log.ensures.contents c.in_ok-log.log o.0 o.2 in
    let named = subst (λ (f : ℕ). HasPayloads c.args.kind f c.args.mask.now o.0 c.args.index.now.places c.read_log.new.index.places c.in_ok-markers.markers.items) c.in_ok-log.ensures.named.0 (c.in_ok-markers.ensures.ok o.0 o.2) in
    (o.0, o.1, later, named)
