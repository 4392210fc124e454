use Rattle.std.proofs.Common.{◌≡◌, ◌*◌, ◌+◌, ℕ, [], refl, length, ap, ◌∙◌, sym, subst, arith}
use Rattle.disk_model.specs.Disk.{Torn}
use Rattle.batch_log.specs.Records.{SameLog, StartsWith, log}
use Rattle.batch_log.proofs.OtherLogs.{other_stands}
use Rattle.batch_log.specs.Reading.{ReadAtMost}
use Rattle.batch_log.proofs.ReadLaws.{read_then}
use Rattle.block_store.specs.Headers.{is_headers_length}
use Rattle.block_store.specs.Opening.{InBoth}
use Rattle.batch_log.proofs.CallerLemmas.{quiet_stands}
use Rattle.block_store.proofs.HashSteps.{as_many}
use Rattle.block_store.proofs.Opened.{same_still, torn_still, two_files, then_quiet, told_then, bodies_found, both_found, lengths_of, read_both, read_first, read_more, given_err}
use Rattle.block_store.proofs.store.BlockStore.open.Goals as goal

pub returns-in_err-headers-clause-read_err : goal.returns-in_err-headers-clause-read_err
returns-in_err-headers-clause-read_err g c = λ m told.
    let first = c.in_err-headers.ensures.read_err m told in
    given_err c.from_residual.result (
      record { headers = first.0; bodies = [] },
      first.1,
      record { rest = m 2; is = refl },
      read_first (5 * length first.0 + 5) 5 _ _ first.2,
    )

pub returns-in_err-bodies-clause-any_moment : goal.returns-in_err-bodies-clause-any_moment
returns-in_err-bodies-clause-any_moment g c = λ m told.
    let mid = told_then (g.D.Disk.contents c.args.disk.now) (g.D.Disk.contents c.open_log.new.disk) m c.in_ok-headers.ensures.others told in
    two_files g.D.Disk.time g.D.Disk.left_since g.met.D.Disk.since_earlier SameLog same_still c.args.disk.now c.open_log.new.disk c.open_log-2.new.disk
    (c.in_ok-headers.ensures.any_moment m told) (c.in_err-bodies.ensures.any_moment mid.0 mid.1)

pub returns-in_err-bodies-clause-part : goal.returns-in_err-bodies-clause-part
returns-in_err-bodies-clause-part g c =
    two_files g.D.Disk.time g.D.Disk.left_since g.met.D.Disk.since_earlier (Torn 0 1) torn_still c.args.disk.now c.open_log.new.disk c.open_log-2.new.disk
    c.in_ok-headers.ensures.part c.in_err-bodies.ensures.part

pub returns-in_err-bodies-clause-read_err : goal.returns-in_err-bodies-clause-read_err
returns-in_err-bodies-clause-read_err g c = λ m told.
    let mid = told_then (g.D.Disk.contents c.args.disk.now) (g.D.Disk.contents c.open_log.new.disk) m c.in_ok-headers.ensures.others told in
    let first = c.in_ok-headers.ensures.ok m told in
    let many : length c.in_ok-headers.headers.places ≡ length first.0 = ap length first.2.places ∙ as_many 0 first.0 in
    let second = c.in_err-bodies.ensures.read_err mid.0 mid.1 in
    let one = subst (λ (n : ℕ). ReadAtMost 1 (5 * n + 5) (g.D.Disk.bytes_read c.args.disk.now) (g.D.Disk.bytes_read c.open_log.new.disk)) many c.in_ok-headers.ensures.read in
    given_err c.from_residual-in_err-bodies.result (
      record { headers = first.0; bodies = second.0 },
      first.3,
      subst (StartsWith second.0) mid.2 second.1,
      read_more (5 * length first.0 + 5) (5 * length second.0 + 5) (5 * length first.0 + 5) (37 * length second.0 + 5) _ _ (omega arith) (omega arith)
          (read_both (5 * length first.0 + 5) (5 * length second.0 + 5) _ _ _ one second.2),
    )

pub returns-in_err-index-clause-any_moment : goal.returns-in_err-index-clause-any_moment
returns-in_err-index-clause-any_moment g c = λ m told.
    let mid = told_then (g.D.Disk.contents c.args.disk.now) (g.D.Disk.contents c.open_log.new.disk) m c.in_ok-headers.ensures.others told in
    then_quiet g.D.Disk.time g.D.Disk.left_since (InBoth SameLog) c.args.disk.now c.open_log-2.new.disk c.read_hashes.new.disk
    (two_files g.D.Disk.time g.D.Disk.left_since g.met.D.Disk.since_earlier SameLog same_still c.args.disk.now c.open_log.new.disk c.open_log-2.new.disk
    (c.in_ok-headers.ensures.any_moment m told) (c.in_ok-bodies.ensures.any_moment mid.0 mid.1))
    c.in_err-index.ensures.quiet

pub returns-in_err-index-clause-part : goal.returns-in_err-index-clause-part
returns-in_err-index-clause-part g c =
    then_quiet g.D.Disk.time g.D.Disk.left_since (InBoth (Torn 0 1)) c.args.disk.now c.open_log-2.new.disk c.read_hashes.new.disk
    (two_files g.D.Disk.time g.D.Disk.left_since g.met.D.Disk.since_earlier (Torn 0 1) torn_still c.args.disk.now c.open_log.new.disk c.open_log-2.new.disk
    c.in_ok-headers.ensures.part c.in_ok-bodies.ensures.part)
    c.in_err-index.ensures.quiet

pub returns-in_err-index-clause-read_err : goal.returns-in_err-index-clause-read_err
returns-in_err-index-clause-read_err g c = λ m told.
    let mid = told_then (g.D.Disk.contents c.args.disk.now) (g.D.Disk.contents c.open_log.new.disk) m c.in_ok-headers.ensures.others told in
    let first = c.in_ok-headers.ensures.ok m told in
    let second = c.in_ok-bodies.ensures.ok mid.0 mid.1 in
    let many : length c.in_ok-headers.headers.places ≡ length first.0 = ap length first.2.places ∙ as_many 0 first.0 in
    let bodies : length c.in_ok-bodies.bodies.places ≡ length second.0 = ap length second.2.places ∙ as_many 0 second.0 in
    let one = subst (λ (n : ℕ). ReadAtMost 1 (5 * n + 5) (g.D.Disk.bytes_read c.args.disk.now) (g.D.Disk.bytes_read c.open_log.new.disk)) many c.in_ok-headers.ensures.read in
    let two = subst (λ (f : ℕ). ReadAtMost f (32 * length c.in_ok-bodies.bodies.places) (g.D.Disk.bytes_read c.open_log-2.new.disk) (g.D.Disk.bytes_read c.read_hashes.new.disk)) c.in_ok-bodies.ensures.named.0 c.in_err-index.ensures.read in
    given_err c.from_residual-in_err-index.result (
      record { headers = first.0; bodies = second.0 },
      first.3,
      subst (StartsWith second.0) mid.2 second.3,
      read_more (5 * length first.0 + 5) (5 * length c.in_ok-bodies.bodies.places + 5 + 32 * length c.in_ok-bodies.bodies.places) (5 * length first.0 + 5) (37 * length second.0 + 5) _ _ (omega arith) (omega arith)
          (read_both (5 * length first.0 + 5) (5 * length c.in_ok-bodies.bodies.places + 5 + 32 * length c.in_ok-bodies.bodies.places) _ _ _ one
          (read_then 2 (5 * length c.in_ok-bodies.bodies.places + 5) (32 * length c.in_ok-bodies.bodies.places) _ _ _ c.in_ok-bodies.ensures.read two)),
    )

pub returns-clause-any_moment : goal.returns-clause-any_moment
returns-clause-any_moment g c = λ m told.
    let mid = told_then (g.D.Disk.contents c.args.disk.now) (g.D.Disk.contents c.open_log.new.disk) m c.in_ok-headers.ensures.others told in
    then_quiet g.D.Disk.time g.D.Disk.left_since (InBoth SameLog) c.args.disk.now c.open_log-2.new.disk c.read_hashes.new.disk
    (two_files g.D.Disk.time g.D.Disk.left_since g.met.D.Disk.since_earlier SameLog same_still c.args.disk.now c.open_log.new.disk c.open_log-2.new.disk
    (c.in_ok-headers.ensures.any_moment m told) (c.in_ok-bodies.ensures.any_moment mid.0 mid.1))
    c.in_ok-index.ensures.quiet

pub returns-clause-part : goal.returns-clause-part
returns-clause-part g c =
    then_quiet g.D.Disk.time g.D.Disk.left_since (InBoth (Torn 0 1)) c.args.disk.now c.open_log-2.new.disk c.read_hashes.new.disk
    (two_files g.D.Disk.time g.D.Disk.left_since g.met.D.Disk.since_earlier (Torn 0 1) torn_still c.args.disk.now c.open_log.new.disk c.open_log-2.new.disk
    c.in_ok-headers.ensures.part c.in_ok-bodies.ensures.part)
    c.in_ok-index.ensures.quiet

pub returns-clause-ok : goal.returns-clause-ok
returns-clause-ok g c = λ m told.
    let mid = told_then (g.D.Disk.contents c.args.disk.now) (g.D.Disk.contents c.open_log.new.disk) m c.in_ok-headers.ensures.others told in
    let first = c.in_ok-headers.ensures.ok m told in
    let second = c.in_ok-bodies.ensures.ok mid.0 mid.1 in
    let apart : c.in_ok-headers.headers.file ≡ 1 = c.in_ok-headers.ensures.named.0 in
    let headers = other_stands g.D.Disk.time g.D.Disk.left_since g.D.Disk.contents g.met.D.Disk.since_earlier 2 SameLog c.open_log.new.disk c.open_log-2.new.disk (c.in_ok-bodies.ensures.any_moment mid.0 mid.1) c.in_ok-bodies.ensures.others
    c.in_ok-headers.headers (λ e. let no : 1 ≡ 2 = sym apart ∙ e in cc) first.0 first.2 in
    record {
      payloads = record { headers = first.0; bodies = second.0 };
      found = both_found m first.0 second.0 first.1 (sym (bodies_found m mid.0 mid.2) ∙ second.1);
      header_log = first.4;
      body_log = ap log (sym mid.2) ∙ second.4;
      holds = record {
        header_file = c.in_ok-headers.ensures.named.0;
        body_file = c.in_ok-bodies.ensures.named.0;
        headers = quiet_stands g.D.Disk.time g.D.Disk.left_since g.D.Disk.contents g.met.D.Disk.since_earlier c.open_log-2.new.disk c.read_hashes.new.disk c.in_ok-index.ensures.quiet c.in_ok-index.ensures.contents c.in_ok-headers.headers first.0 headers;
        bodies = quiet_stands g.D.Disk.time g.D.Disk.left_since g.D.Disk.contents g.met.D.Disk.since_earlier c.open_log-2.new.disk c.read_hashes.new.disk c.in_ok-index.ensures.quiet c.in_ok-index.ensures.contents c.in_ok-bodies.bodies second.0 second.2;
        lengths = lengths_of is_headers_length c.in_ok-headers.headers.places first.0 first.2.places c.in_ok-headers.ensures.lengths;
        hashes = (c.in_ok-index.ensures.hashes second.0 second.2).0;
      };
    }
