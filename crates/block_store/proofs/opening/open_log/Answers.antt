use Rattle.std.proofs.Common.{◌≡◌, ◌*◌, ◌+◌, ℕ, length, ap, ◌∙◌, sym, subst}
use Rattle.batch_log.specs.Records.{StartsWith}
use Rattle.batch_log.specs.Reading.{ReadAtMost}
use Rattle.block_store.specs.Opening.{first_wrong}
use Rattle.block_store.proofs.HashSteps.{as_many}
use Rattle.block_store.proofs.Finding.{opened_starts, none_wrong}
use Rattle.block_store.proofs.opening.open_log.Goals as goal

pub returns-in-Some-clause-read_err : goal.returns-in-Some-clause-read_err
returns-in-Some-clause-read_err g c = λ m told.
    let ok = c.in_ok-log.ensures.ok m told in
    let begins = opened_starts m c.file.result (g.D.Disk.contents c.open.new.disk) _ c.in_ok-log.log ok.0 ok.1 ok.2 c.in_ok-log.ensures.named.0 (λ more. (c.in_ok-log.ensures.long m told more).0 ∙ told) in
    let many : length c.in_ok-log.log.places ≡ length ok.0 = ap length ok.2.places ∙ as_many 0 ok.0 in (
      ok.0,
      subst (λ (f : ℕ). StartsWith ok.0 (m f)) c.file.ensures begins,
      subst (λ (f : ℕ). ReadAtMost f (5 * length ok.0 + 5) (g.D.Disk.bytes_read c.args.disk.now) (g.D.Disk.bytes_read c.open.new.disk)) c.file.ensures
          (subst (λ (n : ℕ). ReadAtMost c.file.result (5 * n + 5) (g.D.Disk.bytes_read c.args.disk.now) (g.D.Disk.bytes_read c.open.new.disk)) many c.in_ok-log.ensures.read),
    )

pub returns-clause-lengths : goal.returns-clause-lengths
returns-clause-lengths g c = none_wrong c.args.kind c.in_ok-log.log.places (ap (first_wrong c.args.kind) (sym c.places.ensures.all) ∙ sym c.first_wrong_place.ensures ∙ c.in_default.is)
