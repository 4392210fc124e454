use Rattle.std.specs.Prelude.{ℕ, Option}
use Rattle.std.proofs.Common.{sym, subst}
use Rattle.disk_model.specs.Disk.{Torn}
use Rattle.coin_store.specs.Files.{IsBaseFile, IsTiny, base_reads, ReadWithin}
use Rattle.coin_store.proofs.TwoFiles.{torn_still, file_leaves, log_leaves, reads_one}
use Rattle.coin_store.proofs.opening.open_base.Goals as goal

pub returns-clause-any_moment : goal.returns-clause-any_moment
returns-clause-any_moment g c = λ m told.
    log_leaves g.D.Disk.time g.D.Disk.left_since (IsTiny (IsBaseFile c.args.file) m) c.in-Some.file m (λ few. (c.in-Some.is, few)) c.args.disk.now c.open_log.new.disk (c.open_log.ensures.any_moment m told)
    (λ long. (c.open_log.ensures.long m told long).1)

pub returns-in_err-open_log-clause-any_moment : goal.returns-in_err-open_log-clause-any_moment
returns-in_err-open_log-clause-any_moment g c = λ m told.
    log_leaves g.D.Disk.time g.D.Disk.left_since (IsTiny (IsBaseFile c.args.file) m) c.in-Some.file m (λ few. (c.in-Some.is, few)) c.args.disk.now c.open_log.new.disk (c.open_log.ensures.any_moment m told)
    (λ long. (c.open_log.ensures.long m told long).1)

pub returns-clause-part : goal.returns-clause-part
returns-clause-part g c =
    file_leaves g.D.Disk.time g.D.Disk.left_since c.args.file (Torn 0 1) c.in-Some.file c.in-Some.is torn_still c.args.disk.now c.open_log.new.disk c.open_log.ensures.part

pub returns-in_err-open_log-clause-part : goal.returns-in_err-open_log-clause-part
returns-in_err-open_log-clause-part g c =
    file_leaves g.D.Disk.time g.D.Disk.left_since c.args.file (Torn 0 1) c.in-Some.file c.in-Some.is torn_still c.args.disk.now c.open_log.new.disk c.open_log.ensures.part

pub returns-clause-read : goal.returns-clause-read
returns-clause-read g c = λ m told.
    subst (λ (f : Option ℕ). ReadWithin (base_reads f m) (g.D.Disk.bytes_read c.args.disk.now) (g.D.Disk.bytes_read c.open_log.new.disk)) (sym c.in-Some.is)
    (reads_one c.in-Some.file m (g.D.Disk.bytes_read c.args.disk.now) (g.D.Disk.bytes_read c.open_log.new.disk) (c.open_log.ensures.read m told))

pub returns-in_err-open_log-clause-read : goal.returns-in_err-open_log-clause-read
returns-in_err-open_log-clause-read g c = λ m told.
    subst (λ (f : Option ℕ). ReadWithin (base_reads f m) (g.D.Disk.bytes_read c.args.disk.now) (g.D.Disk.bytes_read c.open_log.new.disk)) (sym c.in-Some.is)
    (reads_one c.in-Some.file m (g.D.Disk.bytes_read c.args.disk.now) (g.D.Disk.bytes_read c.open_log.new.disk) (c.open_log.ensures.read m told))
