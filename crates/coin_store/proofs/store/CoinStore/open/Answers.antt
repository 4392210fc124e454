use Rattle.std.specs.Prelude.{ℕ, List, Some, Ok}
use Rattle.std.proofs.Common.{◌∙◌, sym, ap, subst, inl, inr, refl}
use Rattle.std.proofs.lemmas.Result.{err_from_is_err_and}
use Rattle.disk_model.specs.Disk.{Torn}
use Rattle.disk_model.proofs.Moments.{quiet_then}
use Rattle.batch_log.proofs.OtherLogs.{other_holds}
use Rattle.batch_log.specs.Reading.{ReadAtMost}
use Rattle.batch_log.specs.Records.{SameLog}
use Rattle.coin_store.specs.Base.{base_texts}
use Rattle.coin_store.specs.Opening.{HasBatches}
use Rattle.coin_store.proofs.Opens.{opens, coin_damage}
use Rattle.coin_store.proofs.TwoFiles.{torn_still, torn_on, both_leave, tiny_base_leaves, tiny_both_leave, alike_before, both_tiny, between, alike_log, alike_reads, alike_tiny, reads_base, reads_both}
use Rattle.coin_store.proofs.store.CoinStore.open.Goals as goal

pub returns-in_err-open_base-clause-any_moment : goal.returns-in_err-open_base-clause-any_moment
returns-in_err-open_base-clause-any_moment g c = λ m told. tiny_base_leaves g.D.Disk.time g.D.Disk.left_since c.args.base_file c.args.coin_file m c.args.disk.now c.open_base.new.disk (c.in_err-open_base.ensures.any_moment m told)

pub returns-in_err-index-clause-any_moment : goal.returns-in_err-index-clause-any_moment
returns-in_err-index-clause-any_moment g c = λ m told. tiny_base_leaves g.D.Disk.time g.D.Disk.left_since c.args.base_file c.args.coin_file m c.args.disk.now c.open_base.new.disk (c.in_ok-open_base.ensures.any_moment m told)

pub returns-in_err-open_base-clause-read : goal.returns-in_err-open_base-clause-read
returns-in_err-open_base-clause-read g c = λ m told. reads_base c.args.base_file c.args.coin_file m (g.D.Disk.bytes_read c.args.disk.now) (g.D.Disk.bytes_read c.open_base.new.disk) (c.in_err-open_base.ensures.read m told)

pub returns-in_err-index-clause-read : goal.returns-in_err-index-clause-read
returns-in_err-index-clause-read g c = λ m told. reads_base c.args.base_file c.args.coin_file m (g.D.Disk.bytes_read c.args.disk.now) (g.D.Disk.bytes_read c.open_base.new.disk) (c.in_ok-open_base.ensures.read m told)

pub returns-clause-any_moment : goal.returns-clause-any_moment
returns-clause-any_moment g c = λ m told.
    let mid = between g.D.Disk.time g.D.Disk.left_since g.D.Disk.contents g.met.D.Disk.reads_as c.args.base_file c.args.disk.now c.open_base.new.disk m told c.in_ok-open_base.ensures.others
    (λ long. (c.in_ok-open_base.ensures.long m told long).0) (λ f this few. c.in_ok-open_base.ensures.tiny m f told this few) in
    tiny_both_leave g.D.Disk.time g.D.Disk.left_since g.met.D.Disk.since_earlier c.args.base_file c.args.coin_file m mid.image (alike_before (m c.args.coin_file) (mid.image c.args.coin_file) (mid.same c.args.coin_file)) c.args.disk.now c.open_base.new.disk
    c.open_log.new.disk (c.in_ok-open_base.ensures.any_moment m told) (c.in_ok-read.ensures.any_moment mid.image mid.told) (λ long. (c.in_ok-read.ensures.long mid.image mid.told long).1)

pub returns-clause-part : goal.returns-clause-part
returns-clause-part g c =
    both_leave g.D.Disk.time g.D.Disk.left_since c.args.base_file c.args.coin_file (Torn 0 1) g.met.D.Disk.since_earlier torn_still torn_on c.args.disk.now c.open_base.new.disk c.open_log.new.disk
    c.in_ok-open_base.ensures.part c.in_ok-read.ensures.part

pub returns-clause-read : goal.returns-clause-read
returns-clause-read g c = λ m told.
    let mid = between g.D.Disk.time g.D.Disk.left_since g.D.Disk.contents g.met.D.Disk.reads_as c.args.base_file c.args.disk.now c.open_base.new.disk m told c.in_ok-open_base.ensures.others
    (λ long. (c.in_ok-open_base.ensures.long m told long).0) (λ f this few. c.in_ok-open_base.ensures.tiny m f told this few) in
    reads_both c.args.base_file c.args.coin_file m (g.D.Disk.bytes_read c.args.disk.now) (g.D.Disk.bytes_read c.open_base.new.disk) (g.D.Disk.bytes_read c.open_log.new.disk) (c.in_ok-open_base.ensures.read m told)
    (subst (λ (n : ℕ). ReadAtMost c.args.coin_file n (g.D.Disk.bytes_read c.open_base.new.disk) (g.D.Disk.bytes_read c.open_log.new.disk)) (alike_reads (m c.args.coin_file) (mid.image c.args.coin_file) (mid.same c.args.coin_file)) (c.in_ok-read.ensures.read mid.image mid.told))

pub returns-in_err-read-clause-any_moment : goal.returns-in_err-read-clause-any_moment
returns-in_err-read-clause-any_moment g c = λ m told.
    let mid = between g.D.Disk.time g.D.Disk.left_since g.D.Disk.contents g.met.D.Disk.reads_as c.args.base_file c.args.disk.now c.open_base.new.disk m told c.in_ok-open_base.ensures.others
    (λ long. (c.in_ok-open_base.ensures.long m told long).0) (λ f this few. c.in_ok-open_base.ensures.tiny m f told this few) in
    tiny_both_leave g.D.Disk.time g.D.Disk.left_since g.met.D.Disk.since_earlier c.args.base_file c.args.coin_file m mid.image (alike_before (m c.args.coin_file) (mid.image c.args.coin_file) (mid.same c.args.coin_file)) c.args.disk.now c.open_base.new.disk
    c.open_log.new.disk (c.in_ok-open_base.ensures.any_moment m told) (c.in_err-read.ensures.any_moment mid.image mid.told) (λ long. (c.in_err-read.ensures.long mid.image mid.told long).1)

pub returns-in_err-read-clause-part : goal.returns-in_err-read-clause-part
returns-in_err-read-clause-part g c =
    both_leave g.D.Disk.time g.D.Disk.left_since c.args.base_file c.args.coin_file (Torn 0 1) g.met.D.Disk.since_earlier torn_still torn_on c.args.disk.now c.open_base.new.disk c.open_log.new.disk
    c.in_ok-open_base.ensures.part c.in_err-read.ensures.part

pub returns-in_err-read-clause-read : goal.returns-in_err-read-clause-read
returns-in_err-read-clause-read g c = λ m told.
    let mid = between g.D.Disk.time g.D.Disk.left_since g.D.Disk.contents g.met.D.Disk.reads_as c.args.base_file c.args.disk.now c.open_base.new.disk m told c.in_ok-open_base.ensures.others
    (λ long. (c.in_ok-open_base.ensures.long m told long).0) (λ f this few. c.in_ok-open_base.ensures.tiny m f told this few) in
    reads_both c.args.base_file c.args.coin_file m (g.D.Disk.bytes_read c.args.disk.now) (g.D.Disk.bytes_read c.open_base.new.disk) (g.D.Disk.bytes_read c.open_log.new.disk) (c.in_ok-open_base.ensures.read m told)
    (subst (λ (n : ℕ). ReadAtMost c.args.coin_file n (g.D.Disk.bytes_read c.open_base.new.disk) (g.D.Disk.bytes_read c.open_log.new.disk)) (alike_reads (m c.args.coin_file) (mid.image c.args.coin_file) (mid.same c.args.coin_file)) (c.in_err-read.ensures.read mid.image mid.told))

pub returns-clause-tiny : goal.returns-clause-tiny
returns-clause-tiny g c = λ m f told this few.
    let mid = between g.D.Disk.time g.D.Disk.left_since g.D.Disk.contents g.met.D.Disk.reads_as c.args.base_file c.args.disk.now c.open_base.new.disk m told c.in_ok-open_base.ensures.others
    (λ long. (c.in_ok-open_base.ensures.long m told long).0) (λ f this few. c.in_ok-open_base.ensures.tiny m f told this few) in
    both_tiny g.D.Disk.time g.D.Disk.left_since c.args.base_file c.args.coin_file SameLog g.met.D.Disk.since_earlier c.open_base.new.disk c.open_log.new.disk m (c.in_ok-read.ensures.any_moment mid.image mid.told)
    (λ f this few. c.in_ok-open_base.ensures.tiny m f told this few)
    (λ few. c.in_ok-read.ensures.tiny mid.image mid.told (alike_tiny (m c.args.coin_file) (mid.image c.args.coin_file) (mid.same c.args.coin_file) few)) f this few

pub returns-clause-ok : goal.returns-clause-ok
returns-clause-ok g c = λ m told.
    let mid = between g.D.Disk.time g.D.Disk.left_since g.D.Disk.contents g.met.D.Disk.reads_as c.args.base_file c.args.disk.now c.open_base.new.disk m told c.in_ok-open_base.ensures.others
    (λ long. (c.in_ok-open_base.ensures.long m told long).0) (λ f this few. c.in_ok-open_base.ensures.tiny m f told this few) in
    let b = c.in_ok-open_base.ensures.ok m told in
    let o = c.in_ok-read.ensures.ok mid.image mid.told in
    let named = subst (λ (f : ℕ). HasBatches f c.args.secrets.now.key o.0 c.in_ok-index.index.places c.open_log.new.index.places c.in_ok-read.read.markers.items) (sym c.in_ok-read.ensures.named.0) o.3 in
    let h = opens (g.D.Disk.contents c.open_log.new.disk) (g.D.Disk.left_since c.open_log.new.disk (g.D.Disk.time c.open_log.new.disk)) _ m b.0 o.0 c.in_ok-index.index.places b.1 (c.in_ok-index.ensures.places ∙ b.2) b.2 o.2
    (λ apart f this. other_holds g.D.Disk.time g.D.Disk.left_since g.D.Disk.contents g.met.D.Disk.since_earlier c.args.coin_file SameLog c.open_base.new.disk c.open_log.new.disk (c.in_ok-read.ensures.any_moment mid.image mid.told) c.in_ok-read.ensures.others
    f (λ e. apart (this ∙ ap (λ (g : ℕ). Some g) (e ∙ sym c.in_ok-read.ensures.named.0))) (base_texts c.args.secrets.now.key b.0) (b.3 f this)) named in
    record {
      base = b.0;
      batches = h.0;
      base_log = b.1;
      coin_log = sym (alike_log (m c.args.coin_file) (mid.image c.args.coin_file) (mid.same c.args.coin_file)) ∙ o.1 ∙ ap (λ (p : List (List ℕ)). Ok p) h.1;
      holds = λ apart. h.2 (λ is. apart (is ∙ ap (λ (g : ℕ). Some g) c.in_ok-read.ensures.named.0));
    }

pub returns-in_err-read-clause-damaged : goal.returns-in_err-read-clause-damaged
returns-in_err-read-clause-damaged g c = λ m told.
    let mid = between g.D.Disk.time g.D.Disk.left_since g.D.Disk.contents g.met.D.Disk.reads_as c.args.base_file c.args.disk.now c.open_base.new.disk m told c.in_ok-open_base.ensures.others
    (λ long. (c.in_ok-open_base.ensures.long m told long).0) (λ f this few. c.in_ok-open_base.ensures.tiny m f told this few) in
    let b = c.in_ok-open_base.ensures.ok m told in
    let e = err_from_is_err_and c.from_residual-in_err-read.result c.from_residual-in_err-read.ensures.1 in
    rw (e.1, e.2) (coin_damage c.args.secrets.now.key c.args.base_file c.args.coin_file m (mid.image c.args.coin_file) b.0 b.1 (alike_log (m c.args.coin_file) (mid.image c.args.coin_file) (mid.same c.args.coin_file)) _ _ c.in_err-read.field-0.0
    c.in_err-read.ensures.cause (c.in_err-read.ensures.damaged mid.image mid.told))

pub returns-in_err-read-clause-long : goal.returns-in_err-read-clause-long
returns-in_err-read-clause-long g c = λ m told all.
    let first = c.in_ok-open_base.ensures.long m told (λ f this. all f (inl this)) in
    let second = c.in_err-read.ensures.long m (first.0 ∙ told) (all c.args.coin_file (inr refl)) in
    (second.0 ∙ first.0, quiet_then g.D.Disk.time g.D.Disk.left_since c.args.disk.now c.open_base.new.disk c.open_log.new.disk first.1 second.1)
