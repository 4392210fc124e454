-- Each of the device calls leaves what the payloads are; then the new one is there.
use Rattle.std.proofs.Common.{◌∙◌, ap, subst, refl, arith}
use Rattle.std.specs.Prelude.{List, ℕ, ◌∷◌, [], ◌+◌, length}
use Rattle.disk_model.specs.Disk.{Only, written, changed_at}
use Rattle.disk_model.proofs.Moments.{changed_here, told_after, on_ok, so_far_leaves}
use Rattle.batch_log.specs.Records.{WithOrWithout}
use Rattle.batch_log.proofs.RecordWrites.{first, second, third, fourth, put_there, Within, none_within, wrote_within, synced_within}
use Rattle.batch_log.proofs.records.write_record.Goals as goal

pub returns-in_err-write_at-clause-any_moment : goal.returns-in_err-write_at-clause-any_moment
returns-in_err-write_at-clause-any_moment g c ps p ends fits spelled holds =
    let a = first g.D.Disk.time g.D.Disk.left_since g.D.Disk.contents c.args.file c.args.end c.args.tail.now ps p ends fits spelled c.args.disk.now holds c.write_at.new.self _ c.write_at.ensures.crash in
    so_far_leaves g.D.Disk.time g.D.Disk.left_since c.args.file (WithOrWithout ps p) _ c.args.disk.now c.write_at.new.self a

pub returns-in_err-write_at-clause-part : goal.returns-in_err-write_at-clause-part
returns-in_err-write_at-clause-part g c =
    let z = none_within g.D.Disk.time g.D.Disk.left_since c.args.file c.args.end (1 + length c.args.tail.now) c.args.disk.now in
    let a = wrote_within g.D.Disk.time g.D.Disk.left_since c.args.file c.args.end (1 + length c.args.tail.now) c.args.disk.now (c.args.end + 1) (length c.args.tail.now) c.args.disk.now c.write_at.new.self _ (omega arith) (omega arith) z c.write_at.ensures.crash in
    so_far_leaves g.D.Disk.time g.D.Disk.left_since c.args.file (Within g.D.Disk.time g.D.Disk.left_since c.args.file c.args.end (1 + length c.args.tail.now) c.args.disk.now) (Within g.D.Disk.time g.D.Disk.left_since c.args.file c.args.end (1 + length c.args.tail.now) c.args.disk.now) c.args.disk.now c.write_at.new.self a

pub returns-in_err-sync-clause-any_moment : goal.returns-in_err-sync-clause-any_moment
returns-in_err-sync-clause-any_moment g c ps p ends fits spelled holds =
    let a = first g.D.Disk.time g.D.Disk.left_since g.D.Disk.contents c.args.file c.args.end c.args.tail.now ps p ends fits spelled c.args.disk.now holds c.write_at.new.self _ c.write_at.ensures.crash in
    let b = second g.D.Disk.time g.D.Disk.left_since g.D.Disk.contents c.args.file c.args.end c.args.tail.now ps p ends fits spelled c.args.disk.now holds c.write_at.new.self c.sync.new.self _ a c.sync.ensures.crash in
    so_far_leaves g.D.Disk.time g.D.Disk.left_since c.args.file (WithOrWithout ps p) _ c.args.disk.now c.sync.new.self b

pub returns-in_err-sync-clause-part : goal.returns-in_err-sync-clause-part
returns-in_err-sync-clause-part g c =
    let z = none_within g.D.Disk.time g.D.Disk.left_since c.args.file c.args.end (1 + length c.args.tail.now) c.args.disk.now in
    let a = wrote_within g.D.Disk.time g.D.Disk.left_since c.args.file c.args.end (1 + length c.args.tail.now) c.args.disk.now (c.args.end + 1) (length c.args.tail.now) c.args.disk.now c.write_at.new.self _ (omega arith) (omega arith) z c.write_at.ensures.crash in
    let b = synced_within g.D.Disk.time g.D.Disk.left_since c.args.file c.args.end (1 + length c.args.tail.now) c.args.disk.now c.write_at.new.self c.sync.new.self _ a c.sync.ensures.crash in
    so_far_leaves g.D.Disk.time g.D.Disk.left_since c.args.file (Within g.D.Disk.time g.D.Disk.left_since c.args.file c.args.end (1 + length c.args.tail.now) c.args.disk.now) (Within g.D.Disk.time g.D.Disk.left_since c.args.file c.args.end (1 + length c.args.tail.now) c.args.disk.now) c.args.disk.now c.sync.new.self b

pub returns-in_err-write_at-2-clause-any_moment : goal.returns-in_err-write_at-2-clause-any_moment
returns-in_err-write_at-2-clause-any_moment g c ps p ends fits spelled holds =
    let a = first g.D.Disk.time g.D.Disk.left_since g.D.Disk.contents c.args.file c.args.end c.args.tail.now ps p ends fits spelled c.args.disk.now holds c.write_at.new.self _ c.write_at.ensures.crash in
    let b = second g.D.Disk.time g.D.Disk.left_since g.D.Disk.contents c.args.file c.args.end c.args.tail.now ps p ends fits spelled c.args.disk.now holds c.write_at.new.self c.sync.new.self _ a c.sync.ensures.crash in
    let told = told_after (changed_at c.args.file (written (c.args.end + 1) c.args.tail.now)) _ _ (holds.image) c.in_ok-write_at.ensures.written holds.told in
    let here = changed_here c.args.file (written (c.args.end + 1) c.args.tail.now) holds.image in
    let only = subst (λ (x : List ℕ). Only c.args.file x (g.D.Disk.left_since c.sync.new.self (g.D.Disk.time c.sync.new.self))) here (c.in_ok-sync.ensures.durable _ told) in
    let d = third g.D.Disk.time g.D.Disk.left_since g.D.Disk.contents c.args.file c.args.end c.args.tail.now ps p ends fits spelled c.args.disk.now holds c.sync.new.self c.write_at-2.new.self _ b only c.write_at-2.ensures.crash in
    so_far_leaves g.D.Disk.time g.D.Disk.left_since c.args.file (WithOrWithout ps p) _ c.args.disk.now c.write_at-2.new.self d

pub returns-in_err-write_at-2-clause-part : goal.returns-in_err-write_at-2-clause-part
returns-in_err-write_at-2-clause-part g c =
    let z = none_within g.D.Disk.time g.D.Disk.left_since c.args.file c.args.end (1 + length c.args.tail.now) c.args.disk.now in
    let a = wrote_within g.D.Disk.time g.D.Disk.left_since c.args.file c.args.end (1 + length c.args.tail.now) c.args.disk.now (c.args.end + 1) (length c.args.tail.now) c.args.disk.now c.write_at.new.self _ (omega arith) (omega arith) z c.write_at.ensures.crash in
    let b = synced_within g.D.Disk.time g.D.Disk.left_since c.args.file c.args.end (1 + length c.args.tail.now) c.args.disk.now c.write_at.new.self c.sync.new.self _ a c.sync.ensures.crash in
    let d = wrote_within g.D.Disk.time g.D.Disk.left_since c.args.file c.args.end (1 + length c.args.tail.now) c.args.disk.now c.args.end 1 c.sync.new.self c.write_at-2.new.self _ (omega arith) (omega arith) b c.write_at-2.ensures.crash in
    so_far_leaves g.D.Disk.time g.D.Disk.left_since c.args.file (Within g.D.Disk.time g.D.Disk.left_since c.args.file c.args.end (1 + length c.args.tail.now) c.args.disk.now) (Within g.D.Disk.time g.D.Disk.left_since c.args.file c.args.end (1 + length c.args.tail.now) c.args.disk.now) c.args.disk.now c.write_at-2.new.self d

pub returns-clause-any_moment : goal.returns-clause-any_moment
returns-clause-any_moment g c ps p ends fits spelled holds =
    let a = first g.D.Disk.time g.D.Disk.left_since g.D.Disk.contents c.args.file c.args.end c.args.tail.now ps p ends fits spelled c.args.disk.now holds c.write_at.new.self _ c.write_at.ensures.crash in
    let b = second g.D.Disk.time g.D.Disk.left_since g.D.Disk.contents c.args.file c.args.end c.args.tail.now ps p ends fits spelled c.args.disk.now holds c.write_at.new.self c.sync.new.self _ a c.sync.ensures.crash in
    let told = told_after (changed_at c.args.file (written (c.args.end + 1) c.args.tail.now)) _ _ (holds.image) c.in_ok-write_at.ensures.written holds.told in
    let here = changed_here c.args.file (written (c.args.end + 1) c.args.tail.now) holds.image in
    let only = subst (λ (x : List ℕ). Only c.args.file x (g.D.Disk.left_since c.sync.new.self (g.D.Disk.time c.sync.new.self))) here (c.in_ok-sync.ensures.durable _ told) in
    let d = third g.D.Disk.time g.D.Disk.left_since g.D.Disk.contents c.args.file c.args.end c.args.tail.now ps p ends fits spelled c.args.disk.now holds c.sync.new.self c.write_at-2.new.self _ b only c.write_at-2.ensures.crash in
    let e = fourth g.D.Disk.time g.D.Disk.left_since g.D.Disk.contents c.args.file c.args.end c.args.tail.now ps p ends fits spelled c.args.disk.now holds c.write_at-2.new.self c.sync-2.new.self _ d c.sync-2.ensures.crash in
    so_far_leaves g.D.Disk.time g.D.Disk.left_since c.args.file (WithOrWithout ps p) _ c.args.disk.now c.sync-2.new.self e

pub returns-clause-part : goal.returns-clause-part
returns-clause-part g c =
    let z = none_within g.D.Disk.time g.D.Disk.left_since c.args.file c.args.end (1 + length c.args.tail.now) c.args.disk.now in
    let a = wrote_within g.D.Disk.time g.D.Disk.left_since c.args.file c.args.end (1 + length c.args.tail.now) c.args.disk.now (c.args.end + 1) (length c.args.tail.now) c.args.disk.now c.write_at.new.self _ (omega arith) (omega arith) z c.write_at.ensures.crash in
    let b = synced_within g.D.Disk.time g.D.Disk.left_since c.args.file c.args.end (1 + length c.args.tail.now) c.args.disk.now c.write_at.new.self c.sync.new.self _ a c.sync.ensures.crash in
    let d = wrote_within g.D.Disk.time g.D.Disk.left_since c.args.file c.args.end (1 + length c.args.tail.now) c.args.disk.now c.args.end 1 c.sync.new.self c.write_at-2.new.self _ (omega arith) (omega arith) b c.write_at-2.ensures.crash in
    let e = synced_within g.D.Disk.time g.D.Disk.left_since c.args.file c.args.end (1 + length c.args.tail.now) c.args.disk.now c.write_at-2.new.self c.sync-2.new.self _ d c.sync-2.ensures.crash in
    so_far_leaves g.D.Disk.time g.D.Disk.left_since c.args.file (Within g.D.Disk.time g.D.Disk.left_since c.args.file c.args.end (1 + length c.args.tail.now) c.args.disk.now) (Within g.D.Disk.time g.D.Disk.left_since c.args.file c.args.end (1 + length c.args.tail.now) c.args.disk.now) c.args.disk.now c.sync-2.new.self e

pub returns-clause-ok : goal.returns-clause-ok
returns-clause-ok g c ps p ends fits spelled holds =
    let m = changed_at c.args.file (written (c.args.end + 1) c.args.tail.now) holds.image in
    let told = told_after (changed_at c.args.file (written (c.args.end + 1) c.args.tail.now)) _ _ (holds.image) c.in_ok-write_at.ensures.written holds.told in
    let here = changed_here c.args.file (written (c.args.end + 1) c.args.tail.now) holds.image in
    let opened = told_after (changed_at c.args.file (written c.args.end (1 ∷ []))) _ _ m c.in_ok-write_at-2.ensures.written (c.sync.ensures.contents ∙ told) in
    let there = changed_here c.args.file (written c.args.end (1 ∷ [])) m ∙ ap (written c.args.end (1 ∷ [])) here in
    let n = changed_at c.args.file (written c.args.end (1 ∷ [])) m in
    on_ok _ _ _ (λ only. put_there g.D.Disk.time g.D.Disk.left_since g.D.Disk.contents c.args.file c.args.end c.args.tail.now ps p ends fits spelled c.args.disk.now holds c.sync-2.new.self (n c.args.file) there n (c.sync-2.ensures.contents ∙ opened) refl only) (c.sync-2.ensures.durable n opened)
