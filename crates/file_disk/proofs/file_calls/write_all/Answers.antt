use Rattle.std.proofs.Common.{◌≡◌, ◌+◌, ◌++◌, ◌∷◌, [], length, Ok, Err, sym, ap, subst, ◌∙◌, arith}
use borrow.Rule.Slice.PartMut.{mid_len}
use Rattle.file_disk.specs.declared.trouble.Operation.TheVariants.{Write}
use Rattle.file_disk.specs.Deeds.{writes}
use Rattle.file_disk.specs.Troubles.{trouble_at}
use Rattle.file_disk.proofs.Moved.{HasWritten, HasWritten-more, WritesAll-stopped, WritesAll-failed, rest_whole}
use Rattle.file_disk.proofs.file_calls.write_all.Goals.{in-Ok, in-Err-Interrupted}
use Rattle.file_disk.proofs.file_calls.write_all.Goals as goal

pub returns-in-Ok-eq0 : goal.returns-in-Ok-eq0
returns-in-Ok-eq0 g c =
    let l = c.loop in
    let number = g.F.RawFolder.number c.args.file.now in
    let bytes = c.args.bytes.now in
    let deeds = g.F.RawFolder.deeds in
    let n = c.in-Ok-eq0.field-0 in
    let none : n ≡ 0 = omega (arith, c.in-Ok-eq0.field-0-test) in
    let cause = c.at-failed.ensures ∙ ap (λ m. trouble_at m Write) c.number.ensures in
    let call = c.in-Ok-eq0.ensures.call ∙ ap (λ rest. deeds l.folder ++ writes number (c.args.at + l.count) rest (Ok n) ∷ []) (rest_whole bytes l.count) in
    WritesAll-stopped l.counter number c.args.at l.count n c.at-failed.result bytes (deeds c.args.folder.now) (deeds l.folder) (deeds c.write_at.new.self) l.invariant.within none cause l.invariant.writes call

pub returns-in-Err-Failed : goal.returns-in-Err-Failed
returns-in-Err-Failed g c =
    let l = c.loop in
    let number = g.F.RawFolder.number c.args.file.now in
    let bytes = c.args.bytes.now in
    let deeds = g.F.RawFolder.deeds in
    let error = c.in-Err-Failed.field-0 in
    let cause = c.at-failed.ensures ∙ ap (λ m. trouble_at m Write) c.number.ensures in
    let call = c.in-Err-Failed.ensures.call ∙ ap (λ rest. deeds l.folder ++ writes number (c.args.at + l.count) rest (Err error) ∷ []) (rest_whole bytes l.count) in
    WritesAll-failed l.counter number c.args.at l.count error c.at-failed.result bytes (deeds c.args.folder.now) (deeds l.folder) (deeds c.write_at.new.self) l.invariant.within c.in-Err-Failed.field-0-is cause l.invariant.writes call

pub loop-preserved : goal.loop-preserved
loop-preserved g c =
    let l = c.loop in
    let number = g.F.RawFolder.number c.args.file.now in
    let bytes = c.args.bytes.now in
    let deeds = g.F.RawFolder.deeds in
    let old = deeds c.args.folder.now in
    let next = deeds c.write_at.new.self in
    record {
      within = elim c.match-write_at.branch [ in-Ok w ↦ omega (arith, w.count-is, w.in-Ok.ensures.bound, mid_len l.count (length bytes) bytes (omega arith)) | in-Err-Interrupted w ↦ omega (arith, w.count-is) ];
      writes = elim c.match-write_at.branch [
        | in-Ok w ↦
            subst (λ n. HasWritten (l.counter + 1) number c.args.at bytes n old next) (sym w.count-is)
            (HasWritten-more l.counter number c.args.at bytes l.count (Ok w.in-Ok.more) old (deeds l.folder) next l.invariant.writes
            (w.in-Ok.ensures.call ∙ ap (λ rest. deeds l.folder ++ writes number (c.args.at + l.count) rest (Ok w.in-Ok.more) ∷ []) (rest_whole bytes l.count))).0
        | in-Err-Interrupted w ↦
            let same : l.count + 0 ≡ c.match-write_at.count = omega (arith, w.count-is) in
            subst (λ n. HasWritten (l.counter + 1) number c.args.at bytes n old next) same
            (HasWritten-more l.counter number c.args.at bytes l.count (Err w.in-Err-Interrupted.field-0) old (deeds l.folder) next l.invariant.writes
            (w.in-Err-Interrupted.ensures.call ∙ ap (λ rest. deeds l.folder ++ writes number (c.args.at + l.count) rest (Err w.in-Err-Interrupted.field-0) ∷ []) (rest_whole bytes l.count))).0
      ];
    }
