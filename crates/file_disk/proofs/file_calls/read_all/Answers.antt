use Rattle.std.proofs.Common.{◌≡◌, ◌+◌, ◌-◌, ◌≤◌, length, take, sym, ap, subst, ◌∙◌, arith}
use borrow.Rule.Slice.PartMut.{put_mid, mid_len, same_len_mid}
use Rattle.file_disk.specs.declared.trouble.Operation.TheVariants.{Read}
use Rattle.file_disk.specs.Troubles.{trouble_at}
use Rattle.file_disk.proofs.Moved.{HasRead, HasRead-part, HasRead-not, ReadsAll-ended, ReadsAll-failed}
use Rattle.file_disk.proofs.file_calls.read_all.Goals.{in-Ok, in-Err-Interrupted}
use Rattle.file_disk.proofs.file_calls.read_all.Goals as goal

pub returns-in-Ok-eq0 : goal.returns-in-Ok-eq0
returns-in-Ok-eq0 g c =
    let l = c.loop in
    let number = g.F.RawFolder.number c.args.file.now in
    let deeds = g.F.RawFolder.deeds in
    let none : c.in-Ok-eq0.field-0 ≡ 0 = omega (arith, c.in-Ok-eq0.field-0-test) in
    let so_far = subst (λ room. HasRead l.counter number c.args.at room (take l.count l.buf) (deeds c.args.folder.now) (deeds l.folder)) (sym l.invariant.room) l.invariant.reads in
    ReadsAll-ended l.counter number c.args.at l.count c.in-Ok-eq0.field-0 l.buf c.read_at.new.buf (deeds c.args.folder.now) (deeds l.folder) (deeds c.read_at.new.self)
    l.invariant.within c.read_at.auto.buf none so_far c.in-Ok-eq0.ensures.call

pub returns-in-Err-Failed : goal.returns-in-Err-Failed
returns-in-Err-Failed g c =
    let l = c.loop in
    let number = g.F.RawFolder.number c.args.file.now in
    let deeds = g.F.RawFolder.deeds in
    let cause = c.at-failed.ensures ∙ ap (λ n. trouble_at n Read) c.number.ensures in
    let so_far = subst (λ room. HasRead l.counter number c.args.at room (take l.count l.buf) (deeds c.args.folder.now) (deeds l.folder)) (sym l.invariant.room) l.invariant.reads in
    ReadsAll-failed l.counter number c.args.at l.count c.in-Err-Failed.field-0 c.at-failed.result l.buf c.read_at.new.buf (deeds c.args.folder.now) (deeds l.folder) (deeds c.read_at.new.self)
    l.invariant.within c.read_at.auto.buf c.in-Err-Failed.field-0-is cause so_far c.in-Err-Failed.ensures.call

pub loop-preserved : goal.loop-preserved
loop-preserved g c =
    let l = c.loop in
    let number = g.F.RawFolder.number c.args.file.now in
    let deeds = g.F.RawFolder.deeds in
    let ys = c.read_at.new.buf in
    let buf = put_mid l.count (length l.buf - l.count) l.buf ys in
    let same : length buf ≡ length l.buf = same_len_mid l.count (length l.buf - l.count) l.buf ys c.read_at.auto.buf in
    let so_far = subst (λ room. HasRead l.counter number c.args.at room (take l.count l.buf) (deeds c.args.folder.now) (deeds l.folder)) (sym l.invariant.room) l.invariant.reads in
    record {
      within = elim c.match-read_at.branch [ in-Ok w ↦ let few : w.in-Ok.more ≤ length ys = omega (arith, w.in-Ok.ensures.bound) in let part = c.read_at.auto.buf in omega (arith, same, w.count-is, mid_len l.count (length l.buf) l.buf (omega arith)) | in-Err-Interrupted w ↦ omega (arith, same, w.count-is) ];
      room = same ∙ l.invariant.room;
      reads =
          subst (λ room. HasRead (l.counter + 1) number c.args.at room (take c.match-read_at.count buf) (deeds c.args.folder.now) (deeds c.read_at.new.self)) l.invariant.room
          (elim c.match-read_at.branch [
            | in-Ok w ↦
                subst (λ n. HasRead (l.counter + 1) number c.args.at (length l.buf) (take n buf) (deeds c.args.folder.now) (deeds c.read_at.new.self)) (sym w.count-is)
                (HasRead-part l.counter number c.args.at l.count w.in-Ok.more l.buf ys (deeds c.args.folder.now) (deeds l.folder) (deeds c.read_at.new.self)
                l.invariant.within c.read_at.auto.buf (omega (arith, w.in-Ok.ensures.bound)) so_far w.in-Ok.ensures.call).0
            | in-Err-Interrupted w ↦
                subst (λ n. HasRead (l.counter + 1) number c.args.at (length l.buf) (take n buf) (deeds c.args.folder.now) (deeds c.read_at.new.self)) (sym w.count-is)
                (HasRead-not l.counter number c.args.at l.count w.in-Err-Interrupted.field-0 l.buf ys (deeds c.args.folder.now) (deeds l.folder) (deeds c.read_at.new.self)
                l.invariant.within c.read_at.auto.buf so_far w.in-Err-Interrupted.ensures.call).0
          ]);
    }
