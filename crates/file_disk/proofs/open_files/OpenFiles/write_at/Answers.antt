use Rattle.std.proofs.Common.{inr, subst}
use Rattle.file_disk.specs.Courses.{WritesAll}
use Rattle.file_disk.proofs.Reached.{named_at}
use Rattle.file_disk.proofs.Unsynced.{kept_writing}
use Rattle.file_disk.proofs.open_files.OpenFiles.write_at.Goals as goal

pub invariant_of-self : goal.invariant_of-self
invariant_of-self g c =
    let deeds = g.F.RawFolder.deeds in
    let before = c.reach_or_make.new.self in
    record {
      made_is = kept_writing (g.F.RawFolder.number c.index.result.now) c.args.at c.args.bytes.now c.write_all.result before.made.items (deeds before.folder) (deeds c.write_all.new.folder) before.made_is c.write_all.ensures;
    }

pub returns : goal.returns
returns g c =
    let deeds = g.F.RawFolder.deeds in
    let file = c.args.file in
    let place = c.in_ok-place.place in
    let made = deeds c.reach_or_make.new.self.folder in
    let new = deeds c.write_all.new.folder in
    let handles = c.reach_or_make.new.self.handles.items in
    let named = named_at g.F.RawFolder.number file place handles c.index.result.now c.in_ok-place.ensures.place c.index.ensures in
    inr (inr (made, c.in_ok-place.ensures.calls, subst (λ n. WritesAll n c.args.at c.args.bytes.now c.write_all.result made new) named c.write_all.ensures))
