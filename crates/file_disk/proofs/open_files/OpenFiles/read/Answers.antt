use Rattle.std.proofs.Common.{◌≡◌, inr, subst}
use Rattle.file_disk.specs.Courses.{ReadsAll}
use Rattle.file_disk.proofs.Reached.{OnReached-then, reached_place, found_at, named_at}
use Rattle.file_disk.proofs.Unsynced.{kept_reading}
use Rattle.file_disk.proofs.open_files.OpenFiles.read.Goals as goal

pub invariant_of-self : goal.invariant_of-self
invariant_of-self g c =
    let deeds = g.F.RawFolder.deeds in
    let before = c.reach.new.self in
    record {
      made_is = kept_reading (g.F.RawFolder.number c.index.result.now) c.args.at c.read_all.new.buf c.read_all.result before.made.items (deeds before.folder) (deeds c.read_all.new.folder) before.made_is c.read_all.ensures;
    }

pub returns : goal.returns
returns g c =
    let deeds = g.F.RawFolder.deeds in
    let file = c.args.file in
    let place = c.in-Some.place in
    let old = deeds c.args.self.now.folder in
    let reached = deeds c.reach.new.self.folder in
    let new = deeds c.read_all.new.folder in
    let found = c.in_ok-place.field-0 in
    let handles = c.reach.new.self.handles.items in
    let named = named_at g.F.RawFolder.number file place handles c.index.result.now (found_at g.F.RawFolder.number file place found handles c.in-Some.is c.in_ok-place.ensures.place) c.index.ensures in
    inr (OnReached-then file (λ count. count ≡ 0) (ReadsAll file c.args.at c.read_all.new.buf) c.read_all.result old reached new
    (reached_place file found place old reached c.in-Some.is c.in_ok-place.ensures.calls)
    (subst (λ n. ReadsAll n c.args.at c.read_all.new.buf c.read_all.result reached new) named c.read_all.ensures))
