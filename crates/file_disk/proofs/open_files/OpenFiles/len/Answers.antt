use Rattle.std.proofs.Common.{◌≡◌, subst}
use Rattle.file_disk.specs.Courses.{MeasuresOpen}
use Rattle.file_disk.proofs.Reached.{OnReached-then, reached_place, found_at, named_at}
use Rattle.file_disk.proofs.Unsynced.{kept_measuring}
use Rattle.file_disk.proofs.open_files.OpenFiles.len.Goals as goal

pub invariant_of-self : goal.invariant_of-self
invariant_of-self g c =
    let deeds = g.F.RawFolder.deeds in
    let before = c.reach.new.self in
    record {
      made_is = kept_measuring (g.F.RawFolder.number c.index.result.now) c.measure.result before.made.items (deeds before.folder) (deeds c.measure.new.folder) before.made_is c.measure.ensures;
    }

pub returns : goal.returns
returns g c =
    let deeds = g.F.RawFolder.deeds in
    let file = c.args.file in
    let place = c.in-Some.place in
    let old = deeds c.args.self.now.folder in
    let reached = deeds c.reach.new.self.folder in
    let new = deeds c.measure.new.folder in
    let found = c.in_ok-place.field-0 in
    let handles = c.reach.new.self.handles.items in
    let named = named_at g.F.RawFolder.number file place handles c.index.result.now (found_at g.F.RawFolder.number file place found handles c.in-Some.is c.in_ok-place.ensures.place) c.index.ensures in
    OnReached-then file (λ bytes. bytes ≡ 0) (MeasuresOpen file) c.measure.result old reached new
    (reached_place file found place old reached c.in-Some.is c.in_ok-place.ensures.calls)
    (subst (λ n. MeasuresOpen n c.measure.result reached new) named c.measure.ensures)
