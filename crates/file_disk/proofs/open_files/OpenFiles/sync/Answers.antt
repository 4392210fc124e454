use Rattle.std.proofs.Common.{◌≡◌, get_or, subst}
use Rattle.file_disk.specs.Courses.{SyncsOpen, SyncsBoth}
use Rattle.file_disk.proofs.Reached.{OnReached-then, reached_place, found_at, named_at, syncs_both}
use Rattle.file_disk.proofs.Unsynced.{kept_syncing}
use Rattle.file_disk.proofs.open_files.OpenFiles.sync.Goals as goal

pub invariant_of-self : goal.invariant_of-self
invariant_of-self g c =
    let deeds = g.F.RawFolder.deeds in
    let before = c.sync_entry.new.self in
    record {
      made_is = kept_syncing (g.F.RawFolder.number c.index.result.now) c.sync_bytes.result before.made.items (deeds before.folder) (deeds c.sync_bytes.new.folder) before.made_is c.sync_bytes.ensures;
    }

pub returns : goal.returns
returns g c =
    let deeds = g.F.RawFolder.deeds in
    let file = c.args.file in
    let place = c.in-Some.place in
    let old = deeds c.args.self.now.folder in
    let reached = deeds c.reach.new.self.folder in
    let entered = deeds c.sync_entry.new.self.folder in
    let new = deeds c.sync_bytes.new.folder in
    let found = c.in_ok-place.field-0 in
    let handles = c.reach.new.self.handles.items in
    let ensured = c.in_ok-sync_entry.ensures in
    let handle = c.index.result.now in
    let index = subst (λ hs. handle ≡ get_or hs place handle) ensured.handles c.index.ensures in
    let named = named_at g.F.RawFolder.number file place handles handle (found_at g.F.RawFolder.number file place found handles c.in-Some.is c.in_ok-place.ensures.place) index in
    OnReached-then file (λ _. Unit {0}) (SyncsBoth file) c.sync_bytes.result old reached new
    (reached_place file found place old reached c.in-Some.is c.in_ok-place.ensures.calls)
    (syncs_both file c.sync_bytes.result reached entered new ensured.calls (subst (λ n. SyncsOpen n c.sync_bytes.result entered new) named c.sync_bytes.ensures))
