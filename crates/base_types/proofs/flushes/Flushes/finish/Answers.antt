use Rattle.std.proofs.Common.{ap, sym, length, ◌∙◌, ◌-◌, []}
use Rattle.base_types.proofs.flushes.Flushes.finish.Goals as goal
use Rattle.base_types.proofs.Members.{changed_there, last_place}
use Rattle.base_types.specs.Flushes.{done_at}

pub returns : goal.returns
returns c front member split =
    let items = c.self.inside.members.items in
    let inside = c.self.view_is ∙ split in
    let count = ap (λ n. n - 1) (ap length (c.self.view_is ∙ sym c.as_slice.ensures)) in
    changed_there (done_at c.args.at) items front [] c.index_mut.result.now member (length c.as_slice.result.now - 1) c.index_mut.ensures.value (last_place items front member inside ∙ count) inside
