use Rattle.std.proofs.Common.{◌∙◌, ap, get_or, None}
use Rattle.slot_pool.proofs.Chunks.{all_empty}
use Rattle.slot_pool.proofs.chunk.Chunk.end.Goals as goal

pub free-requires : goal.free-requires
free-requires g c =
    let i = c.self.invariant in
    (all_empty _ 256 i.places (λ k lt. ap (λ cs. get_or cs k None) c.self.view_is ∙ c.requires k lt), i.claimed.0, i.claimed.1)
