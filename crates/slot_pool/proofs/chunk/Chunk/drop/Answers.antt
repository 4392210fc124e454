use Rattle.std.proofs.Common.{◌≡◌, get_or, map, is_some, None, ap, ◌∙◌}
use Rattle.slot_pool.proofs.Chunks.{filled_at, empty_at, mark_at, taken_more}
use borrow.Author.Count.{below_more}
use Rattle.slot_pool.proofs.chunk.Chunk.drop.Goals as goal
use Rattle.slot_pool.proofs.chunk.Chunk.drop.Goals.{then-index, else-index}

pub take-requires : goal.take-requires
take-requires g c =
    let i = c.self.invariant in let marks = c.self.inside.filled.items in
    filled_at _ marks _ (i.filled ∙ ap (map is_some) c.self.view_is) (mark_at _ marks _ c.index.result.now i.filled i.places c.loop-place-test.true c.index.ensures ∙ c.if-index.true)

pub loop-place-preserved : goal.loop-place-preserved
loop-place-preserved g c =
    let i = c.self.invariant in let marks = c.self.inside.filled.items in
    elim c.if-index.branch [
      | then-index w ↦ λ k lt. ap (λ l. get_or l k None) (w.self-is ∙ w.take.ensures.rest) ∙ taken_more _ c.loop-place.place c.loop-place.invariant k lt
      | else-index w ↦ λ k lt.
          ap (λ l. get_or l k None) w.self-is
          ∙ below_more (λ j. get_or c.loop-place.self j None ≡ None) c.loop-place.place c.loop-place.invariant
          (empty_at _ marks _ (i.filled ∙ ap (map is_some) c.self.view_is) (mark_at _ marks _ c.index.result.now i.filled i.places c.loop-place-test.true c.index.ensures ∙ w.if-index.false)) k lt
    ]
