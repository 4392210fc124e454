use Rattle.std.proofs.Common.{sym, ap, ◌∙◌, map, length, is_some, Option, None}
use Rattle.std.proofs.lemmas.List.{length-replicate}
use Rattle.slot_pool.proofs.Chunks.{none_filled}
use Rattle.slot_pool.proofs.chunk.Chunk.new.Goals as goal

pub invariant_of-result : goal.invariant_of-result
invariant_of-result g c =
    let e = c.in_ok-cells.ensures in record {
      claimed = (e.1, e.2);
      places = ap length e.0 ∙ length-replicate {A = Option g.row.T.Denot} 256 None;
      filled = c.in_ok-filled.ensures.items_if_clones_equal (λ y is. is) ∙ none_filled g.row.T.Denot 256 ∙ ap (map is_some) (sym e.0);
    }
