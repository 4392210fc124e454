use Rattle.std.proofs.Common.{sym, ap, ◌∙◌, map, length, length-set, is_some, Some}
use Rattle.slot_pool.proofs.Chunks.{filled_set}
use Rattle.slot_pool.proofs.chunk.Chunk.put.Goals as goal

pub invariant_of-self : goal.invariant_of-self
invariant_of-self g c =
    let i = c.self.invariant in let cs = c.self.inside.cells.held in let e = c.put.ensures in record {
      claimed = (i.claimed.0 ∙ sym e.0, i.claimed.1);
      places = ap length e.1 ∙ length-set cs c.args.place (Some c.args.value) ∙ i.places;
      filled = filled_set cs _ c.args.place (Some c.args.value) i.filled ∙ ap (map is_some) (sym e.1);
    }
