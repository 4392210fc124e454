use Rattle.std.proofs.Common.{sym, ◌∙◌, length-set, Some}
use Rattle.slot_pool.proofs.Chunks.{filled_same}
use Rattle.slot_pool.proofs.chunk.Chunk.get_mut.Goals as goal

pub invariant_of-self-lent : goal.invariant_of-self-lent
invariant_of-self-lent g c =
    λ w. let i = c.self.invariant in let cs = c.self.inside.cells.held in record {
      claimed = i.claimed;
      places = length-set cs c.args.place (Some w) ∙ i.places;
      filled = i.filled ∙ sym (filled_same cs c.args.place c.get_mut.result.now w c.get_mut.ensures.value);
    }
