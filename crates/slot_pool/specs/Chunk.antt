-- What holds of the fields of a chunk.
use Rattle.std.specs.Prelude.{◌≡◌, length, map, is_some}
use Rattle.slot_pool.specs.declared.chunk.Chunk.TheInside.{Inside}

module _ {T : Type 0} where
  pub record IsChunk (c : Inside T) : Type 0 where
    pub claimed : (c.claim.start ≡ c.cells.start) × (c.claim.alloc ≡ c.alloc)
    pub places : length c.cells.held ≡ 256
    pub filled : c.filled.items ≡ map is_some c.cells.held
