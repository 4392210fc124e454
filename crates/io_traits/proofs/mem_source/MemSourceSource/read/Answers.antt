use Rattle.std.proofs.Common.{ap}
use Rattle.io_traits.proofs.Reading.{source_read}
use Rattle.io_traits.proofs.mem_source.MemSourceSource.read.Goals as goal

pub returns-clause-bytes : goal.returns-clause-bytes
returns-clause-bytes c =
    source_read c.self.inside.bytes.items c.deref.result.now _ _ c.args.buf.now c.self.inside.place c.min-count.result c.deref.ensures.value (ap (λ s. s.left) c.self.view_is) c.min-count.ensures c.copy_from_slice.ensures.after
