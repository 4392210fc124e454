use Rattle.std.proofs.Common.{◌≡◌, ◌==◌, ℕ, take, [], cond}
use Rattle.std.specs.List.{list_any}
use Rattle.disk_model.specs.Image.{bytes_in}
use Rattle.disk_model.specs.Crash.{image_of}
use Rattle.disk_model.specs.MemDisk.{state_of}
use Rattle.disk_model.proofs.mem.MemDisk.image_at.Given as goal

abbrev pub invariant-loop-file : goal.invariant-loop-file
invariant-loop-file l = (f : ℕ) → bytes_in l.image f ≡ cond (list_any (λ n. f == n) (take l.file-index l.file-items)) (image_of l.pick (state_of l.self l.moment f)) []
