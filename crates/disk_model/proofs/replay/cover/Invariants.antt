use Rattle.std.proofs.Common.{◌≡◌, ◌<◌, ◌||◌, ◌&&◌, ℕ, false, length, get_or, nat_le, nat_lt}
use Rattle.disk_model.proofs.replay.cover.Given as goal

abbrev pub invariant-loop-place : goal.invariant-loop-place
invariant-loop-place l = (i : ℕ) → i < length l.covered → get_or l.covered i false ≡ (get_or l.fn.covered i false || (nat_le l.start i && nat_lt i l.place))
