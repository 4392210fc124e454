use Rattle.std.proofs.Common.{◌≡◌, ◌<◌, ℕ, get_or, length, None}
use Rattle.coin_index.proofs.index.Index.clear.Given as goal

abbrev pub invariant-loop-place : goal.invariant-loop-place
invariant-loop-place l = record {
  emptied : (c : ℕ) → c < l.place → get_or l.self.buckets.items c None ≡ None;
  count : length l.self.buckets.items ≡ length l.initial.self.buckets.items;
  salt : l.self.salt ≡ l.initial.self.salt;
}
