-- Counts of faults through calls, one after another.
use Rattle.std.proofs.Common.{ℕ, ◌+◌, ◌≤◌, arith}
use Rattle.io_traits.specs.Causes.{Rose, RoseBy}

pub Rose-later : (before middle now : ℕ) → Rose before middle → middle ≤ now → Rose before now
Rose-later before middle now rose later = omega arith

pub Rose-earlier : (before middle now : ℕ) → before ≤ middle → Rose middle now → Rose before now
Rose-earlier before middle now later rose = omega arith

pub RoseBy-none : (before now : ℕ) → before ≤ now → RoseBy 0 before now
RoseBy-none before now later = omega arith

pub RoseBy-once : (before now : ℕ) → Rose before now → RoseBy 1 before now
RoseBy-once before now rose = rose

pub RoseBy-then : (m n before middle now : ℕ) → RoseBy m before middle → RoseBy n middle now → RoseBy (m + n) before now
RoseBy-then m n before middle now first second = omega arith
