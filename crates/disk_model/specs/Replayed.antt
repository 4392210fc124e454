-- A file whose state is computed.
use Rattle.std.specs.Prelude.{◌≡◌, ◌<◌, ◌≤◌, ◌&&◌, not, ℕ, false, length, get_or, nat_lt, if◌then◌else◌}
use Rattle.disk_model.specs.declared.replay.Replayed.{Replayed}
use Rattle.disk_model.specs.Crash.{FileState}

-- it is that state, as far as the state's meaning goes
pub record IsShown (r : Replayed) (s : FileState) : Type 0 where
  pub reads : r.reads ≡ s.reads
  pub durable : r.durable ≡ s.durable
  pub least : r.least ≡ s.least
  pub most : r.most ≡ s.most
  pub marks : length r.covered.items ≡ length r.durable
  pub lower : r.least ≤ length r.durable
  pub covered : (i : ℕ) → i < length r.durable → get_or r.covered.items i false ≡ s.covered i

-- a place of the longest image: the durable byte, or this byte where it is free
abbrev pub filled_place : Replayed → ℕ → ℕ → ℕ
filled_place r byte i = if nat_lt i r.least && not (get_or r.covered.items i false) then get_or r.durable i 0 else byte
