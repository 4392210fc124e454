-- What a crash may leave of a file, by what was done to it.
use Rattle.std.specs.Prelude.{◌<◌, ◌≡◌, ℕ, ◌+◌, ◌≤◌, ◌||◌, ◌&&◌, not, min, max, Bool, false, List, length, take, map, get_or, nat_le, nat_lt, if◌then◌else◌}
use Rattle.std.specs.List.{range_with_len}
use Rattle.disk_model.specs.Disk.{Image, written}
use Rattle.disk_model.specs.declared.pick.Pick.{Pick}
use Rattle.disk_model.specs.declared.pick.Pick.TheVariants.{Old, New, Fill}

-- how a file reads; what was durable at the last sync that succeeded; the least of that length and of each cut since;
-- the greatest length since; and which places a write since has covered
pub record FileState : Type 0 where
  pub reads : List ℕ
  pub durable : List ℕ
  pub least : ℕ
  pub most : ℕ
  pub covered : ℕ → Bool

-- a crash may leave these bytes of the file
pub record IsFileImage (s : FileState) (c : List ℕ) : Type 0 where
  pub no_shorter : s.least ≤ length c
  pub no_longer : length c ≤ s.most
  pub kept : (i : ℕ) → i < s.least → s.covered i ≡ false → get_or c i 0 ≡ get_or s.durable i 0

-- files fail independently
abbrev pub IsImage : (ℕ → FileState) → Image → Type 0
IsImage s c = (f : ℕ) → IsFileImage (s f) (c f)

-- all of it is durable
abbrev pub at_rest : List ℕ → FileState
at_rest bytes = record { reads = bytes; durable = bytes; least = length bytes; most = length bytes; covered = λ i. false }

-- the place i is one of the n from `at` on
abbrev pub in_range : ℕ → ℕ → ℕ → Bool
in_range at n i = nat_le at i && nat_lt i (at + n)

abbrev pub after_write : ℕ → List ℕ → FileState → FileState
after_write at xs s = record {
  reads = written at xs s.reads;
  durable = s.durable;
  least = s.least;
  most = max s.most (length (written at xs s.reads));
  covered = λ i. s.covered i || in_range at (length xs) i;
}

abbrev pub after_cut : ℕ → FileState → FileState
after_cut n s = record { reads = take n s.reads; durable = s.durable; least = min s.least n; most = s.most; covered = s.covered }

abbrev pub after_sync : FileState → FileState
after_sync s = at_rest s.reads

-- the image that a pick stands for: what was durable, as short as it may be; as the file reads; as long as it may be,
-- with this byte wherever it is free
abbrev pub image_of : Pick → FileState → List ℕ
image_of Old s = take s.least s.durable
image_of New s = s.reads
image_of (Fill byte) s = map (λ i. if nat_lt i s.least && not (s.covered i) then get_or s.durable i 0 else byte) (range_with_len 0 s.most)
