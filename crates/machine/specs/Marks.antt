-- Which tip may stand after flushes, some of which were done.
use Rattle.std.specs.Prelude.{◌≡◌, ◌⊎◌, ℕ, Bool, true, false, List, [], ◌∷◌, ◌++◌, Option, Some, None, nat_le}
use Rattle.base_types.specs.declared.flushes.Chain.{Chain}
use Rattle.base_types.specs.declared.flushes.Chain.TheVariants.{Full, Snapshot}
use Rattle.base_types.specs.declared.flushes.Flushed.{Flushed}
use Rattle.base_types.specs.declared.hash.Hash32.{Hash32}
use Rattle.machine.specs.State.{Event, HeadersStored, BodyStored, Flush}

-- a flush, and whether it is kept: it was done by then
pub record Mark : Type 0 where
  pub tip : Hash32
  pub kept : Bool

abbrev pub done_by : ℕ → Option ℕ → Bool
done_by t None = false
done_by t (Some done) = nat_le done t

abbrev pub mark_of : ℕ → Flushed → Mark
mark_of t f = record { tip = f.tip; kept = done_by t f.done }

-- ---- the flushes of one chainstate

-- a chainstate since it began: the tip that it then had, and its flushes
pub record Since : Type 0 where
  pub start : Hash32
  pub marks : List Mark

abbrev pub begun_at : Hash32 → Since
begun_at start = record { start = start; marks = [] }

abbrev pub with_mark : Mark → Since → Since
with_mark mark since = record since { marks = since.marks ++ mark ∷ [] }

-- the chainstates since they began; for now there is that from genesis alone
pub record Past : Type 0 where
  pub full : Since

abbrev pub with_flush : Chain → Mark → Past → Past
with_flush Full mark past = record past { full = with_mark mark past.full }
with_flush Snapshot mark past = past

-- A flush belongs to the chainstate of its name that stood when it was made: the flush events are in order those of the
-- members.
unfoldable pub past_after : ℕ → List Event → List Flushed → Past → Past
past_after t [] members past = past
past_after t (HeadersStored headers ∷ events) members past = past_after t events members past
past_after t (BodyStored hash block ∷ events) members past = past_after t events members past
past_after t (Flush chain tip why touched ∷ events) [] past = past
past_after t (Flush chain tip why touched ∷ events) (member ∷ members) past = past_after t events members (with_flush chain (mark_of t member) past)

-- ---- the tip

-- The tip is that of the last kept member or of a later one; where none is kept, of any member, or the start.
abbrev pub StandsAt : Hash32 → List Mark → Hash32 → Type 0
StandsAt start [] tip = tip ≡ start
StandsAt start (m ∷ ms) tip = StandsAt m.tip ms tip ⊎ ((m.kept ≡ false) × StandsAt start ms tip)

-- none is kept
abbrev pub NoneKept : List Mark → Type 0
NoneKept [] = Unit {0}
NoneKept (m ∷ ms) = (m.kept ≡ false) × NoneKept ms

-- the tip is that of one of these
abbrev pub IsTipOf : List Mark → Hash32 → Type 0
IsTipOf [] tip = ⊥
IsTipOf (m ∷ ms) tip = (tip ≡ m.tip) ⊎ IsTipOf ms tip

-- the last kept member, with those before and after it, one of which from it on has the tip
pub record FromLastKept (ms : List Mark) (tip : Hash32) : Type 0 where
  pub before : List Mark
  pub last : Mark
  pub after : List Mark
  pub is : ms ≡ before ++ last ∷ after
  pub kept : last.kept ≡ true
  pub none_later : NoneKept after
  pub tips : (tip ≡ last.tip) ⊎ IsTipOf after tip

-- the same in words
abbrev pub StandsInWords : Hash32 → List Mark → Hash32 → Type 0
StandsInWords start ms tip = FromLastKept ms tip ⊎ (NoneKept ms × ((tip ≡ start) ⊎ IsTipOf ms tip))
