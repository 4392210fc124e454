-- What the calls of a disk do to its files, and what a crash may leave of them.
use Rattle.std.specs.Prelude.{⊤, ◌≡◌, ◌≢◌, ◌⊎◌, ℕ, ◌+◌, ◌-◌, ◌^◌, ◌≤◌, ◌==◌, min, max, List, ◌++◌, length, take, drop, replicate, if◌then◌else◌, Option, Some, None, Result, IsErr, OnOk, OnErr}

-- the bytes of each file, by its number; a file that isn't there is empty
abbrev pub Image : Type 0
Image = ℕ → List ℕ

-- these bytes with xs from a place on, and zeros in a gap before it
abbrev pub written : ℕ → List ℕ → List ℕ → List ℕ
written at xs bytes = take at bytes ++ replicate (at - length bytes) 0 ++ xs ++ drop (at + length xs) bytes

-- what each file has, where one file's is changed
abbrev pub changed_at : {A : Type 0} → ℕ → (A → A) → (ℕ → A) → ℕ → A
changed_at file change each f = if f == file then change (each f) else each f

-- two images differ by this step of one file
pub record At (file : ℕ) (Step : List ℕ → List ℕ → Type 0) (old new : Image) : Type 0 where
  pub here : Step (old file) (new file)
  pub others : (f : ℕ) → f ≢ file → new f ≡ old f

-- a write of n bytes, cut short: any bytes in its range and past the old end, and elsewhere the same
pub record Torn (at n : ℕ) (old new : List ℕ) : Type 0 where
  pub before : take (min at (length old)) new ≡ take at old
  pub after : drop (at + n) (take (length old) new) ≡ drop (at + n) old
  pub no_shorter : length old ≤ length new
  pub no_longer : length new ≤ max (length old) (at + n)

-- a cut to n bytes, cut short: some length between the two, and any bytes from n on
pub record Cut (n : ℕ) (old new : List ℕ) : Type 0 where
  pub front : take n new ≡ take n old
  pub no_shorter : min n (length old) ≤ length new
  pub no_longer : length new ≤ length old

-- the step of a call that changes no file
abbrev pub Stays : Image → Image → Type 0
Stays old new = old ≡ new

-- any step: where it stands in `At file`, the other files stay
abbrev pub Anyhow : List ℕ → List ℕ → Type 0
Anyhow old new = ⊤

-- the file has these bytes in each of the images
abbrev pub Only : ℕ → List ℕ → (Image → Type 0) → Type 0
Only file bytes images = (c : Image) → images c → c file ≡ bytes

-- a fact about what the disk tells, where it tells it
abbrev pub Told : {A : Type 0} → Option A → (A → Type 0) → Type 0
Told {A} told P = (a : A) → told ≡ Some a → P a

-- two disks tell contents that are so related, or neither tells any
abbrev pub BothTold : (Image → Image → Type 0) → Option Image → Option Image → Type 0
BothTold Related None None = ⊤
BothTold Related (Some old) (Some new) = Related old new
BothTold Related None (Some new) = ⊥
BothTold Related (Some old) None = ⊥

-- contents are told as before, and the other files read the same
abbrev pub OthersKept : ℕ → Option Image → Option Image → Type 0
OthersKept file old new = BothTold (λ m n. (f : ℕ) → f ≢ file → n f ≡ m f) old new

-- a count rose, or stands at the last value of u64
abbrev pub Rose : ℕ → ℕ → Type 0
Rose before now = min (before + 1) (2 ^ 64 - 1) ≤ now

-- the count of faults never falls, an error comes only where it rose, and at an Ok it stays
pub record HasCause {T E : Type 0} (before now : ℕ) (result : Result T E) : Type 0 where
  pub later : before ≤ now
  pub failed : OnErr result (Rose before now)
  pub kept : OnOk result (now ≡ before)

-- a call takes time, and a crash in it leaves what it might have left before the call, or that after this step
pub record Moves {T E : Type 0} (Step : Image → Image → Type 0) (before now : ℕ) (past since : ℕ → Image → Type 0) (result : Result T E) : Type 0 where
  pub later : before ≤ now
  pub rises : Rose before now
  -- a crash since t leaves what it might have left before the call, or what it may leave now
  pub nothing_else : (t : ℕ) (c : Image) → t ≤ before → since t c → past t c ⊎ since now c
  pub keeps : (t : ℕ) (c : Image) → t ≤ before → past t c → since t c
  -- what it may leave now is what it might have left just before the call, after the step
  pub follows : (c : Image) → since now c → (e : Image) × past before e × Step e c
  -- at the last reading of the clock the call fails and does nothing
  pub at_end : 2 ^ 64 - 1 ≤ before → IsErr result × (now ≡ before) × ((t : ℕ) (c : Image) → since t c → past t c)

-- a crash since any time before leaves what it might have left before, or an image of the beginning after this step
pub record Leaves {D : Type 0} (time : D → ℕ) (left_since : D → ℕ → Image → Type 0) (Step : Image → Image → Type 0) (old new : D) : Type 0 where
  pub later : time old ≤ time new
  pub since : (t : ℕ) (c : Image) → t ≤ time old → left_since new t c → left_since old t c ⊎ (e : Image) × left_since old (time old) e × Step e c

-- a crash at any moment since the beginning leaves an image that has P
pub record LeavesOnly {D : Type 0} (time : D → ℕ) (left_since : D → ℕ → Image → Type 0) (old new : D) (P : Image → Type 0) : Type 0 where
  pub later : time old ≤ time new
  pub each : (c : Image) → left_since new (time old) c → P c
  -- and one since a time before leaves such an image, or what it might have left before
  pub before : (t : ℕ) (c : Image) → t ≤ time old → left_since new t c → left_since old t c ⊎ P c

-- nothing was changed: a crash since any time before leaves what it might have left before
pub record Quiet {D : Type 0} (time : D → ℕ) (left_since : D → ℕ → Image → Type 0) (old new : D) : Type 0 where
  pub later : time old ≤ time new
  pub since : (t : ℕ) (c : Image) → t ≤ time old → left_since new t c → left_since old t c
