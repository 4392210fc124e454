-- The calls of raw readers, writers and files, and what an adapter makes of them.
use Rattle.std.specs.Prelude.{◌≡◌, ℕ, zero, suc, ◌-◌, ◌^◌, ◌≤◌, Bool, List, [], ◌∷◌, ◌++◌, length, take, Option, Result, Ok, Err, ⊤, ◌⊎◌, OnOk, OnErr}
use Rattle.io_traits.specs.declared.raw.RawError.{RawError}
use Rattle.io_traits.specs.declared.raw.RawError.TheVariants.{Interrupted, Failed}

-- the bytes that a call moved, or why it moved none
abbrev pub RawAnswer : Type 0
RawAnswer = Result (List ℕ) RawError

-- a read: the length of the buffer, and what it gave
pub record RawRead : Type 0 where
  pub room : ℕ
  pub answer : RawAnswer

-- a read that left the buffer as this
abbrev pub read_call : Result ℕ RawError → List ℕ → RawRead
read_call (Ok count) buf = record { room = length buf; answer = Ok (take count buf) }
read_call (Err error) buf = record { room = length buf; answer = Err error }

-- what a write of these bytes took
abbrev pub write_call : Result ℕ RawError → List ℕ → RawAnswer
write_call (Ok count) bytes = Ok (take count bytes)
write_call (Err error) bytes = Err error

-- a call for a file: opened or made empty under a name, or closed, with the name that it tells; and whether that was done
pub data RawFileCall : Type 0 where
  opens : List ℕ → Bool → RawFileCall
  creates : List ℕ → Bool → RawFileCall
  closes : Option (List ℕ) → Bool → RawFileCall

-- ---- reading through an adapter

-- so many interrupted reads into so much room, and the reads before them
abbrev pub interrupted : ℕ → ℕ → List RawRead → List RawRead
interrupted room zero before = before
interrupted room (suc count) before = record { room = room; answer = Err Interrupted } ∷ interrupted room count before

-- The last read gave what is answered. A failure is a read that failed, or as many interruptions as are waited for.
abbrev pub EndsRead : {E : Type 0} → Result ℕ E → List ℕ → ℕ → List RawRead → List RawRead → Type 0
EndsRead (Ok count) buf turns tried now = now ≡ read_call (Ok count) buf ∷ tried
EndsRead (Err _) buf turns tried now = (now ≡ read_call (Err Failed) buf ∷ tried) ⊎ ((turns ≡ 2 ^ 64 - 1) × (now ≡ tried))

-- one read into the whole buffer, made again as often as it was interrupted
abbrev pub ReadsThrough : {E : Type 0} → Result ℕ E → List ℕ → List RawRead → List RawRead → Type 0
ReadsThrough result buf before now = (turns : ℕ) × EndsRead result buf turns (interrupted (length buf) turns before) now

-- ---- writing through an adapter

-- the bytes that a writer took by these calls, of which the newest is the first
abbrev pub taken : List RawAnswer → List ℕ
taken [] = []
taken (Ok bytes ∷ earlier) = taken earlier ++ bytes
taken (Err error ∷ earlier) = taken earlier

-- the last call failed or took no byte, or as many were made as an adapter makes
abbrev pub EndsWrite : List RawAnswer → Type 0
EndsWrite (Err Failed ∷ earlier) = ⊤
EndsWrite (Ok [] ∷ earlier) = ⊤
EndsWrite calls = 2 ^ 64 - 1 ≤ length calls

-- these bytes were taken, in order; or only a first part of them, since a call failed
pub record WritesThrough {E : Type 0} (bytes : List ℕ) (result : Result ⊤ E) (before now : List RawAnswer) : Type 0 where
  pub calls : List RawAnswer
  pub newer : now ≡ calls ++ before
  pub whole : OnOk result (taken calls ≡ bytes)
  pub part : OnErr result ((rest : List ℕ) × (bytes ≡ taken calls ++ rest))
  pub cause : OnErr result (EndsWrite calls)
