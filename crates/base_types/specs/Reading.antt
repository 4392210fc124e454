-- Reading from the front of bytes, with the first fault that is met.
use Rattle.std.specs.Prelude.{◌≡◌, ℕ, ◌+◌, ◌*◌, ◌-◌, ◌^◌, List, [], ◌∷◌, ◌++◌, length, take, drop, Result, Ok, Err, nat_lt, ◌==◌, if◌then◌else◌}
use Rattle.std.specs.Int.{Width, w16, w32, w64, byte_len, from_le_bytes}
use Rattle.base_types.specs.declared.cursor.ReadError.{ReadError}
use Rattle.base_types.specs.declared.cursor.ReadError.TheVariants.{Short, LongSpelling, TooLarge}

-- what a cursor has left of bytes that end at an offset
pub record Input : Type 0 where
  pub end : ℕ
  pub rest : List ℕ

-- the offset of the next byte
abbrev pub place : Input → ℕ
place i = i.end - length i.rest

-- a step, and another with its value, unless it failed
infixl 10 ◌>>=◌
abbrev pub ◌>>=◌ : {A B E : Type 0} → Result A E → (A → Result B E) → Result B E
(Ok x) >>= f = f x
(Err e) >>= f = Err e

-- ---- fields, each from the front of a list of bytes

-- the first byte
abbrev pub byte_at : List ℕ → Result (ℕ × List ℕ) ReadError
byte_at [] = Err Short
byte_at (first ∷ bytes) = Ok (first, bytes)

-- the first n bytes
abbrev pub bytes_at : ℕ → List ℕ → Result (List ℕ × List ℕ) ReadError
bytes_at n bytes = if nat_lt (length bytes) n then Err Short else Ok (take n bytes, drop n bytes)

-- a number, low byte first
abbrev pub number_at : Width → List ℕ → Result (ℕ × List ℕ) ReadError
number_at w bytes = if nat_lt (length bytes) (byte_len w) then Err Short else Ok (from_le_bytes w (take (byte_len w) bytes), drop (byte_len w) bytes)

-- the number behind the first byte of a long CompactSize, which a shorter form doesn't have
abbrev pub long_at : Width → ℕ → List ℕ → Result (ℕ × List ℕ) ReadError
long_at w least bytes = do
  n ← number_at w bytes
  if nat_lt n.0 least then Err LongSpelling else Ok n

-- a CompactSize
unfoldable pub compact_at : List ℕ → Result (ℕ × List ℕ) ReadError
compact_at [] = Err Short
compact_at (first ∷ bytes) =
    if first == 253 then long_at w16 253 bytes else
    if first == 254 then long_at w32 (2 ^ 16) bytes else
    if first == 255 then long_at w64 (2 ^ 32) bytes else
    Ok (first, bytes)

-- a CompactSize that is a length, a count or an index
unfoldable pub length_at : List ℕ → Result (ℕ × List ℕ) ReadError
length_at bytes = do
  n ← compact_at bytes
  if nat_lt 33554432 n.0 then Err TooLarge else Ok n

-- the groups of a VARINT, behind groups that make this number; it is too large as soon as no further group can fit
unfoldable pub groups_at : ℕ → List ℕ → Result (ℕ × List ℕ) ReadError
groups_at above [] = Err Short
groups_at above (first ∷ bytes) =
    if nat_lt first 128 then Ok (128 * above + first, bytes) else
    if nat_lt (2 ^ 57 - 1) (128 * above + first - 127) then Err TooLarge else
    groups_at (128 * above + first - 127) bytes

-- a VARINT
abbrev pub varint_at : List ℕ → Result (ℕ × List ℕ) ReadError
varint_at bytes = groups_at 0 bytes

-- ---- what a reader returned

-- the same for a cursor
abbrev pub on_rest : {X : Type 0} → (List ℕ → Result (X × List ℕ) ReadError) → Input → Result (X × Input) ReadError
on_rest read i = read i.rest >>= λ x. Ok (x.0, record { end = i.end; rest = x.1 })

-- What a reader returned, seen by view, is what reading gives; after an error the cursor is as before.
abbrev pub Gives : {X Y E : Type 0} → (X → Y) → Result X E → Input → Input → Result (Y × Input) E → Type 0
Gives view (Ok x) old new read = read ≡ Ok (view x, new)
Gives view (Err e) old new read = (read ≡ Err e) × (new ≡ old)

-- the same for a function on slices
abbrev pub Splits : {X Y E : Type 0} → (X → Y × List ℕ) → Result X E → Result (Y × List ℕ) E → Type 0
Splits view (Ok x) read = read ≡ Ok (view x)
Splits view (Err e) read = read ≡ Err e

-- What was read is the value whose text stood there, and a value whose text stands there is read: no value has two texts.
pub record Spelled {X : Type 0} (text : X → List ℕ) (Fits : X → Type 0) (old : List ℕ) (read : Result (X × List ℕ) ReadError) : Type 0 where
  pub found : (x : X) (rest : List ℕ) → read ≡ Ok (x, rest) → (old ≡ text x ++ rest) × Fits x
  pub only : (x : X) (rest : List ℕ) → Fits x → old ≡ text x ++ rest → read ≡ Ok (x, rest)
