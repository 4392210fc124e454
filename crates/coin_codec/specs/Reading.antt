-- Reading a coin or a key from the left, with the first fault that is met, and a coin's with its offset.
use Rattle.std.specs.Prelude.{◌≡◌, ℕ, ◌+◌, ◌-◌, ◌/◌, ◌%◌, ◌^◌, ◌<◌, Bool, false, List, ◌++◌, length, Result, Ok, Err, is_some, ◌==◌, nat_lt, nat_le, if◌then◌else◌}
use Rattle.base_types.specs.Bytes.{varint}
use Rattle.base_types.specs.Reading.{Input, place, ◌>>=◌, byte_at, bytes_at, varint_at, Spelled}
use Rattle.base_types.specs.Codec.{Reader, field}
use Rattle.base_types.specs.Parameters.{max_money, max_script_size}
use Rattle.base_types.specs.declared.cursor.ReadError.{ReadError}
use Rattle.base_types.specs.declared.cursor.ReadError.TheVariants as read
use Rattle.base_types.specs.declared.coin.Coin.{Coin}
use Rattle.base_types.specs.declared.hash.OutPoint.{OutPoint}
use Rattle.base_types.specs.declared.refused.CoinError.{CoinError}
use Rattle.base_types.specs.declared.refused.CoinError.TheVariants.{Short, HeightTooLarge, BadAmount, UncompressedKey, ScriptTooLong, SecondSpelling}
use Rattle.coin_codec.specs.declared.fault.CoinFault.{CoinFault}
use Rattle.coin_codec.specs.declared.fault.CoinFault.TheVariants.{NoMemory, Bad}
use Rattle.coin_codec.specs.Amount.{amount_of}
use Rattle.coin_codec.specs.ScriptForm.{special_scripts, script_of, kept_len, short_form}

-- what is wrong, and where
abbrev pub Wrong : Type 0
Wrong = CoinError × ℕ

-- the fault of a VARINT, by what it is too large for
abbrev pub varint_wrong : CoinError → Input → ReadError → Wrong
varint_wrong error i read.Short = (Short, i.end)
varint_wrong error i read.LongSpelling = (error, place i)
varint_wrong error i read.TooLarge = (error, place i)

-- the fault of bytes, of which there are too few
abbrev pub bytes_wrong : Input → ReadError → Wrong
bytes_wrong i e = (Short, i.end)

-- a VARINT that passes a test
unfoldable pub checked_varint_at : {E : Type 0} → (Input → ReadError → E) → (ℕ → Bool) → Reader E ℕ
checked_varint_at name passes i = do
  n ← field name varint_at i
  if passes n.0 then Ok n else Err (name i read.TooLarge)

-- ---- a coin

abbrev pub is_u32 : ℕ → Bool
is_u32 n = nat_lt n (2 ^ 32)

abbrev pub is_amount_code : ℕ → Bool
is_amount_code code = nat_le (amount_of code) max_money

abbrev pub is_script_code : ℕ → Bool
is_script_code code = nat_le code (max_script_size + special_scripts)

unfoldable pub amount_at : Reader Wrong ℕ
amount_at i = do
  code ← checked_varint_at (varint_wrong BadAmount) is_amount_code i
  Ok (amount_of code.0, code.1)

-- the script of a kind, of which these bytes were kept
unfoldable pub kept_script_at : ℕ → Reader Wrong (List ℕ)
kept_script_at mark i = do
  kept ← field bytes_wrong (bytes_at (kept_len mark)) i
  Ok (script_of mark kept.0, kept.1)

-- a script in raw form, whose length began at this offset
unfoldable pub raw_script_at : ℕ → ℕ → Reader Wrong (List ℕ)
raw_script_at began len i = do
  script ← field bytes_wrong (bytes_at len) i
  if is_some (short_form script.0) then Err (SecondSpelling, began) else Ok script

unfoldable pub script_at : Reader Wrong (List ℕ)
script_at i = do
  code ← checked_varint_at (varint_wrong ScriptTooLong) is_script_code i
  if nat_lt code.0 4 then kept_script_at code.0 code.1 else
      if nat_lt code.0 special_scripts then Err (UncompressedKey, place i) else raw_script_at (place i) (code.0 - special_scripts) code.1

unfoldable pub coin_at : Reader Wrong Coin
coin_at i = do
  code ← checked_varint_at (varint_wrong HeightTooLarge) is_u32 i
  value ← amount_at code.1
  script ← script_at value.1
  Ok (record { value = value.0; script = script.0; height = code.0 / 2; coinbase = code.0 % 2 == 1 }, script.1)

-- ---- a key

abbrev pub same_error : Input → ReadError → ReadError
same_error i e = e

unfoldable pub letter_at : Reader ReadError ℕ
letter_at i = do
  letter ← field same_error byte_at i
  if letter.0 == 0x43 then Ok letter else Err read.LongSpelling

unfoldable pub key_at : Reader ReadError OutPoint
key_at i = do
  letter ← letter_at i
  txid ← field same_error (bytes_at 32) letter.1
  index ← checked_varint_at same_error is_u32 txid.1
  Ok (record { txid = record { bytes = txid.0 }; index = index.0 }, index.1)

-- ---- what a function returned

-- What a function returned is what reading gives.
abbrev pub Reads : {X E : Type 0} → Result X E → Input → Result (X × Input) E → Type 0
Reads (Ok x) new given = given ≡ Ok (x, new)
Reads (Err e) new given = given ≡ Err e

-- The same of a coin's parts, unless memory ran out.
abbrev pub Fails : {X : Type 0} → CoinFault → Result X Wrong → Type 0
Fails NoMemory given = Unit {0}
Fails (Bad error at) given = given ≡ Err (error, at)

abbrev pub ReadsCoin : {X : Type 0} → Result X CoinFault → Input → Result (X × Input) Wrong → Type 0
ReadsCoin (Ok x) new given = given ≡ Ok (x, new)
ReadsCoin (Err e) new given = Fails e given

-- whether it was read to the end of the bytes
abbrev pub is_whole : {X E : Type 0} → Result (X × Input) E → Bool
is_whole (Ok read) = length read.1.rest == 0
is_whole (Err e) = false

-- ---- where a value was read

-- a value was read whose text stood there
pub record TakesText {X : Type 0} (text : X → List ℕ) (Fits : X → Type 0) (i : Input) (x : X) (j : Input) : Type 0 where
  pub parts : i.rest ≡ text x ++ j.rest
  pub fits : Fits x

-- the VARINT that is read from these bytes is the number whose text stands there
abbrev pub IsNumber : List ℕ → Type 0
IsNumber bytes = Spelled varint (λ n. n < 2 ^ 64) bytes (varint_at bytes)

-- A cursor after a call that may have read from it: the same bytes, of which some may have been taken.
pub record IsFurther (old new : Input) : Type 0 where
  pub end : new.end ≡ old.end
  pub taken : (front : List ℕ) × (old.rest ≡ front ++ new.rest)
