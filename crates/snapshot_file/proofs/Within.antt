-- No fault's offset lies behind the bytes.
use Rattle.std.specs.Prelude.{◌≡◌, ℕ, ◌-◌, ◌≤◌, Bool, List, Option, Some, None, is_some, Result, Ok, Err, refl}
use Rattle.std.proofs.Common.{ltb, eqb, ◌∙◌, arith, inl, inr}
use Rattle.std.proofs.lemmas.Bool.{cases_Bool}
use Rattle.base_types.specs.Reading.{Input, place, ◌>>=◌, bytes_at, compact_at, length_at, varint_at}
use Rattle.base_types.specs.Codec.{Reader, at, field, renamed}
use Rattle.base_types.specs.declared.cursor.ReadError.{ReadError}
use Rattle.base_types.specs.declared.cursor.ReadError.TheVariants as read
use Rattle.base_types.specs.declared.refused.CoinError.{CoinError}
use Rattle.base_types.specs.declared.refused.CoinError.TheVariants.{Short, HeightTooLarge, BadAmount, UncompressedKey, ScriptTooLong, SecondSpelling}
use Rattle.coin_codec.specs.ScriptForm.{kept_len, short_form}
use Rattle.coin_codec.specs.Reading.{varint_wrong, bytes_wrong, checked_varint_at, is_u32, is_amount_code, is_script_code, amount_at, kept_script_at, raw_script_at, script_at, coin_at}
use Rattle.snapshot_file.specs.Items.{Stop, as_stop, coin_stop, group_at, is_above, member_at}

abbrev pub Within : {E X : Type 0} → (E → ℕ) → ℕ → Result (X × Input) E → Type 0
Within offset end (Ok p) = p.1.end ≡ end
Within offset end (Err e) = offset e ≤ end

abbrev pub ReaderWithin : {E X : Type 0} → (E → ℕ) → Reader E X → Type 0
ReaderWithin offset read = (i : Input) → Within offset i.end (read i)

within_then : {E A B : Type 0} (offset : E → ℕ) (end : ℕ) (r : Result (A × Input) E) (f : A × Input → Result (B × Input) E) → Within offset end r → ((x : A) (j : Input) → j.end ≡ end → Within offset end (f (x, j))) → Within offset end (r >>= f)
within_then offset end (Ok p) f is next = next p.0 p.1 is
within_then offset end (Err d) f is next = is

field_within : {E X : Type 0} (offset : E → ℕ) (name : Input → ReadError → E) (read : List ℕ → Result (X × List ℕ) ReadError) → ((i : Input) (e : ReadError) → offset (name i e) ≤ i.end) → ReaderWithin offset (field name read)
field_within {E} {X} offset name read within i = go (read i.rest) where
  go : (r : Result (X × List ℕ) ReadError) → Within offset i.end (renamed {X = X × Input} (name i) (r >>= λ x. Ok (x.0, at i.end x.1)))
  go (Ok p) = refl
  go (Err e) = within i e

moved : {E X : Type 0} (offset : E → ℕ) (a b : ℕ) (r : Result (X × Input) E) → Within offset a r → a ≡ b → Within offset b r
moved offset a b (Ok p) is e = is ∙ e
moved offset a b (Err d) is e = omega arith

-- ---- coins

abbrev coin_offset : CoinError × ℕ → ℕ
coin_offset wrong = wrong.1

named_within : (error : CoinError) (i : Input) (e : ReadError) → coin_offset (varint_wrong error i e) ≤ i.end
named_within error i read.Short = omega arith
named_within error i read.LongSpelling = omega arith
named_within error i read.TooLarge = omega arith

tested_within : (error : CoinError) (passes : ℕ → Bool) → ReaderWithin coin_offset (checked_varint_at (varint_wrong error) passes)
unfolding checked_varint_at
tested_within error passes i = within_then coin_offset i.end (field (varint_wrong error) varint_at i) _ (field_within coin_offset (varint_wrong error) varint_at (named_within error) i) (λ n j is. elim (cases_Bool (passes n)) [
  | inl t ↦ rw t is
  | inr f ↦ rw f (omega arith)
])

amount_within : ReaderWithin coin_offset amount_at
unfolding amount_at
amount_within i = within_then coin_offset i.end (checked_varint_at (varint_wrong BadAmount) is_amount_code i) _ (tested_within BadAmount is_amount_code i) (λ n j is. is)

taken_within : (n : ℕ) → ReaderWithin coin_offset (field bytes_wrong (bytes_at n))
taken_within n = field_within coin_offset bytes_wrong (bytes_at n) (λ i e. omega arith)

kept_within : (mark : ℕ) → ReaderWithin coin_offset (kept_script_at mark)
unfolding kept_script_at
kept_within mark i = within_then coin_offset i.end (field bytes_wrong (bytes_at (kept_len mark)) i) _ (taken_within (kept_len mark) i) (λ kept j is. is)

raw_within : (began len end : ℕ) (i : Input) → began ≤ end → i.end ≡ end → Within coin_offset end (raw_script_at began len i)
unfolding raw_script_at
raw_within began len end i le is = within_then coin_offset end (field bytes_wrong (bytes_at len) i) _ (moved coin_offset i.end end _ (taken_within len i) is) (λ script j is. elim (cases_Bool (is_some (short_form script))) [
  | inl t ↦ rw t le
  | inr f ↦ rw f is
])

script_within : ReaderWithin coin_offset script_at
unfolding script_at
script_within i = within_then coin_offset i.end (checked_varint_at (varint_wrong ScriptTooLong) is_script_code i) _ (tested_within ScriptTooLong is_script_code i) (λ code j is. elim (cases_Bool (ltb code 4)) [
  | inl t ↦ rw t (moved coin_offset j.end i.end _ (kept_within code j) is)
  | inr f ↦ rw f (elim (cases_Bool (ltb code 6)) [
    | inl t ↦ rw t (omega arith)
    | inr f ↦ rw f (raw_within (place i) (code - 6) i.end j (omega arith) is)
  ])
])

coin_within : ReaderWithin coin_offset coin_at
unfolding coin_at
coin_within i = within_then coin_offset i.end (checked_varint_at (varint_wrong HeightTooLarge) is_u32 i) _ (tested_within HeightTooLarge is_u32 i) (λ code j is.
    within_then coin_offset i.end (amount_at j) _ (moved coin_offset j.end i.end _ (amount_within j) is) (λ value k is.
    within_then coin_offset i.end (script_at k) _ (moved coin_offset k.end i.end _ (script_within k) is) (λ script l is. is)))

-- ---- items

abbrev pub stop_offset : Stop → ℕ
stop_offset None = 0
stop_offset (Some wrong) = wrong.1

stop_within : (i : Input) (e : ReadError) → stop_offset (as_stop i e) ≤ i.end
stop_within i read.Short = omega arith
stop_within i read.LongSpelling = omega arith
stop_within i read.TooLarge = omega arith

coin_stop_within : (error : CoinError) (offset end : ℕ) → offset ≤ end → stop_offset (coin_stop (error, offset)) ≤ end
coin_stop_within Short offset end le = omega arith
coin_stop_within HeightTooLarge offset end le = le
coin_stop_within BadAmount offset end le = le
coin_stop_within UncompressedKey offset end le = le
coin_stop_within ScriptTooLong offset end le = le
coin_stop_within SecondSpelling offset end le = le

renamed_within : {X : Type 0} (end : ℕ) (r : Result (X × Input) (CoinError × ℕ)) → Within coin_offset end r → Within stop_offset end (renamed coin_stop r)
renamed_within end (Ok p) is = is
renamed_within end (Err d) is = coin_stop_within d.0 d.1 end is

pub group_within : (left : ℕ) → ReaderWithin stop_offset (group_at left)
unfolding group_at
group_within left i = within_then stop_offset i.end (field as_stop (bytes_at 32) i) _ (field_within stop_offset as_stop (bytes_at 32) stop_within i) (λ txid j is.
    within_then stop_offset i.end (field as_stop compact_at j) _ (moved stop_offset j.end i.end _ (field_within stop_offset as_stop compact_at stop_within j) is) (λ count k end. elim (cases_Bool (eqb count 0)) [
      | inl t ↦ rw t (omega arith)
      | inr f ↦ rw f (elim (cases_Bool (ltb left count)) [
        | inl t ↦ rw t (omega arith)
        | inr f ↦ rw f end
      ])
    ]))

pub member_within : (base : Option ℕ) → ReaderWithin stop_offset (member_at base)
unfolding member_at
member_within base i = within_then stop_offset i.end (field as_stop length_at i) _ (field_within stop_offset as_stop length_at stop_within i) (λ index j is.
    within_then stop_offset i.end (renamed coin_stop (coin_at j)) _ (moved stop_offset j.end i.end _ (renamed_within j.end (coin_at j) (coin_within j)) is) (λ coin k end. elim (cases_Bool (is_above base coin.height)) [
      | inl t ↦ rw t (omega arith)
      | inr f ↦ rw f end
    ]))
