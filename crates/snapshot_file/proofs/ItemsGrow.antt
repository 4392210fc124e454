-- What was read of an item's bytes is read of more bytes, and so is its fault.
use Rattle.std.specs.Prelude.{ℕ, ◌-◌, Bool, List, [], ◌∷◌, Option, is_some, Result, Ok, Err, refl}
use Rattle.std.proofs.Common.{ltb, eqb, ap, inl, inr}
use Rattle.std.specs.Int.{w64}
use Rattle.std.proofs.lemmas.Bool.{cases_Bool}
use Rattle.base_types.specs.Reading.{Input, place, bytes_at, number_at, compact_at, length_at, varint_at}
use Rattle.base_types.specs.Codec.{at, field, renamed}
use Rattle.base_types.specs.declared.refused.CoinError.{CoinError}
use Rattle.base_types.specs.declared.refused.CoinError.TheVariants.{HeightTooLarge, BadAmount, UncompressedKey, ScriptTooLong}
use Rattle.coin_codec.specs.ScriptForm.{kept_len, short_form}
use Rattle.coin_codec.specs.Reading.{varint_wrong, bytes_wrong, checked_varint_at, is_u32, is_amount_code, is_script_code, amount_at, kept_script_at, raw_script_at, script_at, coin_at}
use Rattle.base_types.specs.Parameters.{message_start}
use Rattle.snapshot_file.specs.Text.{magic, version}
use Rattle.snapshot_file.specs.Items.{Wrong, Stop, as_stop, coin_stop, mark_at, head_at, group_at, is_above, member_at}
use Rattle.snapshot_file.proofs.Growing.{more, place-more, Grows, ReaderGrows, grows_then, varint_grows, bytes_grows, number_grows, compact_grows, length_grows, IsSteady, field_grows}

-- ---- coins

abbrev coin_stays : CoinError × ℕ → Bool
coin_stays wrong = is_some (coin_stop wrong)

named_steady : (error : CoinError) → IsSteady coin_stays (varint_wrong error)
named_steady error = record {
  short = λ i. refl;
  long = λ ys i t. ap (λ (p : ℕ). (error, p)) (place-more ys i);
  large = λ ys i t. ap (λ (p : ℕ). (error, p)) (place-more ys i);
}

too_few_steady : IsSteady coin_stays bytes_wrong
too_few_steady = record { short = λ i. refl; long = λ ys i t. absurd cc; large = λ ys i t. absurd cc }

tested_grows : (error : CoinError) (passes : ℕ → Bool) → ReaderGrows coin_stays (checked_varint_at (varint_wrong error) passes)
unfolding checked_varint_at
tested_grows error passes ys i = grows_then coin_stays ys (field (varint_wrong error) varint_at i) (field (varint_wrong error) varint_at (more ys i)) _ _
    (field_grows coin_stays (varint_wrong error) varint_at (named_steady error) varint_grows ys i)
    (λ n j. elim (cases_Bool (passes n)) [
      | inl t ↦ rw t refl
      | inr f ↦ rw f (λ t. ap (λ (p : ℕ). Err (error, p)) (place-more ys i))
    ])

amount_grows : ReaderGrows coin_stays amount_at
unfolding amount_at
amount_grows ys i = grows_then coin_stays ys (checked_varint_at (varint_wrong BadAmount) is_amount_code i) (checked_varint_at (varint_wrong BadAmount) is_amount_code (more ys i)) _ _ (tested_grows BadAmount is_amount_code ys i) (λ n j. refl)

taken_grows : (n : ℕ) → ReaderGrows coin_stays (field bytes_wrong (bytes_at n))
taken_grows n = field_grows coin_stays bytes_wrong (bytes_at n) too_few_steady (bytes_grows n)

kept_grows : (mark : ℕ) → ReaderGrows coin_stays (kept_script_at mark)
unfolding kept_script_at
kept_grows mark ys i = grows_then coin_stays ys (field bytes_wrong (bytes_at (kept_len mark)) i) (field bytes_wrong (bytes_at (kept_len mark)) (more ys i)) _ _ (taken_grows (kept_len mark) ys i) (λ kept j. refl)

raw_grows : (began len : ℕ) → ReaderGrows coin_stays (raw_script_at began len)
unfolding raw_script_at
raw_grows began len ys i = grows_then coin_stays ys (field bytes_wrong (bytes_at len) i) (field bytes_wrong (bytes_at len) (more ys i)) _ _ (taken_grows len ys i) (λ script j. elim (cases_Bool (is_some (short_form script))) [
  | inl t ↦ rw t (λ _. refl)
  | inr f ↦ rw f refl
])

script_grows : ReaderGrows coin_stays script_at
unfolding script_at
script_grows ys i = grows_then coin_stays ys (checked_varint_at (varint_wrong ScriptTooLong) is_script_code i) (checked_varint_at (varint_wrong ScriptTooLong) is_script_code (more ys i)) _ _ (tested_grows ScriptTooLong is_script_code ys i) (λ code j. elim (cases_Bool (ltb code 4)) [
  | inl t ↦ rw t (kept_grows code ys j)
  | inr f ↦ rw f (elim (cases_Bool (ltb code 6)) [
    | inl t ↦ rw t (λ _. ap (λ (p : ℕ). Err (UncompressedKey, p)) (place-more ys i))
    | inr f ↦ rw (f, place-more ys i) (raw_grows (place i) (code - 6) ys j)
  ])
])

pub coin_grows : ReaderGrows coin_stays coin_at
unfolding coin_at
coin_grows ys i = grows_then coin_stays ys (checked_varint_at (varint_wrong HeightTooLarge) is_u32 i) (checked_varint_at (varint_wrong HeightTooLarge) is_u32 (more ys i)) _ _ (tested_grows HeightTooLarge is_u32 ys i) (λ code j.
    grows_then coin_stays ys (amount_at j) (amount_at (more ys j)) _ _ (amount_grows ys j) (λ value k.
    grows_then coin_stays ys (script_at k) (script_at (more ys k)) _ _ (script_grows ys k) (λ script l. refl)))

-- ---- items

abbrev pub stays : Stop → Bool
stays stop = is_some stop

stop_steady : IsSteady stays as_stop
stop_steady = record {
  short = λ i. refl;
  long = λ ys i t. rw (place-more ys i) refl;
  large = λ ys i t. rw (place-more ys i) refl;
}

renamed_grows : {X : Type 0} (ys : List ℕ) (r s : Result (X × Input) (CoinError × ℕ)) → Grows coin_stays ys r s → Grows stays ys (renamed coin_stop r) (renamed coin_stop s)
renamed_grows ys (Ok p) s e = rw e refl
renamed_grows ys (Err d) s e = λ t. rw (e t) refl

mark_grows : (wrong : Wrong) (marks : List ℕ) → ReaderGrows stays (mark_at wrong marks)
unfolding mark_at
mark_grows wrong [] ys i = refl
mark_grows wrong (mark ∷ marks) ys i = go (mark_grows wrong marks) i.rest where
  go : ReaderGrows stays (mark_at wrong marks) → (rest : List ℕ) → Grows stays ys (mark_at wrong (mark ∷ marks) (at i.end rest)) (mark_at wrong (mark ∷ marks) (more ys (at i.end rest)))
  go others [] = λ t. absurd cc
  go others (byte ∷ rest) = elim (cases_Bool (eqb byte mark)) [
    | inl t ↦ rw t (others ys (at i.end rest))
    | inr f ↦ rw f (λ _. refl)
  ]

hash_grows : ReaderGrows stays (field as_stop (bytes_at 32))
hash_grows = field_grows stays as_stop (bytes_at 32) stop_steady (bytes_grows 32)

pub head_grows : ReaderGrows stays head_at
unfolding head_at
head_grows ys i = grows_then stays ys _ _ _ _ (mark_grows _ magic ys i) (λ _ a.
    grows_then stays ys _ _ _ _ (mark_grows _ version ys a) (λ _ b.
    grows_then stays ys _ _ _ _ (mark_grows _ message_start ys b) (λ _ c.
    grows_then stays ys _ _ _ _ (hash_grows ys c) (λ base d.
    grows_then stays ys (field as_stop (number_at w64) d) (field as_stop (number_at w64) (more ys d)) _ _ (field_grows stays as_stop (number_at w64) stop_steady (number_grows w64) ys d) (λ count e. refl)))))

pub group_grows : (left : ℕ) → ReaderGrows stays (group_at left)
unfolding group_at
group_grows left ys i = grows_then stays ys (field as_stop (bytes_at 32) i) (field as_stop (bytes_at 32) (more ys i)) _ _ (hash_grows ys i) (λ txid j.
    grows_then stays ys (field as_stop compact_at j) (field as_stop compact_at (more ys j)) _ _ (field_grows stays as_stop compact_at stop_steady compact_grows ys j) (λ count k. elim (cases_Bool (eqb count 0)) [
      | inl t ↦ rw (t, place-more ys j) (λ _. refl)
      | inr f ↦ rw f (elim (cases_Bool (ltb left count)) [
        | inl t ↦ rw (t, place-more ys j) (λ _. refl)
        | inr f ↦ rw f refl
      ])
    ]))

pub member_grows : (base : Option ℕ) → ReaderGrows stays (member_at base)
unfolding member_at
member_grows base ys i = grows_then stays ys (field as_stop length_at i) (field as_stop length_at (more ys i)) _ _ (field_grows stays as_stop length_at stop_steady length_grows ys i) (λ index j.
    grows_then stays ys (renamed coin_stop (coin_at j)) (renamed coin_stop (coin_at (more ys j))) _ _ (renamed_grows ys (coin_at j) (coin_at (more ys j)) (coin_grows ys j)) (λ coin k. elim (cases_Bool (is_above base coin.height)) [
      | inl t ↦ rw (t, place-more ys j) (λ _. refl)
      | inr f ↦ rw f refl
    ]))
