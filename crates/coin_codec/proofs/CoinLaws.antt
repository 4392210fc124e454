-- What is read of a coin is so spelled, and what is so spelled is read, whatever follows.
use Rattle.std.specs.Prelude.{◌≡◌, ℕ, zero, suc, ◌+◌, ◌-◌, ◌*◌, ◌/◌, ◌%◌, ◌^◌, ◌<◌, ◌≤◌, ◌==◌, Bool, true, false, List, [], ◌∷◌, ◌++◌, length, take, drop, Option, Some, None, is_some, Result, Ok, Err, refl}
use Rattle.std.proofs.Common.{cond, ltb, eqb, sym, ap, subst, ◌∙◌, append_assoc, arith, inl, inr}
use Rattle.std.proofs.lemmas.Bool.{cases_Bool, ltb-true, ltb-false, lt-ltb, le-ltb, leb-true, le-leb, eqb-true, eqb-false, eq-eqb, ne_eqb}
use Rattle.std.proofs.lemmas.List.{length-append, length-take, drop_at, take-append-drop}
use Rattle.base_types.specs.Bytes.{marked, varint}
use Rattle.base_types.specs.Reading.{Input, place, ◌>>=◌, bytes_at, varint_at}
use Rattle.base_types.specs.Codec.{IsBytes, at, renamed, field}
use Rattle.base_types.proofs.Codecs.{IsBytes-drop, Takes, IsCodec, field_codec, spelled, bind_ok, chosen, guard_ok, guard_else, ok_is}
use Rattle.base_types.proofs.Fields.{varint_field, bytes_field, varint_last}
use Rattle.base_types.specs.declared.cursor.ReadError.{ReadError}
use Rattle.base_types.specs.declared.cursor.ReadError.TheVariants as read
use Rattle.base_types.specs.declared.coin.Coin.{Coin}
use Rattle.base_types.specs.declared.refused.CoinError.TheVariants.{HeightTooLarge, BadAmount, ScriptTooLong, SecondSpelling}
use Rattle.coin_codec.specs.Amount.{amount_code, amount_of}
use Rattle.coin_codec.proofs.AmountLaws.{amount_of-code, code-amount_of, amount_code_le}
use Rattle.coin_codec.specs.ScriptForm.{script_of, kept_len, short_form, script_form, form_of}
use Rattle.coin_codec.proofs.ScriptLaws.{short_takes, short_again}
use Rattle.base_types.specs.Coins.{height_code}
use Rattle.base_types.specs.Parameters.{max_money, max_script_size}
use Rattle.base_types.specs.Coins.{CoinFits}
use Rattle.coin_codec.specs.CoinText.{coin_text}
use Rattle.coin_codec.specs.Reading.{TakesText, IsNumber, Wrong, varint_wrong, bytes_wrong, checked_varint_at, is_u32, is_amount_code, is_script_code, amount_at, kept_script_at, raw_script_at, script_at, coin_at}

-- ---- what was read

pub is_number : (bytes : List ℕ) → IsBytes bytes → IsNumber bytes
is_number bytes fits = spelled varint_field bytes fits

pub rest_fits : {X : Type 0} (text : X → List ℕ) (Fits : X → Type 0) (i : Input) (x : X) (j : Input) → IsBytes i.rest → TakesText text Fits i x j → IsBytes j.rest
rest_fits text Fits i x j fits t =
    let is : drop (length (text x)) i.rest ≡ j.rest = ap (λ (b : List ℕ). drop (length (text x)) b) t.parts ∙ drop_at (text x) j.rest (length (text x)) refl in
    subst IsBytes is (IsBytes-drop (length (text x)) i.rest fits)

pub takes_of : {X : Type 0} (text : X → List ℕ) (Fits : X → Type 0) (i : Input) (x : X) (j : Input) → IsBytes i.rest → TakesText text Fits i x j → Takes i.rest (text x) j.rest × Fits x
takes_of text Fits i x j fits t = (record { parts = t.parts; rest_fits = rest_fits text Fits i x j fits t }, t.fits)

-- what a field's reader gave
pub from_field : {E X : Type 0} (name : ReadError → E) (end : ℕ) (r : Result (X × List ℕ) ReadError) (x : X) (j : Input) → renamed {X = X × Input} name (r >>= λ y. Ok (y.0, at end y.1)) ≡ Ok (x, j) → r ≡ Ok (x, j.rest)
from_field {E} {X} name end (Ok y) x j e = ap (λ (p : X × Input). Ok (p.0, p.1.rest)) (ok_is {E = E} (y.0, at end y.1) (x, j) e)
from_field name end (Err d) x j e = absurd cc

pub bytes_taken : {E : Type 0} (name : Input → ReadError → E) (n : ℕ) (i : Input) (x : List ℕ) (j : Input) → field name (bytes_at n) i ≡ Ok (x, j) → TakesText (λ text. text) (λ text. length text ≡ n) i x j
bytes_taken name n i x j e =
    let f = from_field (name i) i.end (bytes_at n i.rest) x j e in
    let g = guard_ok (ltb (length i.rest) n) read.Short (take n i.rest, drop n i.rest) (x, j.rest) f in
    let long : n ≤ length i.rest = ltb-false _ _ g.0 in
    let len : length (take n i.rest) ≡ n = omega (arith, length-take n i.rest) in
    let both : (i.rest ≡ take n i.rest ++ drop n i.rest) × (length (take n i.rest) ≡ n) = (sym (take-append-drop n i.rest), len) in
    let found = subst (λ (p : List ℕ × List ℕ). (i.rest ≡ p.0 ++ p.1) × (length p.0 ≡ n)) g.1 both in
    record { parts = found.0; fits = found.1 }

-- ---- a VARINT that passes a test

module _ {E : Type 0} (name : Input → ReadError → E) (passes : ℕ → Bool) where
  abbrev pub Passes : ℕ → Type 0
  Passes n = (n < 2 ^ 64) × (passes n ≡ true)

  pub checked_taken : (i : Input) (x : ℕ) (j : Input) → IsNumber i.rest → checked_varint_at name passes i ≡ Ok (x, j) → TakesText varint Passes i x j
  unfolding checked_varint_at
  checked_taken i x j number e =
      let b = bind_ok (field name varint_at i) (λ n. cond (passes n.0) (Ok n) (Err (name i read.TooLarge))) (x, j) e in
      let g = guard_else (passes b.0.0) (name i read.TooLarge) b.0 (x, j) b.2 in
      let s = number.found b.0.0 b.0.1.rest (from_field (name i) i.end (varint_at i.rest) b.0.0 b.0.1 b.1) in
      let taken : TakesText varint Passes i b.0.0 b.0.1 = record { parts = s.0; fits = (s.1, g.0) } in
      subst (λ (y : ℕ × Input). TakesText varint Passes i y.0 y.1) g.1 taken

  checked_again : (x end : ℕ) (rest : List ℕ) → Passes x → checked_varint_at name passes (at end (varint x ++ rest)) ≡ Ok (x, at end rest)
  unfolding checked_varint_at
  checked_again x end rest fits = rw ((field_codec name _ _ _ varint_field).again x end rest fits.0, fits.1) refl

  pub checked_codec : IsCodec (checked_varint_at name passes) varint Passes
  checked_codec = record { takes = λ i x j fits e. takes_of varint Passes i x j fits (checked_taken i x j (is_number i.rest fits) e); again = checked_again }

bytes_codec : (n : ℕ) → IsCodec (field bytes_wrong (bytes_at n)) (λ text. text) (λ text. length text ≡ n)
bytes_codec n = field_codec bytes_wrong _ _ _ (bytes_field n)

-- ---- an amount

abbrev pub IsAmount : ℕ → Type 0
IsAmount value = value ≤ max_money

pub amount_taken : (i : Input) (x : ℕ) (j : Input) → IsNumber i.rest → amount_at i ≡ Ok (x, j) → TakesText (λ value. varint (amount_code value)) IsAmount i x j
unfolding amount_at
amount_taken i x j number e =
    let b = bind_ok (checked_varint_at (varint_wrong BadAmount) is_amount_code i) (λ code. Ok (amount_of code.0, code.1)) (x, j) e in
    let t = checked_taken (varint_wrong BadAmount) is_amount_code i b.0.0 b.0.1 number b.1 in
    let small : amount_of b.0.0 ≤ max_money = leb-true _ _ t.fits.1 in
    let parts : i.rest ≡ varint (amount_code (amount_of b.0.0)) ++ b.0.1.rest = t.parts ∙ ap (λ (c : ℕ). varint c ++ b.0.1.rest) (sym (code-amount_of b.0.0)) in
    let made : TakesText (λ value. varint (amount_code value)) IsAmount i (amount_of b.0.0) b.0.1 = record { parts = parts; fits = small } in
    subst (λ (y : ℕ × Input). TakesText (λ value. varint (amount_code value)) IsAmount i y.0 y.1) (ok_is {E = Wrong} (amount_of b.0.0, b.0.1) (x, j) b.2) made

amount_again : (x end : ℕ) (rest : List ℕ) → IsAmount x → amount_at (at end (varint (amount_code x) ++ rest)) ≡ Ok (x, at end rest)
unfolding amount_at
amount_again x end rest fits =
    let back = amount_of-code x in
    let passes : is_amount_code (amount_code x) ≡ true = rw back (le-leb _ _ fits) in
    let small : amount_code x < 2 ^ 64 = omega (arith, amount_code_le x) in
    let number = (checked_codec (varint_wrong BadAmount) is_amount_code).again (amount_code x) end rest (small, passes) in
    rw number (ap (λ (v : ℕ). Ok (v, at end rest)) back)

pub amount_codec : IsCodec amount_at (λ value. varint (amount_code value)) IsAmount
amount_codec = record { takes = λ i x j fits e. takes_of _ _ i x j fits (amount_taken i x j (is_number i.rest fits) e); again = amount_again }

-- ---- a script

small_varint : (n : ℕ) → n < 128 → varint n ≡ n ∷ []
unfolding marked
small_varint n lt = varint_last n 0 n (omega arith) lt

abbrev pub IsScript : List ℕ → Type 0
IsScript script = length script ≤ max_script_size

form_is : (script : List ℕ) (short : Option (ℕ × List ℕ)) → short_form script ≡ short → script_form script ≡ form_of short script
unfolding script_form
form_is script short e = ap (λ (s : Option (ℕ × List ℕ)). form_of s script) e

no_form : (short : Option (ℕ × List ℕ)) → is_some short ≡ false → short ≡ None
no_form (Some short) e = absurd cc
no_form None e = refl

kept_script : (mark : ℕ) (kept : List ℕ) → mark < 4 → length kept ≡ kept_len mark → IsScript (script_of mark kept)
kept_script zero kept lt len = omega (arith, length-append kept (0x88 ∷ 0xac ∷ []))
kept_script (suc zero) kept lt len = omega (arith, length-append kept (0x87 ∷ []))
kept_script (suc (suc zero)) kept lt len = omega (arith, length-append kept (0xac ∷ []))
kept_script (suc (suc (suc zero))) kept lt len = omega (arith, length-append kept (0xac ∷ []))
kept_script (suc (suc (suc (suc n)))) kept lt len = absurd (omega arith)

-- one text and then another
joined : (whole a behind b rest text : List ℕ) → whole ≡ a ++ behind → behind ≡ b ++ rest → text ≡ a ++ b → whole ≡ text ++ rest
joined whole a behind b rest text p q is = p ∙ ap (λ (t : List ℕ). a ++ t) q ∙ sym (append_assoc a b rest) ∙ ap (λ (t : List ℕ). t ++ rest) (sym is)

pub script_taken : (i : Input) (x : List ℕ) (j : Input) → IsNumber i.rest → script_at i ≡ Ok (x, j) → TakesText script_form IsScript i x j
unfolding script_at kept_script_at raw_script_at
script_taken i x j number e =
    let a = bind_ok (checked_varint_at (varint_wrong ScriptTooLong) is_script_code i) _ (x, j) e in
    let code = a.0.0 in
    let behind = a.0.1 in
    let t = checked_taken (varint_wrong ScriptTooLong) is_script_code i code behind number a.1 in
    elim (chosen (ltb code 4) _ _ _ a.2) [
      | inl (is, e) ↦
          let lt : code < 4 = ltb-true _ _ is in
          let b = bind_ok (field bytes_wrong (bytes_at (kept_len code)) behind) (λ kept. Ok (script_of code kept.0, kept.1)) (x, j) e in
          let kept = b.0.0 in
          let end = b.0.1 in
          let k = bytes_taken bytes_wrong (kept_len code) behind kept end b.1 in
          let form : script_form (script_of code kept) ≡ varint code ++ kept =
          form_is (script_of code kept) (Some (code, kept)) (short_again code kept lt k.fits) ∙ ap (λ (t : List ℕ). t ++ kept) (sym (small_varint code (omega arith))) in
          let parts : i.rest ≡ script_form (script_of code kept) ++ end.rest = joined i.rest (varint code) behind.rest kept end.rest (script_form (script_of code kept)) t.parts k.parts form in
          let made : TakesText script_form IsScript i (script_of code kept) end = record { parts = parts; fits = kept_script code kept lt k.fits } in
          subst (λ (y : List ℕ × Input). TakesText script_form IsScript i y.0 y.1) (ok_is {E = Wrong} (script_of code kept, end) (x, j) b.2) made
      | inr (is, e) ↦ elim (chosen (ltb code 6) _ _ _ e) [
        | inl (is, e) ↦ absurd cc
        | inr (above, e) ↦
            let ge : 6 ≤ code = ltb-false _ _ above in
            let le : code ≤ 10_006 = leb-true _ _ t.fits.1 in
            let b = bind_ok (field bytes_wrong (bytes_at (code - 6)) behind) (λ script. cond (is_some (short_form script.0)) (Err (SecondSpelling, place i)) (Ok script)) (x, j) e in
            let script = b.0.0 in
            let end = b.0.1 in
            let k = bytes_taken bytes_wrong (code - 6) behind script end b.1 in
            let g = guard_ok (is_some (short_form script)) (SecondSpelling, place i) (script, end) (x, j) b.2 in
            let len : length script + 6 ≡ code = omega (arith, k.fits) in
            let form : script_form script ≡ varint code ++ script = form_is script None (no_form (short_form script) g.0) ∙ ap (λ (c : ℕ). varint c ++ script) len in
            let parts : i.rest ≡ script_form script ++ end.rest = joined i.rest (varint code) behind.rest script end.rest (script_form script) t.parts k.parts form in
            let made : TakesText script_form IsScript i script end = record { parts = parts; fits = omega (arith, len) } in
            subst (λ (y : List ℕ × Input). TakesText script_form IsScript i y.0 y.1) g.1 made
      ]
    ]

script_again_of : (short : Option (ℕ × List ℕ)) (x : List ℕ) (end : ℕ) (rest : List ℕ) → IsScript x → short_form x ≡ short → script_at (at end (form_of short x ++ rest)) ≡ Ok (x, at end rest)
unfolding script_at kept_script_at raw_script_at
script_again_of (Some short) x end rest fits e =
    let code = short.0 in
    let kept = short.1 in
    let s = short_takes x code kept e in
    let regrouped : (code ∷ kept) ++ rest ≡ varint code ++ (kept ++ rest) = ap (λ (t : List ℕ). t ++ (kept ++ rest)) (sym (small_varint code (omega (arith, s.kind)))) in
    let passes : is_script_code code ≡ true = le-leb _ _ (omega (arith, s.kind)) in
    let t : ltb code 4 ≡ true = lt-ltb _ _ s.kind in
    let number = (checked_codec (varint_wrong ScriptTooLong) is_script_code).again code end (kept ++ rest) (omega (arith, s.kind), passes) in
    ap (λ (y : List ℕ). script_at (at end y)) regrouped ∙ rw (number, t, (bytes_codec (kept_len code)).again kept end rest s.len) (ap (λ (y : List ℕ). Ok (y, at end rest)) (sym s.is))
script_again_of None x end rest fits e =
    let code = length x + 6 in
    let regrouped : (varint code ++ x) ++ rest ≡ varint code ++ (x ++ rest) = append_assoc (varint code) x rest in
    let passes : is_script_code code ≡ true = le-leb _ _ (omega arith) in
    let a : ltb code 4 ≡ false = le-ltb _ _ (omega arith) in
    let b : ltb code 6 ≡ false = le-ltb _ _ (omega arith) in
    let len : code - 6 ≡ length x = omega arith in
    let number = (checked_codec (varint_wrong ScriptTooLong) is_script_code).again code end (x ++ rest) (omega arith, passes) in
    ap (λ (y : List ℕ). script_at (at end y)) regrouped ∙ rw (number, a, b, len, (bytes_codec (length x)).again x end rest refl, e) refl

script_again : (x : List ℕ) (end : ℕ) (rest : List ℕ) → IsScript x → script_at (at end (script_form x ++ rest)) ≡ Ok (x, at end rest)
script_again x end rest fits = ap (λ (t : List ℕ). script_at (at end (t ++ rest))) (form_is x (short_form x) refl) ∙ script_again_of (short_form x) x end rest fits refl

pub script_codec : IsCodec script_at script_form IsScript
script_codec = record { takes = λ i x j fits e. takes_of _ _ i x j fits (script_taken i x j (is_number i.rest fits) e); again = script_again }

-- ---- a coin

height_codec : IsCodec (checked_varint_at (varint_wrong HeightTooLarge) is_u32) varint (Passes (varint_wrong HeightTooLarge) is_u32)
height_codec = checked_codec (varint_wrong HeightTooLarge) is_u32

halves : (n : ℕ) → 2 * (n / 2) + cond (eqb (n % 2) 1) 1 0 ≡ n
halves n = elim (cases_Bool (eqb (n % 2) 1)) [
  | inl t ↦ rw t (omega (arith, eqb-true (n % 2) 1 t))
  | inr f ↦ rw f (omega (arith, eqb-false (n % 2) 1 f))
]

doubled : (h : ℕ) (b : Bool) → ((2 * h + cond b 1 0) / 2 ≡ h) × (eqb ((2 * h + cond b 1 0) % 2) 1 ≡ b) × (2 * h + cond b 1 0 ≤ 2 * h + 1)
doubled h true = (omega arith, eq-eqb _ _ (omega arith), omega arith)
doubled h false = (omega arith, ne_eqb _ _ (λ e. omega arith), omega arith)

-- from the three fields, wherever a VARINT stood
pub coin_taken : (i a b c : Input) (n value : ℕ) (script : List ℕ) → IsNumber i.rest → IsNumber a.rest → IsNumber b.rest
    → checked_varint_at (varint_wrong HeightTooLarge) is_u32 i ≡ Ok (n, a) → amount_at a ≡ Ok (value, b) → script_at b ≡ Ok (script, c)
    → TakesText coin_text CoinFits i (record { value = value; script = script; height = n / 2; coinbase = n % 2 == 1 }) c
unfolding coin_text
coin_taken i a b c n value script number_i number_a number_b first second third =
    let t = checked_taken (varint_wrong HeightTooLarge) is_u32 i n a number_i first in
    let v = amount_taken a value b number_a second in
    let s = script_taken b script c number_b third in
    let small : n < 2 ^ 32 = ltb-true _ _ t.fits.1 in
    let two = varint n ++ varint (amount_code value) in
    let ab : i.rest ≡ two ++ b.rest = joined i.rest (varint n) a.rest (varint (amount_code value)) b.rest two t.parts v.parts refl in
    let whole : varint (2 * (n / 2) + cond (eqb (n % 2) 1) 1 0) ++ varint (amount_code value) ++ script_form script ≡ two ++ script_form script =
    ap (λ (k : ℕ). varint k ++ varint (amount_code value) ++ script_form script) (halves n) in
    record {
      parts = joined i.rest two b.rest (script_form script) c.rest _ ab s.parts whole;
      fits = record { value = v.fits; script = s.fits; height = omega arith };
    }

coin_takes : (i : Input) (x : Coin) (j : Input) → IsBytes i.rest → coin_at i ≡ Ok (x, j) → Takes i.rest (coin_text x) j.rest × CoinFits x
unfolding coin_at
coin_takes i x j fits e =
    let a = bind_ok (checked_varint_at (varint_wrong HeightTooLarge) is_u32 i) _ (x, j) e in
    let i_number = is_number i.rest fits in
    let a_fits = rest_fits _ _ i a.0.0 a.0.1 fits (checked_taken (varint_wrong HeightTooLarge) is_u32 i a.0.0 a.0.1 i_number a.1) in
    let b = bind_ok (amount_at a.0.1) _ (x, j) a.2 in
    let a_number = is_number a.0.1.rest a_fits in
    let b_fits = rest_fits _ _ a.0.1 b.0.0 b.0.1 a_fits (amount_taken a.0.1 b.0.0 b.0.1 a_number b.1) in
    let c = bind_ok (script_at b.0.1) _ (x, j) b.2 in
    let b_number = is_number b.0.1.rest b_fits in
    let taken = coin_taken i a.0.1 b.0.1 c.0.1 a.0.0 b.0.0 c.0.0 i_number a_number b_number a.1 b.1 c.1 in
    let made : Coin × Input = (record { value = b.0.0; script = c.0.0; height = a.0.0 / 2; coinbase = a.0.0 % 2 == 1 }, c.0.1) in
    takes_of coin_text CoinFits i x j fits (subst (λ (y : Coin × Input). TakesText coin_text CoinFits i y.0 y.1) (ok_is {E = Wrong} made (x, j) c.2) taken)

coin_again : (x : Coin) (end : ℕ) (rest : List ℕ) → CoinFits x → coin_at (at end (coin_text x ++ rest)) ≡ Ok (x, at end rest)
unfolding coin_at coin_text
coin_again x end rest fits =
    let code = height_code x in
    let d = doubled x.height x.coinbase in
    let small : code < 2 ^ 32 = omega (arith, d.2, fits.height) in
    let regrouped : coin_text x ++ rest ≡ varint code ++ (varint (amount_code x.value) ++ (script_form x.script ++ rest)) =
    append_assoc (varint code ++ varint (amount_code x.value)) (script_form x.script) rest ∙ append_assoc (varint code) (varint (amount_code x.value)) (script_form x.script ++ rest) in
    ap (λ (y : List ℕ). coin_at (at end y)) regrouped ∙
    rw (
      height_codec.again code end (varint (amount_code x.value) ++ (script_form x.script ++ rest)) (omega arith, lt-ltb _ _ small),
      amount_codec.again x.value end (script_form x.script ++ rest) fits.value,
      script_codec.again x.script end rest fits.script,
      d.0,
      d.1,
    ) refl

pub coin_codec : IsCodec coin_at coin_text CoinFits
coin_codec = record { takes = coin_takes; again = coin_again }
