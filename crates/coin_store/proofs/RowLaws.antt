-- What is read of a row is so spelled, and what is so spelled is read, whatever follows.
use Rattle.std.specs.Prelude.{◌≡◌, ℕ, zero, suc, ◌+◌, ◌/◌, ◌%◌, ◌^◌, ◌<◌, ◌≤◌, List, [], ◌∷◌, ◌++◌, length, take, get_or, bit_xor, Option, Some, None, Result, Ok, Err, refl}
use Rattle.std.specs.Result.{result_ok}
use Rattle.std.proofs.Common.{eqb, ltb, sym, ap, subst, ◌∙◌, append_assoc, arith, inl, inr}
use Rattle.std.proofs.lemmas.Bool.{cases_Bool, eqb-true}
use Rattle.std.proofs.lemmas.List.{length-append, take_at}
use Rattle.std.proofs.lemmas.Nat.{xor_of_8}
use Rattle.std.specs.Int.Bits.{xor_assoc, xor_self, xor_zero_r}
use Rattle.base_types.specs.Bytes.{compact, varint, marked}
use Rattle.base_types.specs.Codec.{IsBytes, at}
use Rattle.base_types.proofs.Codecs.{IsBytes-take}
use Rattle.base_types.proofs.Fields.{compact_field, bytes_field}
use Rattle.base_types.specs.Reading.{Input, bytes_at, compact_at}
use Rattle.base_types.specs.Coins.{height_code}
use Rattle.base_types.specs.declared.coin.Coin.{Coin}
use Rattle.base_types.specs.declared.hash.OutPoint.{OutPoint}
use Rattle.base_types.specs.Obfuscation.{obfuscated}
use Rattle.base_types.proofs.Obfuscated.{length-obfuscated}
use Rattle.coin_codec.specs.Amount.{amount_code}
use Rattle.coin_codec.proofs.AmountLaws.{amount_code_le}
use Rattle.coin_codec.proofs.CoinLaws.{coin_codec}
use Rattle.coin_codec.specs.CoinText.{coin_text}
use Rattle.base_types.specs.Coins.{CoinFits}
use Rattle.coin_codec.proofs.KeyLaws.{key_codec}
use Rattle.coin_codec.specs.KeyText.{key_text, KeyFits}
use Rattle.coin_codec.specs.Reading.{key_at, coin_at}
use Rattle.coin_codec.specs.ScriptForm.{script_form, form_of, short_form, kept_len}
use Rattle.coin_codec.proofs.ScriptLaws.{short_takes}
use Rattle.coin_store.specs.Batches.{Row, value_text, head_text, row_text, RowFits, ValueFits}
use Rattle.coin_store.specs.Reading.{◌>>=◌, Head, whole, value_of, head_of, row_of}

-- ---- steps

pub some_is : {A : Type 0} (x y : A) → Some x ≡ Some y → x ≡ y
some_is x y e = cc

-- the value of a step
pub bind_some : {A B : Type 0} (r : Option A) (f : A → Option B) (y : B) → (r >>= f) ≡ Some y → (x : A) × (r ≡ Some x) × (f x ≡ Some y)
bind_some (Some x) f y e = (x, refl, e)
bind_some None f y e = absurd cc

pub ok_of : {A E : Type 0} (r : Result A E) (x : A) → result_ok r ≡ Some x → r ≡ Ok x
ok_of (Ok x) y e = ap (λ z. Ok z) (some_is x y e)
ok_of (Err d) y e = absurd cc

-- ---- obfuscation

xor_twice : (a b : ℕ) → bit_xor (bit_xor a b) b ≡ a
xor_twice a b = xor_assoc a b b ∙ ap (λ (k : ℕ). bit_xor a k) (xor_self b) ∙ xor_zero_r a

-- obfuscated twice, the bytes are as before
pub obfuscated_twice : (place : ℕ) (mask bytes : List ℕ) → obfuscated mask place (obfuscated mask place bytes) ≡ bytes
obfuscated_twice place mask [] = refl
obfuscated_twice place mask (byte ∷ bytes) =
    ap (λ (b : ℕ). b ∷ obfuscated mask (suc place) (obfuscated mask (suc place) bytes)) (xor_twice byte (get_or mask (place % 8) 0))
    ∙ ap (λ (rest : List ℕ). byte ∷ rest) (obfuscated_twice (suc place) mask bytes)

pub obfuscated_bytes : (place : ℕ) (mask bytes : List ℕ) → IsBytes mask → IsBytes bytes → IsBytes (obfuscated mask place bytes)
obfuscated_bytes place mask [] m b i = b i
obfuscated_bytes place mask (byte ∷ bytes) m b zero = xor_of_8 byte (get_or mask (place % 8) 0) (b 0) (m (place % 8))
obfuscated_bytes place mask (byte ∷ bytes) m b (suc i) = obfuscated_bytes (suc place) mask bytes m (λ j. b (suc j)) i

-- ---- how long a coin is

length-marked : (most n : ℕ) → length (marked most n) ≤ most
unfolding marked
length-marked zero n = omega arith
length-marked (suc most) zero = omega arith
length-marked (suc most) (suc n) = omega (arith, length-marked most (n / 128), length-append (marked most (n / 128)) ((128 + n % 128) ∷ []))

pub length-varint : (n : ℕ) → (0 < length (varint n)) × (length (varint n) ≤ n + 1)
unfolding varint
length-varint n =
    let parts = length-append (marked n (n / 128)) ((n % 128) ∷ []) in
    let groups = length-marked n (n / 128) in
    (omega (arith, parts), omega (arith, parts, groups))

kept_small : (mark : ℕ) → kept_len mark ≤ 32
kept_small mark = elim (cases_Bool (ltb mark 2)) [
  | inl t ↦ rw t (omega arith)
  | inr f ↦ rw f (omega arith)
]

length-form_of : (short : Option (ℕ × List ℕ)) (script : List ℕ) → short_form script ≡ short → length script ≤ 10_000 → length (form_of short script) ≤ 30_000
length-form_of None script e fits = omega (arith, length-append (varint (length script + 6)) script, (length-varint (length script + 6)).1)
length-form_of (Some short) script e fits =
    let s = short_takes script short.0 short.1 e in
    omega (arith, s.len, kept_small short.0)

length-script_form : (script : List ℕ) → length script ≤ 10_000 → length (script_form script) ≤ 30_000
unfolding script_form
length-script_form script fits = length-form_of (short_form script) script refl fits

height_code_small : (coin : Coin) → CoinFits coin → height_code coin < 2 ^ 32
height_code_small coin fits = elim (cases_Bool coin.coinbase) [
  | inl t ↦ rw t (omega (arith, fits.height))
  | inr f ↦ rw f (omega (arith, fits.height))
]

pub length-coin_text : (coin : Coin) → CoinFits coin → (0 < length (coin_text coin)) × (length (coin_text coin) < 2 ^ 60)
unfolding coin_text
length-coin_text coin fits =
    let height = length-varint (height_code coin) in
    let value = length-varint (amount_code coin.value) in
    let script = length-script_form coin.script fits.script in
    let two = length-append (varint (height_code coin)) (varint (amount_code coin.value)) in
    let all = length-append (varint (height_code coin) ++ varint (amount_code coin.value)) (script_form coin.script) in
    let code = height_code_small coin fits in
    let amount = amount_code_le coin.value in
    let small = fits.value in
    (omega (arith, height.0, two, all), omega (arith, height.1, value.1, script, two, all, code, amount, small))

-- ---- the value of a row

append_none : (xs : List ℕ) → xs ++ [] ≡ xs
append_none [] = refl
append_none (x ∷ xs) = ap (λ (l : List ℕ). x ∷ l) (append_none xs)

no_members : (xs : List ℕ) → length xs ≡ 0 → xs ≡ []
no_members [] e = refl
no_members (x ∷ xs) e = absurd (omega arith)

pub value_some : (bytes : List ℕ) → 0 < length bytes → value_of bytes ≡ whole (result_ok (coin_at (at (length bytes) bytes)))
unfolding value_of
value_some [] some = absurd (omega arith)
value_some (byte ∷ bytes) some = refl

pub value_again : (coin : Option Coin) → ValueFits coin → value_of (value_text coin) ≡ Some coin
unfolding value_of value_text
value_again None fits = refl
value_again (Some coin) fits =
    let text = coin_text coin in
    let read : coin_at (at (length text) text) ≡ Ok (coin, at (length text) []) =
    ap (λ (t : List ℕ). coin_at (at (length text) t)) (sym (append_none text)) ∙ coin_codec.again coin (length text) [] fits in
    value_some text (length-coin_text coin fits).0 ∙ ap (λ r. whole (result_ok r)) read

abbrev nothing : {A : Type 0} → Option A
nothing = None

none_is : {A : Type 0} (x : A) → nothing {A = A} ≡ Some x → ⊥
none_is x e = cc

whole_some : (read : Option (Coin × Input)) (coin : Option Coin) → whole read ≡ Some coin → (c : Coin) × (j : Input) × (read ≡ Some (c, j)) × (j.rest ≡ []) × (coin ≡ Some c)
whole_some None coin e = absurd cc
whole_some (Some (c, j)) coin e = elim (cases_Bool (eqb (length j.rest) 0)) [
  | inl t ↦
      let is : Some c ≡ coin = some_is (Some c) coin (rw t at e) in
      (c, j, refl, no_members j.rest (eqb-true _ _ t), sym is)
  | inr f ↦ absurd (none_is coin (rw f at e))
]

pub value_takes : (bytes : List ℕ) (coin : Option Coin) → IsBytes bytes → value_of bytes ≡ Some coin → (bytes ≡ value_text coin) × ValueFits coin
unfolding value_of value_text
value_takes [] coin fits e = let is : None ≡ coin = some_is None coin e in subst (λ (c : Option Coin). ([] ≡ value_text c) × ValueFits c) is (refl, tt)
value_takes (byte ∷ bytes) coin fits e =
    let all = byte ∷ bytes in
    let f = whole_some (result_ok (coin_at (at (length all) all))) coin (sym (value_some all (omega arith)) ∙ e) in
    let t = coin_codec.takes (at (length all) all) f.0 f.1 fits (ok_of (coin_at (at (length all) all)) (f.0, f.1) f.2) in
    let is : all ≡ coin_text f.0 = t.0.parts ∙ ap (λ (r : List ℕ). coin_text f.0 ++ r) f.3 ∙ append_none (coin_text f.0) in
    subst (λ (c : Option Coin). (all ≡ value_text c) × ValueFits c) (sym f.4) (is, t.1)

taken_bytes : (bytes text rest : List ℕ) → bytes ≡ text ++ rest → IsBytes bytes → IsBytes text
taken_bytes bytes text rest parts fits = subst IsBytes (ap (take (length text)) parts ∙ take_at text rest (length text) refl) (IsBytes-take (length text) bytes fits)

-- ---- what stands before the value

pub record HeadTakes (bytes : List ℕ) (head : Head) : Type 0 where
  pub parts : bytes ≡ head_text head.key (length head.value) ++ (head.value ++ head.rest)
  pub key : KeyFits head.key
  pub value : IsBytes head.value
  pub rest : IsBytes head.rest

pub head_takes : (bytes : List ℕ) (head : Head) → IsBytes bytes → head_of bytes ≡ Some head → HeadTakes bytes head
unfolding head_of head_text
head_takes bytes head fits e =
    let a = bind_some (result_ok (key_at (at (length bytes) bytes))) _ head e in
    let key = key_codec.takes (at (length bytes) bytes) a.0.0 a.0.1 fits (ok_of _ a.0 a.1) in
    let b = bind_some (result_ok (compact_at a.0.1.rest)) _ head a.2 in
    let len = compact_field.takes a.0.1.rest b.0.0 b.0.1 key.0.rest_fits (ok_of _ b.0 b.1) in
    let c = bind_some (result_ok (bytes_at b.0.0 b.0.1)) _ head b.2 in
    let value = (bytes_field b.0.0).takes b.0.1 c.0.0 c.0.1 len.0.rest_fits (ok_of _ c.0 c.1) in
    let made : Head = record { key = a.0.0; value = c.0.0; rest = c.0.1 } in
    let is : bytes ≡ (key_text a.0.0 ++ compact (length c.0.0)) ++ (c.0.0 ++ c.0.1) =
    key.0.parts ∙ ap (λ (r : List ℕ). key_text a.0.0 ++ r) (len.0.parts ∙ ap (λ (r : List ℕ). compact b.0.0 ++ r) value.0.parts ∙ ap (λ (n : ℕ). compact n ++ (c.0.0 ++ c.0.1)) (sym value.1))
    ∙ sym (append_assoc (key_text a.0.0) (compact (length c.0.0)) (c.0.0 ++ c.0.1)) in
    let found : HeadTakes bytes made = record { parts = is; key = key.1; value = taken_bytes b.0.1 c.0.0 c.0.1 value.0.parts len.0.rest_fits; rest = value.0.rest_fits } in
    subst (HeadTakes bytes) (some_is made head c.2) found

pub head_again : (key : OutPoint) (value rest : List ℕ) → KeyFits key → length value < 2 ^ 64 → head_of (head_text key (length value) ++ (value ++ rest)) ≡ Some (record { key = key; value = value; rest = rest })
unfolding head_of head_text
head_again key value rest fits small =
    let n = length value in
    let behind = value ++ rest in
    let bytes = (key_text key ++ compact n) ++ behind in
    let read : key_at (at (length bytes) bytes) ≡ Ok (key, at (length bytes) (compact n ++ behind)) =
    ap (λ (b : List ℕ). key_at (at (length bytes) b)) (append_assoc (key_text key) (compact n) behind) ∙ key_codec.again key (length bytes) (compact n ++ behind) fits in
    rw (read, compact_field.again n behind small, (bytes_field n).again value rest refl) refl

-- ---- a row

pub row_takes : (mask bytes : List ℕ) (row : Row) (rest : List ℕ) → IsBytes mask → IsBytes bytes → row_of mask bytes ≡ Some (row, rest) → (bytes ≡ row_text mask row ++ rest) × RowFits row × IsBytes rest
unfolding row_of row_text
row_takes mask bytes row rest masked fits e =
    let a = bind_some (head_of bytes) _ (row, rest) e in
    let head = head_takes bytes a.0 fits a.1 in
    let b = bind_some (value_of (obfuscated mask 0 a.0.value)) _ (row, rest) a.2 in
    let value = value_takes (obfuscated mask 0 a.0.value) b.0 (obfuscated_bytes 0 mask a.0.value masked head.value) b.1 in
    let text : a.0.value ≡ obfuscated mask 0 (value_text b.0) = sym (obfuscated_twice 0 mask a.0.value) ∙ ap (obfuscated mask 0) value.0 in
    let size : length a.0.value ≡ length (value_text b.0) = sym (length-obfuscated mask 0 a.0.value) ∙ ap length value.0 in
    let made : Row × List ℕ = (record { key = a.0.key; coin = b.0 }, a.0.rest) in
    let is : bytes ≡ (head_text a.0.key (length (value_text b.0)) ++ obfuscated mask 0 (value_text b.0)) ++ a.0.rest =
    head.parts ∙ ap (λ (n : ℕ). head_text a.0.key n ++ (a.0.value ++ a.0.rest)) size ∙ ap (λ (v : List ℕ). head_text a.0.key (length (value_text b.0)) ++ (v ++ a.0.rest)) text
    ∙ sym (append_assoc (head_text a.0.key (length (value_text b.0))) (obfuscated mask 0 (value_text b.0)) a.0.rest) in
    let found : (bytes ≡ row_text mask made.0 ++ made.1) × RowFits made.0 × IsBytes made.1 = (is, record { key = head.key; value = value.1 }, head.rest) in
    subst (λ (y : Row × List ℕ). (bytes ≡ row_text mask y.0 ++ y.1) × RowFits y.0 × IsBytes y.1) (some_is made (row, rest) b.2) found

pub value_below : (coin : Option Coin) → ValueFits coin → length (value_text coin) < 2 ^ 60
unfolding value_text
value_below None fits = omega arith
value_below (Some coin) fits = (length-coin_text coin fits).1

pub value_small : (coin : Option Coin) → ValueFits coin → length (value_text coin) < 2 ^ 64
unfolding value_text
value_small None fits = omega arith
value_small (Some coin) fits = omega (arith, (length-coin_text coin fits).1)

pub row_again : (mask : List ℕ) (row : Row) (rest : List ℕ) → RowFits row → row_of mask (row_text mask row ++ rest) ≡ Some (row, rest)
unfolding row_of row_text
row_again mask row rest fits =
    let value = obfuscated mask 0 (value_text row.coin) in
    let size : length value ≡ length (value_text row.coin) = length-obfuscated mask 0 (value_text row.coin) in
    let head : head_of ((head_text row.key (length (value_text row.coin)) ++ value) ++ rest) ≡ Some (record { key = row.key; value = value; rest = rest }) =
    ap head_of (append_assoc (head_text row.key (length (value_text row.coin))) value rest)
    ∙ ap (λ (n : ℕ). head_of (head_text row.key n ++ (value ++ rest))) (sym size)
    ∙ head_again row.key value rest fits.key (omega (arith, size, value_small row.coin fits.value)) in
    rw (head, obfuscated_twice 0 mask (value_text row.coin), value_again row.coin fits.value) refl
