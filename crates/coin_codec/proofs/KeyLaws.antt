-- What is read of a key is so spelled, and what is so spelled is read, whatever follows.
use Rattle.std.specs.Prelude.{◌≡◌, ℕ, ◌^◌, ◌<◌, List, [], ◌∷◌, ◌++◌, length, Ok, refl}
use Rattle.std.proofs.Common.{eqb, sym, ap, subst, ◌∙◌, append_assoc, arith}
use Rattle.std.proofs.lemmas.Bool.{ltb-true, lt-ltb, eqb-true}
use Rattle.base_types.specs.Bytes.{varint}
use Rattle.base_types.specs.Reading.{Input, bytes_at}
use Rattle.base_types.specs.Codec.{IsBytes, at, field}
use Rattle.base_types.proofs.Codecs.{Takes, IsCodec, field_codec, bind_ok, guard_else, ok_is}
use Rattle.base_types.proofs.Fields.{bytes_field}
use Rattle.base_types.specs.declared.cursor.ReadError.{ReadError}
use Rattle.base_types.specs.declared.cursor.ReadError.TheVariants.{LongSpelling}
use Rattle.base_types.specs.declared.hash.OutPoint.{OutPoint}
use Rattle.coin_codec.specs.KeyText.{key_text, KeyFits}
use Rattle.coin_codec.specs.Reading.{same_error, is_u32, checked_varint_at, letter_at, key_at}
use Rattle.coin_codec.specs.Reading.{TakesText, IsNumber}
use Rattle.coin_codec.proofs.CoinLaws.{Passes, is_number, rest_fits, takes_of, bytes_taken, checked_taken, checked_codec}

letter_taken : (end : ℕ) (bytes : List ℕ) (x : ℕ) (j : Input) → letter_at (at end bytes) ≡ Ok (x, j) → TakesText (λ _. 0x43 ∷ []) (λ letter. letter ≡ 0x43) (at end bytes) x j
unfolding letter_at
letter_taken end [] x j e = absurd cc
letter_taken end (first ∷ bytes) x j e =
    let g = guard_else (eqb first 0x43) LongSpelling (first, at end bytes) (x, j) e in
    let letter : first ≡ 0x43 = eqb-true _ _ g.0 in
    let made : TakesText (λ _. 0x43 ∷ []) (λ letter. letter ≡ 0x43) (at end (first ∷ bytes)) first (at end bytes) = record { parts = ap (λ (n : ℕ). n ∷ bytes) letter; fits = letter } in
    subst (λ (y : ℕ × Input). TakesText (λ _. 0x43 ∷ []) (λ letter. letter ≡ 0x43) (at end (first ∷ bytes)) y.0 y.1) g.1 made

letter_again : (x end : ℕ) (rest : List ℕ) → x ≡ 0x43 → letter_at (at end ((0x43 ∷ []) ++ rest)) ≡ Ok (x, at end rest)
unfolding letter_at
letter_again x end rest is = ap (λ (n : ℕ). Ok (n, at end rest)) (sym is)

txid_codec : IsCodec (field same_error (bytes_at 32)) (λ text. text) (λ text. length text ≡ 32)
txid_codec = field_codec same_error _ _ _ (bytes_field 32)

index_codec : IsCodec (checked_varint_at same_error is_u32) varint (Passes same_error is_u32)
index_codec = checked_codec same_error is_u32

-- from the three fields, wherever the VARINT stood
pub key_taken : (i a b c : Input) (letter index : ℕ) (txid : List ℕ) → IsNumber b.rest → letter_at i ≡ Ok (letter, a) → field same_error (bytes_at 32) a ≡ Ok (txid, b) → checked_varint_at same_error is_u32 b ≡ Ok (index, c)
    → TakesText key_text KeyFits i (record { txid = record { bytes = txid }; index = index }) c
unfolding key_text
key_taken i a b c letter index txid number first second third =
    let l = letter_taken i.end i.rest letter a first in
    let t = bytes_taken same_error 32 a txid b second in
    let n = checked_taken same_error is_u32 b index c number third in
    record {
      parts = l.parts ∙ ap (λ (x : List ℕ). 0x43 ∷ x) (t.parts ∙ ap (λ (x : List ℕ). txid ++ x) n.parts ∙ sym (append_assoc txid (varint index) c.rest));
      fits = record { txid = t.fits; index = ltb-true _ _ n.fits.1 };
    }

key_takes : (i : Input) (x : OutPoint) (j : Input) → IsBytes i.rest → key_at i ≡ Ok (x, j) → Takes i.rest (key_text x) j.rest × KeyFits x
unfolding key_at
key_takes i x j fits e =
    let a = bind_ok (letter_at i) _ (x, j) e in
    let a_fits = rest_fits (λ _. 0x43 ∷ []) (λ letter. letter ≡ 0x43) i a.0.0 a.0.1 fits (letter_taken i.end i.rest a.0.0 a.0.1 a.1) in
    let b = bind_ok (field same_error (bytes_at 32) a.0.1) _ (x, j) a.2 in
    let b_fits = rest_fits _ _ a.0.1 b.0.0 b.0.1 a_fits (bytes_taken same_error 32 a.0.1 b.0.0 b.0.1 b.1) in
    let c = bind_ok (checked_varint_at same_error is_u32 b.0.1) _ (x, j) b.2 in
    let taken = key_taken i a.0.1 b.0.1 c.0.1 a.0.0 c.0.0 b.0.0 (is_number b.0.1.rest b_fits) a.1 b.1 c.1 in
    let made : OutPoint × Input = (record { txid = record { bytes = b.0.0 }; index = c.0.0 }, c.0.1) in
    takes_of key_text KeyFits i x j fits (subst (λ (y : OutPoint × Input). TakesText key_text KeyFits i y.0 y.1) (ok_is {E = ReadError} made (x, j) c.2) taken)

key_again : (x : OutPoint) (end : ℕ) (rest : List ℕ) → KeyFits x → key_at (at end (key_text x ++ rest)) ≡ Ok (x, at end rest)
unfolding key_at key_text
key_again x end rest fits =
    let regrouped : key_text x ++ rest ≡ (0x43 ∷ []) ++ (x.txid.bytes ++ (varint x.index ++ rest)) = ap (λ (t : List ℕ). 0x43 ∷ t) (append_assoc x.txid.bytes (varint x.index) rest) in
    let small : x.index < 2 ^ 32 = fits.index in
    ap (λ (y : List ℕ). key_at (at end y)) regrouped ∙
    rw (
      letter_again 0x43 end (x.txid.bytes ++ (varint x.index ++ rest)) refl,
      txid_codec.again x.txid.bytes end (varint x.index ++ rest) fits.txid,
      index_codec.again x.index end rest (omega arith, lt-ltb _ _ small),
    ) refl

pub key_codec : IsCodec key_at key_text KeyFits
key_codec = record { takes = key_takes; again = key_again }
