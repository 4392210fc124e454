-- What stands before a row's coin, from the steps of a cursor.
use Rattle.std.specs.Prelude.{◌≡◌, Bool, true, false, ℕ, ◌+◌, ◌-◌, ◌<◌, List, [], ◌∷◌, ◌++◌, length, take, drop, Option, Some, None, Result, Ok, Err, refl}
use Rattle.std.specs.Result.{result_ok}
use Rattle.std.proofs.Common.{eqb, sym, ap, subst, ◌∙◌, append_assoc, arith, inl, inr}
use Rattle.std.proofs.lemmas.Bool.{cases_Bool, ne_eqb, eq-eqb}
use Rattle.std.proofs.lemmas.List.{length-append, length-take, length-drop, take_at, drop_at}
use Rattle.base_types.specs.Codec.{IsBytes, at}
use Rattle.base_types.proofs.Codecs.{IsBytes-take, IsBytes-drop, ok_is}
use Rattle.base_types.proofs.Fields.{bytes_field, compact_field}
use Rattle.base_types.specs.Reading.{Input, ◌>>=◌, on_rest, place, bytes_at, compact_at}
use Rattle.base_types.specs.declared.coin.Coin.{Coin}
use Rattle.base_types.specs.declared.cursor.ReadError.{ReadError}
use Rattle.base_types.specs.declared.hash.OutPoint.{OutPoint}
use Rattle.base_types.specs.Obfuscation.{obfuscated}
use Rattle.base_types.proofs.Obfuscated.{length-obfuscated}
use Rattle.coin_codec.proofs.KeyLaws.{key_codec}
use Rattle.coin_codec.specs.Reading.{Wrong, is_whole, key_at, coin_at}
use Rattle.coin_store.specs.declared.row.RowHead.{RowHead}
use Rattle.coin_store.specs.Batches.{head_text}
use Rattle.coin_store.specs.Reading.{Head, whole, value_of, head_of, row_of}
use Rattle.coin_store.proofs.RowLaws.{head_takes, value_some, value_takes, row_takes, obfuscated_bytes}
use Rattle.coin_store.specs.Rows.{HeadStands, IsRow, IsChecked}

pub rest_ok : {X : Type 0} (read : Result (X × List ℕ) ReadError) (end : ℕ) (x : X) (j : Input)
    → (let go : X × List ℕ → Result (X × Input) ReadError = λ y. Ok (y.0, at end y.1) in read >>= go) ≡ Ok (x, j) → (read ≡ Ok (x, j.rest)) × (j.end ≡ end)
rest_ok {X} (Ok y) end x j e =
    let p = ok_is {E = ReadError} (y.0, at end y.1) (x, j) e in
    (ap (λ (z : X × Input). Ok (z.0, z.1.rest)) p, ap (λ (z : X × Input). z.1.end) (sym p))
rest_ok (Err d) end x j e = absurd cc

pub rest_err : {X : Type 0} (read : Result (X × List ℕ) ReadError) (end : ℕ) (d : ReadError)
    → (let go : X × List ℕ → Result (X × Input) ReadError = λ y. Ok (y.0, at end y.1) in read >>= go) ≡ Err d → read ≡ Err d
rest_err (Ok y) end d e = absurd cc
rest_err (Err f) end d e = cc

module _ (bytes : List ℕ) (c0 : Input) (start : c0 ≡ at (length bytes) bytes) where
  pub no_key : (d : ReadError) → key_at c0 ≡ Err d → head_of bytes ≡ None
  unfolding head_of
  no_key d e =
      let read : key_at (at (length bytes) bytes) ≡ Err d = ap key_at (sym start) ∙ e in
      rw read refl

  pub no_length : (key : OutPoint) (c1 : Input) (d : ReadError) → key_at c0 ≡ Ok (key, c1) → on_rest compact_at c1 ≡ Err d → head_of bytes ≡ None
  unfolding head_of
  no_length key c1 d first e =
      let read : key_at (at (length bytes) bytes) ≡ Ok (key, c1) = ap key_at (sym start) ∙ first in
      rw (read, rest_err (compact_at c1.rest) c1.end d e) refl

  pub no_value : (key : OutPoint) (c1 c2 : Input) (n : ℕ) (d : ReadError) → key_at c0 ≡ Ok (key, c1) → on_rest compact_at c1 ≡ Ok (n, c2) → on_rest (bytes_at n) c2 ≡ Err d → head_of bytes ≡ None
  unfolding head_of
  no_value key c1 c2 n d first second e =
      let read : key_at (at (length bytes) bytes) ≡ Ok (key, c1) = ap key_at (sym start) ∙ first in
      rw (read, (rest_ok (compact_at c1.rest) c1.end n c2 second).0, rest_err (bytes_at n c2.rest) c2.end d e) refl

  read_whole : (key : OutPoint) (c1 c2 c3 : Input) (n : ℕ) (value : List ℕ) → key_at c0 ≡ Ok (key, c1) → on_rest compact_at c1 ≡ Ok (n, c2) → on_rest (bytes_at n) c2 ≡ Ok (value, c3)
      → head_of bytes ≡ Some (record { key = key; value = value; rest = c3.rest })
  unfolding head_of
  read_whole key c1 c2 c3 n value first second third =
      let read : key_at (at (length bytes) bytes) ≡ Ok (key, c1) = ap key_at (sym start) ∙ first in
      rw (read, (rest_ok (compact_at c1.rest) c1.end n c2 second).0, (rest_ok (bytes_at n c2.rest) c2.end value c3 third).0) refl

  pub stands : IsBytes bytes → (key : OutPoint) (c1 c2 c3 : Input) (n : ℕ) (value : List ℕ) → key_at c0 ≡ Ok (key, c1) → c1.end ≡ c0.end → on_rest compact_at c1 ≡ Ok (n, c2) → on_rest (bytes_at n) c2 ≡ Ok (value, c3)
      → (from : ℕ) → from ≡ place c2 → (head : RowHead) → head ≡ record { key = key; from = from; len = length value } → HeadStands bytes head
  stands fits key c1 c2 c3 n value first end second third from is head head_is =
      let h : Head = record { key = key; value = value; rest = c3.rest } in
      let read = read_whole key c1 c2 c3 n value first second third in
      let t = head_takes bytes h fits read in
      let fits1 = (key_codec.takes (at (length bytes) bytes) key c1 fits (ap key_at (sym start) ∙ first)).0.rest_fits in
      let fits2 = (compact_field.takes c1.rest n c2.rest fits1 (rest_ok (compact_at c1.rest) c1.end n c2 second).0).0.rest_fits in
      let parts2 = ((bytes_field n).takes c2.rest value c3.rest fits2 (rest_ok (bytes_at n c2.rest) c2.end value c3 third).0).0.parts in
      let text = head_text key (length value) in
      let end0 : c0.end ≡ length bytes = ap (λ (i : Input). i.end) start in
      let end2 = (rest_ok (compact_at c1.rest) c1.end n c2 second).1 in
      let long : length bytes ≡ length text + length (value ++ c3.rest) = ap length t.parts ∙ length-append text (value ++ c3.rest) in
      let begins : from ≡ length text = omega (arith, is, end, end0, end2, long, ap length parts2) in
      let behind : drop from bytes ≡ value ++ c3.rest = ap (λ (k : ℕ). drop k bytes) begins ∙ ap (λ (b : List ℕ). drop (length text) b) t.parts ∙ drop_at text (value ++ c3.rest) (length text) refl in
      let the_value : take (length value) (drop from bytes) ≡ value = ap (λ (b : List ℕ). take (length value) b) behind ∙ take_at value c3.rest (length value) refl in
      let ends : from + length value ≡ length (text ++ value) = omega (arith, begins, length-append text value) in
      let the_rest : drop (from + length value) bytes ≡ c3.rest =
      ap (λ (k : ℕ). drop k bytes) ends ∙ ap (λ (b : List ℕ). drop (length (text ++ value)) b) (t.parts ∙ sym (append_assoc text value c3.rest)) ∙ drop_at (text ++ value) c3.rest (length (text ++ value)) refl in
      let made : RowHead = record { key = key; from = from; len = length value } in
      let found : HeadStands bytes made = record {
        is = read ∙ ap (λ (v : List ℕ). Some (record { key = key; value = v; rest = c3.rest })) (sym the_value)
            ∙ ap (λ (r : List ℕ). Some (record { key = key; value = take (length value) (drop from bytes); rest = r })) (sym the_rest);
        within = omega (arith, begins, long, length-append value c3.rest);
        from = begins;
        key = t.key;
        fits = fits;
      } in
      subst (HeadStands bytes) (sym head_is) found

-- ---- the coin of a row

pub value_whole : (bytes : List ℕ) (c0 : Input) → c0 ≡ at (length bytes) bytes → 0 < length bytes → value_of bytes ≡ whole (result_ok (coin_at c0))
unfolding value_of
value_whole [] c0 start some = absurd (omega arith)
value_whole (byte ∷ bytes) c0 start some = ap (λ (i : Input). whole (result_ok (coin_at i))) (sym start)

pub no_coin : (bytes : List ℕ) → length bytes ≡ 0 → value_of bytes ≡ Some None
unfolding value_of
no_coin [] none = refl
no_coin (byte ∷ bytes) none = absurd (omega arith)

pub the_coin : (read : Result (Coin × Input) Wrong) (coin : Coin) (j : Input) → read ≡ Ok (coin, j) → length j.rest ≡ 0 → whole (result_ok read) ≡ Some (Some coin)
the_coin read coin j e none = rw (e, eq-eqb (length j.rest) 0 none) refl

pub more_behind : (read : Result (Coin × Input) Wrong) (coin : Coin) (j : Input) → read ≡ Ok (coin, j) → (length j.rest ≡ 0 → ⊥) → whole (result_ok read) ≡ None
more_behind read coin j e some = rw (e, ne_eqb (length j.rest) 0 some) refl

pub no_such_coin : (read : Result (Coin × Input) Wrong) (wrong : Wrong) → read ≡ Err wrong → whole (result_ok read) ≡ None
no_such_coin read wrong e = rw e refl

-- ---- a row

pub row_headless : (mask bytes : List ℕ) → head_of bytes ≡ None → row_of mask bytes ≡ None
unfolding row_of
row_headless mask bytes e = rw e refl

pub row_broken : (mask bytes : List ℕ) (head : RowHead) → HeadStands bytes head → value_of (obfuscated mask 0 (take head.len (drop head.from bytes))) ≡ None → row_of mask bytes ≡ None
unfolding row_of
row_broken mask bytes head h e = rw (h.is, e) refl

pub row_read : (mask bytes : List ℕ) (head : RowHead) → IsBytes mask → HeadStands bytes head → (coin : Option Coin) → value_of (obfuscated mask 0 (take head.len (drop head.from bytes))) ≡ Some coin → IsRow mask bytes head
unfolding row_of
row_read mask bytes head masked h coin e =
    let value = take head.len (drop head.from bytes) in
    let text = value_takes (obfuscated mask 0 value) coin (obfuscated_bytes 0 mask value masked (IsBytes-take head.len (drop head.from bytes) (IsBytes-drop head.from bytes h.fits))) e in
    let within = h.within in
    let size : length value ≡ head.len = omega (arith, length-take head.len (drop head.from bytes), length-drop head.from bytes) in
    let is : row_of mask bytes ≡ Some (record { key = head.key; coin = coin }, drop (head.from + head.len) bytes) = rw (h.is, e) refl in
    let t = row_takes mask bytes (record { key = head.key; coin = coin }) (drop (head.from + head.len) bytes) masked h.fits is in
    record {
      coin = coin;
      is = is;
      parts = t.0;
      fits = t.1;
      len = sym size ∙ sym (length-obfuscated mask 0 value) ∙ ap length text.0;
      from = h.from;
      within = h.within;
    }

pub obfuscated_part : (mask bytes now : List ℕ) (from len : ℕ) → now ≡ obfuscated mask 0 (take (from + len - from) (drop from bytes)) → now ≡ obfuscated mask 0 (take len (drop from bytes))
obfuscated_part mask bytes now from len e = e ∙ ap (λ (k : ℕ). obfuscated mask 0 (take k (drop from bytes))) (omega arith)

pub row_unread : (mask bytes now : List ℕ) (head : RowHead) → HeadStands bytes head → now ≡ obfuscated mask 0 (take head.len (drop head.from bytes)) → value_of now ≡ None → row_of mask bytes ≡ None
row_unread mask bytes now head h is none = row_broken mask bytes head h (ap value_of (sym is) ∙ none)

-- ---- whether bytes are a value

checked_read : {E : Type 0} (bytes : List ℕ) (read : Result (Coin × Input) E) (b : Bool) → value_of bytes ≡ whole (result_ok read) → b ≡ is_whole read → IsChecked bytes b
checked_read bytes (Err e) b value is = subst (IsChecked bytes) (sym is) value
checked_read bytes (Ok (coin, rest)) b value is = elim (cases_Bool (eqb (length rest.rest) 0)) [
  | inl t ↦
      let yes : b ≡ true = is ∙ t in
      let found : IsChecked bytes true = (Some coin, value ∙ rw t refl) in
      subst (IsChecked bytes) (sym yes) found
  | inr f ↦
      let no : b ≡ false = is ∙ f in
      let none : IsChecked bytes false = value ∙ rw f refl in
      subst (IsChecked bytes) (sym no) none
]

pub checked : (bytes : List ℕ) (b : Bool) → (0 < length bytes) → b ≡ is_whole (coin_at (at (length bytes) bytes)) → IsChecked bytes b
checked bytes b some is = checked_read bytes (coin_at (at (length bytes) bytes)) b (value_some bytes some) is

pub checked_empty : (bytes : List ℕ) → length bytes ≡ 0 → IsChecked bytes true
checked_empty bytes none = (None, no_coin bytes none)
