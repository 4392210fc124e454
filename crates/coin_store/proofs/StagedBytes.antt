-- Bytes of a row that are moved where they stand.
use Rattle.std.specs.Prelude.{⊤, ◌≡◌, true, false, ℕ, ◌+◌, ◌-◌, ◌/◌, ◌%◌, ◌^◌, ◌<◌, ◌≤◌, List, [], ◌∷◌, ◌++◌, length, take, drop, is_ok, if◌then◌else◌, Result, Ok, Err, OnOk, OnErr, refl}
use Rattle.std.proofs.Common.{ltb, sym, ap, ◌∙◌, arith, inl, inr}
use Rattle.std.proofs.lemmas.Bool.{cases_Bool, le-ltb, lt-ltb}
use Rattle.std.proofs.lemmas.List.{append-nil, length-append, length-take, length-drop, take_at, drop_at, take_all, drop_all, drop-drop, drop-take, drop-append-le}
use borrow.Rule.Slice.PartMut.{put_mid}
use Rattle.base_types.specs.Bytes.{compact, number_text, varint, marked}
use Rattle.base_types.specs.Obfuscation.{obfuscated}
use Rattle.base_types.proofs.Obfuscated.{length-obfuscated}
use Rattle.batch_log.specs.Records.{payload_in}
use Rattle.coin_codec.specs.KeyText.{key_text, KeyFits}
use Rattle.base_types.specs.declared.hash.OutPoint.{OutPoint}
use Rattle.coin_store.proofs.RowLaws.{length-varint}
use Rattle.coin_store.specs.Batches.{Row, value_text, head_text, row_text}

-- what holds where there is a value
pub ok_is : {E : Type 0} {T : Type 0} (result : Result T E) (v : T) (P : Type 0) → result ≡ Ok v → OnOk result P → P
ok_is (Ok w) v P e p = p
ok_is (Err d) v P e p = absurd cc

-- what holds however a call ended
pub in_any_case : {E T P : Type 0} (result : Result T E) → P → OnErr result P
in_any_case (Ok v) p = tt
in_any_case (Err d) p = p

-- a part between two others is written over
pub mid_written : (a k : ℕ) (front mid rest ys : List ℕ) → a ≡ length front → k ≡ length mid → put_mid a k (front ++ (mid ++ rest)) ys ≡ front ++ (ys ++ rest)
mid_written a k front mid rest ys begins long =
    let all = front ++ (mid ++ rest) in
    let behind : drop a all ≡ mid ++ rest = drop_at front (mid ++ rest) a (sym begins) in
    ap (λ (l : List ℕ). l ++ (ys ++ drop k (drop a all))) (take_at front (mid ++ rest) a (sym begins))
    ∙ ap (λ (l : List ℕ). front ++ (ys ++ drop k l)) behind
    ∙ ap (λ (l : List ℕ). front ++ (ys ++ l)) (drop_at mid rest k (sym long))

-- a coin is obfuscated, and then the length behind it is moved before it
pub row_closed : (start len k : ℕ) (mask bytes covering turned front value size : List ℕ) → k ≡ start + len - start → covering ≡ obfuscated mask 0 (take k (drop start bytes))
    → (n : ℕ) → (let now = put_mid start k bytes covering in (n ≡ length now - start) → turned ≡ drop len (take n (drop start now)) ++ take len (take n (drop start now))
    → bytes ≡ front ++ (value ++ size) → start ≡ length front → len ≡ length value → put_mid start n now turned ≡ front ++ (size ++ obfuscated mask 0 value))
row_closed start len k mask bytes covering turned front value size k_is cover n n_is turn is begins long =
    let hidden = obfuscated mask 0 value in
    let same : k ≡ length value = omega (arith, k_is, long) in
    let part : take k (drop start bytes) ≡ value =
    ap (λ (b : List ℕ). take k (drop start b)) is ∙ ap (take k) (drop_at front (value ++ size) start (sym begins)) ∙ take_at value size k (sym same) in
    let covering_is : covering ≡ hidden = cover ∙ ap (obfuscated mask 0) part in
    let size_of : length hidden ≡ length value = length-obfuscated mask 0 value in
    let now = put_mid start k bytes covering in
    let now_is : now ≡ front ++ (hidden ++ size) =
    ap (λ (b : List ℕ). put_mid start k b covering) is ∙ mid_written start k front value size covering begins same ∙ ap (λ (c : List ℕ). front ++ (c ++ size)) covering_is in
    let tail : drop start now ≡ hidden ++ size = ap (drop start) now_is ∙ drop_at front (hidden ++ size) start (sym begins) in
    let reach : n ≡ length (hidden ++ size) = omega (arith, n_is, begins, ap length now_is, length-append front (hidden ++ size)) in
    let whole : take n (drop start now) ≡ hidden ++ size = ap (take n) tail ∙ take_all n (hidden ++ size) (omega (arith, reach)) in
    let turned_is : turned ≡ size ++ hidden =
    turn ∙ ap (λ (b : List ℕ). drop len b ++ take len b) whole
    ∙ ap (λ (b : List ℕ). b ++ take len (hidden ++ size)) (drop_at hidden size len (omega (arith, long, size_of)))
    ∙ ap (λ (b : List ℕ). size ++ b) (take_at hidden size len (omega (arith, long, size_of))) in
    let ended : front ++ (hidden ++ size) ≡ front ++ ((hidden ++ size) ++ []) = ap (λ (b : List ℕ). front ++ b) (sym (append-nil (hidden ++ size))) in
    ap (λ (b : List ℕ). put_mid start n b turned) (now_is ∙ ended)
    ∙ mid_written start n front (hidden ++ size) [] turned begins reach
    ∙ ap (λ (b : List ℕ). front ++ b) (append-nil turned ∙ turned_is)

pub row_long : (mask : List ℕ) (row : Row) → length (row_text mask row) ≡ length (key_text row.key) + length (compact (length (value_text row.coin))) + length (value_text row.coin)
unfolding row_text head_text
row_long mask row =
    let value = value_text row.coin in
    omega (arith, length-append (key_text row.key ++ compact (length value)) (obfuscated mask 0 value), length-append (key_text row.key) (compact (length value)), length-obfuscated mask 0 value)

compact_some : (n : ℕ) → 0 < length (compact n)
unfolding compact
compact_some n = elim (cases_Bool (ltb n 253)) [
  | inl t ↦ rw t (omega arith)
  | inr f ↦ elim (cases_Bool (ltb n (2 ^ 16))) [
    | inl t ↦ rw (f, t) (omega arith)
    | inr g ↦ elim (cases_Bool (ltb n (2 ^ 32))) [
      | inl t ↦ rw (f, g, t) (omega arith)
      | inr h ↦ rw (f, g, h) (omega arith)
    ]
  ]
]

pub compact_3 : (n : ℕ) → 253 ≤ n → n < 2 ^ 16 → length (compact n) ≡ 3
unfolding compact number_text
compact_3 n low high =
    let above : ltb n 253 ≡ false = le-ltb n 253 low in
    let below : ltb n (2 ^ 16) ≡ true = lt-ltb n (2 ^ 16) high in
    rw (above, below) refl

pub compact_5 : (n : ℕ) → 2 ^ 16 ≤ n → n < 2 ^ 32 → length (compact n) ≡ 5
unfolding compact number_text
compact_5 n low high =
    let above : ltb n 253 ≡ false = le-ltb n 253 (omega (arith, low)) in
    let over : ltb n (2 ^ 16) ≡ false = le-ltb n (2 ^ 16) low in
    let below : ltb n (2 ^ 32) ≡ true = lt-ltb n (2 ^ 32) high in
    rw (above, over, below) refl

pub compact_9 : (n : ℕ) → 2 ^ 32 ≤ n → length (compact n) ≡ 9
unfolding compact number_text
compact_9 n low =
    let above : ltb n 253 ≡ false = le-ltb n 253 (omega (arith, low)) in
    let over : ltb n (2 ^ 16) ≡ false = le-ltb n (2 ^ 16) (omega (arith, low)) in
    let far : ltb n (2 ^ 32) ≡ false = le-ltb n (2 ^ 32) low in
    rw (above, over, far) refl

pub key_small : (key : OutPoint) → KeyFits key → length (key_text key) < 2 ^ 40
unfolding key_text
key_small key fits =
    let txid = fits.txid in
    let index = fits.index in
    omega (arith, txid, index, (length-varint key.index).1, length-append key.txid.bytes (varint key.index))

-- no row is shorter
pub row_least : (mask : List ℕ) (row : Row) → KeyFits row.key → 35 ≤ length (row_text mask row)
unfolding key_text varint
row_least mask row fits =
    let txid = fits.txid in
    omega (
      arith,
      row_long mask row,
      compact_some (length (value_text row.coin)),
      txid,
      length-append row.key.txid.bytes (varint row.key.index),
      length-append (marked row.key.index (row.key.index / 128)) ((row.key.index % 128) ∷ []),
    )

-- ---- a payload with room around it

-- it stands between the room for its length and the closing byte
pub framed_text : (begins : ℕ) (items text : List ℕ) → 4 ≤ begins → begins ≤ length items → drop begins items ≡ text → payload_in (drop (begins - 4) (items ++ 0 ∷ [])) ≡ text
framed_text begins items text room within there =
    let all = items ++ 0 ∷ [] in
    let frame = drop (begins - 4) all in
    let from : begins - 4 + 4 ≡ begins = omega (arith, room) in
    let rest : drop 4 frame ≡ drop begins items ++ 0 ∷ [] =
    drop-drop 4 (begins - 4) all ∙ ap (λ (n : ℕ). drop n all) from ∙ drop-append-le begins items (0 ∷ []) within in
    let size : length (drop begins items) ≡ length frame - 5 = omega (arith, room, within, length-drop (begins - 4) all, length-append items (0 ∷ []), length-drop begins items) in
    ap (take (length frame - 5)) rest ∙ take_at (drop begins items) (0 ∷ []) (length frame - 5) size ∙ there

-- the end of the bytes is written over
pub end_written : (a k n : ℕ) (items shown frame : List ℕ) → shown ≡ items → n ≡ length items → a ≤ length items → k ≡ length shown - a → length frame ≡ k
    → take n (put_mid a k shown frame ++ drop (length (put_mid a k shown frame)) items) ≡ take a items ++ frame
end_written a k n items shown frame is size within rest same =
    let long = ap length is in
    let now : put_mid a k shown frame ≡ take a items ++ frame =
    ap (λ (l : List ℕ). take a shown ++ (frame ++ l)) (drop_all k (drop a shown) (omega (arith, rest, length-drop a shown)))
    ∙ ap (λ (l : List ℕ). take a shown ++ l) (append-nil frame)
    ∙ ap (λ (l : List ℕ). take a l ++ frame) is in
    let whole : length (put_mid a k shown frame) ≡ n =
    omega (arith, ap length now, length-append (take a items) frame, length-take a items, within, rest, same, size, long) in
    take_at (put_mid a k shown frame) (drop (length (put_mid a k shown frame)) items) n whole ∙ now

-- without the closing byte the rows are those of the payload
pub unframed_rows : (front frame text rows : List ℕ) → length front + 4 + length text ≡ 69 → 5 ≤ length frame → payload_in frame ≡ text ++ rows
    → drop 69 (take (length (front ++ frame) - 1) (front ++ frame)) ≡ rows
unframed_rows front frame text rows begins long is =
    let all = front ++ frame in
    let start = length front + 4 in
    let n : length all - 1 ≡ start + (length frame - 5) = omega (arith, long, length-append front frame) in
    let behind : drop start all ≡ drop 4 frame = sym (drop-drop 4 (length front) all) ∙ ap (drop 4) (drop_at front frame (length front) refl) in
    ap (λ (m : ℕ). drop m (take (length all - 1) all)) (sym begins)
    ∙ ap (λ (m : ℕ). drop (start + length text) (take m all)) n
    ∙ sym (drop-drop (length text) start (take (start + (length frame - 5)) all))
    ∙ ap (drop (length text)) (drop-take start (length frame - 5) all ∙ ap (take (length frame - 5)) behind ∙ is)
    ∙ drop_at text rows (length text) refl

-- one more is listed where it was pushed
pub pushed : {A E : Type 0} (result : Result ⊤ E) (v : ⊤) (old new : List A) (x : A) → result ≡ Ok v → new ≡ (if is_ok result then old ++ x ∷ [] else old) → new ≡ old ++ x ∷ []
pushed (Ok w) v old new x e is = is
pushed (Err d) v old new x e is = absurd cc
