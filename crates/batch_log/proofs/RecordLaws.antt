-- What the bytes of a log stand for.
use Rattle.std.proofs.Common.{◌≡◌, ◌≢◌, ℕ, zero, suc, ◌+◌, ◌<◌, ◌≤◌, ◌^◌, List, [], ◌∷◌, ◌++◌, length, take, drop, refl, ◌∙◌, ap, cond, arith, append_assoc, length-append}
use Rattle.std.proofs.lemmas.List.{take_at, drop_at}
use Rattle.std.proofs.lemmas.Nat.{from_le_bytes-to_le_bytes_4}
use Rattle.std.proofs.lemmas.Bool.{ne_eqb}
use Rattle.std.proofs.lemmas.Bool.Decides.{nat_tests}
use Rattle.std.specs.Prelude.{Result, Ok, Err, nat_lt, nat_le, Bool, true, false}
use Rattle.batch_log.specs.Records.{body, records, AllFit, EndsClosed, log, payloads_from, onto, length_at}

lt_true : (a b : ℕ) → a < b → nat_lt a b ≡ true
lt_true a b h = grind (arith, nat_tests)

lt_false : (a b : ℕ) → b ≤ a → nat_lt a b ≡ false
lt_false a b h = grind (arith, nat_tests)

le_false : (a b : ℕ) → b < a → nat_le a b ≡ false
le_false a b h = grind (arith, nat_tests)

at_offset : (m n skip : ℕ) (bytes : List ℕ) → m ≡ n → payloads_from m skip bytes ≡ payloads_from n skip bytes
at_offset m n skip bytes e = ap (λ k. payloads_from k skip bytes) e

pub skipped : (offset n : ℕ) (bytes : List ℕ) → n ≤ length bytes → payloads_from offset n bytes ≡ payloads_from (offset + n) 0 (drop n bytes)
skipped offset zero bytes h = at_offset offset (offset + 0) 0 bytes (omega arith)
skipped offset (suc n) [] h = absurd (omega arith)
skipped offset (suc n) (b ∷ bytes) h = skipped (offset + 1) n bytes (omega arith) ∙ at_offset (offset + 1 + n) (offset + suc n) 0 (drop n bytes) (omega arith)

pub at_closed : (offset gate : ℕ) (rest : List ℕ) → gate ≢ 1 → payloads_from offset 0 (gate ∷ rest) ≡ Ok []
at_closed offset gate rest shut = ap (λ b. cond b (cond (nat_lt (4 + length_at rest) (length rest)) (onto (take (length_at rest) (drop 4 rest)) (payloads_from (offset + 1) (4 + length_at rest) rest)) (Err offset)) (Ok [])) (ne_eqb gate 1 shut)

pub at_open : (offset : ℕ) (rest : List ℕ) → 4 + length_at rest < length rest → payloads_from offset 0 (1 ∷ rest) ≡ onto (take (length_at rest) (drop 4 rest)) (payloads_from (offset + 5 + length_at rest) 0 (drop (4 + length_at rest) rest))
at_open offset rest fits =
    ap (λ b. cond b (onto (take (length_at rest) (drop 4 rest)) (payloads_from (offset + 1) (4 + length_at rest) rest)) (Err offset)) (lt_true (4 + length_at rest) (length rest) fits)
    ∙ ap (onto (take (length_at rest) (drop 4 rest))) (skipped (offset + 1) (4 + length_at rest) rest (omega arith) ∙ at_offset (offset + 1 + (4 + length_at rest)) (offset + 5 + length_at rest) 0 (drop (4 + length_at rest) rest) (omega arith))

pub at_damage : (offset : ℕ) (rest : List ℕ) → length rest ≤ 4 + length_at rest → payloads_from offset 0 (1 ∷ rest) ≡ Err offset
at_damage offset rest short =
    ap (λ b. cond b (onto (take (length_at rest) (drop 4 rest)) (payloads_from (offset + 1) (4 + length_at rest) rest)) (Err offset)) (lt_false (4 + length_at rest) (length rest) short)

pub onto_all : List (List ℕ) → Result (List (List ℕ)) ℕ → Result (List (List ℕ)) ℕ
onto_all [] r = r
onto_all (p ∷ ps) r = onto p (onto_all ps r)

onto_all_ok : (ps : List (List ℕ)) → onto_all ps (Ok []) ≡ Ok ps
unfolding onto_all
onto_all_ok [] = refl
onto_all_ok (p ∷ ps) = ap (onto p) (onto_all_ok ps)

onto_all_err : (ps : List (List ℕ)) (g : ℕ) → onto_all ps (Err g) ≡ Err g
unfolding onto_all
onto_all_err [] g = refl
onto_all_err (p ∷ ps) g = ap (onto p) (onto_all_err ps g)

one_record : (offset : ℕ) (p tail : List ℕ) → length p < 2 ^ 32 → 0 < length tail → payloads_from offset 0 ((1 ∷ body p) ++ tail) ≡ onto p (payloads_from (offset + (5 + length p)) 0 tail)
one_record offset p tail fits more =
    let rest = body p ++ tail in
    let n : length_at rest ≡ length p = from_le_bytes-to_le_bytes_4 (length p) fits in
    let long : length rest ≡ 4 + length p + length tail = omega (arith, length-append p tail) in
    let whole : take (length_at rest) (drop 4 rest) ≡ p = ap (λ k. take k (p ++ tail)) n ∙ take_at p tail (length p) refl in
    let after : drop (4 + length_at rest) rest ≡ tail = ap (λ k. drop (4 + k) rest) n ∙ drop_at (body p) tail (4 + length p) (omega arith) in
    at_open offset rest (omega arith)
    ∙ ap (λ (q : List ℕ). onto q (payloads_from (offset + 5 + length_at rest) 0 (drop (4 + length_at rest) rest))) whole
    ∙ ap (λ (q : List ℕ). onto p (payloads_from (offset + 5 + length_at rest) 0 q)) after
    ∙ ap (onto p) (at_offset (offset + 5 + length_at rest) (offset + (5 + length p)) 0 tail (omega arith))

pub all_records : (offset : ℕ) (ps : List (List ℕ)) (tail : List ℕ) → AllFit ps → 0 < length tail → payloads_from offset 0 (records ps ++ tail) ≡ onto_all ps (payloads_from (offset + length (records ps)) 0 tail)
unfolding onto_all
all_records offset [] tail fit more = at_offset offset (offset + 0) 0 tail (omega arith)
all_records offset (p ∷ ps) tail fit more =
    ap (payloads_from offset 0) (append_assoc (1 ∷ body p) (records ps) tail)
    ∙ one_record offset p (records ps ++ tail) fit.0 (omega (arith, length-append (records ps) tail))
    ∙ ap (onto p) (all_records (offset + (5 + length p)) ps tail fit.1 more
    ∙ ap (onto_all ps) (at_offset (offset + (5 + length p) + length (records ps)) (offset + length ((1 ∷ body p) ++ records ps)) 0 tail (omega (arith, length-append (1 ∷ body p) (records ps)))))

long_log : (bytes : List ℕ) → 1 < length bytes → log bytes ≡ payloads_from 0 0 bytes
long_log bytes h = ap (λ b. cond b (Ok []) (payloads_from 0 0 bytes)) (le_false (length bytes) 1 h)

same_arms : {A : Type 0} (b : Bool) (x y : A) → y ≡ x → cond b x y ≡ x
same_arms true x y e = refl
same_arms false x y e = e

-- bytes that end at a closed gate stand for these payloads
pub log_closed : (ps : List (List ℕ)) (bytes : List ℕ) → EndsClosed ps bytes → log bytes ≡ Ok ps
log_closed [] bytes e = same_arms (nat_le (length bytes) 1) (Ok []) (payloads_from 0 0 bytes) (ap (payloads_from 0 0) e.is ∙ at_closed 0 e.gate e.rest e.closed)
log_closed (p ∷ ps) bytes e =
    long_log bytes (omega (arith, ap length e.is, length-append ((1 ∷ body p) ++ records ps) (e.gate ∷ e.rest), length-append (1 ∷ body p) (records ps)))
    ∙ ap (payloads_from 0 0) e.is
    ∙ all_records 0 (p ∷ ps) (e.gate ∷ e.rest) e.fit (omega arith)
    ∙ ap (onto_all (p ∷ ps)) (at_closed (0 + length (records (p ∷ ps))) e.gate e.rest e.closed)
    ∙ onto_all_ok (p ∷ ps)

-- a gate that is open and has no whole record behind it is damaged
pub log_damaged : (ps : List (List ℕ)) (bytes rest : List ℕ) → AllFit ps → bytes ≡ records ps ++ 1 ∷ rest → 1 < length bytes → length rest ≤ 4 + length_at rest → log bytes ≡ Err (length (records ps))
log_damaged ps bytes rest fit is long short =
    long_log bytes long ∙ ap (payloads_from 0 0) is ∙ all_records 0 ps (1 ∷ rest) fit (omega arith)
    ∙ ap (onto_all ps) (at_damage (0 + length (records ps)) rest short) ∙ onto_all_err ps (0 + length (records ps)) ∙ ap Err (zero_more (length (records ps)))
  where
    zero_more : (n : ℕ) → 0 + n ≡ n
    zero_more n = omega arith
