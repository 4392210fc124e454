-- What is written reads back, and what is read has that text.
use Rattle.std.specs.Prelude.{◌≡◌, ℕ, ◌+◌, ◌*◌, ◌/◌, ◌-◌, ◌≤◌, Bool, true, All, IsTrue, List, [], ◌∷◌, ◌++◌, length, take, drop, Some, None, Ok, Err, Result, refl, nat_le}
use Rattle.std.proofs.Common.{ap, sym, ◌∙◌, cond, arith, append_assoc, length-append}
use Rattle.std.specs.List.{AllByRecursion}
use Rattle.std.specs.Option.{option_map}
use Rattle.std.specs.Result.{result_ok}
use Rattle.std.proofs.lemmas.Bool.Decides.{nat_tests}
use Rattle.std.proofs.lemmas.List.{append-nil, take_at, drop_at}
use Rattle.std.proofs.lemmas.List.Elements.{recursion_from_All}
use Rattle.std.proofs.lemmas.List.Concat.{flat_map-cons}
use Rattle.base_types.specs.Reading.{Input}
use Rattle.base_types.specs.Codec.{IsBytes, many_at, at}
use Rattle.base_types.proofs.Codecs.{IsBytes-drop, many_codec}
use Rattle.base_types.specs.declared.hash.Hash32.{Hash32}
use Rattle.block_codec.specs.declared.block.Header.{Header}
use Rattle.block_codec.specs.declared.block.Block.{Block}
use Rattle.block_codec.specs.Reading.{Wrong, header_at, block_of}
use Rattle.block_codec.specs.Text.{header_text, block_text, text_of}
use Rattle.block_codec.specs.Fitting.{HeaderFits}
use Rattle.block_codec.proofs.BlockLaws.{header_codec, length-header, whole_again, whole_takes}
use Rattle.block_codec.proofs.HasText.{text_from, text_is}
use Rattle.batch_log.specs.Records.{payload_in}
use Rattle.block_store.specs.Headers.{headers_text, headers_of, first_headers, is_headers_length}
use Rattle.block_store.specs.Bodies.{body_text, body_hash, body_of}

-- ---- headers

pub length-headers : (headers : List Header) → AllByRecursion (λ h. length (header_text h) ≡ 80) headers → length (headers_text headers) ≡ 80 * length headers
length-headers [] each = refl
length-headers (h ∷ headers) each =
    let one = each.0 in
    let others = length-headers headers each.1 in
    ap length (flat_map-cons header_text h headers) ∙ length-append (header_text h) (headers_text headers) ∙ (let n : length (header_text h) + length (headers_text headers) ≡ 80 * length (h ∷ headers) = omega arith in n)

-- 1 to 1,000 headers have a right length
pub right_length : (n : ℕ) → 1 ≤ n → n ≤ 1000 → IsTrue (is_headers_length (80 * n))
right_length n low high = grind (arith, nat_tests)

-- a right length is that of 1 to 1,000 headers
pub length_right : (n : ℕ) → IsTrue (is_headers_length n) → (n ≡ 80 * (n / 80)) × (1 ≤ n / 80) × (n / 80 ≤ 1000)
length_right n right = grind (arith, nat_tests)

each_long : (headers : List Header) → AllByRecursion HeaderFits headers → AllByRecursion (λ h. length (header_text h) ≡ 80) headers
each_long [] fits = tt
each_long (h ∷ headers) fits = (length-header h fits.0.prev fits.0.root, each_long headers fits.1)

-- headers that were written are read
pub headers_again : (headers : List Header) → 1 ≤ length headers → length headers ≤ 1000 → AllByRecursion HeaderFits headers → headers_of (headers_text headers) ≡ Some headers
headers_again headers low high fits =
    let text = headers_text headers in
    let long : length text ≡ 80 * length headers = length-headers headers (each_long headers fits) in
    let right : is_headers_length (length text) ≡ true = ap is_headers_length long ∙ right_length (length headers) low high in
    let count : length text / 80 ≡ length headers = omega arith in
    let whole : many_at header_at (length headers) (at (length text) text) ≡ Ok (headers, at (length text) []) =
    ap (λ (t : List ℕ). many_at header_at (length headers) (at (length text) t)) (sym (append-nil text))
    ∙ (many_codec header_codec (length headers)).again headers (length text) [] (record { len = refl; each = fits }) in
    ap (λ (b : Bool). cond b (first_headers (length text / 80) text) None) right
    ∙ ap (λ (n : ℕ). first_headers n text) count
    ∙ ap (λ (r : Result (List Header × Input) Wrong). option_map (λ (found : List Header × Input). found.0) (result_ok r)) whole

-- the same, where what each has is said by its place
pub headers_read_again : (headers : List Header) → 1 ≤ length headers → length headers ≤ 1000 → All HeaderFits headers → headers_of (headers_text headers) ≡ Some headers
headers_read_again headers low high all = headers_again headers low high (recursion_from_All HeaderFits headers all)

-- ---- bodies

-- the hash of a body that was written
pub hash_again : (hash : Hash32) (block : Block) → length hash.bytes ≡ 32 → body_hash (body_text hash block) ≡ Some hash
hash_again hash block long =
    let enough : nat_le 32 (length (body_text hash block)) ≡ true = grind (arith, nat_tests, length-append) in
    ap (λ (b : Bool). cond b (Some (record { bytes = take 32 (body_text hash block) })) None) enough
    ∙ ap (λ (bytes : List ℕ). Some (record { bytes = bytes })) (take_at hash.bytes (block_text block) 32 long)

-- a block that was written is read
pub body_again : (hash : Hash32) (block : Block) (text : List ℕ) → length hash.bytes ≡ 32 → text_of block ≡ Some text → body_of (body_text hash block) ≡ Some block
body_again hash block text long has =
    let p = text_from block text has in
    ap (λ (bytes : List ℕ). result_ok (block_of bytes)) (drop_at hash.bytes (block_text block) 32 long)
    ∙ ap (λ (r : Result Block Wrong). result_ok r) (whole_again block p.0)

ok_of : (r : Result Block Wrong) (block : Block) → result_ok r ≡ Some block → r ≡ Ok block
ok_of (Ok b) block e = cc
ok_of (Err w) block e = absurd cc

-- a block that is read has its text behind the hash
pub body_found : (payload : List ℕ) (block : Block) → IsBytes payload → body_of payload ≡ Some block → text_of block ≡ Some (drop 32 payload)
body_found payload block fits is =
    let p = whole_takes (drop 32 payload) block (IsBytes-drop 32 payload fits) (ok_of (block_of (drop 32 payload)) block is) in
    text_is block (drop 32 payload) p.0 p.1

-- ---- records

-- a payload with room before and behind it
abbrev framed : List ℕ → List ℕ → ℕ → List ℕ
framed front payload last = (front ++ payload) ++ last ∷ []

pub payload_framed : (front payload : List ℕ) (last : ℕ) → length front ≡ 4 → payload_in (framed front payload last) ≡ payload
payload_framed front payload last four =
    let long : length (framed front payload last) - 5 ≡ length payload = omega (arith, length-append (front ++ payload) (last ∷ []), length-append front payload) in
    ap (λ (n : ℕ). take n (drop 4 (framed front payload last))) long
    ∙ ap (λ (b : List ℕ). take (length payload) (drop 4 b)) (append_assoc front payload (last ∷ []))
    ∙ ap (take (length payload)) (drop_at front (payload ++ last ∷ []) 4 four)
    ∙ take_at payload (last ∷ []) (length payload) refl
