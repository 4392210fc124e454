-- A coin of a group has at least four bytes.
use Rattle.std.specs.Prelude.{◌≡◌, ℕ, ◌+◌, ◌<◌, ◌≤◌, ◌^◌, Bool, true, false, List, [], ◌∷◌, ◌++◌, length, drop, nat_lt, Option, Some, None, Ok}
use Rattle.std.proofs.Common.{arith, cond}
use Rattle.std.specs.Int.{w16, w32, w64}
use Rattle.std.proofs.lemmas.List.{length-append, length-drop}
use Rattle.base_types.specs.Bytes.{compact, varint, number_text}
use Rattle.base_types.specs.Coins.{height_code}
use Rattle.base_types.specs.Codec.{IsBytes, at}
use Rattle.base_types.specs.declared.coin.Coin.{Coin}
use Rattle.coin_codec.specs.Amount.{amount_code}
use Rattle.coin_codec.specs.CoinText.{coin_text}
use Rattle.coin_codec.specs.ScriptForm.{short_form, form_of, script_form}
use Rattle.snapshot_file.specs.Text.{member_text}
use Rattle.snapshot_file.specs.Items.{from_first, member_at}
use Rattle.snapshot_file.proofs.ItemLaws.{front, member_codec}

either_some : (b : Bool) (xs ys : List ℕ) → 0 < length xs → 0 < length ys → 0 < length (cond b xs ys)
either_some true xs ys p q = p
either_some false xs ys p q = q

begun_some : (x : ℕ) (xs : List ℕ) → 0 < length (x ∷ xs)
begun_some x xs = omega arith

compact_some : (n : ℕ) → 0 < length (compact n)
unfolding compact
compact_some n =
    either_some (nat_lt n 253) _ _ (begun_some n []) (
    either_some (nat_lt n (2 ^ 16)) _ _ (begun_some 253 (number_text w16 n)) (
    either_some (nat_lt n (2 ^ 32)) _ _ (begun_some 254 (number_text w32 n)) (begun_some 255 (number_text w64 n))
    )
    )

ended_some : (xs : List ℕ) (x : ℕ) → 0 < length (xs ++ x ∷ [])
ended_some xs x = omega (arith, length-append xs (x ∷ []))

varint_some : (n : ℕ) → 0 < length (varint n)
unfolding varint
varint_some n = ended_some _ _

form_some : (short : Option (ℕ × List ℕ)) (script : List ℕ) → 0 < length (form_of short script)
form_some (Some short) script = begun_some short.0 short.1
form_some None script = omega (arith, length-append (varint (length script + 6)) script, varint_some (length script + 6))

script_some : (script : List ℕ) → 0 < length (script_form script)
unfolding script_form
script_some script = form_some (short_form script) script

three_parts : (a b c : List ℕ) → 0 < length a → 0 < length b → 0 < length c → 3 ≤ length (a ++ b ++ c)
three_parts a b c first second third = omega (arith, first, second, third, length-append a b, length-append (a ++ b) c)

coin_least : (coin : Coin) → 3 ≤ length (coin_text coin)
unfolding coin_text
coin_least coin =
    three_parts (varint (height_code coin)) (varint (amount_code coin.value)) (script_form coin.script) (varint_some (height_code coin)) (varint_some (amount_code coin.value)) (script_some coin.script)

two_parts : (a b : List ℕ) → 0 < length a → 3 ≤ length b → 4 ≤ length (a ++ b)
two_parts a b first second = omega (arith, first, second, length-append a b)

member_least : (member : ℕ × Coin) → 4 ≤ length (member_text member)
unfolding member_text
member_least member = two_parts (compact member.0) (coin_text member.1) (compact_some member.0) (coin_least member.1)

-- so many bytes were read of a coin with its number
pub read_least : (base : Option ℕ) (bytes : List ℕ) (member : ℕ × Coin) (len : ℕ) → IsBytes bytes → member_at base (from_first bytes) ≡ Ok (member, at (length bytes) (drop len bytes)) → len ≤ length bytes → 4 ≤ len
read_least base bytes member len fits read within =
    let f = front (member_codec base) bytes member (at (length bytes) (drop len bytes)) fits read in
    omega (arith, f.len, length-drop len bytes, member_least member, within)
