-- The text of the JSON values.
use Rattle.std.proofs.Common.{◌≡◌, ℕ, suc, ◌<◌, ◌/◌, ◌%◌, Bool, true, false, List, [], ◌∷◌, ◌++◌, codes, decimal, Option, Some, None, Result, IfOk, string_bytes, refl, sym, ap, ◌∙◌, append_assoc, arith}
use Rattle.std.specs.Prelude.{String, slice_index, ⊤, MatchOption, nat_le, ◌==◌, ◌&&◌, not}
use Rattle.std.proofs.lemmas.Result.{IfOk-weaker}
use Rattle.std.proofs.lemmas.Bool.{false≢true}
use Rattle.std.proofs.lemmas.List.Folds.{list_all_at}
use Rattle.std.proofs.lemmas.Bool.Decides.{nat_tests}
use Rattle.hex.specs.Hex.{IsBytes, lower_digits, encode_with, encode_lower}
use Rattle.json.specs.Print.{escape_byte, token_text}
use Rattle.json.specs.Token.{boolean}
use Rattle.serde_json.specs.Data.{Data}
use Rattle.serde_json.specs.Written.{compact_text, has_float}
use Rattle.base_types.specs.Printed.{printed}
use Rattle.command_text.specs.declared.json_text.StoreInfo.{StoreInfo}
use Rattle.command_text.specs.declared.reply.Background.{Background}
use Rattle.command_text.specs.declared.reply.Role.{Role}
use Rattle.command_text.specs.declared.reply.Role.TheVariants as role
use Rattle.command_text.specs.declared.reply.TxOutFound.{TxOutFound}
use Rattle.command_text.specs.JsonValues.{IsPlain, coin_data, background_data, info_data}
use Rattle.command_text.specs.Replies.{coin_json, truth, quoted, background_json, role_name, info_json}

-- ---- hexadecimal digits are not escaped

abbrev needs_no_escape : ℕ → Bool
needs_no_escape byte = nat_le 48 byte && not (byte == 92)

byte_is_plain : (byte : ℕ) → needs_no_escape byte ≡ true → escape_byte byte ≡ byte ∷ []
unfolding escape_byte
byte_is_plain byte h = grind (arith, nat_tests)

plain_or_not : (n : ℕ) (b : Bool) → needs_no_escape (slice_index lower_digits n) ≡ b → n < 16 → escape_byte (slice_index lower_digits n) ≡ slice_index lower_digits n ∷ []
plain_or_not n true e small = byte_is_plain (slice_index lower_digits n) e
plain_or_not n false e small = absurd (false≢true (sym (list_all_at needs_no_escape lower_digits n 0 small e)))

digit_is_plain : (n : ℕ) → n < 16 → escape_byte (slice_index lower_digits n) ≡ slice_index lower_digits n ∷ []
digit_is_plain n small = plain_or_not n (needs_no_escape (slice_index lower_digits n)) refl small

pub hex_is_plain : (bytes : List ℕ) → IsBytes bytes → IsPlain (encode_lower bytes)
unfolding encode_with
hex_is_plain [] small = refl
hex_is_plain (byte ∷ bytes) small =
    rw (digit_is_plain (byte / 16) (omega (arith, small 0)), digit_is_plain (byte % 16) (omega arith), hex_is_plain bytes (λ i. small (suc i))) refl

-- ---- texts

truth_is : (b : Bool) → token_text (boolean b) ≡ truth b
truth_is true = refl
truth_is false = refl

-- the text of seven pieces with six between them, and of fewer
joined : (a b c d e f g h i j k l m : List ℕ) → a ++ (b ++ (c ++ (d ++ (e ++ (f ++ (g ++ (h ++ (i ++ (j ++ (k ++ (l ++ m))))))))))) ≡ a ++ b ++ c ++ d ++ e ++ f ++ g ++ h ++ i ++ j ++ k ++ l ++ m
joined a b c d e f g h i j k l m = simp append_assoc

joined_two : (a b c d e : List ℕ) → a ++ (b ++ (c ++ (d ++ e))) ≡ a ++ b ++ c ++ d ++ e
joined_two a b c d e = simp append_assoc

pub coin_text : (found : TxOutFound) → IsPlain (printed found.bestblock) → IsPlain (encode_lower found.script) → compact_text (coin_data found (printed found.bestblock) (encode_lower found.script)) ≡ coin_json found
unfolding escape_byte
coin_text found tip script =
    rw (tip, script, truth_is found.coinbase) (joined (codes "{\"bestblock\":") (quoted (printed found.bestblock)) (codes ",\"coinbase\":") (truth found.coinbase) (codes ",\"confirmations\":") (decimal found.confirmations) (codes ",\"height\":") (decimal found.height) (codes ",\"script\":") (quoted (encode_lower found.script)) (codes ",\"value\":") (decimal found.value) (codes "}"))

pub background_text : (background : Option Background) → MatchOption background ⊤ (λ shown. IsPlain (printed shown.tip)) → compact_text (background_data background) ≡ background_json background
unfolding escape_byte
background_text None plain = refl
background_text (Some background) plain =
    rw plain (joined_two (codes "{\"height\":") (decimal background.height) (codes ",\"tip\":") (quoted (printed background.tip)) (codes "}"))

role_is_plain : (role : Role) → IsPlain (role_name role)
unfolding escape_byte
role_is_plain role.Full = refl
role_is_plain role.Unvalidated = refl
role_is_plain role.Validated = refl

pub info_text : (info : StoreInfo) → MatchOption info.background ⊤ (λ shown. IsPlain (printed shown.tip)) → IsPlain (printed info.tip) → compact_text (info_data info (background_data info.background) (printed info.tip)) ≡ info_json info
unfolding escape_byte
info_text info shown plain =
    rw (background_text info.background shown, role_is_plain info.role, plain) (joined (codes "{\"background\":") (background_json info.background) (codes ",\"chain\":") (quoted (codes "regtest")) (codes ",\"headers\":") (decimal info.headers) (codes ",\"height\":") (decimal info.height) (codes ",\"role\":") (quoted (role_name info.role)) (codes ",\"tip\":") (quoted (printed info.tip)) (codes "}"))

-- what is written for a value that has no float
pub gives : {Z E : Type 0} (r : Result (String Z) E) (value shown : Data) (text : List ℕ) → IfOk r (λ s. has_float value ≡ false → string_bytes s ≡ compact_text value) → value ≡ shown → has_float shown ≡ false → compact_text shown ≡ text → IfOk r (λ s. string_bytes s ≡ text)
gives r value shown text writes same no_float is =
    IfOk-weaker r _ _ (λ s h. h (ap has_float same ∙ no_float) ∙ ap compact_text same ∙ is) writes

pub without_float : (info : StoreInfo) (background : Option Background) (tip : List ℕ) → has_float (info_data info (background_data background) tip) ≡ false
without_float info None tip = refl
without_float info (Some background) tip = refl
