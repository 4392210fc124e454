-- Lines of the input, and the commands that they are.
use Rattle.std.specs.Prelude.{ℕ, ◌==◌, ◌&&◌, not, Bool, List, [], ◌∷◌, length, reverse, bytes_eq, codes, nat_le, nat_lt, if◌then◌else◌, Option, Some, None, Result, Ok, Err, cond}
use Rattle.std.specs.Char.{is_ascii_digit}
use Rattle.std.specs.List.{list_all}
use Rattle.std.specs.Result.{result_ok}
use Rattle.std.specs.Str.Parse.{digits_value}
use Rattle.hex.specs.Hex.{decode_sized}
use Rattle.command_text.specs.FileNames.{is_name}
use Rattle.command_text.specs.declared.field.NumberForm.{NumberForm}
use Rattle.command_text.specs.declared.line.Line.{Line}
use Rattle.command_text.specs.declared.line.Line.TheVariants.{Empty, Fold, Headers, Import, Generate, Flush, GetTxOut, Info}
use Rattle.command_text.specs.declared.line.LineRefused.{LineRefused}
use Rattle.command_text.specs.declared.line.LineRefused.TheVariants.{LineTooLong, UnknownCommand, BadName, BadKey, BadTxid, BadIndex, BadNumber, BadCount}

-- ---- the lines of an input

-- a first byte of a first line
abbrev pub and_byte : ℕ → List (List ℕ) → List (List ℕ)
and_byte byte [] = (byte ∷ []) ∷ []
and_byte byte (piece ∷ pieces) = (byte ∷ piece) ∷ pieces

-- what stands between these bytes, of which there is one piece more
unfoldable pub pieces_between : ℕ → List ℕ → List (List ℕ)
pieces_between mark [] = [] ∷ []
pieces_between mark (byte ∷ bytes) = cond (byte == mark) ([] ∷ pieces_between mark bytes) (and_byte byte (pieces_between mark bytes))

-- without a carriage return that stands last
unfoldable pub without_return : List ℕ → List ℕ
without_return [] = []
without_return (byte ∷ []) = cond (byte == 13) [] (byte ∷ [])
without_return (byte ∷ next ∷ bytes) = byte ∷ without_return (next ∷ bytes)

-- ---- the fields of a line

-- FILE
abbrev pub name_of : List ℕ → Result (List ℕ) LineRefused
name_of field = if is_name field then Ok field else Err BadName

-- what hexadecimal digits in either case stand for, so many bytes
abbrev pub bytes_of : ℕ → LineRefused → List ℕ → Result (List ℕ) LineRefused
bytes_of n why field = read (result_ok (decode_sized field n))
  where
    read : Option (List ℕ) → Result (List ℕ) LineRefused
    read None = Err why
    read (Some bytes) = Ok bytes

-- KEY: 16 digits, the key's bytes in their order
abbrev pub key_of : List ℕ → Result (List ℕ) LineRefused
key_of field = bytes_of 8 BadKey field

-- TXID: 64 digits, the last byte first
abbrev pub txid_of : List ℕ → Result (List ℕ) LineRefused
txid_of field = bytes_of 32 BadTxid field

-- whether a field has this form: decimal digits, at most so many, and a value within the range
abbrev pub has_form : NumberForm → List ℕ → Bool
has_form form field =
    not (length field == 0) && nat_le (length field) form.digits && list_all is_ascii_digit field &&
    nat_le form.least (digits_value 10 field) && nat_le (digits_value 10 field) form.most

abbrev pub number_of : NumberForm → List ℕ → Result ℕ LineRefused
number_of form field = if has_form form field then Ok (digits_value 10 field) else Err form.refusal

abbrev pub index_of : List ℕ → Result ℕ LineRefused
index_of field = number_of (record { digits = 10; least = 0; most = 4294967295; refusal = BadIndex }) field

abbrev pub seed_of : List ℕ → Result ℕ LineRefused
seed_of field = number_of (record { digits = 20; least = 0; most = 18446744073709551615; refusal = BadNumber }) field

abbrev pub count_of : List ℕ → Result ℕ LineRefused
count_of field = number_of (record { digits = 6; least = 1; most = 100000; refusal = BadCount }) field

-- ---- commands

-- what is read, and then the rest; or the first refusal
infixl 10 ◌>>=◌
abbrev pub ◌>>=◌ : {A B : Type 0} → Result A LineRefused → (A → Result B LineRefused) → Result B LineRefused
Ok a >>= next = next a
Err why >>= next = Err why

abbrev pub is_word : List ℕ → List ℕ → Bool
is_word word field = bytes_eq field word

-- a command without fields
abbrev pub alone : List ℕ → Result Line LineRefused
alone name =
    if is_word (codes "flush") name then Ok Flush else
    if is_word (codes "info") name then Ok Info else
    Err UnknownCommand

-- a command with one field
abbrev pub with_one : List ℕ → List ℕ → Result Line LineRefused
with_one name a =
    if is_word (codes "fold") name then (name_of a >>= λ file. Ok (Fold file)) else
    if is_word (codes "headers") name then (name_of a >>= λ file. Ok (Headers file None)) else
    if is_word (codes "import") name then (name_of a >>= λ file. Ok (Import file None)) else
    Err UnknownCommand

-- with two
abbrev pub with_two : List ℕ → List ℕ → List ℕ → Result Line LineRefused
with_two name a b =
    if is_word (codes "headers") name then (name_of a >>= λ file. key_of b >>= λ key. Ok (Headers file (Some key))) else
    if is_word (codes "import") name then (name_of a >>= λ file. key_of b >>= λ key. Ok (Import file (Some key))) else
    if is_word (codes "gettxout") name then (txid_of a >>= λ txid. index_of b >>= λ index. Ok (GetTxOut (record { txid = record { bytes = reverse txid }; index = index }))) else
    Err UnknownCommand

-- with three
abbrev pub with_three : List ℕ → List ℕ → List ℕ → List ℕ → Result Line LineRefused
with_three name a b c =
    if is_word (codes "generate") name then (seed_of a >>= λ number. count_of b >>= λ count. name_of c >>= λ file. Ok (Generate number count file)) else
    Err UnknownCommand

-- by the name and the number of fields
abbrev pub command_of : List (List ℕ) → Result Line LineRefused
command_of [] = Err UnknownCommand
command_of (name ∷ []) = alone name
command_of (name ∷ a ∷ []) = with_one name a
command_of (name ∷ a ∷ b ∷ []) = with_two name a b
command_of (name ∷ a ∷ b ∷ c ∷ []) = with_three name a b c
command_of (name ∷ a ∷ b ∷ c ∷ d ∷ more) = Err UnknownCommand

-- what a line is, or why it is refused; its fields are separated by one space
abbrev pub line_of : List ℕ → Result Line LineRefused
line_of [] = Ok Empty
line_of (byte ∷ bytes) = if nat_lt 4096 (length (byte ∷ bytes)) then Err LineTooLong else command_of (pieces_between 32 (byte ∷ bytes))
