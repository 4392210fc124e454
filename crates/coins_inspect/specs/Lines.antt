-- Lines of words.
use Rattle.std.specs.Prelude.{ℕ, List, [], ◌∷◌, ◌++◌, codes, decimal, fold}
use Rattle.std.specs.Fmt.{signed_decimal}
use Rattle.base_types.specs.Printed.{printed}
use Rattle.coins_inspect.specs.declared.words.Word.{Word}
use Rattle.coins_inspect.specs.declared.words.Word.TheVariants.{Text, Number, Signed, Hash}

-- a line and a further word, behind a space
abbrev pub and_word : List ℕ → List ℕ → List ℕ
and_word line word = line ++ (codes " " ++ word)

-- a line: its words with a space between them, and a line feed
abbrev pub line : List ℕ → List (List ℕ) → List ℕ
line head words = fold and_word head words ++ 10 ∷ []

-- ---- the words that the program prints

abbrev pub word_text : Word → List ℕ
word_text (Text text) = text.now
word_text (Number n) = decimal n
word_text (Signed z) = signed_decimal z
word_text (Hash hash) = printed hash

abbrev pub and_next : List ℕ → Word → List ℕ
and_next line word = and_word line (word_text word)

abbrev pub line_text : List ℕ → List Word → List ℕ
line_text head words = fold and_next head words ++ 10 ∷ []
