-- Lines of words.
use Rattle.std.specs.Prelude.{ℕ, List, [], ◌∷◌, ◌++◌, codes, decimal, fold}
use Rattle.base_types.specs.Printed.{printed}
use Rattle.command_text.specs.declared.word.Word.{Word}
use Rattle.command_text.specs.declared.word.Word.TheVariants.{Text, Number, Hash}

abbrev pub word_text : Word → List ℕ
word_text (Text text) = text.now
word_text (Number n) = decimal n
word_text (Hash hash) = printed hash.now

-- a line and a further word
abbrev pub and_next : List ℕ → Word → List ℕ
and_next line word = line ++ (codes " " ++ word_text word)

-- a head, the words with a space before each, and a line feed
abbrev pub line_text : List ℕ → List Word → List ℕ
line_text head words = fold and_next head words ++ 10 ∷ []
