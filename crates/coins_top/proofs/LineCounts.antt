-- A line asks for no more blocks than may be.
use Rattle.std.proofs.Common.{◌≡◌, ◌≤◌, ℕ, Bool, true, false, cond, List, [], ◌∷◌, refl, subst, arith}
use Rattle.std.specs.Prelude.{◌&&◌, None, Some, Result, Ok, Err, nat_le, not, ◌==◌, length, nat_lt, reverse, codes, if◌then◌else◌}
use Rattle.std.specs.List.{list_all}
use Rattle.std.specs.Char.{is_ascii_digit}
use Rattle.std.proofs.lemmas.Bool.{false≢true}
use Rattle.std.proofs.lemmas.Bool.Decides.{nat_tests}
use Rattle.std.specs.Str.Parse.{digits_value}
use Rattle.command_loop.specs.ServerCalls.{Asked}
use Rattle.command_text.specs.Lines.{◌>>=◌, line_of, command_of, alone, with_one, with_two, with_three, is_word, name_of, key_of, txid_of, index_of, seed_of, count_of, pieces_between}
use Rattle.command_text.specs.declared.line.Line.{Line}
use Rattle.command_text.specs.declared.line.Line.TheVariants as line
use Rattle.command_text.specs.declared.line.LineRefused.{LineRefused}
use Rattle.command_text.specs.declared.line.LineRefused.TheVariants.{UnknownCommand, LineTooLong, BadCount}
use Rattle.coins_top.specs.ServerState.{IsCounted}

one_of : (b : Bool) (x y : Asked) → IsCounted x → IsCounted y → IsCounted (cond b x y)
one_of true x y first second = first
one_of false x y first second = second

behind : {A : Type 0} (r : Result A LineRefused) (next : A → Asked) → ((a : A) → IsCounted (next a)) → IsCounted (r >>= next)
behind (Ok a) next counted = counted a
behind (Err why) next counted = tt

at_most : (n m : ℕ) → nat_le n m ≡ true → n ≤ m
at_most n m test = grind (arith, nat_tests)

when : (b : Bool) (n : ℕ) (why : LineRefused) (next : ℕ → Asked) → (b ≡ true → (1 ≤ n) × (n ≤ 100000)) → ((m : ℕ) → (1 ≤ m) × (m ≤ 100000) → IsCounted (next m)) → IsCounted ((cond b (Ok n) (Err why)) >>= next)
when true n why next within counted = counted n (within refl)
when false n why next within counted = tt

ends : (a b c d e : Bool) → (a && b && c && d && e) ≡ true → (d ≡ true) × (e ≡ true)
ends true true true true e all = (refl, all)
ends true true true false e all = absurd (false≢true all)
ends true true false d e all = absurd (false≢true all)
ends true false c d e all = absurd (false≢true all)
ends false b c d e all = absurd (false≢true all)

counted : (field : List ℕ) (next : ℕ → Asked) → ((m : ℕ) → (1 ≤ m) × (m ≤ 100000) → IsCounted (next m)) → IsCounted (count_of field >>= next)
counted field next within =
    let n = digits_value 10 field in
    when (not (length field == 0) && nat_le (length field) 6 && list_all is_ascii_digit field && nat_le 1 n && nat_le n 100000) n BadCount next
    (λ all. let both = ends (not (length field == 0)) (nat_le (length field) 6) (list_all is_ascii_digit field) (nat_le 1 n) (nat_le n 100000) all in (at_most 1 n both.0, at_most n 100000 both.1)) within

counted_one : (name a : List ℕ) → IsCounted (with_one name a)
counted_one name a =
    one_of (is_word (codes "fold") name) (name_of a >>= λ file. Ok (line.Fold file)) (if is_word (codes "headers") name then (name_of a >>= λ file. Ok (line.Headers file None)) else if is_word (codes "import") name then (name_of a >>= λ file. Ok (line.Import file None)) else Err UnknownCommand)
    (behind (name_of a) (λ file. Ok (line.Fold file)) (λ file. tt))
    (one_of (is_word (codes "headers") name) (name_of a >>= λ file. Ok (line.Headers file None)) (if is_word (codes "import") name then (name_of a >>= λ file. Ok (line.Import file None)) else Err UnknownCommand)
    (behind (name_of a) (λ file. Ok (line.Headers file None)) (λ file. tt))
    (one_of (is_word (codes "import") name) (name_of a >>= λ file. Ok (line.Import file None)) (Err UnknownCommand) (behind (name_of a) (λ file. Ok (line.Import file None)) (λ file. tt)) tt))

counted_two : (name a b : List ℕ) → IsCounted (with_two name a b)
counted_two name a b =
    let gets = txid_of a >>= λ txid. index_of b >>= λ index. Ok (line.GetTxOut (record { txid = record { bytes = reverse txid }; index = index })) in
    let imports = name_of a >>= λ file. key_of b >>= λ key. Ok (line.Import file (Some key)) in
    let last = if is_word (codes "gettxout") name then gets else Err UnknownCommand in
    let rest = if is_word (codes "import") name then imports else last in
    one_of (is_word (codes "headers") name) (name_of a >>= λ file. key_of b >>= λ key. Ok (line.Headers file (Some key))) rest
    (behind (name_of a) (λ file. key_of b >>= λ key. Ok (line.Headers file (Some key))) (λ file. behind (key_of b) (λ key. Ok (line.Headers file (Some key))) (λ key. tt)))
    (one_of (is_word (codes "import") name) imports last
    (behind (name_of a) (λ file. key_of b >>= λ key. Ok (line.Import file (Some key))) (λ file. behind (key_of b) (λ key. Ok (line.Import file (Some key))) (λ key. tt)))
    (one_of (is_word (codes "gettxout") name) gets (Err UnknownCommand)
    (behind (txid_of a) (λ txid. index_of b >>= λ index. Ok (line.GetTxOut (record { txid = record { bytes = reverse txid }; index = index }))) (λ txid. behind (index_of b) (λ index. Ok (line.GetTxOut (record { txid = record { bytes = reverse txid }; index = index }))) (λ index. tt))) tt))

counted_three : (name a b c : List ℕ) → IsCounted (with_three name a b c)
counted_three name a b c =
    one_of (is_word (codes "generate") name) (seed_of a >>= λ number. count_of b >>= λ count. name_of c >>= λ file. Ok (line.Generate number count file)) (Err UnknownCommand)
    (behind (seed_of a) (λ number. count_of b >>= λ count. name_of c >>= λ file. Ok (line.Generate number count file)) (λ number.
    counted b (λ count. name_of c >>= λ file. Ok (line.Generate number count file)) (λ count within. behind (name_of c) (λ file. Ok (line.Generate number count file)) (λ file. within)))) tt

counted_alone : (name : List ℕ) → IsCounted (alone name)
counted_alone name =
    one_of (is_word (codes "flush") name) (Ok line.Flush) (if is_word (codes "info") name then Ok line.Info else Err UnknownCommand) tt
    (one_of (is_word (codes "info") name) (Ok line.Info) (Err UnknownCommand) tt tt)

counted_command : (fields : List (List ℕ)) → IsCounted (command_of fields)
counted_command [] = tt
counted_command (name ∷ []) = counted_alone name
counted_command (name ∷ a ∷ []) = counted_one name a
counted_command (name ∷ a ∷ b ∷ []) = counted_two name a b
counted_command (name ∷ a ∷ b ∷ c ∷ []) = counted_three name a b c
counted_command (name ∷ a ∷ b ∷ c ∷ d ∷ more) = tt

counted_line : (text : List ℕ) → IsCounted (line_of text)
counted_line [] = tt
counted_line (byte ∷ bytes) = one_of (nat_lt 4096 (length (byte ∷ bytes))) (Err LineTooLong) (command_of (pieces_between 32 (byte ∷ bytes))) tt (counted_command (pieces_between 32 (byte ∷ bytes)))

pub parsed_counted : (text : List ℕ) (said : Line) → line_of text ≡ Ok said → IsCounted (Ok said)
parsed_counted text said is = subst IsCounted is (counted_line text)
