-- The forms of scripts in a coin: three kinds of script are kept without the bytes that all of the kind have.
use Rattle.std.specs.Prelude.{ℕ, ◌+◌, ◌==◌, ◌&&◌, List, [], ◌∷◌, ◌++◌, length, take, drop, Option, Some, None, option_map, nat_lt, bytes_eq, if◌then◌else◌}
use Rattle.base_types.specs.Bytes.{varint}

-- the first numbers stand for kinds of scripts, whose lengths begin behind them (4 and 5 for keys that are kept
-- uncompressed, which no coin here has)
abbrev pub special_scripts : ℕ
special_scripts = 6

-- The mark of a kind is 0 where a script pays to a key's hash, 1 where it pays to a script's hash, and the first byte of
-- the key, 2 or 3, where it pays to a compressed key. A script of the kind is bytes before, so many bytes that are kept, and bytes behind.
abbrev pub before : ℕ → List ℕ
before mark =
    if mark == 0 then 0x76 ∷ 0xa9 ∷ 20 ∷ [] else
    if mark == 1 then 0xa9 ∷ 20 ∷ [] else
    33 ∷ mark ∷ []

abbrev pub kept_len : ℕ → ℕ
kept_len mark = if nat_lt mark 2 then 20 else 32

abbrev pub behind : ℕ → List ℕ
behind mark =
    if mark == 0 then 0x88 ∷ 0xac ∷ [] else
    if mark == 1 then 0x87 ∷ [] else
    0xac ∷ []

-- the script of a kind of which these bytes are kept
abbrev pub script_of : ℕ → List ℕ → List ℕ
script_of mark kept = before mark ++ kept ++ behind mark

-- the n bytes between these, where they are all of the bytes
unfoldable pub between : List ℕ → ℕ → List ℕ → List ℕ → Option (List ℕ)
between front n back bytes =
    let kept = take n (drop (length front) bytes) in
    if bytes_eq bytes (front ++ kept ++ back) && (length kept == n) then Some kept else None

-- the mark, and the bytes that are kept, of a script of this kind
abbrev pub of_kind : ℕ → List ℕ → Option (ℕ × List ℕ)
of_kind mark script = option_map (λ kept. (mark, kept)) (between (before mark) (kept_len mark) (behind mark) script)

abbrev pub else_try : {A : Type 0} → Option A → Option A → Option A
else_try (Some x) other = Some x
else_try None other = other

-- the same of a script of any kind
unfoldable pub short_form : List ℕ → Option (ℕ × List ℕ)
short_form script = else_try (of_kind 0 script) (else_try (of_kind 1 script) (else_try (of_kind 2 script) (of_kind 3 script)))

-- the form of a script: the mark and what is kept, or its length behind the marks and all of it
abbrev pub form_of : Option (ℕ × List ℕ) → List ℕ → List ℕ
form_of (Some short) script = short.0 ∷ short.1
form_of None script = varint (length script + special_scripts) ++ script

unfoldable pub script_form : List ℕ → List ℕ
script_form script = form_of (short_form script) script
