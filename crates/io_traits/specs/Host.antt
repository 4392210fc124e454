-- The files of a host, and what its calls do to them.
use Rattle.std.specs.Prelude.{◌≡◌, ◌≢◌, ℕ, ◌+◌, ◌<◌, ◌≤◌, true, false, List, [], ◌++◌, length, take, drop, Option, Some, None, option_map, unwrap_or, Result, Ok, Err, ⊤, refl}
use Rattle.std.specs.Ordering.{nat_cmp}
use Rattle.std.specs.Cmp.Lexicographic.{slice_cmp}
use Rattle.std.specs.FinMap.{FinMap, empty, get, insert, contains_key, code}
use Rattle.std.specs.Coded.{Coded, code_by, coded_ℕ, coded_list, coded_option, coded×}

-- the bytes of each name
abbrev pub Files : Type 0
Files = FinMap (slice_cmp nat_cmp) (List ℕ)

-- The files; the open input's name and the place in it; the created file's name.
pub record Held : Type 0 where
  pub files : Files
  pub input : Option (List ℕ × ℕ)
  pub created : Option (List ℕ)

abbrev pub held_code : Coded Held
held_code = code_by (Files × (Option (List ℕ × ℕ) × Option (List ℕ)))
    (coded× (code (coded_list coded_ℕ) (coded_list coded_ℕ)) (coded× (coded_option (coded× (coded_list coded_ℕ) coded_ℕ)) (coded_option (coded_list coded_ℕ))))
    (λ s. (s.files, (s.input, s.created)))
    (λ p. record { files = p.0; input = p.1.0; created = p.1.1 })
    (λ _. refl)

-- no file, no open input and no created file
abbrev pub holding_nothing : Held
holding_nothing = record { files = empty; input = None; created = None }

-- these files, with one name's bytes set
abbrev pub with_file : List ℕ → List ℕ → Held → Held
with_file name bytes s = record s { files = insert s.files name bytes }

-- the bytes of a name; an absent file has none
abbrev pub bytes_of : Held → List ℕ → List ℕ
bytes_of s name = unwrap_or (get s.files name) []

-- what stands in an input from its place on
abbrev pub unread_bytes_of : Held → Option (List ℕ × ℕ) → List ℕ
unread_bytes_of s None = []
unread_bytes_of s (Some input) = drop input.1 (bytes_of s input.0)

-- the bytes of the open input from its place on, as its file reads now; none where no input is open
abbrev pub unread_bytes : Held → List ℕ
unread_bytes s = unread_bytes_of s s.input

-- an input whose place is n further
abbrev pub past : ℕ → List ℕ × ℕ → List ℕ × ℕ
past n input = (input.0, input.1 + n)

-- the place in the open input is n further
abbrev pub after_reading : ℕ → Held → Held
after_reading n s = record s { input = option_map (past n) s.input }

-- the host tells that it doesn't hold this name
abbrev pub IsMissing : Option Held → List ℕ → Type 0
IsMissing None name = ⊥
IsMissing (Some s) name = contains_key s.files name ≡ false

-- the host tells that no input is open
abbrev pub IsClosed : Option Held → Type 0
IsClosed None = ⊥
IsClosed (Some s) = s.input ≡ None

-- the host tells that no file is created
abbrev pub IsIdle : Option Held → Type 0
IsIdle None = ⊥
IsIdle (Some s) = s.created ≡ None

-- a held name is the open input, at place 0, or no input is open
abbrev pub Opens : {E : Type 0} → List ℕ → Result ⊤ E → Held → Held → Type 0
Opens name (Ok _) s t = (contains_key s.files name ≡ true) × (t ≡ record s { input = Some (name, 0) })
Opens name (Err _) s t = t ≡ record s { input = None }

-- the first n of these bytes stand at the front of buf; none only at their end, or with no room
pub record Gives (bytes : List ℕ) (n : ℕ) (buf : List ℕ) : Type 0 where
  pub front : take n buf ≡ take n bytes
  pub within : n ≤ length bytes
  pub ends : n ≡ 0 → 0 < length buf → bytes ≡ []

-- n bytes from the place on were given, and the place is past them
abbrev pub GivesNext : ℕ → List ℕ → Held → Held → Type 0
GivesNext n buf s t = Gives (unread_bytes s) n buf × (t ≡ after_reading n s)

-- a read that fails does nothing
abbrev pub ReadsIn : {E : Type 0} → Result ℕ E → List ℕ → Held → Held → Type 0
ReadsIn (Ok n) buf s t = GivesNext n buf s t
ReadsIn (Err _) buf s t = t ≡ s

-- one name may have any bytes now or be absent; each other file and the open input are as before
pub record ChangesOnly (name : List ℕ) (s t : Held) : Type 0 where
  pub others : (other : List ℕ) → other ≢ name → get t.files other ≡ get s.files other
  pub input : t.input ≡ s.input

-- the name's file is empty and created, or no file is created
abbrev pub Creates : {E : Type 0} → List ℕ → Result ⊤ E → Held → Held → Type 0
Creates name (Ok _) s t = t ≡ record s { files = insert s.files name []; created = Some name }
Creates name (Err _) s t = ChangesOnly name s t × (t.created ≡ None)

-- a file has grown by these bytes
abbrev pub with_appended : List ℕ → List ℕ → Held → Held
with_appended name bytes s = with_file name (bytes_of s name ++ bytes) s

-- the created file has grown by these bytes; with none, nothing was done
abbrev pub Grows : Option (List ℕ) → List ℕ → Held → Held → Type 0
Grows None bytes s t = t ≡ s
Grows (Some name) bytes s t = t ≡ with_appended name bytes s

-- the created file may have any bytes now or be absent; with none, nothing was done
abbrev pub Spoils : Option (List ℕ) → Held → Held → Type 0
Spoils None s t = t ≡ s
Spoils (Some name) s t = ChangesOnly name s t

-- a file that couldn't be written to is still the created one
abbrev pub Writes : {E : Type 0} → List ℕ → Result ⊤ E → Held → Held → Type 0
Writes bytes (Ok _) s t = Grows s.created bytes s t
Writes bytes (Err _) s t = Spoils s.created s t × (t.created ≡ s.created)

-- no file is created any more, and at Ok each file is as it was
abbrev pub Finishes : {E : Type 0} → Result ⊤ E → Held → Held → Type 0
Finishes (Ok _) s t = t ≡ record s { created = None }
Finishes (Err _) s t = Spoils s.created s t × (t.created ≡ None)
