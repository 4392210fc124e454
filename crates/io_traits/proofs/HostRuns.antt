-- What calls of a host, one after another, do.
use Rattle.std.specs.Prelude.{◌≡◌, ◌≢◌, ℕ, ◌+◌, ◌<◌, Bool, true, false, List, [], ◌++◌, length, take, drop, Option, Some, None, option_map, unwrap_or, cond, Result, Ok, Err}
use Rattle.std.specs.Cmp.Lexicographic.{nat_list_cmp_total}
use Rattle.std.specs.FinMap.{get, insert, get-insert, same_map}
use Rattle.std.specs.Io.KnownBytes.{Consumes, ReadConsumes, Keeps, IsAtEnd}
use Rattle.std.proofs.Common.{refl, sym, ap, subst, ◌∙◌, arith, append_assoc, append-nil, length-append}
use Rattle.std.proofs.Math.Seq.{drop-nil}
use Rattle.std.proofs.lemmas.List.{length-take-le, take-append-drop, drop-drop}
use Rattle.std.proofs.lemmas.Map.Lookups.{exact_bytes}
use Rattle.io_traits.specs.Host.{Files, Held, bytes_of, unread_bytes_of, unread_bytes, past, after_reading, GivesNext, ReadsIn, ChangesOnly, Grows, Spoils, with_appended}
use Rattle.io_traits.specs.HostRuns.{HasRead, with_made, IsMade, IsDone}
use Rattle.io_traits.specs.Names.{same}
use Rattle.io_traits.proofs.Names.{same_itself, cond-same}
use Rattle.io_traits.specs.Told.{OnTold}
use Rattle.io_traits.proofs.Told.{OnTold-same, OnTold-then}

-- ---- reading

past-zero : (input : Option (List ℕ × ℕ)) → input ≡ option_map (past 0) input
past-zero None = refl
past-zero (Some i) = let same : i.1 ≡ i.1 + 0 = omega arith in λ k. Some (i.0, same k)

past-past : (m n : ℕ) (input : Option (List ℕ × ℕ)) → option_map (past n) (option_map (past m) input) ≡ option_map (past (m + n)) input
past-past m n None = refl
past-past m n (Some i) = let same : (i.1 + m) + n ≡ i.1 + (m + n) = omega arith in λ k. Some (i.0, same k)

pub after_reading-none : (s : Held) → s ≡ after_reading 0 s
after_reading-none s = ap (λ input. record s { input = input }) (past-zero s.input)

pub after_reading-twice : (m n : ℕ) (s : Held) → after_reading n (after_reading m s) ≡ after_reading (m + n) s
after_reading-twice m n s = ap (λ input. record s { input = input }) (past-past m n s.input)

unread_bytes_of-past : (n : ℕ) (s : Held) (input : Option (List ℕ × ℕ)) → unread_bytes_of s (option_map (past n) input) ≡ drop n (unread_bytes_of s input)
unread_bytes_of-past n s None = sym (drop-nil n)
unread_bytes_of-past n s (Some i) = sym (drop-drop n i.1 (bytes_of s i.0))

-- past n bytes, what is unread is the rest of what was
pub unread_bytes-after : (n : ℕ) (s : Held) → unread_bytes (after_reading n s) ≡ drop n (unread_bytes s)
unread_bytes-after n s = unread_bytes_of-past n s s.input

pub HasRead-nothing : (s : Held) → HasRead [] s s
HasRead-nothing s = record { front = refl; place = after_reading-none s }

pub HasRead-then : (xs ys : List ℕ) (s t u : Held) → HasRead xs s t → HasRead ys t u → HasRead (xs ++ ys) s u
HasRead-then xs ys s t u first second = record {
  front = first.front ∙ ap (λ l. xs ++ l) second.front ∙ sym (append_assoc xs ys (unread_bytes u));
  place = second.place ∙ ap (after_reading (length ys)) first.place ∙ after_reading-twice (length xs) (length ys) s ∙ ap (λ n. after_reading n s) (sym (length-append xs ys));
}

-- one read is such a run
pub HasRead-read : (n : ℕ) (buf : List ℕ) (s t : Held) → GivesNext n buf s t → HasRead (take n buf) s t
HasRead-read n buf s t read =
    let count : length (take n buf) ≡ n = ap length read.0.front ∙ length-take-le n (unread_bytes s) read.0.within in
    record {
      front = sym (take-append-drop n (unread_bytes s)) ∙ ap (λ l. l ++ drop n (unread_bytes s)) (sym read.0.front) ∙ ap (λ l. take n buf ++ l) (sym (unread_bytes-after n s) ∙ ap unread_bytes (sym read.1));
      place = read.1 ∙ ap (λ m. after_reading m s) (sym count);
    }

-- after a read that gave nothing, with room for more, the run is all that there was
pub HasRead-all : (xs buf : List ℕ) (s t u : Held) → HasRead xs s t → GivesNext 0 buf t u → 0 < length buf → (unread_bytes s ≡ xs) × (u ≡ t)
HasRead-all xs buf s t u run read room =
    (run.front ∙ ap (λ l. xs ++ l) (read.0.ends refl room) ∙ append-nil xs, read.1 ∙ sym (after_reading-none t))

none_left : (n : ℕ) (buf : List ℕ) (s t : Held) → GivesNext n buf s t → n ≡ 0 → 0 < length buf → unread_bytes t ≡ []
none_left n buf s t read none room = ap unread_bytes (read.1 ∙ ap (λ m. after_reading m s) none ∙ sym (after_reading-none s)) ∙ read.0.ends none room

-- to read the open input is to consume what is unread, as of a source
pub GivesNext-consumes : (a b : Option Held) (n : ℕ) (buf : List ℕ) → OnTold a b (GivesNext n buf)
    → Consumes (option_map unread_bytes a) (option_map unread_bytes b) (take n buf) × (n ≡ 0 → 0 < length buf → IsAtEnd (option_map unread_bytes b))
GivesNext-consumes None None n buf told = (tt, λ _ _. tt)
GivesNext-consumes None (Some t) n buf told = absurd told
GivesNext-consumes (Some s) None n buf told = absurd told
GivesNext-consumes (Some s) (Some t) n buf told = ((HasRead-read n buf s t told).front, none_left n buf s t told)

same_unread : (a b : Option Held) → OnTold a b (λ s t. t ≡ s) → Keeps (option_map unread_bytes a) (option_map unread_bytes b)
same_unread None None told = tt
same_unread None (Some t) told = absurd told
same_unread (Some s) None told = absurd told
same_unread (Some s) (Some t) told = ap unread_bytes told

pub ReadsIn-consumes : {E : Type 0} (a b : Option Held) (result : Result ℕ E) (buf : List ℕ) → OnTold a b (ReadsIn result buf) → ReadConsumes (option_map unread_bytes a) (option_map unread_bytes b) result buf
ReadsIn-consumes a b (Ok n) buf told = GivesNext-consumes a b n buf told
ReadsIn-consumes a b (Err e) buf told = same_unread a b told

-- ---- writing

-- what was put under a name is found there
pub get-insert_same : (files : Files) (name bytes : List ℕ) → get (insert files name bytes) name ≡ Some bytes
get-insert_same files name bytes = get-insert nat_list_cmp_total files name bytes name ∙ ap (λ b. cond b (Some bytes) (get files name)) (same_itself name)

-- and what another name has stays
pub get-insert_other : (files : Files) (name other bytes : List ℕ) → other ≢ name → get (insert files name bytes) other ≡ get files other
get-insert_other files name other bytes apart = get-insert nat_list_cmp_total files name bytes other ∙ cond-same other name (Some bytes) (get files other) apart

replaced_twice : (b : Bool) (x y z : Option (List ℕ)) → cond b y (cond b x z) ≡ cond b y z
replaced_twice true x y z = refl
replaced_twice false x y z = refl

-- the later bytes of a name stand
pub insert-insert : (files : Files) (name xs ys : List ℕ) → insert (insert files name xs) name ys ≡ insert files name ys
insert-insert files name xs ys = same_map nat_list_cmp_total exact_bytes _ _ (λ q.
    let at = same q name in
    get-insert nat_list_cmp_total (insert files name xs) name ys q
    ∙ ap (cond at (Some ys)) (get-insert nat_list_cmp_total files name xs q)
    ∙ replaced_twice at (Some xs) (Some ys) (get files q)
    ∙ sym (get-insert nat_list_cmp_total files name ys q))

-- it grows
pub IsMade-grows : (name xs bytes : List ℕ) (s t u : Held) → IsMade name xs s t → Grows t.created bytes t u → IsMade name (xs ++ bytes) s u
IsMade-grows name xs bytes s t u is grows =
    let grown : u ≡ with_appended name bytes t = subst (λ created. Grows created bytes t u) (ap (λ (h : Held). h.created) is) grows in
    let had : bytes_of (with_made name xs s) name ≡ xs = ap (λ o. unwrap_or o []) (get-insert_same s.files name xs) in
    grown ∙ ap (with_appended name bytes) is
    ∙ ap (λ files. record (with_made name xs s) { files = files }) (ap (λ all. insert (insert s.files name xs) name (all ++ bytes)) had ∙ insert-insert s.files name xs (xs ++ bytes))

-- and is ended
pub IsMade-finished : (name xs : List ℕ) (s t u : Held) → IsMade name xs s t → u ≡ record t { created = None } → IsDone name xs s u
IsMade-finished name xs s t u is ended = ended ∙ ap (λ (h : Held). record h { created = None }) is

-- so far nothing else has changed
pub IsMade-changes : (name xs : List ℕ) (s t : Held) → IsMade name xs s t → ChangesOnly name s t
IsMade-changes name xs s t is = record {
  others = λ other apart. ap (λ (h : Held). get h.files other) is ∙ get-insert_other s.files name other xs apart;
  input = ap (λ (h : Held). h.input) is;
}

pub ChangesOnly-then : (name : List ℕ) (s t u : Held) → ChangesOnly name s t → ChangesOnly name t u → ChangesOnly name s u
ChangesOnly-then name s t u first second = record {
  others = λ other apart. second.others other apart ∙ first.others other apart;
  input = second.input ∙ first.input;
}

-- nor after a failure
pub IsMade-spoiled : (name xs : List ℕ) (s t u : Held) → IsMade name xs s t → Spoils t.created t u → ChangesOnly name s u
IsMade-spoiled name xs s t u is spoiled =
    ChangesOnly-then name s t u (IsMade-changes name xs s t is) (subst (λ created. Spoils created t u) (ap (λ (h : Held). h.created) is) spoiled)

-- ---- the same of a host, which may tell nothing

pub read_none : (a : Option Held) → OnTold a a (HasRead [])
read_none a = OnTold-same (HasRead []) a HasRead-nothing

pub read_more : (xs : List ℕ) (n : ℕ) (buf : List ℕ) (a b c : Option Held) → OnTold a b (HasRead xs) → OnTold b c (GivesNext n buf) → OnTold a c (HasRead (xs ++ take n buf))
read_more xs n buf a b c = OnTold-then (HasRead xs) (GivesNext n buf) (HasRead (xs ++ take n buf)) a b c (λ s t u run read. HasRead-then xs (take n buf) s t u run (HasRead-read n buf t u read))

pub read_all : (xs buf : List ℕ) (a b c : Option Held) → 0 < length buf → OnTold a b (HasRead xs) → OnTold b c (GivesNext 0 buf) → OnTold a c (λ s u. (unread_bytes s ≡ xs) × HasRead xs s u)
read_all xs buf a b c room = OnTold-then (HasRead xs) (GivesNext 0 buf) (λ s u. (unread_bytes s ≡ xs) × HasRead xs s u) a b c (λ s t u run read.
    let end = HasRead-all xs buf s t u run read room in
    (end.0, subst (HasRead xs s) (sym end.1) run))

pub made_grows : (name xs bytes : List ℕ) (a b c : Option Held) → OnTold a b (IsMade name xs) → OnTold b c (λ t u. Grows t.created bytes t u) → OnTold a c (IsMade name (xs ++ bytes))
made_grows name xs bytes a b c = OnTold-then (IsMade name xs) (λ t u. Grows t.created bytes t u) (IsMade name (xs ++ bytes)) a b c (IsMade-grows name xs bytes)

pub made_finished : (name xs : List ℕ) (a b c : Option Held) → OnTold a b (IsMade name xs) → OnTold b c (λ t u. u ≡ record t { created = None }) → OnTold a c (IsDone name xs)
made_finished name xs a b c = OnTold-then (IsMade name xs) (λ t u. u ≡ record t { created = None }) (IsDone name xs) a b c (IsMade-finished name xs)

-- after a write or a finish that failed, with P of the created file
pub made_spoiled : (name xs : List ℕ) (P : Held → Held → Type 0) (a b c : Option Held) → OnTold a b (IsMade name xs) → OnTold b c (λ t u. Spoils t.created t u × P t u) → OnTold a c (ChangesOnly name)
made_spoiled name xs P a b c = OnTold-then (IsMade name xs) (λ t u. Spoils t.created t u × P t u) (ChangesOnly name) a b c (λ s t u is failed. IsMade-spoiled name xs s t u is failed.0)
