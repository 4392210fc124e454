-- What opening a log finds, and what is read of a payload.
use Rattle.std.proofs.Common.{◌≡◌, ◌-◌, ◌≤◌, ◌<◌, ℕ, Bool, true, false, List, [], ◌∷◌, ◌++◌, length, take, drop, Option, Some, None, Result, Ok, cond, refl, sym, ap, subst, ◌∙◌, ⊎_elim, arith}
use Rattle.std.specs.Prelude.{All, IsTrue, not, nat_le}
use Rattle.std.specs.List.{AllByRecursion}
use Rattle.std.proofs.lemmas.Bool.{cases_lt}
use Rattle.std.proofs.lemmas.Bool.Decides.{nat_tests}
use Rattle.std.proofs.lemmas.List.{take_at, take_all, length-drop}
use Rattle.std.proofs.lemmas.List.Elements.{All-from_recursion}
use Rattle.disk_model.specs.Disk.{Image}
use Rattle.batch_log.specs.Records.{log, payloads_from, StartsWith}
use Rattle.batch_log.specs.OpenLog.{OpenLog, Stands}
use Rattle.batch_log.specs.declared.places.Place.{Place}
use Rattle.block_store.specs.declared.payload_kind.PayloadKind.{PayloadKind}
use Rattle.block_store.specs.Opening.{has_length, first_wrong}

abbrev whole : List (List ℕ) → Result (List (List ℕ)) ℕ
whole payloads = Ok payloads

same_payloads : (a b : List (List ℕ)) → whole a ≡ whole b → a ≡ b
same_payloads a b e = cc

told : (m n : Image) → Some m ≡ Some n → m ≡ n
told m n e = cc

-- the payloads of an opened log stand at the beginning of the bytes that the file had
pub opened_starts : (m : Image) (file : ℕ) (contents : Option Image) (left : Image → Type 0) (opened : OpenLog) (payloads : List (List ℕ)) → log (m file) ≡ Ok payloads → Stands contents left opened payloads → opened.file ≡ file
    → (1 < length (m file) → contents ≡ Some m) → StartsWith payloads (m file)
opened_starts m file contents left opened payloads is stands named long = ⊎_elim
    (λ (more : 1 < length (m file)).
    let same : m ≡ stands.holds.image = told m stands.holds.image (sym (long more) ∙ stands.holds.told) in
    let bytes : m file ≡ stands.holds.image opened.file = ap (λ (i : Image). i file) same ∙ ap (λ (f : ℕ). stands.holds.image f) (sym named) in
    record { rest = stands.holds.reads.gate ∷ stands.holds.reads.rest; is = bytes ∙ stands.holds.reads.is })
    (λ (few : length (m file) ≤ 1).
    let test : nat_le (length (m file)) 1 ≡ true = grind (arith, nat_tests) in
    let none : log (m file) ≡ whole [] = ap (λ (b : Bool). cond b (whole []) (payloads_from 0 0 (m file))) test in
    let nothing : [] ≡ payloads = same_payloads [] payloads (sym none ∙ is) in
    subst (λ (ps : List (List ℕ)). StartsWith ps (m file)) nothing (record { rest = m file; is = refl }))
    (cases_lt 1 (length (m file)))

right_one : (kind : PayloadKind) (place : Place) (b : Bool) (rest : Option Place) → cond (not b) (Some place) rest ≡ None → (b ≡ true) × (rest ≡ None)
right_one kind place true rest e = (refl, e)
right_one kind place false rest e = absurd cc

each_right : (kind : PayloadKind) (places : List Place) → first_wrong kind places ≡ None → AllByRecursion (λ (p : Place). IsTrue (has_length kind p.len)) places
each_right kind [] e = tt
each_right kind (place ∷ places) e =
    let r = right_one kind place (has_length kind place.len) (first_wrong kind places) e in
    (r.0, each_right kind places r.1)

-- where no payload has a wrong length, each has a right one
pub none_wrong : (kind : PayloadKind) (places : List Place) → first_wrong kind places ≡ None → All (λ (p : Place). IsTrue (has_length kind p.len)) places
none_wrong kind places e = All-from_recursion (λ (p : Place). IsTrue (has_length kind p.len)) places (each_right kind places e)

-- the bytes of a payload that were read
pub read_from : (payload items buf : List ℕ) (from n len : ℕ) → buf ≡ take n (drop from payload) → n ≡ length payload - from → len ≡ n → from ≤ length payload → take len (buf ++ drop (length buf) items) ≡ drop from payload
read_from payload items buf from n len is long size within =
    let all : take n (drop from payload) ≡ drop from payload = take_all n (drop from payload) (omega (arith, length-drop from payload)) in
    let whole_buf : length buf ≡ len = omega (arith, ap length (is ∙ all), length-drop from payload) in
    take_at buf (drop (length buf) items) len whole_buf ∙ is ∙ all
