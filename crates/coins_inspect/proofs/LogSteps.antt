-- The records of a log, one after another.
use Rattle.std.proofs.Common.{◌≡◌, ◌+◌, ◌≤◌, ℕ, zero, suc, List, [], ◌∷◌, ◌++◌, length, take, drop, Some, Result, refl, sym, ap, ◌∙◌, arith, append_assoc, length-append}
use Rattle.std.specs.Prelude.{slice_get}
use Rattle.batch_log.specs.Records.{records, body}
use Rattle.batch_log.specs.OpenLog.{places_of}
use Rattle.batch_log.specs.Opening.{DamageIn}
use Rattle.base_types.specs.declared.fault.StoreFault.{StoreFault}
use Rattle.base_types.specs.declared.fault.StoreFault.TheVariants.{NoMemory, DiskFailed, Damaged, Full, CacheFull}
use Rattle.batch_log.specs.declared.places.Place.{Place}
use Rattle.coins_inspect.specs.LogReports.{record_line, payload_lines, records_lines, log_lines, log_report, damaged_line, IsDamage}
use Rattle.coins_inspect.specs.declared.form.Payload.{Payload}

-- the report of bytes that are damaged there
pub damaged : (kind : Payload) (fault : StoreFault) (bytes old new : List ℕ) → DamageIn bytes fault → IsDamage fault (λ at. new ≡ old ++ damaged_line at) → new ≡ old ++ log_report kind bytes
unfolding log_report
damaged kind (Damaged file at) bytes old new is written = written ∙ ap (λ (r : Result (List (List ℕ)) ℕ). old ++ log_lines kind r) (sym is)
damaged kind NoMemory bytes old new is written = absurd written
damaged kind DiskFailed bytes old new is written = absurd written
damaged kind (Full file) bytes old new is written = absurd written
damaged kind CacheFull bytes old new is written = absurd written

-- the next record's lines, and those of the others
pub one_more : (kind : Payload) (places : List Place) (payloads : List (List ℕ)) (i : ℕ) (place : Place) (payload : List ℕ) → slice_get places i ≡ Some place → slice_get payloads i ≡ Some payload
    → records_lines kind (drop i places) (drop i payloads) ≡ record_line place ++ payload_lines kind payload ++ records_lines kind (drop (suc i) places) (drop (suc i) payloads)
unfolding records_lines
one_more kind [] payloads i place payload there here = absurd cc
one_more kind (p ∷ places) [] i place payload there here = absurd cc
one_more kind (p ∷ places) (q ∷ payloads) zero place payload there here =
    let same_place : p ≡ place = cc in
    let same_payload : q ≡ payload = cc in
    ap (λ (x : Place). record_line x ++ payload_lines kind q ++ records_lines kind places payloads) same_place
    ∙ ap (λ (x : List ℕ). record_line place ++ payload_lines kind x ++ records_lines kind places payloads) same_payload
one_more kind (p ∷ places) (q ∷ payloads) (suc k) place payload there here = one_more kind places payloads k place payload there here

regroup : (out line lines more : List ℕ) → (out ++ line ++ lines) ++ more ≡ out ++ (line ++ lines ++ more)
regroup out line lines more = simp append_assoc

pub goes_on : (old out new line lines rest more all : List ℕ) → new ≡ out ++ line ++ lines → rest ≡ line ++ lines ++ more → out ++ rest ≡ old ++ all → new ++ more ≡ old ++ all
goes_on old out new line lines rest more all is parts before =
    ap (λ (l : List ℕ). l ++ more) is ∙ regroup out line lines more ∙ ap (λ (l : List ℕ). out ++ l) (sym parts) ∙ before

-- no record is left
pub none_left : (kind : Payload) (places : List Place) (payloads : List (List ℕ)) (i : ℕ) → length places ≤ i → records_lines kind (drop i places) payloads ≡ []
unfolding records_lines
none_left kind [] payloads zero all = refl
none_left kind [] payloads (suc k) all = refl
none_left kind (p ∷ places) payloads zero all = absurd (omega (arith, all))
none_left kind (p ∷ places) payloads (suc k) all = none_left kind places payloads k (omega (arith, all))

-- where the record at a place ends
pub ends_at : (at : ℕ) (payloads : List (List ℕ)) (i : ℕ) (place : Place) → slice_get (places_of at payloads) i ≡ Some place → place.at + 5 + place.len ≡ at + length (records (take (suc i) payloads))
ends_at at [] i place there = absurd cc
ends_at at (q ∷ payloads) zero place there =
    let same : record { at = at; len = length q } ≡ place = cc in
    let start : at ≡ place.at = ap (λ (x : Place). x.at) same in
    let long : length q ≡ place.len = ap (λ (x : Place). x.len) same in
    omega (arith, start, long, length-append (1 ∷ body q) (records (take 0 payloads)))
ends_at at (q ∷ payloads) (suc k) place there =
    let rest = ends_at (at + (5 + length q)) payloads k place there in
    omega (arith, rest, length-append (1 ∷ body q) (records (take (suc k) payloads)))
