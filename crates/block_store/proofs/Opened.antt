-- Opening the two files, one after the other.
use Rattle.std.proofs.Common.{◌≡◌, ◌+◌, ◌≤◌, ℕ, Bool, List, [], ◌∷◌, length, take, drop, Option, Some, None, Result, Ok, Err, refl, sym, ap, subst, ◌∙◌, arith}
use Rattle.std.specs.Prelude.{All, IsTrue, OnErr, min}
use Rattle.std.specs.List.{AllByRecursion}
use Rattle.std.proofs.lemmas.List.{take_all}
use Rattle.std.proofs.lemmas.List.Elements.{All-from_recursion, All-head, All-tail}
use Rattle.disk_model.specs.Disk.{Image, At, Torn, Leaves, Quiet, OthersKept}
use Rattle.disk_model.proofs.Moments.{IsSinceEarlier, leaves_then, leaves_wider}
use Rattle.batch_log.specs.Records.{SameLog, log}
use Rattle.batch_log.specs.OpenLog.{places_of}
use Rattle.batch_log.specs.Reading.{ReadAtMost}
use Rattle.batch_log.specs.declared.places.Place.{Place}
use Rattle.block_store.specs.declared.payload_kind.PayloadKind.TheVariants.{Headers, Bodies}
use Rattle.block_store.specs.Opening.{InBoth, payloads_in, right_lengths, stored_payloads}
use Rattle.block_store.specs.Reading.{ReadBoth}

abbrev IsStill : (List ℕ → List ℕ → Type 0) → Type 0
IsStill Step = (bytes : List ℕ) → Step bytes bytes

pub same_still : IsStill SameLog
same_still bytes = refl

pub torn_still : IsStill (Torn 0 1)
torn_still bytes =
    let none : min 0 (length bytes) ≡ 0 = omega arith in
    record {
      before = ap (λ (n : ℕ). take n bytes) none;
      after = ap (drop 1) (take_all (length bytes) bytes (omega arith));
      no_shorter = omega arith;
      no_longer = omega arith;
    }

headers_step : (Step : List ℕ → List ℕ → Type 0) → IsStill Step → (a b : Image) → At 1 Step a b → InBoth Step a b
headers_step Step still a b s = record {
  headers = s.here;
  bodies = subst (Step (a 2)) (sym (s.others 2 (λ e. cc))) (still (a 2));
  others = λ f one two. s.others f one;
}

bodies_step : (Step : List ℕ → List ℕ → Type 0) → IsStill Step → (a b : Image) → At 2 Step a b → InBoth Step a b
bodies_step Step still a b s = record {
  headers = subst (Step (a 1)) (sym (s.others 1 (λ e. cc))) (still (a 1));
  bodies = s.here;
  others = λ f one two. s.others f two;
}

both_steps : (Step : List ℕ → List ℕ → Type 0) (a b c : Image) → At 1 Step a b → At 2 Step b c → InBoth Step a c
both_steps Step a b c s t = record {
  headers = subst (Step (a 1)) (sym (t.others 1 (λ e. cc))) s.here;
  bodies = subst (λ (bytes : List ℕ). Step bytes (c 2)) (s.others 2 (λ e. cc)) t.here;
  others = λ f one two. t.others f two ∙ s.others f one;
}

module _ {D : Type 0} (time : D → ℕ) (left : D → ℕ → Image → Type 0) where
  -- the headers' file alone
  pub one_file : (Step : List ℕ → List ℕ → Type 0) → IsStill Step → (old new : D) → Leaves time left (At 1 Step) old new → Leaves time left (InBoth Step) old new
  one_file Step still old new l = leaves_wider time left (At 1 Step) (InBoth Step) old new (headers_step Step still) l

  -- both files
  pub two_files : IsSinceEarlier time left → (Step : List ℕ → List ℕ → Type 0) → IsStill Step → (old mid new : D) → Leaves time left (At 1 Step) old mid → Leaves time left (At 2 Step) mid new → Leaves time left (InBoth Step) old new
  two_files earlier Step still old mid new a b = leaves_then time left earlier (At 1 Step) (At 2 Step) (InBoth Step) old mid new (headers_step Step still) (bodies_step Step still) (both_steps Step) a b

  -- and then calls that change nothing
  pub then_quiet : (Step : Image → Image → Type 0) (old mid new : D) → Leaves time left Step old mid → Quiet time left mid new → Leaves time left Step old new
  then_quiet Step old mid new l q =
      let began = l.later in
      let took = q.later in
      record { later = omega arith; since = λ t c le here. l.since t c le (q.since t c (omega arith) here) }

-- what is told once the headers' file was opened
pub told_then : (old mid : Option Image) (m : Image) → OthersKept 1 old mid → old ≡ Some m → (n : Image) × (mid ≡ Some n) × (n 2 ≡ m 2)
told_then None None m kept is = absurd (cc)
told_then None (Some n) m kept is = absurd kept
told_then (Some l) None m kept is = absurd kept
told_then (Some l) (Some n) m kept is =
    let same : l ≡ m = cc in
    (n, refl, kept 2 (λ e. cc) ∙ ap (λ (i : Image). i 2) same)

-- what the other file stands for is that of the contents before
pub bodies_found : (m n : Image) → n 2 ≡ m 2 → payloads_in Bodies n ≡ payloads_in Bodies m
bodies_found m n same = ap (λ (bytes : List ℕ). right_lengths Bodies (log bytes)) same

pub both_found : (m : Image) (headers bodies : List (List ℕ)) → payloads_in Headers m ≡ Ok headers → payloads_in Bodies m ≡ Ok bodies → stored_payloads m ≡ Ok (record { headers = headers; bodies = bodies })
both_found m headers bodies h b = rw (h, b) refl

each_length : (test : ℕ → Bool) (at : ℕ) (payloads : List (List ℕ)) → All (λ (p : Place). IsTrue (test p.len)) (places_of at payloads) → AllByRecursion (λ (p : List ℕ). IsTrue (test (length p))) payloads
each_length test at [] all = tt
each_length test at (p ∷ payloads) all =
    let first : Place = record { at = at; len = length p } in (
      All-head (λ (q : Place). IsTrue (test q.len)) first (places_of (at + (5 + length p)) payloads) all,
      each_length test (at + (5 + length p)) payloads (All-tail (λ (q : Place). IsTrue (test q.len)) first (places_of (at + (5 + length p)) payloads) all),
    )

-- the lengths of the payloads are those of their places
pub lengths_of : (test : ℕ → Bool) (places : List Place) (payloads : List (List ℕ)) → places ≡ places_of 0 payloads → All (λ (p : Place). IsTrue (test p.len)) places → All (λ (p : List ℕ). IsTrue (test (length p))) payloads
lengths_of test places payloads is all = All-from_recursion (λ (p : List ℕ). IsTrue (test (length p))) payloads
    (each_length test 0 payloads (subst (All (λ (p : Place). IsTrue (test p.len))) is all))

-- what was read of one file, and then of the other
pub read_both : (a b : ℕ) (old mid new : Option (ℕ → ℕ)) → ReadAtMost 1 a old mid → ReadAtMost 2 b mid new → ReadBoth a b old new
read_both a b None None None r s = tt
read_both a b (Some before) (Some between) (Some now) r s =
    let one = s.1 1 (λ e. cc) in
    let two = r.1 2 (λ e. cc) in
    (omega (arith, r.0, one), omega (arith, s.0, two), λ f apart other. s.1 f other ∙ r.1 f apart)
read_both a b None None (Some now) r s = s
read_both a b (Some before) (Some between) None r s = s
read_both a b None (Some between) new r s = absurd r
read_both a b (Some before) None new r s = absurd r

-- the headers' file alone was read
pub read_first : (a b : ℕ) (old new : Option (ℕ → ℕ)) → ReadAtMost 1 a old new → ReadBoth a b old new
read_first a b None None r = tt
read_first a b (Some before) (Some now) r = (r.0, omega (arith, r.1 2 (λ e. cc)), λ f one two. r.1 f one)
read_first a b None (Some now) r = r
read_first a b (Some before) None r = r

pub read_more : (a b c d : ℕ) (old new : Option (ℕ → ℕ)) → a ≤ c → b ≤ d → ReadBoth a b old new → ReadBoth c d old new
read_more a b c d None None h k r = tt
read_more a b c d (Some before) (Some now) h k r = (omega (arith, r.0), omega (arith, r.1), r.2)
read_more a b c d None (Some now) h k r = r
read_more a b c d (Some before) None h k r = r

pub given_err : {T E P : Type 0} (r : Result T E) → P → OnErr r P
given_err (Ok x) p = tt
given_err (Err e) p = p
