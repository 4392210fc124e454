-- What is damaged where the two files can't be opened, for the crates above.
use Rattle.std.proofs.Common.{◌≡◌, ◌⊎◌, inl, inr, ⊎_elim, ℕ, zero, suc, Bool, true, false, not, List, [], ◌∷◌, length, Option, Some, None, Ok, Err, refl, sym, ap, subst, ◌∙◌, cond}
use Rattle.std.specs.Prelude.{slice_get, find, Result, nat_le}
use Rattle.disk_model.specs.Disk.{Image}
use Rattle.base_types.specs.Views.{BrokenPlace}
use Rattle.batch_log.specs.OpenLog.{places_of}
use Rattle.batch_log.specs.Records.{log}
use Rattle.batch_log.specs.declared.places.Place.{Place}
use Rattle.base_types.specs.Reading.{◌>>=◌}
use Rattle.block_store.specs.Headers.{is_headers_length}
use Rattle.block_store.specs.OpenStore.{Payloads}
use Rattle.block_store.specs.Opening.{file_of, first_wrong, has_length, payloads_in, right_lengths, stored_payloads, unless_wrong}
use Rattle.block_store.specs.declared.payload_kind.PayloadKind.{PayloadKind}
use Rattle.block_store.specs.declared.payload_kind.PayloadKind.TheVariants.{Headers, Bodies}
use Rattle.block_store.proofs.HashSteps.{found_at}

-- a payload of a wrong length, with the offset of its gate
pub record WrongRecord (right : ℕ → Bool) (payloads : List (List ℕ)) (at : ℕ) : Type 0 where
  pub n : ℕ
  pub payload : List ℕ
  pub place : Place
  pub here : slice_get payloads n ≡ Some payload
  pub there : slice_get (places_of 0 payloads) n ≡ Some place
  pub gate : place.at ≡ at
  pub wrong : right (length payload) ≡ false

-- the log is damaged at that gate, or a payload of a wrong length begins there
abbrev pub IsDamagedFile : ℕ → (ℕ → Bool) → Image → BrokenPlace → Type 0
IsDamagedFile file right image place =
    (place.file ≡ file) × ((log (image file) ≡ Err place.at) ⊎ ((payloads : List (List ℕ)) × (log (image file) ≡ Ok payloads) × WrongRecord right payloads place.at))

record Found {A : Type 0} (test : A → Bool) (xs : List A) (x : A) : Type 0 where
  pub n : ℕ
  pub there : slice_get xs n ≡ Some x
  pub passes : test x ≡ true

found : {A : Type 0} (test : A → Bool) (xs : List A) (x : A) → find test xs ≡ Some x → Found test xs x
found test [] x e = absurd cc
found {A} test (y ∷ xs) x e = go (λ rest. found test xs x rest) (test y) refl e
  where
    go : (find test xs ≡ Some x → Found test xs x) → (b : Bool) → test y ≡ b → cond b (Some y) (find test xs) ≡ Some x → Found test (y ∷ xs) x
    go further true is e = let same : y ≡ x = cc in record { n = 0; there = e; passes = ap test (sym same) ∙ is }
    go further false is e = let rest = further e in record { n = suc rest.n; there = rest.there; passes = rest.passes }

not_true : (b : Bool) → not b ≡ true → b ≡ false
not_true true e = absurd cc
not_true false e = refl

wrong_record : (kind : PayloadKind) (payloads : List (List ℕ)) (place : Place) → first_wrong kind (places_of 0 payloads) ≡ Some place → WrongRecord (has_length kind) payloads place.at
wrong_record kind payloads place e =
    let f = found (λ p. not (has_length kind p.len)) (places_of 0 payloads) place e in
    let at = found_at (places_of 0 payloads) payloads f.n place refl f.there in
    record {
      n = f.n;
      payload = at.payload;
      place = place;
      here = at.here;
      there = f.there;
      gate = refl;
      wrong = ap (has_length kind) (sym at.long) ∙ not_true (has_length kind place.len) f.passes;
    }

file_damage : (kind : PayloadKind) (image : Image) (place : BrokenPlace) → payloads_in kind image ≡ Err place → IsDamagedFile (file_of kind) (has_length kind) image place
file_damage kind image place e = by_log (log (image (file_of kind))) refl e
  where
    by_wrong : (payloads : List (List ℕ)) → log (image (file_of kind)) ≡ Ok payloads → (o : Option Place) → first_wrong kind (places_of 0 payloads) ≡ o → unless_wrong kind o payloads ≡ Err place
        → IsDamagedFile (file_of kind) (has_length kind) image place
    by_wrong payloads is None none e = absurd cc
    by_wrong payloads is (Some p) there e =
        let same : record { file = file_of kind; at = p.at } ≡ place = cc in
        (sym (ap (λ (q : BrokenPlace). q.file) same), inr (payloads, is, subst (WrongRecord (has_length kind) payloads) (ap (λ (q : BrokenPlace). q.at) same) (wrong_record kind payloads p there)))

    by_log : (r : Result (List (List ℕ)) ℕ) → log (image (file_of kind)) ≡ r → right_lengths kind r ≡ Err place → IsDamagedFile (file_of kind) (has_length kind) image place
    by_log (Ok payloads) is e = by_wrong payloads is (first_wrong kind (places_of 0 payloads)) refl e
    by_log (Err gate) is e =
        let same : record { file = file_of kind; at = gate } ≡ place = cc in
        (sym (ap (λ (q : BrokenPlace). q.file) same), inl (is ∙ ap (λ (q : BrokenPlace). Err q.at) same))

abbrev joined : Result (List (List ℕ)) BrokenPlace → Result (List (List ℕ)) BrokenPlace → Result Payloads BrokenPlace
joined h b = do
  headers ← h
  bodies ← b
  Ok (record { headers = headers; bodies = bodies })

one_failed : (h b : Result (List (List ℕ)) BrokenPlace) (place : BrokenPlace) → joined h b ≡ Err place → (h ≡ Err place) ⊎ (b ≡ Err place)
one_failed (Err p) b place e = inl (let same : p ≡ place = cc in ap (λ (q : BrokenPlace). Err q) same)
one_failed (Ok headers) (Err p) place e = inr (let same : p ≡ place = cc in ap (λ (q : BrokenPlace). Err q) same)
one_failed (Ok headers) (Ok bodies) place e = absurd cc

-- the damage is of the file of headers, or of that of bodies
pub damaged_files : (image : Image) (place : BrokenPlace) → stored_payloads image ≡ Err place → IsDamagedFile 1 is_headers_length image place ⊎ IsDamagedFile 2 (nat_le 32) image place
damaged_files image place e = ⊎_elim (λ first. inl (file_damage Headers image place first)) (λ second. inr (file_damage Bodies image place second)) (one_failed (payloads_in Headers image) (payloads_in Bodies image) place e)
