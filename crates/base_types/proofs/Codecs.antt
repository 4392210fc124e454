-- What a reader and a text owe each other: what is read is so spelled, and what is so spelled is read, whatever follows.
use Rattle.std.specs.Prelude.{◌≡◌, ◌⊎◌, ℕ, zero, suc, ◌+◌, Bool, true, false, List, [], ◌∷◌, ◌++◌, length, take, drop, get_or, Result, Ok, Err, refl}
use Rattle.std.proofs.Common.{Fits, w8, cond, sym, ap, subst, ◌∙◌, append_assoc, arith, inl, inr}
use Rattle.std.specs.List.{flat_map, AllByRecursion}
use Rattle.std.proofs.lemmas.Bool.{cases_lt}
use Rattle.std.proofs.lemmas.List.{length-take, get_or-drop, get_or-take, get_or_past}
use Rattle.std.proofs.lemmas.List.Concat.{flat_map-cons}
use Rattle.base_types.specs.declared.cursor.ReadError.{ReadError}
use Rattle.base_types.specs.Codec.{IsBytes, Reader, renamed, field, many_at, at}
use Rattle.base_types.specs.Reading.{Input, ◌>>=◌, Spelled}

-- the members of a slice of bytes, of which the language says this
pub IsBytes-slice : (bytes : List ℕ) → ((i : ℕ) → Fits w8 (get_or bytes i 0)) → IsBytes bytes
IsBytes-slice bytes h i = omega (arith, h i)

pub IsBytes-drop : (n : ℕ) (bytes : List ℕ) → IsBytes bytes → IsBytes (drop n bytes)
IsBytes-drop n bytes h i = rw get_or-drop (h (n + i))

pub IsBytes-take : (n : ℕ) (bytes : List ℕ) → IsBytes bytes → IsBytes (take n bytes)
IsBytes-take n bytes h i =
    elim (cases_lt i n) [
      | inl lt ↦ rw (get_or-take n bytes i 0 lt) (h i)
      | inr le ↦ rw (get_or_past (take n bytes) i 0 (omega (arith, length-take n bytes))) (omega arith)
    ]

pub IsBytes-rest : (b : ℕ) (bytes : List ℕ) → IsBytes (b ∷ bytes) → IsBytes bytes
IsBytes-rest b bytes h i = h (suc i)

-- ---- steps of a reader

-- the value of a step that did not fail
pub bind_ok : {A B E : Type 0} (r : Result A E) (f : A → Result B E) (y : B) → (r >>= f) ≡ Ok y → (x : A) × (r ≡ Ok x) × (f x ≡ Ok y)
bind_ok (Ok x) f y e = (x, refl, e)
bind_ok (Err d) f y e = absurd cc

-- a test that did not fail
pub guard_ok : {A E : Type 0} (b : Bool) (d : E) (x y : A) → cond b (Err d) (Ok x) ≡ Ok y → (b ≡ false) × (x ≡ y)
guard_ok true d x y e = absurd cc
guard_ok false d x y e = (refl, cc)

-- the same, where the fault stands second
pub guard_else : {A E : Type 0} (b : Bool) (d : E) (x y : A) → cond b (Ok x) (Err d) ≡ Ok y → (b ≡ true) × (x ≡ y)
guard_else true d x y e = (refl, cc)
guard_else false d x y e = absurd cc

abbrev done : {A E : Type 0} → A → Result A E
done x = Ok x

pub ok_is : {A E : Type 0} (x y : A) → done {E = E} x ≡ done y → x ≡ y
ok_is x y e = cc

-- which way a test went
pub chosen : {A : Type 0} (b : Bool) (x y z : A) → cond b x y ≡ z → ((b ≡ true) × (x ≡ z)) ⊎ ((b ≡ false) × (y ≡ z))
chosen true x y z e = inl (refl, e)
chosen false x y z e = inr (refl, e)

-- ---- fields of lists

-- what a reader took from the front
pub record Takes (bytes text rest : List ℕ) : Type 0 where
  pub parts : bytes ≡ text ++ rest
  pub rest_fits : IsBytes rest

pub Takes-then : (a x b y c : List ℕ) → Takes a x b → Takes b y c → Takes a (x ++ y) c
Takes-then a x b y c p q = record { parts = p.parts ∙ ap (λ (t : List ℕ). x ++ t) q.parts ∙ sym (append_assoc x y c); rest_fits = q.rest_fits }

-- what a field's reader and its text owe each other
pub record IsField {X : Type 0} (read : List ℕ → Result (X × List ℕ) ReadError) (text : X → List ℕ) (Fits : X → Type 0) : Type 0 where
  pub takes : (bytes : List ℕ) (x : X) (rest : List ℕ) → IsBytes bytes → read bytes ≡ Ok (x, rest) → Takes bytes (text x) rest × Fits x
  pub again : (x : X) (rest : List ℕ) → Fits x → read (text x ++ rest) ≡ Ok (x, rest)

pub spelled : {X : Type 0} {read : List ℕ → Result (X × List ℕ) ReadError} {text : X → List ℕ} {Fits : X → Type 0} → IsField read text Fits → (bytes : List ℕ) → IsBytes bytes → Spelled text Fits bytes (read bytes)
spelled {read = read} {text = text} law bytes fits = record {
  found = λ x rest e. let t = law.takes bytes x rest fits e in (t.0.parts, t.1);
  only = λ x rest fit e. ap read e ∙ law.again x rest fit;
}

-- ---- readers over a cursor, with faults of any type

-- what a reader over a cursor and a text owe each other
pub record IsCodec {E X : Type 0} (read : Reader E X) (text : X → List ℕ) (Fits : X → Type 0) : Type 0 where
  pub takes : (i : Input) (x : X) (j : Input) → IsBytes i.rest → read i ≡ Ok (x, j) → Takes i.rest (text x) j.rest × Fits x
  pub again : (x : X) (end : ℕ) (rest : List ℕ) → Fits x → read (at end (text x ++ rest)) ≡ Ok (x, at end rest)

field_ok : {E X : Type 0} (name : ReadError → E) (end : ℕ) (r : Result (X × List ℕ) ReadError) (x : X) (j : Input) → renamed {X = X × Input} name (r >>= λ y. Ok (y.0, at end y.1)) ≡ Ok (x, j) → r ≡ Ok (x, j.rest)
field_ok {E} {X} name end (Ok y) x j e = ap (λ (p : X × Input). Ok (p.0, p.1.rest)) (ok_is {E = E} (y.0, at end y.1) (x, j) e)
field_ok name end (Err d) x j e = absurd cc

pub field_codec : {E X : Type 0} (name : Input → ReadError → E) (read : List ℕ → Result (X × List ℕ) ReadError) (text : X → List ℕ) (Fits : X → Type 0) → IsField read text Fits → IsCodec (field name read) text Fits
field_codec name read text Fits law = record {
  takes = λ i x j fits e. law.takes i.rest x j.rest fits (field_ok (name i) i.end (read i.rest) x j e);
  again = λ x end rest fits. rw (law.again x rest fits) refl;
}

-- a reader that did not fail, and what follows it
pub record Step {E A B : Type 0} (text : A → List ℕ) (Fits : A → Type 0) (bytes : List ℕ) (f : A × Input → Result B E) (y : B) : Type 0 where
  pub value : A
  pub after : Input
  pub takes : Takes bytes (text value) after.rest
  pub fits : Fits value
  pub goes_on : f (value, after) ≡ Ok y

pub step : {E A B : Type 0} {read : Reader E A} {text : A → List ℕ} {Fits : A → Type 0} → IsCodec read text Fits → (i : Input) (f : A × Input → Result B E) (y : B) → IsBytes i.rest → (read i >>= f) ≡ Ok y → Step text Fits i.rest f y
step {read = read} law i f y fits e =
    let b = bind_ok (read i) f y e in
    let t = law.takes i b.0.0 b.0.1 fits b.1 in
    record { value = b.0.0; after = b.0.1; takes = t.0; fits = t.1; goes_on = b.2 }

-- ---- so many

module _ {E X : Type 0} {read : Reader E X} {text : X → List ℕ} {Fits : X → Type 0} (law : IsCodec read text Fits) where
  many_takes : (n : ℕ) (i : Input) (xs : List X) (j : Input) → IsBytes i.rest → many_at read n i ≡ Ok (xs, j) → Takes i.rest (flat_map text xs) j.rest × (length xs ≡ n) × AllByRecursion Fits xs
  unfolding many_at
  many_takes zero i xs j fits e =
      let p = ok_is {E = E} ([], i) (xs, j) e in
      subst (λ (y : List X × Input). Takes i.rest (flat_map text y.0) y.1.rest × (length y.0 ≡ 0) × AllByRecursion Fits y.0) p (record { parts = refl; rest_fits = fits }, refl, tt)
  many_takes (suc n) i xs j fits e =
      let a = step law i (λ first. many_at read n first.1 >>= λ others. Ok (first.0 ∷ others.0, others.1)) (xs, j) fits e in
      let b = bind_ok (many_at read n a.after) (λ others. Ok (a.value ∷ others.0, others.1)) (xs, j) a.goes_on in
      let others = many_takes n a.after b.0.0 b.0.1 a.takes.rest_fits b.1 in
      let both = Takes-then i.rest (text a.value) a.after.rest (flat_map text b.0.0) b.0.1.rest a.takes others.0 in
      let made : List X × Input = (a.value ∷ b.0.0, b.0.1) in
      subst (λ (y : List X × Input). Takes i.rest (flat_map text y.0) y.1.rest × (length y.0 ≡ suc n) × AllByRecursion Fits y.0) (ok_is {E = E} made (xs, j) b.2) (rw flat_map-cons both, ap suc others.1, (a.fits, others.2))

  many_again : (xs : List X) (end : ℕ) (rest : List ℕ) → AllByRecursion Fits xs → many_at read (length xs) (at end (flat_map text xs ++ rest)) ≡ Ok (xs, at end rest)
  unfolding many_at
  many_again [] end rest fits = refl
  many_again (x ∷ xs) end rest fits =
      let regrouped : flat_map text (x ∷ xs) ++ rest ≡ text x ++ (flat_map text xs ++ rest) = ap (λ (y : List ℕ). y ++ rest) (flat_map-cons text x xs) ∙ append_assoc (text x) (flat_map text xs) rest in
      ap (λ (y : List ℕ). many_at read (suc (length xs)) (at end y)) regrouped ∙ rw (law.again x end (flat_map text xs ++ rest) fits.0, many_again xs end rest fits.1) refl

-- as many as the number says, each of which fits
pub record Counted {X : Type 0} (Fits : X → Type 0) (n : ℕ) (xs : List X) : Type 0 where
  pub len : length xs ≡ n
  pub each : AllByRecursion Fits xs

pub many_codec : {E X : Type 0} {read : Reader E X} {text : X → List ℕ} {Fits : X → Type 0} → IsCodec read text Fits → (n : ℕ) → IsCodec (many_at read n) (flat_map text) (Counted Fits n)
many_codec {E} {X} {read} {text} {Fits} law n = record {
  takes = λ i xs j fits e.
      let t = many_takes law n i xs j fits e in
      (t.0, record { len = t.1; each = t.2 });
  again = λ xs end rest fits. subst (λ (k : ℕ). many_at read k (at end (flat_map text xs ++ rest)) ≡ Ok (xs, at end rest)) fits.len (many_again law xs end rest fits.each);
}
