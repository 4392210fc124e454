-- What was read of bytes is read of more bytes, and so is a fault that isn't that they end.
use Rattle.std.specs.Prelude.{◌≡◌, ℕ, ◌+◌, ◌-◌, ◌*◌, ◌^◌, ◌≤◌, Bool, true, false, List, [], ◌∷◌, ◌++◌, length, Result, Ok, Err, refl}
use Rattle.std.proofs.Common.{ltb, eqb, ap, arith, inl, inr}
use Rattle.std.specs.Int.{Width, w16, w32, w64, byte_len}
use Rattle.std.proofs.lemmas.Bool.{cases_Bool, both_ways, ltb-false, le-ltb}
use Rattle.std.proofs.lemmas.List.{take-append-le, drop-append-le, length-append}
use Rattle.base_types.specs.Reading.{Input, place, ◌>>=◌, bytes_at, number_at, long_at, compact_at, length_at, groups_at, varint_at}
use Rattle.base_types.specs.Codec.{Reader, at, field, renamed}
use Rattle.base_types.specs.declared.cursor.ReadError.{ReadError}
use Rattle.base_types.specs.declared.cursor.ReadError.TheVariants.{Short, LongSpelling, TooLarge}

-- more bytes behind
abbrev pub more : List ℕ → Input → Input
more ys i = at (i.end + length ys) (i.rest ++ ys)

pub place-more : (ys : List ℕ) (i : Input) → place (more ys i) ≡ place i
place-more ys i = omega (arith, length-append i.rest ys)

-- the same of more bytes, if it was read or the fault is one that stays
abbrev pub Grows : {E X : Type 0} → (E → Bool) → List ℕ → Result (X × Input) E → Result (X × Input) E → Type 0
Grows stays ys (Ok p) r = r ≡ Ok (p.0, more ys p.1)
Grows stays ys (Err e) r = stays e ≡ true → r ≡ Err e

abbrev pub ReaderGrows : {E X : Type 0} → (E → Bool) → Reader E X → Type 0
ReaderGrows stays read = (ys : List ℕ) (i : Input) → Grows stays ys (read i) (read (more ys i))

pub grows_then : {E A B : Type 0} (stays : E → Bool) (ys : List ℕ) (r s : Result (A × Input) E) (f g : A × Input → Result (B × Input) E) → Grows stays ys r s → ((x : A) (j : Input) → Grows stays ys (f (x, j)) (g (x, more ys j))) → Grows stays ys (r >>= f) (s >>= g)
grows_then stays ys (Ok p) s f g e next = rw e (next p.0 p.1)
grows_then stays ys (Err d) s f g e next = λ t. rw (e t) refl

-- ---- fields

abbrev pub ListGrows : {X : Type 0} → List ℕ → Result (X × List ℕ) ReadError → Result (X × List ℕ) ReadError → Type 0
ListGrows ys (Ok p) r = r ≡ Ok (p.0, p.1 ++ ys)
ListGrows ys (Err Short) r = Unit {0}
ListGrows ys (Err LongSpelling) r = r ≡ Err LongSpelling
ListGrows ys (Err TooLarge) r = r ≡ Err TooLarge

abbrev pub FieldGrows : {X : Type 0} → (List ℕ → Result (X × List ℕ) ReadError) → Type 0
FieldGrows read = (bytes ys : List ℕ) → ListGrows ys (read bytes) (read (bytes ++ ys))

list_grows_then : {A B : Type 0} (ys : List ℕ) (r s : Result (A × List ℕ) ReadError) (f g : A × List ℕ → Result (B × List ℕ) ReadError) → ListGrows ys r s → ((x : A) (rest : List ℕ) → ListGrows ys (f (x, rest)) (g (x, rest ++ ys))) → ListGrows ys (r >>= f) (s >>= g)
list_grows_then ys (Ok p) s f g e next = rw e (next p.0 p.1)
list_grows_then ys (Err Short) s f g e next = tt
list_grows_then ys (Err LongSpelling) s f g e next = rw e refl
list_grows_then ys (Err TooLarge) s f g e next = rw e refl

groups_grows : (above : ℕ) → FieldGrows (groups_at above)
unfolding groups_at
groups_grows above [] ys = tt
groups_grows above (first ∷ bytes) ys =
    let next = 128 * above + first - 127 in
    elim (cases_Bool (ltb first 128)) [
      | inl t ↦ rw t refl
      | inr f ↦ rw f (elim (cases_Bool (ltb (2 ^ 57 - 1) next)) [
        | inl over ↦ rw over refl
        | inr fits ↦ rw fits (groups_grows next bytes ys)
      ])
    ]

pub varint_grows : FieldGrows varint_at
varint_grows = groups_grows 0

pub bytes_grows : (n : ℕ) → FieldGrows (bytes_at n)
bytes_grows n bytes ys = elim (cases_Bool (ltb (length bytes) n)) [
  | inl t ↦ rw t tt
  | inr f ↦
      let long : n ≤ length bytes = ltb-false _ _ f in
      let longer : ltb (length (bytes ++ ys)) n ≡ false = le-ltb _ _ (omega (arith, length-append bytes ys)) in
      rw (f, longer, take-append-le n bytes ys long, drop-append-le n bytes ys long) refl
]

pub number_grows : (w : Width) → FieldGrows (number_at w)
number_grows w bytes ys = elim (cases_Bool (ltb (length bytes) (byte_len w))) [
  | inl t ↦ rw t tt
  | inr f ↦
      let long : byte_len w ≤ length bytes = ltb-false _ _ f in
      let longer : ltb (length (bytes ++ ys)) (byte_len w) ≡ false = le-ltb _ _ (omega (arith, length-append bytes ys)) in
      rw (f, longer, take-append-le (byte_len w) bytes ys long, drop-append-le (byte_len w) bytes ys long) refl
]

long_grows : (w : Width) (least : ℕ) → FieldGrows (long_at w least)
long_grows w least bytes ys = list_grows_then ys (number_at w bytes) (number_at w (bytes ++ ys)) _ _ (number_grows w bytes ys) (λ n rest. elim (cases_Bool (ltb n least)) [
  | inl t ↦ rw t refl
  | inr f ↦ rw f refl
])

pub compact_grows : FieldGrows compact_at
unfolding compact_at
compact_grows [] ys = tt
compact_grows (first ∷ bytes) ys = elim (cases_Bool (eqb first 253)) [
  | inl t ↦ rw t (long_grows w16 253 bytes ys)
  | inr f ↦ rw f (elim (cases_Bool (eqb first 254)) [
    | inl t ↦ rw t (long_grows w32 (2 ^ 16) bytes ys)
    | inr f ↦ rw f (elim (cases_Bool (eqb first 255)) [
      | inl t ↦ rw t (long_grows w64 (2 ^ 32) bytes ys)
      | inr f ↦ rw f refl
    ])
  ])
]

pub length_grows : FieldGrows length_at
unfolding length_at
length_grows bytes ys = list_grows_then ys (compact_at bytes) (compact_at (bytes ++ ys)) _ _ (compact_grows bytes ys) (λ n rest. elim (cases_Bool (ltb 33554432 n)) [
  | inl t ↦ rw t refl
  | inr f ↦ rw f refl
])

-- the name of a fault that stays is the same where more bytes follow
pub record IsSteady {E : Type 0} (stays : E → Bool) (name : Input → ReadError → E) : Type 0 where
  pub short : (i : Input) → stays (name i Short) ≡ false
  pub long : (ys : List ℕ) (i : Input) → stays (name i LongSpelling) ≡ true → name (more ys i) LongSpelling ≡ name i LongSpelling
  pub large : (ys : List ℕ) (i : Input) → stays (name i TooLarge) ≡ true → name (more ys i) TooLarge ≡ name i TooLarge

pub field_grows : {E X : Type 0} (stays : E → Bool) (name : Input → ReadError → E) (read : List ℕ → Result (X × List ℕ) ReadError) → IsSteady stays name → FieldGrows read → ReaderGrows stays (field name read)
field_grows {E} {X} stays name read steady grows ys i = go (read i.rest) (read (i.rest ++ ys)) (grows i.rest ys) where
  go : (r s : Result (X × List ℕ) ReadError) → ListGrows ys r s → Grows stays ys (renamed {X = X × Input} (name i) (r >>= λ x. Ok (x.0, at i.end x.1))) (renamed {X = X × Input} (name (more ys i)) (s >>= λ x. Ok (x.0, at (i.end + length ys) x.1)))
  go (Ok p) s e = rw e refl
  go (Err Short) s e = λ t. absurd (both_ways (stays (name i Short)) (steady.short i) t)
  go (Err LongSpelling) s e = λ t. rw e (ap (λ (d : E). Err d) (steady.long ys i t))
  go (Err TooLarge) s e = λ t. rw e (ap (λ (d : E). Err d) (steady.large ys i t))
