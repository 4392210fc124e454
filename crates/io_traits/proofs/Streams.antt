-- What reads and writes, one after another, do to the bytes that a source has left and a sink was given.
use Rattle.std.specs.Prelude.{◌≡◌, ℕ, zero, suc, ◌+◌, List, [], ◌∷◌, ◌++◌, length, take, Option, Some, None, IfSome}
use Rattle.std.specs.Io.KnownBytes.{Appends, Consumes, Keeps, IsAtEnd}
use Rattle.std.proofs.Common.{refl, sym, ap, subst, ◌∙◌, append_assoc, append-nil}
use Rattle.std.proofs.Math.Seq.{take-length, take-append-add}
use Rattle.io_traits.specs.Streams.{AppendsPart}

pub Appends-nothing : (a : Option (List ℕ)) → Appends a a []
Appends-nothing None = tt
Appends-nothing (Some x) = sym (append-nil x)

-- two writes
pub Appends-then : (a b c : Option (List ℕ)) (bs cs : List ℕ) → Appends a b bs → Appends b c cs → Appends a c (bs ++ cs)
Appends-then None b c bs cs first second = tt
Appends-then (Some x) None c bs cs first second = absurd first
Appends-then (Some x) (Some y) None bs cs first second = absurd second
Appends-then (Some x) (Some y) (Some z) bs cs first second = second ∙ ap (λ l. l ++ cs) first ∙ append_assoc x bs cs

-- a sink that told its bytes tells them still
pub Appends-told : (x : List ℕ) (b : Option (List ℕ)) (bs : List ℕ) → Appends (Some x) b bs → b ≡ Some (x ++ bs)
Appends-told x None bs given = absurd given
Appends-told x (Some y) bs given = ap Some given

pub AppendsPart-nothing : (a : Option (List ℕ)) (bs : List ℕ) → AppendsPart a a bs
AppendsPart-nothing a bs = (0, Appends-nothing a)

pub AppendsPart-whole : (a b : Option (List ℕ)) (bs : List ℕ) → Appends a b bs → AppendsPart a b bs
AppendsPart-whole a b bs whole = (length bs, subst (Appends a b) (sym (take-length bs)) whole)

-- a write that fails after one that didn't
pub AppendsPart-after : (a b c : Option (List ℕ)) (bs cs : List ℕ) → Appends a b bs → AppendsPart b c cs → AppendsPart a c (bs ++ cs)
AppendsPart-after a b c bs cs whole part =
    (length bs + part.0, subst (Appends a c) (sym (take-append-add bs cs part.0)) (Appends-then a b c bs (take part.0 cs) whole part.1))

take_of_take : (n : ℕ) (bs cs : List ℕ) → (m : ℕ) × (take m (bs ++ cs) ≡ take n bs)
take_of_take zero bs cs = (0, refl)
take_of_take (suc n) [] cs = (0, refl)
take_of_take (suc n) (x ∷ bs) cs = let rest = take_of_take n bs cs in (suc rest.0, ap (λ l. x ∷ l) rest.1)

-- a part of the first piece is a part of the whole
pub AppendsPart-within : (a b : Option (List ℕ)) (bs cs : List ℕ) → AppendsPart a b bs → AppendsPart a b (bs ++ cs)
AppendsPart-within a b bs cs part =
    let front = take_of_take part.0 bs cs in
    (front.0, subst (Appends a b) (sym front.1) part.1)

pub AppendsPart-told : (x : List ℕ) (b : Option (List ℕ)) (bs : List ℕ) → AppendsPart (Some x) b bs → (n : ℕ) × (b ≡ Some (x ++ take n bs))
AppendsPart-told x b bs part = (part.0, Appends-told x b (take part.0 bs) part.1)

pub Consumes-nothing : (a : Option (List ℕ)) → Consumes a a []
Consumes-nothing None = tt
Consumes-nothing (Some x) = refl

-- two reads
pub Consumes-then : (a b c : Option (List ℕ)) (bs cs : List ℕ) → Consumes a b bs → Consumes b c cs → Consumes a c (bs ++ cs)
Consumes-then None b c bs cs first second = tt
Consumes-then (Some x) None c bs cs first second = absurd first
Consumes-then (Some x) (Some y) None bs cs first second = absurd second
Consumes-then (Some x) (Some y) (Some z) bs cs first second = first ∙ ap (λ l. bs ++ l) second ∙ sym (append_assoc bs cs z)

-- a read that fails
pub Consumes-kept : (a b c : Option (List ℕ)) (bs : List ℕ) → Consumes a b bs → Keeps b c → Consumes a c bs
Consumes-kept None b c bs taken kept = tt
Consumes-kept (Some x) None c bs taken kept = absurd taken
Consumes-kept (Some x) (Some y) None bs taken kept = absurd kept
Consumes-kept (Some x) (Some y) (Some z) bs taken kept = taken ∙ ap (λ l. bs ++ l) (sym kept)

-- a source that is at its end gave all that it had
pub Consumes-all : (a b : Option (List ℕ)) (bs : List ℕ) → Consumes a b bs → IsAtEnd b → IfSome a (λ x. x ≡ bs)
Consumes-all None b bs taken end = tt
Consumes-all (Some x) None bs taken end = absurd taken
Consumes-all (Some x) (Some y) bs taken end = taken ∙ ap (λ l. bs ++ l) end ∙ append-nil bs

-- a source that told its bytes tells them still
pub Consumes-told : (x : List ℕ) (b : Option (List ℕ)) (bs : List ℕ) → Consumes (Some x) b bs → (rest : List ℕ) × (b ≡ Some rest) × (x ≡ bs ++ rest)
Consumes-told x None bs taken = absurd taken
Consumes-told x (Some y) bs taken = (y, refl, taken)
