-- The parts of a transaction: what is read has that text, and what has a text is read.
use Rattle.std.proofs.Common.{◌≡◌, ℕ, suc, ◌^◌, ◌<◌, true, false, eqb, List, [], ◌∷◌, ◌++◌, length, map, Ok, refl, sym, ap, subst, ◌∙◌, append_assoc, arith}
use Rattle.std.specs.Int.{w32, w64, cast_signed, cast_unsigned}
use Rattle.std.specs.Prelude.{ℤ}
use Rattle.std.proofs.Common.{Fits}
use Rattle.std.specs.Int.RustNames.{FitsSigned}
use Rattle.std.specs.List.{flat_map, AllByRecursion}
use Rattle.std.proofs.lemmas.Bool.{eqb-true}
use Rattle.std.proofs.lemmas.List.{nil_from_length}
use Rattle.std.proofs.lemmas.List.Concat.{flat_map-cons}
use Rattle.std.proofs.lemmas.Int.{of_z-to_z, to_z-of_z}
use Rattle.std.proofs.Math.Facts.{Fits-of_z, sfits_to_z}
use Rattle.base_types.specs.Reading.{Input, ◌>>=◌, bytes_at, number_at, length_at}
use Rattle.base_types.specs.Bytes.{compact, number_text}
use Rattle.base_types.specs.Codec.{IsBytes, at, field}
use Rattle.base_types.proofs.Codecs.{Takes, Takes-then, IsCodec, bind_ok, ok_is, step, field_codec, many_codec}
use Rattle.base_types.proofs.Fields.{wide32, wide64, number_field, bytes_field, length_field}
use Rattle.base_types.specs.declared.coin.TxOut.{TxOut}
use Rattle.block_codec.specs.declared.block.TxIn.{TxIn}
use Rattle.block_codec.specs.Reading.{Wrong, wrong, script_at, output_at, input_at, stack_at, stacks_at}
use Rattle.block_codec.specs.Text.{script_text, output_text, input_text, stack_text, with_stack, some_witness}
use Rattle.block_codec.specs.Fitting.{IsLength, ScriptFits, OutputFits, StackFits, SpendFits, InputFits}

pub u32_codec : IsCodec (field wrong (number_at w32)) (number_text w32) (λ n. n < 2 ^ 32)
u32_codec = field_codec _ _ _ _ (number_field w32 (2 ^ 32) wide32)

pub u64_codec : IsCodec (field wrong (number_at w64)) (number_text w64) (λ n. n < 2 ^ 64)
u64_codec = field_codec _ _ _ _ (number_field w64 (2 ^ 64) wide64)

pub length_codec : IsCodec (field wrong length_at) compact IsLength
length_codec = field_codec _ _ _ _ length_field

pub bytes_codec : (n : ℕ) → IsCodec (field wrong (bytes_at n)) (λ text. text) (λ text. length text ≡ n)
bytes_codec n = field_codec _ _ _ _ (bytes_field n)

pub script_takes : (i : Input) (x : List ℕ) (j : Input) → IsBytes i.rest → script_at i ≡ Ok (x, j) → Takes i.rest (script_text x) j.rest × ScriptFits x
unfolding script_at
script_takes i x j fits e =
    let a = step length_codec i _ (x, j) fits e in
    let b = (bytes_codec a.value).takes a.after x j a.takes.rest_fits a.goes_on in
    let both = Takes-then i.rest (compact a.value) a.after.rest x j.rest a.takes b.0 in
    (subst (λ (k : ℕ). Takes i.rest (compact k ++ x) j.rest) (sym b.1) both, subst IsLength (sym b.1) a.fits)

pub script_again : (x : List ℕ) (end : ℕ) (rest : List ℕ) → ScriptFits x → script_at (at end (script_text x ++ rest)) ≡ Ok (x, at end rest)
unfolding script_at
script_again x end rest fits =
    let regrouped : script_text x ++ rest ≡ compact (length x) ++ (x ++ rest) = append_assoc (compact (length x)) x rest in
    ap (λ (y : List ℕ). script_at (at end y)) regrouped ∙ rw (length_codec.again (length x) end (x ++ rest) fits, (bytes_codec (length x)).again x end rest refl) refl

pub script_codec : IsCodec script_at script_text ScriptFits
script_codec = record { takes = script_takes; again = script_again }

-- ---- an output

pub signed64 : (n : ℕ) → n < 2 ^ 64 → FitsSigned w64 (cast_signed w64 n)
signed64 n lt =
    let f : Fits w64 n = omega (arith, lt) in
    sfits_to_z {w = w64} f

pub bits64 : (z : ℤ) → FitsSigned w64 z → cast_unsigned w64 z < 2 ^ 64
bits64 z fits =
    let f : Fits w64 (cast_unsigned w64 z) = Fits-of_z fits in
    omega (arith, f)

pub output_takes : (i : Input) (x : TxOut) (j : Input) → IsBytes i.rest → output_at i ≡ Ok (x, j) → Takes i.rest (output_text x) j.rest × OutputFits x
unfolding output_at
output_takes i x j fits e =
    let a = step u64_codec i _ (x, j) fits e in
    let b = step script_codec a.after _ (x, j) a.takes.rest_fits a.goes_on in
    let both = Takes-then i.rest (number_text w64 a.value) a.after.rest (script_text b.value) b.after.rest a.takes b.takes in
    let made : TxOut × Input = (record { value = cast_signed w64 a.value; script = b.value }, b.after) in
    let bits : cast_unsigned w64 (cast_signed w64 a.value) ≡ a.value = of_z-to_z w64 a.value a.fits in
    let whole : Takes i.rest (output_text made.0) made.1.rest = subst (λ (k : ℕ). Takes i.rest (number_text w64 k ++ script_text b.value) b.after.rest) (sym bits) both in
    subst (λ (y : TxOut × Input). Takes i.rest (output_text y.0) y.1.rest × OutputFits y.0) (ok_is {E = Wrong} made (x, j) b.goes_on) (whole, record { value = signed64 a.value a.fits; script = b.fits })

pub output_again : (x : TxOut) (end : ℕ) (rest : List ℕ) → OutputFits x → output_at (at end (output_text x ++ rest)) ≡ Ok (x, at end rest)
unfolding output_at
output_again x end rest fits =
    let regrouped : output_text x ++ rest ≡ number_text w64 (cast_unsigned w64 x.value) ++ (script_text x.script ++ rest) = append_assoc (number_text w64 (cast_unsigned w64 x.value)) (script_text x.script) rest in
    ap (λ (y : List ℕ). output_at (at end y)) regrouped ∙ rw (u64_codec.again (cast_unsigned w64 x.value) end (script_text x.script ++ rest) (bits64 x.value fits.value), script_codec.again x.script end rest fits.script) (ap (λ (v : ℤ). Ok (record { value = v; script = x.script }, at end rest)) (to_z-of_z w64 x.value fits.value))

pub output_codec : IsCodec output_at output_text OutputFits
output_codec = record { takes = output_takes; again = output_again }

-- ---- an input without its stack

pub record BareFits (i : TxIn) : Type 0 where
  pub spend : SpendFits i
  pub bare : i.stack ≡ []

pub input_takes : (i : Input) (x : TxIn) (j : Input) → IsBytes i.rest → input_at i ≡ Ok (x, j) → Takes i.rest (input_text x) j.rest × BareFits x
unfolding input_at
input_takes i x j fits e =
    let a = step (bytes_codec 32) i _ (x, j) fits e in
    let b = step u32_codec a.after _ (x, j) a.takes.rest_fits a.goes_on in
    let c = step script_codec b.after _ (x, j) b.takes.rest_fits b.goes_on in
    let d = step u32_codec c.after _ (x, j) c.takes.rest_fits c.goes_on in
    let ab = Takes-then i.rest a.value a.after.rest (number_text w32 b.value) b.after.rest a.takes b.takes in
    let abc = Takes-then i.rest (a.value ++ number_text w32 b.value) b.after.rest (script_text c.value) c.after.rest ab c.takes in
    let abcd = Takes-then i.rest (a.value ++ number_text w32 b.value ++ script_text c.value) c.after.rest (number_text w32 d.value) d.after.rest abc d.takes in
    let made : TxIn × Input = (record { prev = record { txid = record { bytes = a.value }; index = b.value }; script = c.value; sequence = d.value; stack = [] }, d.after) in
    subst (λ (y : TxIn × Input). Takes i.rest (input_text y.0) y.1.rest × BareFits y.0) (ok_is {E = Wrong} made (x, j) d.goes_on) (abcd, record { spend = record { txid = a.fits; index = b.fits; script = c.fits; sequence = d.fits }; bare = refl })

pub input_again : (x : TxIn) (end : ℕ) (rest : List ℕ) → BareFits x → input_at (at end (input_text x ++ rest)) ≡ Ok (x, at end rest)
unfolding input_at
input_again x end rest fits =
    let regrouped : input_text x ++ rest ≡ x.prev.txid.bytes ++ (number_text w32 x.prev.index ++ (script_text x.script ++ (number_text w32 x.sequence ++ rest))) = simp append_assoc in
    ap (λ (y : List ℕ). input_at (at end y)) regrouped ∙
    rw (
      (bytes_codec 32).again x.prev.txid.bytes end (number_text w32 x.prev.index ++ (script_text x.script ++ (number_text w32 x.sequence ++ rest))) fits.spend.txid,
      u32_codec.again x.prev.index end (script_text x.script ++ (number_text w32 x.sequence ++ rest)) fits.spend.index,
      script_codec.again x.script end (number_text w32 x.sequence ++ rest) fits.spend.script,
      u32_codec.again x.sequence end rest fits.spend.sequence,
    ) (ap (λ (s : List (List ℕ)). Ok (with_stack x s, at end rest)) (sym fits.bare))

pub input_codec : IsCodec input_at input_text BareFits
input_codec = record { takes = input_takes; again = input_again }

-- ---- stacks

pub stack_takes : (i : Input) (x : List (List ℕ)) (j : Input) → IsBytes i.rest → stack_at i ≡ Ok (x, j) → Takes i.rest (stack_text x) j.rest × StackFits x
unfolding stack_at
stack_takes i x j fits e =
    let a = step length_codec i _ (x, j) fits e in
    let b = (many_codec script_codec a.value).takes a.after x j a.takes.rest_fits a.goes_on in
    let both = Takes-then i.rest (compact a.value) a.after.rest (flat_map script_text x) j.rest a.takes b.0 in
    (subst (λ (k : ℕ). Takes i.rest (compact k ++ flat_map script_text x) j.rest) (sym b.1.len) both, record { count = subst IsLength (sym b.1.len) a.fits; items = b.1.each })

pub stack_again : (x : List (List ℕ)) (end : ℕ) (rest : List ℕ) → StackFits x → stack_at (at end (stack_text x ++ rest)) ≡ Ok (x, at end rest)
unfolding stack_at
stack_again x end rest fits =
    let regrouped : stack_text x ++ rest ≡ compact (length x) ++ (flat_map script_text x ++ rest) = append_assoc (compact (length x)) (flat_map script_text x) rest in
    ap (λ (y : List ℕ). stack_at (at end y)) regrouped ∙
    rw (length_codec.again (length x) end (flat_map script_text x ++ rest) fits.count, (many_codec script_codec (length x)).again x end rest (record { len = refl; each = fits.items })) refl

pub stack_codec : IsCodec stack_at stack_text StackFits
stack_codec = record { takes = stack_takes; again = stack_again }

-- an input without its stack
abbrev pub bare_of : TxIn → TxIn
bare_of i = with_stack i []

abbrev pub witness_text : TxIn → List ℕ
witness_text i = stack_text i.stack

abbrev pub WitnessFits : TxIn → Type 0
WitnessFits i = StackFits i.stack

-- inputs with stacks of their own
pub record StacksFit (inputs xs : List TxIn) : Type 0 where
  pub same : map bare_of xs ≡ map bare_of inputs
  pub each : AllByRecursion WitnessFits xs

pub stacks_takes : (inputs : List TxIn) (i : Input) (xs : List TxIn) (j : Input) → IsBytes i.rest → stacks_at inputs i ≡ Ok (xs, j) → Takes i.rest (flat_map witness_text xs) j.rest × StacksFit inputs xs
unfolding stacks_at
stacks_takes [] i xs j fits e =
    let p = ok_is {E = Wrong} ([], i) (xs, j) e in
    subst (λ (y : List TxIn × Input). Takes i.rest (flat_map witness_text y.0) y.1.rest × StacksFit [] y.0) p (record { parts = refl; rest_fits = fits }, record { same = refl; each = tt })
stacks_takes (input ∷ inputs) i xs j fits e =
    let a = step stack_codec i (λ stack. stacks_at inputs stack.1 >>= λ others. Ok (with_stack input stack.0 ∷ others.0, others.1)) (xs, j) fits e in
    let b = bind_ok (stacks_at inputs a.after) (λ others. Ok (with_stack input a.value ∷ others.0, others.1)) (xs, j) a.goes_on in
    let others = stacks_takes inputs a.after b.0.0 b.0.1 a.takes.rest_fits b.1 in
    let both = Takes-then i.rest (stack_text a.value) a.after.rest (flat_map witness_text b.0.0) b.0.1.rest a.takes others.0 in
    let made : List TxIn × Input = (with_stack input a.value ∷ b.0.0, b.0.1) in
    subst (λ (y : List TxIn × Input). Takes i.rest (flat_map witness_text y.0) y.1.rest × StacksFit (input ∷ inputs) y.0) (ok_is {E = Wrong} made (xs, j) b.2)
    (rw flat_map-cons both, record { same = ap (λ (ys : List TxIn). bare_of input ∷ ys) others.1.same; each = (a.fits, others.1.each) })

pub stacks_again : (inputs xs : List TxIn) (end : ℕ) (rest : List ℕ) → map bare_of xs ≡ map bare_of inputs → AllByRecursion WitnessFits xs → stacks_at inputs (at end (flat_map witness_text xs ++ rest)) ≡ Ok (xs, at end rest)
unfolding stacks_at
stacks_again [] [] end rest same fits = refl
stacks_again [] (x ∷ xs) end rest same fits = absurd cc
stacks_again (input ∷ inputs) [] end rest same fits = absurd cc
stacks_again (input ∷ inputs) (x ∷ xs) end rest same fits =
    let first : bare_of x ≡ bare_of input = cc in
    let others : map bare_of xs ≡ map bare_of inputs = cc in
    let regrouped : flat_map witness_text (x ∷ xs) ++ rest ≡ stack_text x.stack ++ (flat_map witness_text xs ++ rest) = ap (λ (y : List ℕ). y ++ rest) (flat_map-cons witness_text x xs) ∙ append_assoc (stack_text x.stack) (flat_map witness_text xs) rest in
    ap (λ (y : List ℕ). stacks_at (input ∷ inputs) (at end y)) regrouped ∙
    rw (stack_codec.again x.stack end (flat_map witness_text xs ++ rest) fits.0, stacks_again inputs xs end rest others fits.1)
    (ap (λ (i : TxIn). Ok (with_stack i x.stack ∷ xs, at end rest)) (sym first))

pub bare_twice : (xs : List TxIn) → map bare_of (map bare_of xs) ≡ map bare_of xs
bare_twice [] = refl
bare_twice (x ∷ xs) = ap (λ (ys : List TxIn). bare_of x ∷ ys) (bare_twice xs)

-- texts of inputs, whatever their stacks
pub same_texts : (xs : List TxIn) → flat_map input_text (map bare_of xs) ≡ flat_map input_text xs
same_texts [] = refl
same_texts (x ∷ xs) = ap (λ (t : List ℕ). input_text x ++ t) (same_texts xs)

pub same_length : (xs : List TxIn) → length (map bare_of xs) ≡ length xs
same_length [] = refl
same_length (x ∷ xs) = ap (λ (n : ℕ). suc n) (same_length xs)

pub bare_already : (xs : List TxIn) → AllByRecursion BareFits xs → map bare_of xs ≡ xs
bare_already [] fits = refl
bare_already (x ∷ xs) fits =
    let first : bare_of x ≡ x = ap (λ (s : List (List ℕ)). with_stack x s) (sym fits.0.bare) in
    let others = bare_already xs fits.1 in
    λ i. first i ∷ others i

pub bare_each : (xs : List TxIn) → AllByRecursion InputFits xs → AllByRecursion BareFits (map bare_of xs)
bare_each [] fits = tt
bare_each (x ∷ xs) fits = (record { spend = record { txid = fits.0.spend.txid; index = fits.0.spend.index; script = fits.0.spend.script; sequence = fits.0.spend.sequence }; bare = refl }, bare_each xs fits.1)

pub stacks_each : (xs : List TxIn) → AllByRecursion InputFits xs → AllByRecursion WitnessFits xs
stacks_each [] fits = tt
stacks_each (x ∷ xs) fits = (fits.0.stack, stacks_each xs fits.1)

pub joined_each : (xs : List TxIn) → AllByRecursion BareFits (map bare_of xs) → AllByRecursion WitnessFits xs → AllByRecursion InputFits xs
joined_each [] bare stacks = tt
joined_each (x ∷ xs) bare stacks = (record { spend = record { txid = bare.0.spend.txid; index = bare.0.spend.index; script = bare.0.spend.script; sequence = bare.0.spend.sequence }; stack = stacks.0 }, joined_each xs bare.1 stacks.1)

-- inputs without a witness
pub none_fit : (xs : List TxIn) → AllByRecursion BareFits xs → AllByRecursion InputFits xs
none_fit [] fits = tt
none_fit (x ∷ xs) fits =
    let empty : StackFits [] = record { count = omega arith; items = tt } in
    (record { spend = fits.0.spend; stack = subst StackFits (sym fits.0.bare) empty }, none_fit xs fits.1)

pub no_witness : (xs : List TxIn) → AllByRecursion BareFits xs → some_witness xs ≡ false
no_witness [] fits = refl
no_witness (x ∷ xs) fits = rw (fits.0.bare, no_witness xs fits.1) refl

pub none_bare : (xs : List TxIn) → AllByRecursion InputFits xs → some_witness xs ≡ false → AllByRecursion BareFits xs
none_bare [] fits none = tt
none_bare (x ∷ xs) fits none = elim (eqb (length x.stack) 0) as (λ b. eqb (length x.stack) 0 ≡ b → AllByRecursion BareFits (x ∷ xs)) [
  | true ↦ λ is.
      let empty : x.stack ≡ [] = nil_from_length x.stack (eqb-true _ _ is) in
      let others : some_witness xs ≡ false = sym (rw is refl) ∙ none in
      (record { spend = fits.0.spend; bare = empty }, none_bare xs fits.1 others)
  | false ↦ λ is.
      let witness : some_witness (x ∷ xs) ≡ true = rw is refl in
      absurd (let wrong_way : true ≡ false = sym witness ∙ none in cc)
] refl
