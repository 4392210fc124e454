-- Transactions: what is read has that text, and what has a text is read.
use Rattle.std.proofs.Common.{◌≡◌, ℕ, ◌^◌, ◌<◌, Bool, true, false, cond, eqb, inl, inr, List, [], ◌∷◌, ◌++◌, length, map, Result, Ok, Err, refl, sym, ap, subst, ◌∙◌, append_assoc, arith}
use Rattle.std.specs.Int.{w32}
use Rattle.std.specs.List.{flat_map, AllByRecursion}
use Rattle.std.proofs.lemmas.Bool.{eqb-true, eqb-false}
use Rattle.std.proofs.lemmas.List.{nil_from_length}
use Rattle.base_types.specs.Reading.{Input, place, ◌>>=◌, byte_at}
use Rattle.base_types.specs.Bytes.{compact, number_text}
use Rattle.base_types.specs.Codec.{IsBytes, at, field, renamed}
use Rattle.base_types.proofs.Codecs.{Takes, Takes-then, IsCodec, Counted, bind_ok, chosen, ok_is, step, many_codec}
use Rattle.base_types.proofs.Fields.{byte_takes}
use Rattle.base_types.specs.declared.coin.TxOut.{TxOut}
use Rattle.base_types.specs.declared.cursor.ReadError.{ReadError}
use Rattle.block_codec.specs.declared.block.TxIn.{TxIn}
use Rattle.block_codec.specs.declared.block.Tx.{Tx}
use Rattle.block_codec.specs.declared.fault.BlockError.TheVariants.{BadFlag, EmptyWitness}
use Rattle.block_codec.specs.Reading.{Wrong, wrong, stacks_at, lists_at, ended_at, stripped_at, full_at, flagged_at, tx_at}
use Rattle.block_codec.specs.Text.{output_text, input_text, stripped_text, full_text, marker_and_flag, tx_text, some_witness, has_witness}
use Rattle.block_codec.specs.Fitting.{IsLength, OutputFits, InputFits, TxFits}
use Rattle.block_codec.proofs.InputLaws.{u32_codec, length_codec, output_codec, BareFits, input_codec, bare_of, witness_text, WitnessFits, stacks_takes, stacks_again, bare_twice, same_texts, same_length, bare_already, bare_each, stacks_each, joined_each, none_fit, no_witness, none_bare}

-- ---- inputs and outputs

abbrev pub both_text : List TxIn × List TxOut → List ℕ
both_text p = flat_map input_text p.0 ++ compact (length p.1) ++ flat_map output_text p.1

pub both_same : (p q : List TxIn × List TxOut) → p.0 ≡ q.0 → p.1 ≡ q.1 → both_text p ≡ both_text q
both_same p q inputs outputs = λ i. both_text (inputs i, outputs i)

pub record BothFit (count : ℕ) (p : List TxIn × List TxOut) : Type 0 where
  pub inputs : Counted BareFits count p.0
  pub output_count : IsLength (length p.1)
  pub outputs : AllByRecursion OutputFits p.1

pub lists_takes : (count : ℕ) (i : Input) (x : List TxIn × List TxOut) (j : Input) → IsBytes i.rest → lists_at count i ≡ Ok (x, j) → Takes i.rest (both_text x) j.rest × BothFit count x
unfolding lists_at
lists_takes count i x j fits e =
    let a = step (many_codec input_codec count) i _ (x, j) fits e in
    let b = step length_codec a.after _ (x, j) a.takes.rest_fits a.goes_on in
    let c = step (many_codec output_codec b.value) b.after _ (x, j) b.takes.rest_fits b.goes_on in
    let ab = Takes-then i.rest (flat_map input_text a.value) a.after.rest (compact b.value) b.after.rest a.takes b.takes in
    let abc = Takes-then i.rest (flat_map input_text a.value ++ compact b.value) b.after.rest (flat_map output_text c.value) c.after.rest ab c.takes in
    let counted = subst (λ (k : ℕ). Takes i.rest (flat_map input_text a.value ++ compact k ++ flat_map output_text c.value) c.after.rest) (sym c.fits.len) abc in
    let made : (List TxIn × List TxOut) × Input = ((a.value, c.value), c.after) in
    subst (λ (y : (List TxIn × List TxOut) × Input). Takes i.rest (both_text y.0) y.1.rest × BothFit count y.0) (ok_is {E = Wrong} made (x, j) c.goes_on)
    (counted, record { inputs = a.fits; output_count = subst IsLength (sym c.fits.len) b.fits; outputs = c.fits.each })

pub lists_again : (count : ℕ) (x : List TxIn × List TxOut) (end : ℕ) (rest : List ℕ) → BothFit count x → lists_at count (at end (both_text x ++ rest)) ≡ Ok (x, at end rest)
unfolding lists_at
lists_again count x end rest fits =
    let regrouped : both_text x ++ rest ≡ flat_map input_text x.0 ++ (compact (length x.1) ++ (flat_map output_text x.1 ++ rest)) = simp append_assoc in
    ap (λ (y : List ℕ). lists_at count (at end y)) regrouped ∙
    rw (
      (many_codec input_codec count).again x.0 end (compact (length x.1) ++ (flat_map output_text x.1 ++ rest)) fits.inputs,
      length_codec.again (length x.1) end (flat_map output_text x.1 ++ rest) fits.output_count,
      (many_codec output_codec (length x.1)).again x.1 end rest (record { len = refl; each = fits.outputs }),
    ) refl

pub lists_codec : (count : ℕ) → IsCodec (lists_at count) both_text (BothFit count)
lists_codec count = record { takes = lists_takes count; again = lists_again count }

-- ---- a transaction

abbrev pub lock_text : Tx → List ℕ
lock_text t = number_text w32 t.lock_time

pub record Ended (version : ℕ) (inputs : List TxIn) (outputs : List TxOut) (t : Tx) : Type 0 where
  pub version-is : t.version ≡ version
  pub inputs-is : t.inputs ≡ inputs
  pub outputs-is : t.outputs ≡ outputs
  pub lock_time : t.lock_time < 2 ^ 32

pub ended_takes : (version : ℕ) (inputs : List TxIn) (outputs : List TxOut) (i : Input) (x : Tx) (j : Input) → IsBytes i.rest → ended_at version inputs outputs i ≡ Ok (x, j) → Takes i.rest (lock_text x) j.rest × Ended version inputs outputs x
unfolding ended_at
ended_takes version inputs outputs i x j fits e =
    let a = step u32_codec i _ (x, j) fits e in
    let made : Tx × Input = (record { version = version; inputs = inputs; outputs = outputs; lock_time = a.value }, a.after) in
    subst (λ (y : Tx × Input). Takes i.rest (lock_text y.0) y.1.rest × Ended version inputs outputs y.0) (ok_is {E = Wrong} made (x, j) a.goes_on)
    (a.takes, record { version-is = refl; inputs-is = refl; outputs-is = refl; lock_time = a.fits })

pub ended_again : (t : Tx) (end : ℕ) (rest : List ℕ) → t.lock_time < 2 ^ 32 → ended_at t.version t.inputs t.outputs (at end (lock_text t ++ rest)) ≡ Ok (t, at end rest)
unfolding ended_at
ended_again t end rest fits = rw (u32_codec.again t.lock_time end rest fits) refl

-- what follows the number of inputs in the form without witness
abbrev pub stripped_rest : Tx → List ℕ
stripped_rest t = both_text (t.inputs, t.outputs) ++ lock_text t

-- what was read of a transaction
pub record Read (version : ℕ) (witness : Bool) (t : Tx) : Type 0 where
  pub version-is : t.version ≡ version
  pub witness-is : has_witness t ≡ witness
  pub fits : TxFits t

pub stripped_takes : (version count : ℕ) (i : Input) (x : Tx) (j : Input) → version < 2 ^ 32 → IsLength count → (count ≡ 0 → ⊥) → IsBytes i.rest → stripped_at version count i ≡ Ok (x, j)
    → Takes i.rest (stripped_rest x) j.rest × (length x.inputs ≡ count) × Read version false x
unfolding stripped_at
stripped_takes version count i x j version_fits count_fits some fits e =
    let a = step (lists_codec count) i _ (x, j) fits e in
    let b = ended_takes version a.value.0 a.value.1 a.after x j a.takes.rest_fits a.goes_on in
    let both = Takes-then i.rest (both_text a.value) a.after.rest (lock_text x) j.rest a.takes b.0 in
    let same : both_text a.value ≡ both_text (x.inputs, x.outputs) = both_same a.value (x.inputs, x.outputs) (sym b.1.inputs-is) (sym b.1.outputs-is) in
    let len : length x.inputs ≡ count = ap length b.1.inputs-is ∙ a.fits.inputs.len in
    let bare : AllByRecursion BareFits x.inputs = subst (λ (xs : List TxIn). AllByRecursion BareFits xs) (sym b.1.inputs-is) a.fits.inputs.each in (
      subst (λ (t : List ℕ). Takes i.rest (t ++ lock_text x) j.rest) same both,
      len,
      record {
        version-is = b.1.version-is;
        witness-is = no_witness x.inputs bare;
        fits = record {
          version = subst (λ (n : ℕ). n < 2 ^ 32) (sym b.1.version-is) version_fits;
          input_count = subst IsLength (sym len) count_fits;
          inputs = none_fit x.inputs bare;
          output_count = subst (λ (ys : List TxOut). IsLength (length ys)) (sym b.1.outputs-is) a.fits.output_count;
          outputs = subst (λ (ys : List TxOut). AllByRecursion OutputFits ys) (sym b.1.outputs-is) a.fits.outputs;
          lock_time = b.1.lock_time;
          no_outputs_alone = λ none. absurd (some (sym len ∙ ap length none));
        };
      },
    )

-- what follows the flag in the form with witness
abbrev pub full_rest : Tx → List ℕ
full_rest t = compact (length t.inputs) ++ both_text (t.inputs, t.outputs) ++ flat_map witness_text t.inputs ++ lock_text t

pub full_same : (t : Tx) (n : ℕ) (p : List TxIn × List TxOut) (xs : List TxIn) → length t.inputs ≡ n → flat_map input_text p.0 ≡ flat_map input_text t.inputs → t.outputs ≡ p.1 → t.inputs ≡ xs
    → compact n ++ both_text p ++ flat_map witness_text xs ++ lock_text t ≡ full_rest t
full_same t n p xs len texts outputs inputs =
    λ i. compact (sym len i) ++ (texts i ++ compact (length (sym outputs i)) ++ flat_map output_text (sym outputs i)) ++ flat_map witness_text (sym inputs i) ++ lock_text t

pub full_takes : (version flag : ℕ) (i : Input) (x : Tx) (j : Input) → version < 2 ^ 32 → IsBytes i.rest → full_at version flag i ≡ Ok (x, j)
    → Takes i.rest (full_rest x) j.rest × Read version true x
unfolding full_at
full_takes version flag i x j version_fits fits e =
    let a = step length_codec i _ (x, j) fits e in
    let b = step (lists_codec a.value) a.after _ (x, j) a.takes.rest_fits a.goes_on in
    let c = bind_ok (stacks_at b.value.0 b.after) _ (x, j) b.goes_on in
    let d = stacks_takes b.value.0 b.after c.0.0 c.0.1 b.takes.rest_fits c.1 in
    let g = chosen (some_witness c.0.0) (ended_at version c.0.0 b.value.1 c.0.1) (Err (EmptyWitness, flag)) (Ok (x, j)) c.2 in
    elim g [
      | inl (is, e) ↦
          let k = ended_takes version c.0.0 b.value.1 c.0.1 x j d.0.rest_fits e in
          let bare_is : map bare_of x.inputs ≡ b.value.0 = ap (map bare_of) k.1.inputs-is ∙ d.1.same ∙ bare_already b.value.0 b.fits.inputs.each in
          let len : length x.inputs ≡ a.value = sym (same_length x.inputs) ∙ ap length bare_is ∙ b.fits.inputs.len in
          let texts : flat_map input_text b.value.0 ≡ flat_map input_text x.inputs = ap (flat_map input_text) (sym bare_is) ∙ same_texts x.inputs in
          let ab = Takes-then i.rest (compact a.value) a.after.rest (both_text b.value) b.after.rest a.takes b.takes in
          let abd = Takes-then i.rest (compact a.value ++ both_text b.value) b.after.rest (flat_map witness_text c.0.0) c.0.1.rest ab d.0 in
          let all = Takes-then i.rest (compact a.value ++ both_text b.value ++ flat_map witness_text c.0.0) c.0.1.rest (lock_text x) j.rest abd k.0 in
          let whole : Takes i.rest (full_rest x) j.rest = subst (λ (t : List ℕ). Takes i.rest t j.rest) (full_same x a.value b.value c.0.0 len texts k.1.outputs-is k.1.inputs-is) all in (
            whole,
            record {
              version-is = k.1.version-is;
              witness-is = subst (λ (xs : List TxIn). some_witness xs ≡ true) (sym k.1.inputs-is) is;
              fits = record {
                version = subst (λ (n : ℕ). n < 2 ^ 32) (sym k.1.version-is) version_fits;
                input_count = subst IsLength (sym len) a.fits;
                inputs = joined_each x.inputs (subst (λ (xs : List TxIn). AllByRecursion BareFits xs) (sym bare_is) b.fits.inputs.each) (subst (λ (xs : List TxIn). AllByRecursion WitnessFits xs) (sym k.1.inputs-is) d.1.each);
                output_count = subst (λ (ys : List TxOut). IsLength (length ys)) (sym k.1.outputs-is) b.fits.output_count;
                outputs = subst (λ (ys : List TxOut). AllByRecursion OutputFits ys) (sym k.1.outputs-is) b.fits.outputs;
                lock_time = k.1.lock_time;
                no_outputs_alone = λ none. absurd (let witness : some_witness [] ≡ true = subst (λ (xs : List TxIn). some_witness xs ≡ true) (sym k.1.inputs-is ∙ none) is in cc);
              };
            },
          )
      | inr (is, e) ↦ absurd cc
    ]

-- ---- with its version

pub full_is : (t : Tx) → has_witness t ≡ true → tx_text t ≡ full_text t
full_is t is = rw is refl

pub stripped_is : (t : Tx) → has_witness t ≡ false → tx_text t ≡ stripped_text t
stripped_is t is = rw is refl

-- the parts of a form in the order in which they are read
pub full_parts : (t : Tx) → full_text t ≡ number_text w32 t.version ++ marker_and_flag ++ full_rest t
full_parts t = simp append_assoc

pub stripped_parts : (t : Tx) → stripped_text t ≡ number_text w32 t.version ++ compact (length t.inputs) ++ stripped_rest t
stripped_parts t = simp append_assoc

pub full_joined : (t : Tx) (version : ℕ) → t.version ≡ version → number_text w32 version ++ (0 ∷ []) ++ (1 ∷ full_rest t) ≡ full_text t
full_joined t version is = rw (← is) (append_assoc (number_text w32 t.version) (0 ∷ []) (1 ∷ full_rest t) ∙ sym (full_parts t ∙ append_assoc (number_text w32 t.version) marker_and_flag (full_rest t)))

pub stripped_joined : (t : Tx) (version count : ℕ) → t.version ≡ version → length t.inputs ≡ count → number_text w32 version ++ compact count ++ stripped_rest t ≡ stripped_text t
stripped_joined t version count is len = rw (← is, ← len) (sym (stripped_parts t))

pub empty_joined : (t : Tx) (version : ℕ) → t.version ≡ version → t.inputs ≡ [] → t.outputs ≡ [] → number_text w32 version ++ (0 ∷ []) ++ (0 ∷ lock_text t) ≡ stripped_text t
unfolding compact
empty_joined t version is inputs outputs = rw (← is, inputs, outputs) (simp append_assoc)

pub byte_ok : (i : Input) (x : ℕ) (j : Input) → field wrong byte_at i ≡ Ok (x, j) → byte_at i.rest ≡ Ok (x, j.rest)
byte_ok i x j e = go (byte_at i.rest) e where
  go : (r : Result (ℕ × List ℕ) ReadError) → renamed {X = ℕ × Input} (wrong i) (r >>= λ y. Ok (y.0, at i.end y.1)) ≡ Ok (x, j) → r ≡ Ok (x, j.rest)
  go (Ok y) e = ap (λ (p : ℕ × Input). Ok (p.0, p.1.rest)) (ok_is {E = Wrong} (y.0, at i.end y.1) (x, j) e)
  go (Err d) e = absurd cc

-- a transaction behind its version and a number of inputs that is 0
pub flagged_takes : (version : ℕ) (i : Input) (x : Tx) (j : Input) → version < 2 ^ 32 → IsBytes i.rest → flagged_at version i ≡ Ok (x, j)
    → (tail : List ℕ) × (Takes i.rest tail j.rest) × (number_text w32 version ++ (0 ∷ []) ++ tail ≡ tx_text x) × TxFits x
unfolding flagged_at compact
flagged_takes version i x j version_fits fits e =
    let a = bind_ok (field wrong byte_at i) _ (x, j) e in
    let b = byte_takes i.rest a.0.0 a.0.1.rest fits (byte_ok i a.0.0 a.0.1 a.1) in
    elim (chosen (eqb a.0.0 0) (ended_at version [] [] a.0.1) (cond (eqb a.0.0 1) (full_at version (place i) a.0.1) (Err (BadFlag, place i))) (Ok (x, j)) a.2) [
      | inl (is, e) ↦
          let k = ended_takes version [] [] a.0.1 x j b.1 e in
          let flag : a.0.0 ≡ 0 = eqb-true _ _ is in
          let none : has_witness x ≡ false = subst (λ (xs : List TxIn). some_witness xs ≡ false) (sym k.1.inputs-is) refl in
          let text : number_text w32 version ++ (0 ∷ []) ++ (0 ∷ lock_text x) ≡ stripped_text x = empty_joined x version k.1.version-is k.1.inputs-is k.1.outputs-is in (
            0 ∷ lock_text x,
            record { parts = b.0 ∙ ap (λ (f : ℕ). f ∷ a.0.1.rest) flag ∙ ap (λ (r : List ℕ). 0 ∷ r) k.0.parts; rest_fits = k.0.rest_fits },
            text ∙ sym (stripped_is x none),
            record {
              version = subst (λ (n : ℕ). n < 2 ^ 32) (sym k.1.version-is) version_fits;
              input_count = subst (λ (xs : List TxIn). IsLength (length xs)) (sym k.1.inputs-is) (omega arith);
              inputs = subst (λ (xs : List TxIn). AllByRecursion InputFits xs) (sym k.1.inputs-is) tt;
              output_count = subst (λ (ys : List TxOut). IsLength (length ys)) (sym k.1.outputs-is) (omega arith);
              outputs = subst (λ (ys : List TxOut). AllByRecursion OutputFits ys) (sym k.1.outputs-is) tt;
              lock_time = k.1.lock_time;
              no_outputs_alone = λ _. k.1.outputs-is;
            },
          )
      | inr (not_0, e) ↦ elim (chosen (eqb a.0.0 1) (full_at version (place i) a.0.1) (Err (BadFlag, place i)) (Ok (x, j)) e) [
        | inl (is, e) ↦
            let k = full_takes version (place i) a.0.1 x j version_fits b.1 e in
            let flag : a.0.0 ≡ 1 = eqb-true _ _ is in
            let text : number_text w32 version ++ (0 ∷ []) ++ (1 ∷ full_rest x) ≡ full_text x = full_joined x version k.1.version-is in (
              1 ∷ full_rest x,
              record { parts = b.0 ∙ ap (λ (f : ℕ). f ∷ a.0.1.rest) flag ∙ ap (λ (r : List ℕ). 1 ∷ r) k.0.parts; rest_fits = k.0.rest_fits },
              text ∙ sym (full_is x k.1.witness-is),
              k.1.fits,
            )
        | inr (not_1, e) ↦ absurd cc
      ]
    ]

pub tx_takes : (i : Input) (x : Tx) (j : Input) → IsBytes i.rest → tx_at i ≡ Ok (x, j) → Takes i.rest (tx_text x) j.rest × TxFits x
unfolding tx_at compact
tx_takes i x j fits e =
    let a = step u32_codec i _ (x, j) fits e in
    let b = step length_codec a.after _ (x, j) a.takes.rest_fits a.goes_on in
    let ab = Takes-then i.rest (number_text w32 a.value) a.after.rest (compact b.value) b.after.rest a.takes b.takes in
    elim (chosen (eqb b.value 0) (flagged_at a.value b.after) (stripped_at a.value b.value b.after) (Ok (x, j)) b.goes_on) [
      | inl (is, e) ↦
          let none : b.value ≡ 0 = eqb-true _ _ is in
          let k = flagged_takes a.value b.after x j a.fits b.takes.rest_fits e in
          let front : Takes i.rest (number_text w32 a.value ++ (0 ∷ [])) b.after.rest = subst (λ (n : ℕ). Takes i.rest (number_text w32 a.value ++ compact n) b.after.rest) none ab in
          let whole = Takes-then i.rest (number_text w32 a.value ++ (0 ∷ [])) b.after.rest k.0 j.rest front k.1 in
          (subst (λ (t : List ℕ). Takes i.rest t j.rest) k.2 whole, k.3)
      | inr (is, e) ↦
          let k = stripped_takes a.value b.value b.after x j a.fits b.fits (eqb-false _ _ is) b.takes.rest_fits e in
          let whole = Takes-then i.rest (number_text w32 a.value ++ compact b.value) b.after.rest (stripped_rest x) j.rest ab k.0 in
          let text : number_text w32 a.value ++ compact b.value ++ stripped_rest x ≡ tx_text x = stripped_joined x a.value b.value k.2.version-is k.1 ∙ sym (stripped_is x k.2.witness-is) in
          (subst (λ (t : List ℕ). Takes i.rest t j.rest) text whole, k.2.fits)
    ]

-- the form without witness, behind the number of inputs
pub stripped_again : (t : Tx) (end : ℕ) (rest : List ℕ) → TxFits t → has_witness t ≡ false → stripped_at t.version (length t.inputs) (at end (stripped_rest t ++ rest)) ≡ Ok (t, at end rest)
unfolding stripped_at
stripped_again t end rest fits none =
    let regrouped : stripped_rest t ++ rest ≡ both_text (t.inputs, t.outputs) ++ (lock_text t ++ rest) = append_assoc (both_text (t.inputs, t.outputs)) (lock_text t) rest in
    let fit : BothFit (length t.inputs) (t.inputs, t.outputs) = record { inputs = record { len = refl; each = none_bare t.inputs fits.inputs none }; output_count = fits.output_count; outputs = fits.outputs } in
    ap (λ (y : List ℕ). stripped_at t.version (length t.inputs) (at end y)) regrouped ∙
    rw ((lists_codec (length t.inputs)).again (t.inputs, t.outputs) end (lock_text t ++ rest) fit) (ended_again t end rest fits.lock_time)

-- the form with witness, behind the flag
pub full_again : (t : Tx) (flag end : ℕ) (rest : List ℕ) → TxFits t → has_witness t ≡ true → full_at t.version flag (at end (full_rest t ++ rest)) ≡ Ok (t, at end rest)
unfolding full_at
full_again t flag end rest fits witness =
    let bare = map bare_of t.inputs in
    let regrouped : full_rest t ++ rest ≡ compact (length t.inputs) ++ (both_text (t.inputs, t.outputs) ++ (flat_map witness_text t.inputs ++ (lock_text t ++ rest))) = simp append_assoc in
    let texts : both_text (t.inputs, t.outputs) ≡ both_text (bare, t.outputs) = rw (same_texts t.inputs) refl in
    let fit : BothFit (length t.inputs) (bare, t.outputs) = record { inputs = record { len = same_length t.inputs; each = bare_each t.inputs fits.inputs }; output_count = fits.output_count; outputs = fits.outputs } in
    ap (λ (y : List ℕ). full_at t.version flag (at end y)) (regrouped ∙ ap (λ (y : List ℕ). compact (length t.inputs) ++ (y ++ (flat_map witness_text t.inputs ++ (lock_text t ++ rest)))) texts) ∙
    rw (
      length_codec.again (length t.inputs) end (both_text (bare, t.outputs) ++ (flat_map witness_text t.inputs ++ (lock_text t ++ rest))) fits.input_count,
      (lists_codec (length t.inputs)).again (bare, t.outputs) end (flat_map witness_text t.inputs ++ (lock_text t ++ rest)) fit,
      stacks_again bare t.inputs end (lock_text t ++ rest) (sym (bare_twice t.inputs)) (stacks_each t.inputs fits.inputs),
      witness,
    ) (ended_again t end rest fits.lock_time)

-- no inputs and no outputs
pub empty_again : (t : Tx) (end : ℕ) (rest : List ℕ) → TxFits t → t.inputs ≡ [] → flagged_at t.version (at end (stripped_rest t ++ rest)) ≡ Ok (t, at end rest)
unfolding flagged_at compact
empty_again t end rest fits none =
    let no_outputs = fits.no_outputs_alone none in
    let text : stripped_rest t ++ rest ≡ 0 ∷ (lock_text t ++ rest) = rw (none, no_outputs) refl in
    ap (λ (y : List ℕ). flagged_at t.version (at end y)) text ∙
    ap (λ (y : List TxIn × List TxOut). ended_at t.version y.0 y.1 (at end (lock_text t ++ rest))) (λ i. (sym none i, sym no_outputs i)) ∙ ended_again t end rest fits.lock_time

pub tx_again : (t : Tx) (end : ℕ) (rest : List ℕ) → TxFits t → tx_at (at end (tx_text t ++ rest)) ≡ Ok (t, at end rest)
unfolding tx_at flagged_at compact
tx_again t end rest fits = elim (has_witness t) as (λ b. has_witness t ≡ b → tx_at (at end (tx_text t ++ rest)) ≡ Ok (t, at end rest)) [
  | true ↦ λ is.
      let regrouped : tx_text t ++ rest ≡ number_text w32 t.version ++ (compact 0 ++ (1 ∷ (full_rest t ++ rest))) =
      ap (λ (y : List ℕ). y ++ rest) (full_is t is ∙ full_parts t ∙ append_assoc (number_text w32 t.version) marker_and_flag (full_rest t)) ∙ append_assoc (number_text w32 t.version) (marker_and_flag ++ full_rest t) rest in
      ap (λ (y : List ℕ). tx_at (at end y)) regrouped ∙
      rw (
        u32_codec.again t.version end (compact 0 ++ (1 ∷ (full_rest t ++ rest))) fits.version,
        length_codec.again 0 end (1 ∷ (full_rest t ++ rest)) (omega arith),
      ) (full_again t (place (at end (1 ∷ (full_rest t ++ rest)))) end rest fits is)
  | false ↦ λ is.
      let regrouped : tx_text t ++ rest ≡ number_text w32 t.version ++ (compact (length t.inputs) ++ (stripped_rest t ++ rest)) =
      ap (λ (y : List ℕ). y ++ rest) (stripped_is t is ∙ stripped_parts t ∙ append_assoc (number_text w32 t.version) (compact (length t.inputs)) (stripped_rest t))
      ∙ append_assoc (number_text w32 t.version) (compact (length t.inputs) ++ stripped_rest t) rest ∙ ap (λ (y : List ℕ). number_text w32 t.version ++ y) (append_assoc (compact (length t.inputs)) (stripped_rest t) rest) in
      ap (λ (y : List ℕ). tx_at (at end y)) regrouped ∙
      rw (
        u32_codec.again t.version end (compact (length t.inputs) ++ (stripped_rest t ++ rest)) fits.version,
        length_codec.again (length t.inputs) end (stripped_rest t ++ rest) fits.input_count,
      )
      (elim (eqb (length t.inputs) 0) as (λ b. eqb (length t.inputs) 0 ≡ b → cond b (flagged_at t.version (at end (stripped_rest t ++ rest))) (stripped_at t.version (length t.inputs) (at end (stripped_rest t ++ rest))) ≡ Ok (t, at end rest)) [
        | true ↦ λ none. empty_again t end rest fits (nil_from_length t.inputs (eqb-true _ _ none))
        | false ↦ λ some. stripped_again t end rest fits is
      ] refl)
] refl

pub tx_codec : IsCodec tx_at tx_text TxFits
tx_codec = record { takes = tx_takes; again = tx_again }
