-- The tests of what has a text decide the facts.
use Rattle.std.proofs.Common.{◌≡◌, ℕ, ◌^◌, Bool, true, false, not, ◌&&◌, ◌||◌, List, [], ◌∷◌, length, refl, arith}
use Rattle.std.specs.Prelude.{ℤ, pos, negsuc, ◌==◌}
use Rattle.std.specs.List.{list_all, AllByRecursion}
use Rattle.std.specs.Int.{w32, w64}
use Rattle.std.specs.Int.RustNames.{FitsSigned}
use Rattle.std.proofs.lemmas.Bool.Decides.{nat_tests}
use Rattle.std.proofs.lemmas.Int.{ints}
use Rattle.std.proofs.lemmas.List.{nil_from_length}
use Rattle.std.proofs.lemmas.Bool.{eqb-true, eq-eqb, ltb-true, lt-ltb}
use Rattle.std.proofs.Common.{Some, None, cond, ap, sym}
use Rattle.std.specs.Cmp.{first_so, second_so}
use Rattle.base_types.specs.declared.coin.TxOut.{TxOut}
use Rattle.block_codec.specs.declared.block.TxIn.{TxIn}
use Rattle.block_codec.specs.declared.block.Tx.{Tx}
use Rattle.block_codec.specs.declared.block.Header.{Header}
use Rattle.block_codec.specs.declared.block.Block.{Block}
use Rattle.block_codec.specs.Fitting.{IsLength, ScriptFits, OutputFits, StackFits, InputFits, TxFits, HeaderFits, BlockFits}
use Rattle.std.proofs.Common.{Result, Ok, Err}
use Rattle.std.specs.Prelude.{IfOk}
use Rattle.base_types.specs.Codec.{IsBytes}
use Rattle.block_codec.specs.Reading.{Answers, block_of}
use Rattle.block_codec.specs.declared.fault.BlockFault.{BlockFault}
use Rattle.block_codec.proofs.BlockLaws.{whole_takes}
use Rattle.block_codec.specs.Text.{every, is_i32, is_i64, is_u32, is_length, is_hash, script_has_text, output_has_text, stack_has_text, input_has_text, tx_has_text, header_has_text, block_has_text, block_text, text_of}

i64_fits : (z : ℤ) → is_i64 z ≡ true → FitsSigned w64 z
i64_fits (pos n) h = grind (arith, nat_tests, ints)
i64_fits (negsuc n) h = grind (arith, nat_tests, ints)

fits_i64 : (z : ℤ) → FitsSigned w64 z → is_i64 z ≡ true
fits_i64 (pos n) h = grind (arith, nat_tests, ints)
fits_i64 (negsuc n) h = grind (arith, nat_tests, ints)

both_so : (a b : Bool) → a ≡ true → b ≡ true → (a && b) ≡ true
both_so true b p q = q
both_so false b p q = p

parts : (bs : List Bool) → every bs ≡ true → AllByRecursion (λ b. b ≡ true) bs
parts [] h = tt
parts (b ∷ bs) h = (first_so b (every bs) h, parts bs (second_so b (every bs) h))

joined : (bs : List Bool) → AllByRecursion (λ b. b ≡ true) bs → every bs ≡ true
joined [] h = refl
joined (b ∷ bs) h = both_so b (every bs) h.0 (joined bs h.1)

length_fits : (n : ℕ) → is_length n ≡ true → IsLength n
length_fits n h = grind (arith, nat_tests)

fits_length : (n : ℕ) → IsLength n → is_length n ≡ true
fits_length n h = grind (arith, nat_tests)

i32_fits : (z : ℤ) → is_i32 z ≡ true → FitsSigned w32 z
i32_fits (pos n) h = grind (arith, nat_tests, ints)
i32_fits (negsuc n) h = grind (arith, nat_tests, ints)

fits_i32 : (z : ℤ) → FitsSigned w32 z → is_i32 z ≡ true
fits_i32 (pos n) h = grind (arith, nat_tests, ints)
fits_i32 (negsuc n) h = grind (arith, nat_tests, ints)

output_fits : (o : TxOut) → output_has_text o ≡ true → OutputFits o
output_fits o h =
    let p = parts (is_i64 o.value ∷ is_length (length o.script) ∷ []) h in
    record { value = i64_fits o.value p.0; script = length_fits (length o.script) p.1.0 }

fits_output : (o : TxOut) → OutputFits o → output_has_text o ≡ true
fits_output o f = joined (is_i64 o.value ∷ is_length (length o.script) ∷ []) (fits_i64 o.value f.value, (fits_length (length o.script) f.script, tt))

module _ {X : Type 0} (test : X → Bool) (Fits : X → Type 0) where
  pub all_fit : ((x : X) → test x ≡ true → Fits x) → (xs : List X) → list_all test xs ≡ true → AllByRecursion Fits xs
  all_fit each [] h = tt
  all_fit each (x ∷ xs) h = (each x (first_so (test x) (list_all test xs) h), all_fit each xs (second_so (test x) (list_all test xs) h))

  pub fit_all : ((x : X) → Fits x → test x ≡ true) → (xs : List X) → AllByRecursion Fits xs → list_all test xs ≡ true
  fit_all each [] h = refl
  fit_all each (x ∷ xs) h = both_so (test x) (list_all test xs) (each x h.0) (fit_all each xs h.1)

script_fits : (script : List ℕ) → script_has_text script ≡ true → ScriptFits script
script_fits script h = length_fits (length script) h

fits_script : (script : List ℕ) → ScriptFits script → script_has_text script ≡ true
fits_script script f = fits_length (length script) f

stack_fits : (stack : List (List ℕ)) → stack_has_text stack ≡ true → StackFits stack
stack_fits stack h =
    let p = parts (is_length (length stack) ∷ list_all script_has_text stack ∷ []) h in
    record { count = length_fits (length stack) p.0; items = all_fit script_has_text ScriptFits script_fits stack p.1.0 }

fits_stack : (stack : List (List ℕ)) → StackFits stack → stack_has_text stack ≡ true
fits_stack stack f = joined (is_length (length stack) ∷ list_all script_has_text stack ∷ []) (fits_length (length stack) f.count, (fit_all script_has_text ScriptFits fits_script stack f.items, tt))

input_fits : (i : TxIn) → input_has_text i ≡ true → InputFits i
input_fits i h =
    let p = parts (is_hash i.prev.txid ∷ is_u32 i.prev.index ∷ script_has_text i.script ∷ is_u32 i.sequence ∷ stack_has_text i.stack ∷ []) h in
    record {
      spend = record {
        txid = eqb-true (length i.prev.txid.bytes) 32 p.0;
        index = ltb-true i.prev.index (2 ^ 32) p.1.0;
        script = script_fits i.script p.1.1.0;
        sequence = ltb-true i.sequence (2 ^ 32) p.1.1.1.0;
      };
      stack = stack_fits i.stack p.1.1.1.1.0;
    }

fits_input : (i : TxIn) → InputFits i → input_has_text i ≡ true
fits_input i f =
    joined (is_hash i.prev.txid ∷ is_u32 i.prev.index ∷ script_has_text i.script ∷ is_u32 i.sequence ∷ stack_has_text i.stack ∷ [])
    (eq-eqb (length i.prev.txid.bytes) 32 f.spend.txid, (lt-ltb i.prev.index (2 ^ 32) f.spend.index, (fits_script i.script f.spend.script, (lt-ltb i.sequence (2 ^ 32) f.spend.sequence, (fits_stack i.stack f.stack, tt)))))

alone : (a b : Bool) → (not a || b) ≡ true → a ≡ true → b ≡ true
alone true b h p = h
alone false b h p = absurd cc

alone_again : (a b : Bool) → (a ≡ true → b ≡ true) → (not a || b) ≡ true
alone_again true b f = f refl
alone_again false b f = refl

pub tx_fits : (t : Tx) → tx_has_text t ≡ true → TxFits t
tx_fits t h =
    let p = parts (is_u32 t.version ∷ is_length (length t.inputs) ∷ list_all input_has_text t.inputs ∷ is_length (length t.outputs) ∷ list_all output_has_text t.outputs ∷ is_u32 t.lock_time ∷ (not (length t.inputs == 0) || (length t.outputs == 0)) ∷ []) h in
    record {
      version = ltb-true t.version (2 ^ 32) p.0;
      input_count = length_fits (length t.inputs) p.1.0;
      inputs = all_fit input_has_text InputFits input_fits t.inputs p.1.1.0;
      output_count = length_fits (length t.outputs) p.1.1.1.0;
      outputs = all_fit output_has_text OutputFits output_fits t.outputs p.1.1.1.1.0;
      lock_time = ltb-true t.lock_time (2 ^ 32) p.1.1.1.1.1.0;
      no_outputs_alone = λ e. nil_from_length t.outputs (eqb-true (length t.outputs) 0 (alone (length t.inputs == 0) (length t.outputs == 0) p.1.1.1.1.1.1.0 (eq-eqb (length t.inputs) 0 (ap length e))));
    }

pub fits_tx : (t : Tx) → TxFits t → tx_has_text t ≡ true
fits_tx t f =
    joined (is_u32 t.version ∷ is_length (length t.inputs) ∷ list_all input_has_text t.inputs ∷ is_length (length t.outputs) ∷ list_all output_has_text t.outputs ∷ is_u32 t.lock_time ∷ (not (length t.inputs == 0) || (length t.outputs == 0)) ∷ []) (
      lt-ltb t.version (2 ^ 32) f.version,
      (
        fits_length (length t.inputs) f.input_count,
        (
          fit_all input_has_text InputFits fits_input t.inputs f.inputs,
          (
            fits_length (length t.outputs) f.output_count,
            (
              fit_all output_has_text OutputFits fits_output t.outputs f.outputs,
              (
                lt-ltb t.lock_time (2 ^ 32) f.lock_time,
                (alone_again (length t.inputs == 0) (length t.outputs == 0) (λ e. eq-eqb (length t.outputs) 0 (ap length (f.no_outputs_alone (nil_from_length t.inputs (eqb-true (length t.inputs) 0 e))))), tt),
              ),
            ),
          ),
        ),
      ),
    )

pub header_fits : (h : Header) → header_has_text h ≡ true → HeaderFits h
header_fits h e =
    let p = parts (is_i32 h.version ∷ (length h.prev.bytes == 32) ∷ (length h.root.bytes == 32) ∷ is_u32 h.time ∷ is_u32 h.bits ∷ is_u32 h.nonce ∷ []) e in
    record {
      version = i32_fits h.version p.0;
      prev = eqb-true (length h.prev.bytes) 32 p.1.0;
      root = eqb-true (length h.root.bytes) 32 p.1.1.0;
      time = ltb-true h.time (2 ^ 32) p.1.1.1.0;
      bits = ltb-true h.bits (2 ^ 32) p.1.1.1.1.0;
      nonce = ltb-true h.nonce (2 ^ 32) p.1.1.1.1.1.0;
    }

pub fits_header : (h : Header) → HeaderFits h → header_has_text h ≡ true
fits_header h f =
    joined (is_i32 h.version ∷ (length h.prev.bytes == 32) ∷ (length h.root.bytes == 32) ∷ is_u32 h.time ∷ is_u32 h.bits ∷ is_u32 h.nonce ∷ [])
    (fits_i32 h.version f.version, (eq-eqb (length h.prev.bytes) 32 f.prev, (eq-eqb (length h.root.bytes) 32 f.root, (lt-ltb h.time (2 ^ 32) f.time, (lt-ltb h.bits (2 ^ 32) f.bits, (lt-ltb h.nonce (2 ^ 32) f.nonce, tt))))))

block_fits : (b : Block) → block_has_text b ≡ true → BlockFits b
block_fits b h =
    let p = parts (header_has_text b.header ∷ is_length (length b.txs) ∷ list_all tx_has_text b.txs ∷ []) h in
    record { header = header_fits b.header p.0; tx_count = length_fits (length b.txs) p.1.0; txs = all_fit tx_has_text TxFits tx_fits b.txs p.1.1.0 }

fits_block : (b : Block) → BlockFits b → block_has_text b ≡ true
fits_block b f =
    joined (header_has_text b.header ∷ is_length (length b.txs) ∷ list_all tx_has_text b.txs ∷ [])
    (fits_header b.header f.header, (fits_length (length b.txs) f.tx_count, (fit_all tx_has_text TxFits fits_tx b.txs f.txs, tt)))

pub some_is : (b : Bool) (x y : List ℕ) → cond b (Some x) None ≡ Some y → (b ≡ true) × (x ≡ y)
some_is true x y e = (refl, cc)
some_is false x y e = absurd cc

pub text_from : (b : Block) (bytes : List ℕ) → text_of b ≡ Some bytes → BlockFits b × (bytes ≡ block_text b)
text_from b bytes e =
    let p = some_is (block_has_text b) (block_text b) bytes e in
    (block_fits b p.0, sym p.1)

pub text_is : (b : Block) (bytes : List ℕ) → BlockFits b → bytes ≡ block_text b → text_of b ≡ Some bytes
text_is b bytes fits e = rw (fits_block b fits) (ap (λ (t : List ℕ). Some t) (sym e))

pub is_found : (bytes : List ℕ) (r : Result Block BlockFault) → IsBytes bytes → Answers r (block_of bytes) → IfOk r (λ b. text_of b ≡ Some bytes)
is_found bytes (Ok b) fits given =
    let p = whole_takes bytes b fits given in
    text_is b bytes p.0 p.1
is_found bytes (Err e) fits given = tt
