-- Headers and blocks: what is read has that text, and what has a text is read.
use Rattle.std.proofs.Common.{◌≡◌, ℕ, ◌+◌, ◌^◌, ◌<◌, ◌≤◌, eqb, List, [], ◌++◌, length, take, drop, Ok, refl, sym, ap, subst, ◌∙◌, append_assoc, arith}
use Rattle.std.specs.Int.{w32, from_le_bytes, cast_signed, cast_unsigned}
use Rattle.std.specs.Prelude.{ℤ}
use Rattle.std.proofs.Common.{Fits}
use Rattle.std.specs.Int.RustNames.{FitsSigned}
use Rattle.std.specs.List.{flat_map}
use Rattle.std.proofs.lemmas.Bool.{eqb-true, le-ltb}
use Rattle.std.proofs.lemmas.List.{nil_from_length, append-nil, length-append, length-drop}
use Rattle.std.proofs.lemmas.Int.{of_z-to_z, to_z-of_z}
use Rattle.std.proofs.Math.Facts.{Fits-of_z, sfits_to_z}
use Rattle.base_types.specs.Reading.{Input, place, bytes_at, number_at, length_at}
use Rattle.base_types.specs.Bytes.{compact, number_text}
use Rattle.base_types.specs.Codec.{IsBytes, at, field, many_at}
use Rattle.base_types.proofs.Codecs.{Takes, Takes-then, IsCodec, bind_ok, guard_else, ok_is, step, many_codec}
use Rattle.block_codec.specs.declared.block.Header.{Header}
use Rattle.block_codec.specs.declared.block.Block.{Block}
use Rattle.block_codec.specs.declared.fault.BlockError.TheVariants.{Trailing}
use Rattle.block_codec.specs.Reading.{Wrong, wrong, tx_at, header_at, block_at, block_of}
use Rattle.block_codec.specs.Text.{tx_text, header_text, block_text}
use Rattle.block_codec.specs.Fitting.{IsLength, HeaderFits, BlockFits}
use Rattle.block_codec.proofs.InputLaws.{u32_codec, length_codec, bytes_codec}
use Rattle.block_codec.proofs.TxLaws.{tx_codec}

-- ---- a header

pub signed32 : (n : ℕ) → n < 2 ^ 32 → FitsSigned w32 (cast_signed w32 n)
signed32 n lt =
    let f : Fits w32 n = omega (arith, lt) in
    sfits_to_z {w = w32} f

pub bits32 : (z : ℤ) → FitsSigned w32 z → cast_unsigned w32 z < 2 ^ 32
bits32 z fits =
    let f : Fits w32 (cast_unsigned w32 z) = Fits-of_z fits in
    omega (arith, f)

pub header_takes : (i : Input) (x : Header) (j : Input) → IsBytes i.rest → header_at i ≡ Ok (x, j) → Takes i.rest (header_text x) j.rest × HeaderFits x
unfolding header_at
header_takes i x j fits e =
    let a = step u32_codec i _ (x, j) fits e in
    let b = step (bytes_codec 32) a.after _ (x, j) a.takes.rest_fits a.goes_on in
    let c = step (bytes_codec 32) b.after _ (x, j) b.takes.rest_fits b.goes_on in
    let d = step u32_codec c.after _ (x, j) c.takes.rest_fits c.goes_on in
    let f = step u32_codec d.after _ (x, j) d.takes.rest_fits d.goes_on in
    let g = step u32_codec f.after _ (x, j) f.takes.rest_fits f.goes_on in
    let ab = Takes-then i.rest (number_text w32 a.value) a.after.rest b.value b.after.rest a.takes b.takes in
    let abc = Takes-then i.rest (number_text w32 a.value ++ b.value) b.after.rest c.value c.after.rest ab c.takes in
    let abcd = Takes-then i.rest (number_text w32 a.value ++ b.value ++ c.value) c.after.rest (number_text w32 d.value) d.after.rest abc d.takes in
    let abcdf = Takes-then i.rest (number_text w32 a.value ++ b.value ++ c.value ++ number_text w32 d.value) d.after.rest (number_text w32 f.value) f.after.rest abcd f.takes in
    let all = Takes-then i.rest (number_text w32 a.value ++ b.value ++ c.value ++ number_text w32 d.value ++ number_text w32 f.value) f.after.rest (number_text w32 g.value) g.after.rest abcdf g.takes in
    let made : Header × Input = (record { version = cast_signed w32 a.value; prev = record { bytes = b.value }; root = record { bytes = c.value }; time = d.value; bits = f.value; nonce = g.value }, g.after) in
    let bits : cast_unsigned w32 (cast_signed w32 a.value) ≡ a.value = of_z-to_z w32 a.value a.fits in
    let whole : Takes i.rest (header_text made.0) made.1.rest = subst (λ (k : ℕ). Takes i.rest (number_text w32 k ++ b.value ++ c.value ++ number_text w32 d.value ++ number_text w32 f.value ++ number_text w32 g.value) g.after.rest) (sym bits) all in
    subst (λ (y : Header × Input). Takes i.rest (header_text y.0) y.1.rest × HeaderFits y.0) (ok_is {E = Wrong} made (x, j) g.goes_on)
    (whole, record { version = signed32 a.value a.fits; prev = b.fits; root = c.fits; time = d.fits; bits = f.fits; nonce = g.fits })

pub header_again : (h : Header) (end : ℕ) (rest : List ℕ) → HeaderFits h → header_at (at end (header_text h ++ rest)) ≡ Ok (h, at end rest)
unfolding header_at
header_again h end rest fits =
    let regrouped : header_text h ++ rest ≡ number_text w32 (cast_unsigned w32 h.version) ++ (h.prev.bytes ++ (h.root.bytes ++ (number_text w32 h.time ++ (number_text w32 h.bits ++ (number_text w32 h.nonce ++ rest))))) = simp append_assoc in
    ap (λ (y : List ℕ). header_at (at end y)) regrouped ∙
    rw (
      u32_codec.again (cast_unsigned w32 h.version) end (h.prev.bytes ++ (h.root.bytes ++ (number_text w32 h.time ++ (number_text w32 h.bits ++ (number_text w32 h.nonce ++ rest))))) (bits32 h.version fits.version),
      (bytes_codec 32).again h.prev.bytes end (h.root.bytes ++ (number_text w32 h.time ++ (number_text w32 h.bits ++ (number_text w32 h.nonce ++ rest)))) fits.prev,
      (bytes_codec 32).again h.root.bytes end (number_text w32 h.time ++ (number_text w32 h.bits ++ (number_text w32 h.nonce ++ rest))) fits.root,
      u32_codec.again h.time end (number_text w32 h.bits ++ (number_text w32 h.nonce ++ rest)) fits.time,
      u32_codec.again h.bits end (number_text w32 h.nonce ++ rest) fits.bits,
      u32_codec.again h.nonce end rest fits.nonce,
    ) (ap (λ (v : ℤ). Ok (record { version = v; prev = h.prev; root = h.root; time = h.time; bits = h.bits; nonce = h.nonce }, at end rest)) (to_z-of_z w32 h.version fits.version))

pub header_codec : IsCodec header_at header_text HeaderFits
header_codec = record { takes = header_takes; again = header_again }

four_bytes : (n : ℕ) → length (number_text w32 n) ≡ 4
unfolding number_text
four_bytes n = refl

-- four numbers of 4 bytes, and two hashes of 32
pub length-header : (h : Header) → length h.prev.bytes ≡ 32 → length h.root.bytes ≡ 32 → length (header_text h) ≡ 80
length-header h prev root = grind (arith, length-append, four_bytes)

-- a number of 4 bytes and 32 bytes are there
number_there : (i : Input) → 4 ≤ length i.rest → field wrong (number_at w32) i ≡ Ok (from_le_bytes w32 (take 4 i.rest), at i.end (drop 4 i.rest))
number_there i long = rw (le-ltb (length i.rest) 4 long) refl

hash_there : (i : Input) → 32 ≤ length i.rest → field wrong (bytes_at 32) i ≡ Ok (take 32 i.rest, at i.end (drop 32 i.rest))
hash_there i long = rw (le-ltb (length i.rest) 32 long) refl

-- any 80 bytes are a header
pub header_there : (i : Input) → 80 ≤ length i.rest → (h : Header) × (j : Input) × (header_at i ≡ Ok (h, j)) × (length i.rest ≡ 80 + length j.rest)
unfolding header_at
header_there i long =
    let a = drop 4 i.rest in
    let b = drop 32 a in
    let c = drop 32 b in
    let d = drop 4 c in
    let e = drop 4 d in
    let f = drop 4 e in
    let la = length-drop 4 i.rest in
    let lb = length-drop 32 a in
    let lc = length-drop 32 b in
    let ld = length-drop 4 c in
    let le = length-drop 4 d in
    let lf = length-drop 4 e in (
      record {
        version = cast_signed w32 (from_le_bytes w32 (take 4 i.rest));
        prev = record { bytes = take 32 a };
        root = record { bytes = take 32 b };
        time = from_le_bytes w32 (take 4 c);
        bits = from_le_bytes w32 (take 4 d);
        nonce = from_le_bytes w32 (take 4 e);
      },
      at i.end f,
      rw (
        number_there i (omega arith),
        hash_there (at i.end a) (omega arith),
        hash_there (at i.end b) (omega arith),
        number_there (at i.end c) (omega arith),
        number_there (at i.end d) (omega arith),
        number_there (at i.end e) (omega arith),
      ) refl,
      omega arith,
    )

-- ---- a block

pub regroup_block : (a b c rest : List ℕ) → (a ++ b ++ c) ++ rest ≡ a ++ (b ++ (c ++ rest))
regroup_block a b c rest = simp append_assoc

pub block_takes : (i : Input) (x : Block) (j : Input) → IsBytes i.rest → block_at i ≡ Ok (x, j) → Takes i.rest (block_text x) j.rest × BlockFits x
unfolding block_at
block_takes i x j fits e =
    let a = step header_codec i _ (x, j) fits e in
    let b = step length_codec a.after _ (x, j) a.takes.rest_fits a.goes_on in
    let c = step (many_codec tx_codec b.value) b.after _ (x, j) b.takes.rest_fits b.goes_on in
    let ab = Takes-then i.rest (header_text a.value) a.after.rest (compact b.value) b.after.rest a.takes b.takes in
    let abc = Takes-then i.rest (header_text a.value ++ compact b.value) b.after.rest (flat_map tx_text c.value) c.after.rest ab c.takes in
    let counted = subst (λ (k : ℕ). Takes i.rest (header_text a.value ++ compact k ++ flat_map tx_text c.value) c.after.rest) (sym c.fits.len) abc in
    let made : Block × Input = (record { header = a.value; txs = c.value }, c.after) in
    subst (λ (y : Block × Input). Takes i.rest (block_text y.0) y.1.rest × BlockFits y.0) (ok_is {E = Wrong} made (x, j) c.goes_on)
    (counted, record { header = a.fits; tx_count = subst IsLength (sym c.fits.len) b.fits; txs = c.fits.each })

pub block_again : (b : Block) (end : ℕ) (rest : List ℕ) → BlockFits b → block_at (at end (block_text b ++ rest)) ≡ Ok (b, at end rest)
unfolding block_at
block_again b end rest fits =
    let regrouped : block_text b ++ rest ≡ header_text b.header ++ (compact (length b.txs) ++ (flat_map tx_text b.txs ++ rest)) = regroup_block (header_text b.header) (compact (length b.txs)) (flat_map tx_text b.txs) rest in
    ap (λ (y : List ℕ). block_at (at end y)) regrouped ∙
    rw (
      header_codec.again b.header end (compact (length b.txs) ++ (flat_map tx_text b.txs ++ rest)) fits.header,
      length_codec.again (length b.txs) end (flat_map tx_text b.txs ++ rest) fits.tx_count,
      (many_codec tx_codec (length b.txs)).again b.txs end rest (record { len = refl; each = fits.txs }),
    ) refl

pub block_codec : IsCodec block_at block_text BlockFits
block_codec = record { takes = block_takes; again = block_again }

-- ---- all bytes

pub whole_takes : (bytes : List ℕ) (b : Block) → IsBytes bytes → block_of bytes ≡ Ok b → BlockFits b × (bytes ≡ block_text b)
unfolding block_of
whole_takes bytes b fits e =
    let a = step block_codec (at (length bytes) bytes) _ b fits e in
    let g = guard_else (eqb (length a.after.rest) 0) (Trailing, place a.after) a.value b a.goes_on in
    let nothing : a.after.rest ≡ [] = nil_from_length a.after.rest (eqb-true _ _ g.0) in
    let whole : bytes ≡ block_text a.value = a.takes.parts ∙ ap (λ (r : List ℕ). block_text a.value ++ r) nothing ∙ append-nil (block_text a.value) in
    subst (λ (y : Block). BlockFits y × (bytes ≡ block_text y)) g.1 (a.fits, whole)

pub whole_again : (b : Block) → BlockFits b → block_of (block_text b) ≡ Ok b
unfolding block_of
whole_again b fits =
    let whole : block_at (at (length (block_text b)) (block_text b)) ≡ Ok (b, at (length (block_text b)) []) =
    ap (λ (y : List ℕ). block_at (at (length (block_text b)) y)) (sym (append-nil (block_text b))) ∙ block_codec.again b (length (block_text b)) [] fits in
    rw whole refl

-- bytes that are a block begin with its header
pub header_of_block : (bytes : List ℕ) (b : Block) → block_of bytes ≡ Ok b → (after : Input) × (header_at (at (length bytes) bytes) ≡ Ok (b.header, after))
unfolding block_of block_at
header_of_block bytes b e =
    let whole = bind_ok (block_at (at (length bytes) bytes)) _ b e in
    let is = guard_else (eqb (length whole.0.1.rest) 0) (Trailing, place whole.0.1) whole.0.0 b whole.2 in
    let header = bind_ok (header_at (at (length bytes) bytes)) _ whole.0 whole.1 in
    let count = bind_ok (field wrong length_at header.0.1) _ whole.0 header.2 in
    let txs = bind_ok (many_at tx_at count.0.0 count.0.1) _ whole.0 count.2 in
    let made : Block × Input = (record { header = header.0.0; txs = txs.0.0 }, txs.0.1) in
    let same : header.0.0 ≡ b.header = ap (λ (y : Block × Input). y.0.header) (ok_is {E = Wrong} made whole.0 txs.2) ∙ ap (λ (y : Block). y.header) is.1 in
    (header.0.1, subst (λ (h : Header). header_at (at (length bytes) bytes) ≡ Ok (h, header.0.1)) same header.1)
