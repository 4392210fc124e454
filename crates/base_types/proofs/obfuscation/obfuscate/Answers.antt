use Rattle.std.proofs.Common.{◌≡◌, ◌<◌, ◌+◌, List, ℕ, length, get_or, set, ap, ◌∙◌, arith}
use Rattle.std.specs.Prelude.{◌%◌, bit_xor}
use Rattle.base_types.proofs.Obfuscated.{obfuscated_more, byte_left}
use Rattle.base_types.proofs.obfuscation.obfuscate.Goals as goal

pub loop-place-preserved : goal.loop-place-preserved
loop-place-preserved c =
    let i = c.loop-place.place in
    let key = c.args.key.now in
    let p = c.args.offset in
    let xs = c.args.bytes.now in
    let v = bit_xor (get_or c.loop-place.bytes i 0) (get_or key ((p + i) % 8) 0) in
    let within : i < length xs = omega arith in
    let same : get_or c.loop-place.bytes i 0 ≡ get_or xs i 0 = ap (λ (zs : List ℕ). get_or zs i 0) c.loop-place.invariant ∙ byte_left key p xs i within in
    ap (λ (zs : List ℕ). set zs i v) c.loop-place.invariant
    ∙ obfuscated_more key p xs i v within (ap (λ (b : ℕ). bit_xor b (get_or key ((p + i) % 8) 0)) same)
