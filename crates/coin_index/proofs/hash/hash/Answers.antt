use Rattle.std.proofs.Common.{ℕ, ◌∙◌}
use Rattle.std.specs.Prelude.{bit_xor}
use Rattle.coin_index.specs.Hash.{folded, hash_of}
use Rattle.coin_index.proofs.hash.hash.Goals as goal

pub returns : goal.returns
unfolding hash_of
returns c =
    let s = c.args.salt.now in let mixed : ℕ = 0x9e37_79b9_7f4a_7c15 in
    let low = c.fold-low.ensures ∙ (λ i. folded (bit_xor (c.word.ensures i) s.a) (bit_xor (c.word-2.ensures i) s.b)) in
    let high = c.fold-high.ensures ∙ (λ i. folded (bit_xor (c.word-3.ensures i) s.b) (bit_xor (c.word-4.ensures i) s.a)) in
    c.fold.ensures ∙ (λ i. folded (bit_xor (low i) c.args.key.now.index) (bit_xor (high i) mixed))
