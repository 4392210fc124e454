use Rattle.std.proofs.Common.{List, ℕ, [], ◌++◌, ap, ◌∙◌}
use Rattle.std.specs.Int.{w64}
use Rattle.sha2.specs.Sha256.{sha256}
use Rattle.base_types.specs.Bytes.{number_text}
use Rattle.chain_gen.proofs.scripts.seed.Goals as goal

pub returns : goal.returns
unfolding number_text
returns c =
    let first = c.update.ensures [] c.new-hasher.ensures in
    let second = c.update-2.ensures c.to_le_bytes.result first in
    c.finalize.ensures (c.to_le_bytes.result ++ c.to_le_bytes-2.result) second
    ∙ ap (λ (bytes : List ℕ). sha256 (bytes ++ c.to_le_bytes-2.result)) c.to_le_bytes.ensures
    ∙ ap (λ (bytes : List ℕ). sha256 (number_text w64 c.args.number ++ bytes)) c.to_le_bytes-2.ensures
