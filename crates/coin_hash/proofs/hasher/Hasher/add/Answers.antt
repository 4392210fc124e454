use Rattle.std.proofs.Common.{ℕ, ap, subst, ◌∙◌}
use Rattle.std.specs.Int.{w32}
use Rattle.sha2.specs.Hashers.{Holds256}
use Rattle.base_types.specs.Bytes.{number_text}
use Rattle.coin_hash.specs.CoinHash.{hash_text}
use Rattle.coin_hash.proofs.Added.{added}
use Rattle.coin_hash.proofs.hasher.Hasher.add.Goals as goal

pub returns : goal.returns
unfolding number_text
returns c = λ coins held.
    let txid = c.update.ensures (hash_text coins) held in
    let index = c.update-2.ensures _ txid in
    let height = c.update-3.ensures _ index in
    let value = c.update-4.ensures _ height in
    let len = c.add_length.ensures _ value in
    let script = c.update-5.ensures _ len in
    let fields = c.to_le_bytes-2.ensures ∙ ap (λ (code : ℕ). number_text w32 code) c.height_code-height.ensures in
    subst (λ text. Holds256 c.update-5.new.self text)
    (added coins c.args.key.now c.args.coin.now c.to_le_bytes.result c.to_le_bytes-2.result c.to_le_bytes-3.result c.as_slice-script.result.now c.to_le_bytes.ensures fields c.to_le_bytes-3.ensures c.as_slice-script.ensures)
    script
