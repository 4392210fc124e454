-- What is hashed when one more coin is added.
use Rattle.std.specs.Prelude.{◌≡◌, ℕ, List, [], ◌∷◌, ◌++◌, length}
use Rattle.std.proofs.Common.{sym, ap, ◌∙◌, append_assoc}
use Rattle.std.specs.Int.{w32, w64}
use Rattle.std.proofs.lemmas.List.{append-nil}
use Rattle.std.proofs.lemmas.List.Concat.{flat_map-append, flat_map-cons}
use Rattle.base_types.specs.Bytes.{compact, number_text}
use Rattle.base_types.specs.declared.hash.OutPoint.{OutPoint}
use Rattle.base_types.specs.declared.coin.Coin.{Coin}
use Rattle.base_types.specs.Coins.{height_code}
use Rattle.coin_hash.specs.CoinHash.{coin_part, hash_text}

regroup : (a b c d e f g : List ℕ) → a ++ (b ++ c ++ d ++ e ++ f ++ g) ≡ a ++ b ++ c ++ d ++ e ++ f ++ g
regroup a b c d e f g = simp append_assoc

pub added : (coins : List (OutPoint × Coin)) (key : OutPoint) (coin : Coin) (index height value script : List ℕ) → index ≡ number_text w32 key.index → height ≡ number_text w32 (height_code coin) → value ≡ number_text w64 coin.value → script ≡ coin.script
    → hash_text coins ++ key.txid.bytes ++ index ++ height ++ value ++ compact (length script) ++ script ≡ hash_text (coins ++ (key, coin) ∷ [])
unfolding coin_part
added coins key coin index height value script a b c d =
    let one : hash_text ((key, coin) ∷ []) ≡ coin_part (key, coin) = flat_map-cons coin_part (key, coin) [] ∙ append-nil (coin_part (key, coin)) in
    let whole : hash_text (coins ++ (key, coin) ∷ []) ≡ hash_text coins ++ coin_part (key, coin) = flat_map-append coin_part coins ((key, coin) ∷ []) ∙ ap (λ (t : List ℕ). hash_text coins ++ t) one in
    rw (a, b, c, d) (sym (whole ∙ regroup (hash_text coins) key.txid.bytes (number_text w32 key.index) (number_text w32 (height_code coin)) (number_text w64 coin.value) (compact (length coin.script)) coin.script))
