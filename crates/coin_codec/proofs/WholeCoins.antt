-- Bytes that are a coin's text are those that are read as a coin to their end.
use Rattle.std.specs.Prelude.{◌≡◌, ℕ, true, false, Bool, List, [], ◌∷◌, ◌++◌, length, Result, Ok, Err, refl}
use Rattle.std.proofs.Common.{eqb, sym, ap, ◌∙◌, arith, append-nil, is_ok}
use Rattle.std.proofs.lemmas.Bool.{eqb-true}
use Rattle.base_types.specs.Codec.{IsBytes, at}
use Rattle.base_types.specs.Reading.{Input}
use Rattle.base_types.specs.declared.coin.Coin.{Coin}
use Rattle.coin_codec.specs.declared.fault.BadCoin.{BadCoin}
use Rattle.coin_codec.specs.declared.parts.CoinParts.{CoinParts}
use Rattle.coin_codec.specs.CoinText.{coin_text, IsCoinText}
use Rattle.coin_codec.specs.Parts.{coin_in, ReadsPart}
use Rattle.coin_codec.specs.Reading.{Wrong, coin_at, is_whole}
use Rattle.coin_codec.proofs.CoinLaws.{coin_codec}

no_members : (xs : List ℕ) → length xs ≡ 0 → xs ≡ []
no_members [] e = refl
no_members (x ∷ xs) e = absurd (omega arith)

text_found : (bytes : List ℕ) → IsBytes bytes → (r : Result (Coin × Input) Wrong) → coin_at (at (length bytes) bytes) ≡ r → is_whole r ≡ true → IsCoinText bytes
text_found bytes fits (Ok read) e whole =
    let k = coin_codec.takes (at (length bytes) bytes) read.0 read.1 fits e in
    let none : read.1.rest ≡ [] = no_members read.1.rest (eqb-true _ _ whole) in
    (read.0, k.1, k.0.parts ∙ ap (λ (t : List ℕ). coin_text read.0 ++ t) none ∙ append-nil (coin_text read.0))
text_found bytes fits (Err e) is whole = absurd cc

text_again : (bytes : List ℕ) → IsCoinText bytes → is_whole (coin_at (at (length bytes) bytes)) ≡ true
text_again bytes text =
    let is : bytes ≡ coin_text text.0 ++ [] = text.2 ∙ sym (append-nil (coin_text text.0)) in
    ap (λ (t : List ℕ). is_whole (coin_at (at (length bytes) t))) is ∙ ap is_whole (coin_codec.again text.0 (length bytes) [] text.1)

pub is_text : (bytes : List ℕ) → IsBytes bytes → (b : Bool) → b ≡ is_whole (coin_at (at (length bytes) bytes)) → (b ≡ true → IsCoinText bytes) × (IsCoinText bytes → b ≡ true)
is_text bytes fits b is = (λ whole. text_found bytes fits _ refl (sym is ∙ whole), λ text. is ∙ text_again bytes text)

-- by what the reading of its parts gave
pub parts_whole : (r : Result CoinParts BadCoin) (old new : Input) → ReadsPart coin_in r new (coin_at old) → is_ok r ≡ true → is_whole (coin_at old) ≡ eqb (length new.rest) 0
parts_whole (Ok parts) old new value worked = ap is_whole value
parts_whole (Err bad) old new value worked = absurd cc

pub parts_broken : (r : Result CoinParts BadCoin) (old new : Input) → ReadsPart coin_in r new (coin_at old) → is_ok r ≡ false → is_whole (coin_at old) ≡ false
parts_broken (Ok parts) old new value failed = absurd cc
parts_broken (Err bad) old new value failed = ap is_whole value
