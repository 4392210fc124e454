use Rattle.std.proofs.Common.{◌≡◌, sym, ap, ◌∙◌}
use Rattle.std.specs.Prelude.{List, ℕ, ◌++◌, Ok}
use Rattle.base_types.specs.Codec.{at}
use Rattle.base_types.specs.Reading.{Input}
use Rattle.base_types.specs.declared.coin.Coin.{Coin}
use Rattle.base_types.specs.Coins.{CoinFits}
use Rattle.coin_codec.specs.CoinText.{coin_text}
use Rattle.coin_codec.specs.Reading.{coin_at}
use Rattle.coin_codec.proofs.CoinLaws.{coin_codec}
use Rattle.coin_codec.proofs.reading.read_coin.Goals as goal

text_there : (old : Input) (coin : Coin) (rest : List ℕ) → CoinFits coin → old.rest ≡ coin_text coin ++ rest → coin_at old ≡ Ok (coin, at old.end rest)
text_there old coin rest fits is = ap (λ (bytes : List ℕ). coin_at (at old.end bytes)) is ∙ coin_codec.again coin old.end rest fits

pub returns-clause-only : goal.returns-clause-only
returns-clause-only c =
    λ coin rest fits is. sym (text_there c.args.cursor.now coin rest fits is) ∙ c.in_ok-parts.ensures.value ∙ ap (λ (made : Coin). Ok (made, c.parts_of.new.cursor)) (sym c.in_ok-to_coin.ensures)

pub returns-in_err-parts-clause-only : goal.returns-in_err-parts-clause-only
returns-in_err-parts-clause-only c = λ coin rest fits is.
    let other = sym (text_there c.args.cursor.now coin rest fits is) ∙ c.in_err-parts.ensures.value in
    absurd cc
