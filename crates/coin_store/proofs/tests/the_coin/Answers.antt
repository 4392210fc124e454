use Rattle.std.specs.Prelude.{◌≡◌, List, [], ◌∷◌, ℕ, length, true, refl}
use Rattle.std.proofs.Common.{ap, arith, ◌∙◌}
use Rattle.base_types.specs.Bytes.{compact, varint, marked}
use Rattle.base_types.specs.declared.coin.Coin.{Coin}
use Rattle.coin_codec.specs.Amount.{amount_code, code_of, tens, left}
use Rattle.coin_codec.specs.CoinText.{coin_text}
use Rattle.coin_codec.specs.ScriptForm.{script_form, short_form, between}
use Rattle.coin_store.proofs.tests.the_coin.Goals as goal

abbrev with_script : List ℕ → Coin
with_script script = record { value = 5_000_000_000; script = script; height = 1; coinbase = true }

four : length (coin_text (with_script (0x51 ∷ []))) ≡ 4
unfolding coin_text compact varint marked amount_code code_of tens left script_form short_form between
four = refl

pub returns : goal.returns
returns c =
    let script = c.in_ok-from_slice.ensures in
    (record { value = omega arith; script = omega (arith, ap length script); height = omega arith }, ap (λ (s : List ℕ). length (coin_text (with_script s))) script ∙ four)
