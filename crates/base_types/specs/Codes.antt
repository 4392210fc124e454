-- Outpoints, coins and salts as tuples, by which proofs tell values apart that hold them.
use Rattle.std.specs.Prelude.{ℕ, Bool, List, refl}
use Rattle.std.specs.Coded.{Coded, code_by, coded×, coded_ℕ, coded_bool, coded_list}
use Rattle.std.specs.FinMap as finite
use Rattle.base_types.specs.Coins.{Coins}
use Rattle.base_types.specs.declared.hash.OutPoint.{OutPoint}
use Rattle.base_types.specs.declared.coin.Coin.{Coin}
use Rattle.base_types.specs.declared.program.Salt.{Salt}

abbrev pub outpoint_code : Coded OutPoint
outpoint_code =
    code_by (List ℕ × ℕ) (coded× (coded_list coded_ℕ) coded_ℕ) (λ o. (o.txid.bytes, o.index))
    (λ p. record { txid = record { bytes = p.0 }; index = p.1 }) (λ _. refl)

abbrev pub coin_code : Coded Coin
coin_code =
    code_by ((ℕ × List ℕ) × (ℕ × Bool)) (coded× (coded× coded_ℕ (coded_list coded_ℕ)) (coded× coded_ℕ coded_bool)) (λ c. ((c.value, c.script), (c.height, c.coinbase)))
    (λ p. record { value = p.0.0; script = p.0.1; height = p.1.0; coinbase = p.1.1 }) (λ _. refl)

abbrev pub coins_code : Coded Coins
coins_code = finite.code outpoint_code coin_code

abbrev pub salt_code : Coded Salt
salt_code = code_by (ℕ × ℕ) (coded× coded_ℕ coded_ℕ) (λ s. (s.a, s.b)) (λ p. record { a = p.0; b = p.1 }) (λ _. refl)
