-- The index as a finite map, what its hashers begin with, and how many of its entries have no coin.
use Rattle.std.specs.Prelude.{ℕ, List, map, ◌==◌, if◌then◌else◌, refl}
use Rattle.std.specs.Coded.{Coded, code_by, coded_ℕ, coded×}
use Rattle.std.specs.FinMap.{from_entries, code}
use Rattle.std.specs.Hash as fed
use Rattle.std.specs.Hash.DefaultHasher as sip
use Rattle.std.specs.HashMap.{HashMap, values}
use Rattle.std.specs.List.{fold, sum_by}
use Rattle.base_types.specs.Codes.{outpoint_code}
use Rattle.base_types.specs.declared.program.Salt.{Salt}
use Rattle.base_types.specs.declared.hash.OutPoint.{OutPoint}
use Rattle.coin_store.specs.declared.index.IndexKey.{IndexKey}
use Rattle.coin_store.specs.declared.index.Salted.{Salted}
use Rattle.coin_store.specs.declared.places.CoinPlace.{CoinPlace}
use Rattle.coin_store.specs.Places.{CoinPlaces}

abbrev pub pairs : List (IndexKey × CoinPlace) → List (OutPoint × CoinPlace)
pairs entries = map (λ entry. (entry.0.outpoint, entry.1)) entries

abbrev pub map_of : HashMap IndexKey CoinPlace Salted → CoinPlaces
map_of places = from_entries (pairs places.entries)

-- a hasher that was fed the two words of a salt
abbrev pub salted : Salt → Salted
salted salt = record { initial = fold sip.write (fold sip.write sip.initial (fed.u64 salt.a)) (fed.u64 salt.b) }

abbrev pub vacancy : CoinPlace → ℕ
vacancy place = if place.len == 0 then 1 else 0

-- how many places have no bytes
abbrev pub vacancies : HashMap IndexKey CoinPlace Salted → ℕ
vacancies places = sum_by vacancy (values places)

-- ---- codes, by which proofs tell values apart

abbrev Numbers : Type 0
Numbers = ℕ × ℕ

place_code : Coded CoinPlace
place_code = code_by (Numbers × Numbers) (coded× (coded× coded_ℕ coded_ℕ) (coded× coded_ℕ coded_ℕ)) (λ p. ((p.gate, p.at), (p.len, p.file)))
    (λ n. record { gate = n.0.0; at = n.0.1; len = n.1.0; file = n.1.1 }) (λ _. refl)

pub places_code : Coded CoinPlaces
places_code = code outpoint_code place_code
