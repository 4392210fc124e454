-- What contracts see of the index from outpoints to places, and how many of its entries have no coin.
use Rattle.std.specs.Prelude.{◌≡◌, ◌⊎◌, ℕ, ◌*◌, ◌≤◌, Contains, List, length, Option, Some, None, refl}
use Rattle.std.specs.Coded.{Coded, code_by, coded_ℕ, coded×}
use Rattle.std.specs.FinMap.{get}
use Rattle.base_types.specs.declared.hash.OutPoint.{OutPoint}
use Rattle.base_types.specs.declared.program.Salt.{Salt}
use Rattle.coin_store.specs.declared.places.CoinPlace.{CoinPlace}
use Rattle.coin_store.specs.IndexMaps.{places_code}
use Rattle.coin_store.specs.Places.{CoinPlaces}

-- the place of each entry, which has no bytes where the entry has no coin; how many entries there are, how many of them
-- have no coin, and how many more take no memory; and the words that its hashers begin with
pub record OpenIndex : Type 0 where
  pub places : CoinPlaces
  pub size : ℕ
  pub vacant : ℕ
  pub spare : ℕ
  pub salt : Salt

abbrev Numbers : Type 0
Numbers = (ℕ × ℕ) × (ℕ × (ℕ × ℕ))

pub index_code : Coded OpenIndex
index_code = code_by (CoinPlaces × Numbers) (coded× places_code (coded× (coded× coded_ℕ coded_ℕ) (coded× coded_ℕ (coded× coded_ℕ coded_ℕ))))
    (λ i. (i.places, ((i.size, i.vacant), (i.spare, (i.salt.a, i.salt.b)))))
    (λ n. record { places = n.0; size = n.1.0.0; vacant = n.1.0.1; spare = n.1.1.0; salt = record { a = n.1.1.1.0; b = n.1.1.1.1 } })
    (λ _. refl)

-- an entry without a coin
abbrev pub IsVacant : Option CoinPlace → Type 0
IsVacant None = ⊥
IsVacant (Some place) = place.len ≡ 0

-- but for entries of these outpoints, at most half of the entries have no coin
pub record HasFewVacant (index : OpenIndex) (keys : List OutPoint) : Type 0 where
  pub others : List OutPoint
  pub few : 2 * length others ≤ index.size
  pub all : (q : OutPoint) → IsVacant (get index.places q) → Contains keys q ⊎ Contains others q
