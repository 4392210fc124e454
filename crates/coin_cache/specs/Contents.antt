-- What a contract sees of a cache: the entries in its slots.
use Rattle.std.specs.Prelude.{ℕ, Bool, false, List, Option, refl}
use Rattle.std.specs.Ordering.{nat_cmp}
use Rattle.std.specs.FinMap.{FinMap}
use Rattle.std.specs.FinMap as map
use Rattle.std.specs.Coded.{Coded, code_by, coded×, coded_ℕ, coded_bool, coded_list, coded_option}
use Rattle.base_types.specs.Codes.{outpoint_code, coin_code, salt_code}
use Rattle.base_types.specs.declared.coin.Coin.{Coin}
use Rattle.base_types.specs.declared.hash.OutPoint.{OutPoint}
use Rattle.base_types.specs.declared.program.Salt.{Salt}

-- what a cache has of an outpoint: its coin, or that it was spent; whether this may differ from the parent, and whether the
-- parent is known to have no coin there
pub record Entry : Type 0 where
  pub key : OutPoint
  pub coin : Option Coin
  pub dirty : Bool
  pub fresh : Bool

abbrev pub entry_without_flag : OutPoint → Option Coin → Bool → Entry
entry_without_flag key coin fresh = record { key = key; coin = coin; dirty = false; fresh = fresh }

-- the entry in each slot, the slots of the dirty ones in the order in which they were flagged, how many more entries fit
-- without memory, and the salt of the index
pub record Contents : Type 0 where
  pub slots : FinMap nat_cmp Entry
  pub changes : List ℕ
  pub spare : ℕ
  pub salt : Salt

abbrev pub contents : FinMap nat_cmp Entry → List ℕ → ℕ → Salt → Contents
contents slots changes spare salt = record { slots = slots; changes = changes; spare = spare; salt = salt }

abbrev pub entry_code : Coded Entry
entry_code =
    code_by ((OutPoint × Option Coin) × (Bool × Bool)) (coded× (coded× outpoint_code (coded_option coin_code)) (coded× coded_bool coded_bool)) (λ e. ((e.key, e.coin), (e.dirty, e.fresh)))
    (λ p. record { key = p.0.0; coin = p.0.1; dirty = p.1.0; fresh = p.1.1 }) (λ _. refl)

abbrev pub contents_code : Coded Contents
contents_code =
    code_by ((FinMap nat_cmp Entry × List ℕ) × (ℕ × Salt)) (coded× (coded× (map.code coded_ℕ entry_code) (coded_list coded_ℕ)) (coded× coded_ℕ salt_code))
    (λ c. ((c.slots, c.changes), (c.spare, c.salt))) (λ p. contents p.0.0 p.0.1 p.1.0 p.1.1) (λ _. refl)
