-- What a contract sees of a `Pool`.
use Rattle.std.specs.Prelude.{ℕ, refl}
use Rattle.std.specs.Ordering.{nat_cmp}
use Rattle.std.specs.FinMap.{FinMap, insert}
use Rattle.std.specs.FinMap as map
use Rattle.std.specs.Coded.{Coded, code_by, coded×, coded_ℕ}

-- the value in each slot that is taken, and how many more fit without memory
pub record Contents (T : Type 0) : Type 0 where
  pub values : FinMap nat_cmp T
  pub spare : ℕ

module _ {T : Type 0} where
  abbrev pub contents : FinMap nat_cmp T → ℕ → Contents T
  contents m n = record { values = m; spare = n }

  abbrev pub contents_code : Coded T → Coded (Contents T)
  contents_code c = code_by (FinMap nat_cmp T × ℕ) (coded× (map.code coded_ℕ c) coded_ℕ) (λ p. (p.values, p.spare)) (λ p. contents p.0 p.1) (λ _. refl)

  -- the pool with w in the slot, which had a value
  abbrev pub with_value : Contents T → ℕ → T → Contents T
  with_value p slot w = contents (insert p.values slot w) p.spare
