-- What the readers of rows return.
use Rattle.std.specs.Prelude.{⊤, ◌≡◌, Bool, true, false, ℕ, ◌+◌, ◌≤◌, List, ◌++◌, length, take, drop, Option, Some, None, Result, Ok, Err}
use Rattle.base_types.specs.Codec.{IsBytes}
use Rattle.base_types.specs.declared.coin.Coin.{Coin}
use Rattle.coin_codec.specs.KeyText.{KeyFits}
use Rattle.coin_store.specs.declared.row.RowHead.{RowHead}
use Rattle.coin_store.specs.declared.row.RowFault.{RowFault}
use Rattle.coin_store.specs.declared.row.RowFault.TheVariants.{NoMemory, Broken}
use Rattle.coin_store.specs.Batches.{head_text, value_text, row_text, RowFits}
use Rattle.coin_store.specs.Reading.{head_of, value_of, row_of}

-- the head of the first row of these bytes
pub record HeadStands (bytes : List ℕ) (head : RowHead) : Type 0 where
  pub is : head_of bytes ≡ Some (record { key = head.key; value = take head.len (drop head.from bytes); rest = drop (head.from + head.len) bytes })
  pub within : head.from + head.len ≤ length bytes
  pub from : head.from ≡ length (head_text head.key head.len)
  pub key : KeyFits head.key
  pub fits : IsBytes bytes

abbrev pub IsHead : List ℕ → Option RowHead → Type 0
IsHead bytes None = head_of bytes ≡ None
IsHead bytes (Some head) = HeadStands bytes head

abbrev pub IsBrokenBy : Type 0 → RowFault → Type 0
IsBrokenBy P NoMemory = ⊤
IsBrokenBy P Broken = P

abbrev pub IsValue : List ℕ → Result (Option Coin) RowFault → Type 0
IsValue bytes (Ok coin) = value_of bytes ≡ Some coin
IsValue bytes (Err fault) = IsBrokenBy (value_of bytes ≡ None) fault

abbrev pub IsChecked : List ℕ → Bool → Type 0
IsChecked bytes true = (coin : Option Coin) × (value_of bytes ≡ Some coin)
IsChecked bytes false = value_of bytes ≡ None

-- the first row of these bytes
pub record IsRow (mask bytes : List ℕ) (head : RowHead) : Type 0 where
  pub coin : Option Coin
  pub is : row_of mask bytes ≡ Some (record { key = head.key; coin = coin }, drop (head.from + head.len) bytes)
  pub parts : bytes ≡ row_text mask (record { key = head.key; coin = coin }) ++ drop (head.from + head.len) bytes
  pub fits : RowFits (record { key = head.key; coin = coin })
  pub len : head.len ≡ length (value_text coin)
  pub from : head.from ≡ length (head_text head.key head.len)
  pub within : head.from + head.len ≤ length bytes
