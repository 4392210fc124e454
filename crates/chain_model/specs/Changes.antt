-- Changes to coins that are kept beside them.
use Rattle.std.specs.Prelude.{List, IfSome, fold}
use Rattle.std.specs.declared.option.Option.{Option}
use Rattle.std.specs.declared.option.Option.TheVariants.{Some, None}
use Rattle.std.specs.Coded.{Coded, coded_option}
use Rattle.std.specs.FinMap as finite
use Rattle.std.specs.FinMap.{FinMap, get, insert, remove, entries}
use Rattle.base_types.specs.Keys.{outpoint_cmp}
use Rattle.base_types.specs.Coins.{Coins, CoinFits}
use Rattle.base_types.specs.declared.hash.OutPoint.{OutPoint}
use Rattle.base_types.specs.declared.coin.Coin.{Coin}
use Rattle.base_types.specs.Codes.{outpoint_code, coin_code}

-- at an outpoint the coin that is to be there, or that none is
abbrev pub Changes : Type 0
Changes = FinMap outpoint_cmp (Option Coin)

abbrev pub changes_code : Coded Changes
changes_code = finite.code outpoint_code (coded_option coin_code)

-- the coins after one change
abbrev pub changed : Coins → OutPoint → Option Coin → Coins
changed coins key None = remove coins key
changed coins key (Some coin) = insert coins key coin

-- and after several
abbrev pub changed_by : Coins → List (OutPoint × Option Coin) → Coins
changed_by coins changes = fold (λ all change. changed all change.0 change.1) coins changes

abbrev pub with_changes : Changes → Coins → Coins
with_changes changes coins = changed_by coins (entries changes)

-- the coins that are to be there fit their ranges
abbrev pub ChangesFit : Changes → Type 0
ChangesFit changes = (key : OutPoint) → IfSome (get changes key) (λ change. IfSome change CoinFits)

-- all coins do
abbrev pub CoinsFit : Coins → Type 0
CoinsFit coins = (key : OutPoint) → IfSome (get coins key) CoinFits
