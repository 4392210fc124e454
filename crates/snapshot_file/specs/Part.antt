-- What the first bytes of a snapshot file say.
use Rattle.std.specs.Prelude.{ℕ, zero, suc, ◌+◌, ◌-◌, List, [], ◌∷◌, Option, Some, None, option_map, Result, Ok, Err}
use Rattle.base_types.specs.Reading.{Input, place}
use Rattle.base_types.specs.declared.hash.Hash32.{Hash32}
use Rattle.base_types.specs.declared.coin.Coin.{Coin}
use Rattle.base_types.specs.declared.snapshot_error.SnapError.TheVariants.{LeftOver}
use Rattle.snapshot_file.specs.Items.{Wrong, Stop, from_first, head_at, group_at, member_at}
use Rattle.snapshot_file.specs.declared.head.SnapHead.{SnapHead}
use Rattle.snapshot_file.specs.declared.coins.SnapCoin.{SnapCoin}

-- The coins that are whole, and the fault, if the bytes break the form whatever follows.
pub record Found : Type 0 where
  pub coins : List SnapCoin
  pub fault : Option Wrong

abbrev pub nothing : Found
nothing = record { coins = []; fault = None }

-- a fault's offset, from that of the item's first byte
abbrev pub at_offset : ℕ → Wrong → Wrong
at_offset at wrong = (wrong.0, at + wrong.1)

-- what follows an item that begins at an offset, if it was read
abbrev pub with_rest : {X : Type 0} → ℕ → (X → ℕ → List ℕ → Found) → Result (X × Input) Stop → Found
with_rest at next (Ok (x, j)) = next x (at + place j) j.rest
with_rest at next (Err stop) = record { coins = []; fault = option_map (at_offset at) stop }

abbrev pub also : SnapCoin → Found → Found
also coin found = record { coins = coin ∷ found.coins; fault = found.fault }

abbrev pub snap_coin : Hash32 → ℕ → ℕ × Coin → SnapCoin
snap_coin txid at member = record { key = record { txid = txid; index = member.0 }; coin = member.1; at = at }

-- a coin of this transaction, and what follows it
unfoldable pub read_member : Option ℕ → Hash32 → (ℕ → List ℕ → Found) → ℕ → List ℕ → Found
read_member height txid others at bytes = with_rest at (λ member next rest. also (snap_coin txid at member) (others next rest)) (member_at height (from_first bytes))

-- nothing follows the last coin
abbrev pub at_end : ℕ → List ℕ → Found
at_end at [] = nothing
at_end at (byte ∷ rest) = record { coins = []; fault = Some (LeftOver, at) }

-- The bytes from an offset on, where so many coins are left in the file, of which so many are of the transaction whose
-- group was begun.
unfoldable pub read_coins : Option ℕ → ℕ → ℕ → Hash32 → ℕ → List ℕ → Found
read_coins height zero members txid at bytes = at_end at bytes
read_coins height (suc left) zero txid at bytes =
    with_rest at (λ group next rest. read_member height group.0 (read_coins height left (group.1 - 1) group.0) next rest) (group_at (suc left) (from_first bytes))
read_coins height (suc left) (suc members) txid at bytes = read_member height txid (read_coins height left members txid) at bytes

-- The metadata, if it is whole in these bytes, the coins that are whole, and the fault, if the bytes break the form
-- whatever follows. A height that was set is the base's.
pub record Part : Type 0 where
  pub head : Option SnapHead
  pub coins : List SnapCoin
  pub fault : Option Wrong

-- where no group was begun
abbrev pub no_group : Hash32
no_group = record { bytes = [] }

abbrev pub behind_head : Option ℕ → Result (SnapHead × Input) Stop → Part
behind_head height (Ok (head, j)) =
    let found = read_coins height head.count 0 no_group (place j) j.rest in
    record { head = Some head; coins = found.coins; fault = found.fault }
behind_head height (Err stop) = record { head = None; coins = []; fault = stop }

unfoldable pub read_part : Option ℕ → List ℕ → Part
read_part height bytes = behind_head height (head_at (from_first bytes))
