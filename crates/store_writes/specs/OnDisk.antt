-- An open store over the images of its disk.
use Rattle.std.specs.Prelude.{◌≡◌, ℕ, List, [], Option, Some, None}
use Rattle.disk_model.specs.Disk.{Image}
use Rattle.block_store.specs.OpenStore as blocks
use Rattle.block_store.specs.OpenStore.{OpenStore, Payloads}
use Rattle.coin_store.specs.Batches.{Batch}
use Rattle.coin_store.specs.Store as coins
use Rattle.coin_store.specs.declared.store.CoinStore.{CoinStore}
use Rattle.machine.specs.Calls.{IsOpen}
use Rattle.store_state.specs.State.{StoreState, coin_file, first_key, first_rules}

-- Each image that a crash may leave, and the one that the disk tells, stands for this store. What the open files know are the
-- payloads of these images: of headers and bodies, and batches of coins without a base, from genesis.
pub record OnDisk (limit : ℕ) (contents : Option Image) (images : Image → Type 0) (open_blocks : OpenStore) (open_coins : CoinStore) (store : StoreState) : Type 0 where
  pub image : Image
  pub told : contents ≡ Some image
  pub is_open : IsOpen limit first_rules images image store
  pub payloads : Payloads
  pub batches : List Batch
  pub block_files : blocks.Holds contents images open_blocks payloads
  pub coin_rows : coins.Holds contents images open_coins [] batches
  pub file : open_coins.log.file ≡ coin_file
  pub mask : open_coins.mask ≡ first_key
  pub no_base : open_coins.base ≡ None
