-- The file of coins, as it is opened without a base file.
use Rattle.std.proofs.Common.{◌≡◌, ◌∙◌, ℕ, List, Option, None, Some, Ok, Err, ap, refl, subst}
use Rattle.std.specs.Prelude.{Result, IfOk}
use Rattle.disk_model.specs.Disk.{Image}
use Rattle.base_types.specs.declared.fault.StoreFault.{StoreFault}
use Rattle.base_types.specs.declared.hash.Hash32.{Hash32}
use Rattle.base_types.specs.declared.program.Salt.{Salt}
use Rattle.block_codec.specs.Genesis.{genesis_hash}
use Rattle.chainstates.specs.Opening.{HasOpenedCoins}
use Rattle.coin_store.specs.Batches.{Row}
use Rattle.coin_store.specs.Store as coins
use Rattle.coin_store.specs.Store.{IsOpened, OpensAs, texts}
use Rattle.coin_store.specs.declared.marker.Marker.TheVariants.{At}
use Rattle.coin_store.specs.declared.store.CoinStore.{CoinStore}
use Rattle.coin_store.proofs.Opens.{base_none}
use Rattle.store_state.specs.State.{coin_file, first_key}

pub opened_coins : (before : Image) (contents : Option Image) (images : Image → Type 0) (limit : ℕ) (genesis : Hash32) (salt : Salt) (result : Result CoinStore StoreFault) → genesis ≡ genesis_hash
    → IfOk result (OpensAs coin_file None first_key before contents images) → IfOk result (IsOpened coin_file None limit first_key genesis salt) → IfOk result (λ store. HasOpenedCoins before contents images store)
opened_coins before contents images limit genesis salt (Ok store) is opens set =
    let none = base_none first_key None before opens.base opens.base_log refl in
    record {
      batches = opens.batches;
      rows = opens.coin_log;
      coin_rows = subst (λ (base : List (List Row)). coins.Holds contents images store base opens.batches) none (opens.holds (λ e. let never : None ≡ Some coin_file = e in cc));
      file = set.file_is;
      mask = set.mask_is;
      no_base = set.base_is;
      start = set.start_is ∙ ap (λ (h : Hash32). At h) is;
    }
opened_coins before contents images limit genesis salt (Err fault) is opens set = tt
