-- A coin that is asked for.
use Rattle.std.proofs.Common.{◌≡◌, ℕ, [], ◌∷◌, Option, Some, None, Ok, Err, refl, sym, ap, subst, ◌∙◌}
use Rattle.std.specs.Prelude.{Result, IfErr, IfOk}
use Rattle.std.specs.FinMap.{empty, get}
use Rattle.disk_model.specs.Disk.{Image, Quiet, Rose}
use Rattle.disk_model.proofs.Moments.{IsSinceEarlier}
use Rattle.base_types.specs.Coins.{Coins}
use Rattle.base_types.specs.Views.{AnswersCoin, FindsFault, HasViewCause, ViewCounts}
use Rattle.base_types.specs.declared.coin.Coin.{Coin}
use Rattle.base_types.specs.declared.fault.StoreFault.{StoreFault}
use Rattle.base_types.specs.declared.fault.StoreFault.TheVariants.{DiskFailed}
use Rattle.base_types.specs.declared.hash.OutPoint.{OutPoint}
use Rattle.block_store.specs.OpenStore.{OpenStore}
use Rattle.chain_state.specs.Standing.{Carry, IsStanding}
use Rattle.chain_state.specs.Waiting.{AreWaiting}
use Rattle.chain_state.specs.declared.state.ChainState.{ChainState}
use Rattle.chain_state.specs.declared.waiting.Waiting.{Waiting}
use Rattle.chain_state.proofs.Alike.{on_quiet, waiting_alike}
use Rattle.chainstates.specs.Standing.{HasAnswered}
use Rattle.chainstates.specs.declared.session.Session.{Session}
use Rattle.coin_cache.specs.Contents.{Contents}
use Rattle.coin_cache.specs.Entries.{StandsOver, means}
use Rattle.coin_cache.proofs.Meanings.{means_parent}
use Rattle.coin_store.specs.Viewing.{coins_seen}
use Rattle.coin_store.specs.declared.marker.Marker.TheVariants.{At}
use Rattle.coin_store.specs.declared.store.CoinStore.{CoinStore}
use Rattle.coin_store.proofs.HeldCoins.{held_coins}
use Rattle.coin_views.specs.Layers.{block_of, tip_means, tip_of}
use Rattle.coin_views.specs.declared.layers.Layers.{Layers}
use Rattle.flusher.proofs.Begins.{coins_are}
use Rattle.machine.specs.State.{State, active_coins}
use Rattle.machine.specs.Steps.{asked}
use Rattle.store_state.specs.Settled.{IsSettled}
use Rattle.store_state.specs.State.{StoreState}
use Rattle.store_writes.specs.OnDisk.{OnDisk}

-- what a disk has at the places of the rows is the coins of the store
pub seen_is : (limit : ℕ) (contents : Option Image) (images : Image → Type 0) (blocks : OpenStore) (coins : CoinStore) (store : StoreState) → OnDisk limit contents images blocks coins store → coins_seen coins.mask coins.index contents ≡ Some store.active.coins
seen_is limit contents images blocks coins store on =
    held_coins contents images coins [] on.batches on.coin_rows ∙ ap (λ (c : Coins). Some c) (coins_are limit contents images blocks coins store on)

-- look-ups leave what the tip cache means
carried : (layers : Layers) (cache : Contents) (rows meant : Coins) → tip_of layers ≡ cache → (block_of layers).slots ≡ empty → means cache (Some rows) ≡ Some meant → StandsOver cache (Some rows) → Carry layers rows meant
carried layers cache rows meant tip top is stands = record {
  stand = record {
    over_parent = subst (λ (c : Contents). StandsOver c (Some rows)) (sym tip) stands;
    over_tip = (means_parent (block_of layers) top (tip_means layers (Some rows))).1;
  };
  tip = ap (λ (c : Contents). means c (Some rows)) tip ∙ is;
  top = top;
}

module _ {D : Type 0} (time : D → ℕ) (left : D → ℕ → Image → Type 0) (contents : D → Option Image) (earlier : IsSinceEarlier time left)
    (reads_as : (disk : D) (m : Image) → contents disk ≡ Some m → left disk (time disk) m) (old new : D) (quiet : Quiet time left old new) (same : contents new ≡ contents old) (limit : ℕ)
    (before session : Session) (state : State) (store : StoreState) (stands : IsStanding limit (contents old) (left old (time old)) before.shared before.active state store) (settled : IsSettled store) (key : OutPoint) where
  abbrev rows : Option Coins
  rows = coins_seen before.active.store.mask before.active.store.index (contents old)

  rows_are : rows ≡ Some store.active.coins
  rows_are = seen_is limit (contents old) (left old (time old)) before.shared.blocks before.active.store store stands.files

  now_stands : session ≡ record before { active = session.active } → session.active ≡ record before.active { layers = session.active.layers } → (cache : Contents) → tip_of session.active.layers ≡ cache → (block_of session.active.layers).slots ≡ empty
      → means cache rows ≡ means (tip_of before.active.layers) rows → (StandsOver (tip_of before.active.layers) rows → StandsOver cache rows)
      → IsStanding limit (contents new) (left new (time new)) session.shared session.active (asked state key).state store
  now_stands shared active cache tip top means_as stands_as =
      let has = stands.coins settled in
      let moved : ChainState = record before.active { layers = session.active.layers } in
      let is : means cache (Some store.active.coins) ≡ Some (active_coins state) =
      sym (ap (means cache) rows_are) ∙ means_as ∙ ap (means (tip_of before.active.layers)) rows_are ∙ has.carry.tip in
      let over : StandsOver cache (Some store.active.coins) =
      subst (StandsOver cache) rows_are (stands_as (subst (StandsOver (tip_of before.active.layers)) (sym rows_are) has.carry.stand.over_parent)) in
      let here : IsStanding limit (contents new) (left new (time new)) before.shared moved (asked state key).state store = record {
        files = on_quiet time left contents earlier reads_as old new quiet same limit before.shared.blocks before.active.store store stands.files;
        headers = stands.headers;
        most = stands.most;
        grown = stands.grown;
        tree = stands.tree;
        bodies = stands.bodies;
        start = stands.start;
        start_coins = stands.start_coins;
        begun = stands.begun;
        kept = stands.kept;
        tip = stands.tip;
        role = stands.role;
        coins = λ kept. record {
          valid = has.valid;
          carry = carried session.active.layers cache store.active.coins (active_coins state) tip top is over;
          waiting = waiting_alike before.active.waiting state (asked state key).state refl refl refl refl has.waiting;
        };
      } in
      subst (λ (s : Session). IsStanding limit (contents new) (left new (time new)) s.shared session.active (asked state key).state store) (sym shared)
      (subst (λ (c : ChainState). IsStanding limit (contents new) (left new (time new)) before.shared c (asked state key).state store) (sym active) here)

  pub has_answered : session ≡ record before { active = session.active } → session.active ≡ record before.active { layers = session.active.layers } → (cache : Contents) → tip_of session.active.layers ≡ cache → (block_of session.active.layers).slots ≡ empty
      → means cache rows ≡ means (tip_of before.active.layers) rows → (StandsOver (tip_of before.active.layers) rows → StandsOver cache rows)
      → (result : Result (Option Coin) StoreFault) → AnswersCoin (means (tip_of before.active.layers) rows) key result → IfOk result (HasAnswered limit (contents new) (left new (time new)) session state store key)
  has_answered shared active cache tip top means_as stands_as (Ok answer) is =
      let has = stands.coins settled in
      record {
        coin = subst (λ (o : Option Coins). AnswersCoin o key (Ok answer)) (ap (means (tip_of before.active.layers)) rows_are ∙ has.carry.tip) is;
        stands = now_stands shared active cache tip top means_as stands_as;
      }
  has_answered shared active cache tip top means_as stands_as (Err fault) is = tt

-- a failed call of the disk has raised its count
pub failed_by : (calls : ℕ) (old new : ViewCounts) (result : Result (Option Coin) StoreFault) → FindsFault calls old new result → IfErr result (λ fault. fault ≡ DiskFailed → Rose old.faults new.faults)
failed_by calls old new (Ok coin) finds = tt
failed_by calls old new (Err fault) finds = λ is. (subst (λ (f : StoreFault). HasViewCause {T = Option Coin} calls old new (Err f)) is finds.cause).rose
