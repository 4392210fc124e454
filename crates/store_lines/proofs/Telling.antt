-- What an open session tells: its headers, its height and its tip are those of the machine.
use Rattle.std.proofs.Common.{◌≡◌, ℕ, Bool, true, false, List, cond, refl, sym, ap, ◌∙◌}
use Rattle.std.specs.Prelude.{Option, Some, None}
use Rattle.std.specs.FinMap.{contains_key}
use Rattle.std.specs.FinMap as finite
use Rattle.std.specs.Option.{option_and_then, option_map}
use Rattle.std.specs.Result.{result_ok}
use Rattle.disk_model.specs.Disk.{Image}
use Rattle.base_types.specs.Coins.{Coins}
use Rattle.base_types.specs.declared.coin.Coin.{Coin}
use Rattle.base_types.specs.declared.hash.Hash32.{Hash32}
use Rattle.block_codec.specs.declared.block.Block.{Block}
use Rattle.chain_model.specs.Apply.{replayed}
use Rattle.chain_model.specs.Choice.{Choice, blocks_of, is_at_or_below, coins_at}
use Rattle.chain_model.specs.Tree.{Tree, height, path}
use Rattle.chain_model.proofs.Replays.{on_chain_known}
use Rattle.chain_model.proofs.Trees.{is_rooted}
use Rattle.chainstates.specs.Offers.{Stands}
use Rattle.chainstates.specs.declared.session.Info.{Info}
use Rattle.chainstates.specs.declared.session.Session.{Session}
use Rattle.command_text.specs.declared.reply.TxOutFound.{TxOutFound}
use Rattle.machine.specs.State.{State, active_coins, choice_of, height_of}
use Rattle.machine.specs.Steps.{tree_size, txout_of}
use Rattle.store_lines.specs.Coins.{found_at}
use Rattle.store_state.specs.Settled.{IsSettled}
use Rattle.store_state.specs.State.{StoreState}

-- what a session's `info` promises
pub record IsInfo (session : Session) (info : Info) : Type 0 where
  pub headers : info.headers ≡ finite.len session.shared.tree.tree.headers
  pub height : contains_key session.shared.tree.tree.headers session.active.tip ≡ true → info.height ≡ height session.shared.tree.tree.headers session.active.tip
  pub tip : info.tip ≡ session.active.tip

-- ---- a block that has coins is on the chain of the start

chosen : (b : Bool) (blocks : Option (List Block)) (f : List Block → Option Coins) (coins : Coins) → option_and_then f (cond b blocks None) ≡ Some coins → b ≡ true
chosen true blocks f coins is = refl
chosen false blocks f coins is = absurd cc

above_start : (choice : Choice) (hash : Hash32) (coins : Coins) → coins_at choice hash ≡ Some coins → is_at_or_below choice.tree.headers choice.start hash ≡ true
above_start choice hash coins valid =
    chosen (is_at_or_below choice.tree.headers choice.start hash) (blocks_of choice.bodies (path choice.tree.headers choice.start hash))
    (λ blocks. result_ok (replayed choice.tree choice.start_coins blocks)) coins valid

-- ---- what is told

module _ (limit : ℕ) (contents : Option Image) (images : Image → Type 0) (session : Session) (state : State) (store : StoreState) (stands : Stands limit contents images session state store) (info : Info) (told : IsInfo session info) where
  same_tree : session.shared.tree.tree ≡ state.tree
  same_tree = stands.headers ∙ sym stands.tree

  pub headers_told : info.headers ≡ tree_size state
  headers_told = told.headers ∙ ap (λ (t : Tree). finite.len t.headers) same_tree

  pub tip_told : info.tip ≡ state.active.tip
  tip_told = told.tip ∙ stands.tip

  module _ (settled : IsSettled store) where
    tip_known : contains_key state.tree.headers state.active.tip ≡ true
    tip_known =
        ap (λ (t : Tree). contains_key t.headers state.active.tip) stands.tree
        ∙ on_chain_known store.tree.headers (is_rooted limit store.tree stands.grown) state.active.start state.active.tip
        (ap (λ (t : Tree). is_at_or_below t.headers state.active.start state.active.tip) (sym stands.tree)
        ∙ above_start (choice_of state state.active) state.active.tip (active_coins state) (stands.coins settled).valid)

    pub height_told : info.height ≡ height_of state state.active.tip
    height_told =
        told.height (ap (λ (t : Tree). contains_key t.headers session.active.tip) same_tree ∙ ap (λ (h : Hash32). contains_key state.tree.headers h) stands.tip ∙ tip_known)
        ∙ ap (λ (t : Tree). height t.headers session.active.tip) same_tree
        ∙ ap (λ (h : Hash32). height state.tree.headers h) stands.tip

    pub coin_told : (coin : Option Coin) → option_map (found_at info) coin ≡ option_map (txout_of state) coin
    coin_told coin = λ i. option_map (λ (c : Coin). found_with (tip_told i) (height_told i) c) coin
      where
        found_with : Hash32 → ℕ → Coin → TxOutFound
        found_with tip high c = found_at (record { headers = info.headers; height = high; tip = tip }) c
