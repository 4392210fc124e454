use Rattle.std.proofs.Common.{List, Option, ap, sym, ◌∙◌}
use Rattle.std.specs.Prelude.{IfSome}
use Rattle.std.specs.FinMap.{entries, from_entries}
use Rattle.base_types.specs.Coins.{CoinFits}
use Rattle.base_types.specs.Keys.{outpoint_cmp}
use Rattle.base_types.proofs.KeyOrders.{outpoint_cmp_total}
use Rattle.base_types.specs.declared.hash.OutPoint.{OutPoint}
use Rattle.base_types.specs.declared.coin.Coin.{Coin}
use Rattle.chain_model.specs.Changes.{Changes, changed_by}
use Rattle.chain_model.proofs.Entries.{entries_in_order}
use Rattle.chain_model.proofs.Fitting.{changes_fit, each_fits}
use Rattle.chain_model.proofs.changes.Changes.merge_into.Goals as goal

pub loop-key-init : goal.loop-key-init
loop-key-init c =
    let gives = c.into_iter-key-iterator.ensures.into_iter_gives in
    let listed =
    gives.0
    ∙ sym (entries_in_order outpoint_cmp outpoint_cmp_total c.self.inside.changed.entries gives.5)
    ∙ ap (λ (changes : Changes). entries changes) c.self.view_is in
    record {
      changed = ap (λ (es : List (OutPoint × Option Coin)). changed_by c.args.coins.now es) listed;
      fits = each_fits (λ change. IfSome change CoinFits) c.args.self c.into_iter-key-iterator.result listed (changes_fit (from_entries {R = outpoint_cmp} c.self.inside.changed.entries) c.args.self c.self.view_is c.self.invariant);
    }
