use Rattle.std.proofs.Common.{Some, ap, ◌∙◌}
use Rattle.std.specs.Prelude.{IfSome}
use Rattle.std.specs.FinMap.{insert}
use Rattle.base_types.specs.Coins.{CoinFits}
use Rattle.base_types.specs.Keys.{outpoint_cmp}
use Rattle.base_types.proofs.KeyOrders.{outpoint_cmp_total, outpoint_cmp-IsAntisymmetric}
use Rattle.chain_model.specs.Changes.{Changes}
use Rattle.chain_model.proofs.Entries.{put_entry}
use Rattle.chain_model.proofs.Fitting.{put_fits}
use Rattle.chain_model.proofs.changes.Changes.make.Goals as goal

pub invariant_of-self-2 : goal.invariant_of-self-2
invariant_of-self-2 c = put_fits (λ change. IfSome change CoinFits) c.self.inside.changed c.insert.new.self c.args.key (Some c.args.coin) c.in_ok-insert.ensures.updates c.requires c.self.invariant

pub returns-clause-ok : goal.returns-clause-ok
returns-clause-ok c =
    put_entry outpoint_cmp outpoint_cmp_total outpoint_cmp-IsAntisymmetric c.self.inside.changed c.insert.new.self c.args.key (Some c.args.coin) c.in_ok-insert.ensures.updates
    ∙ ap (λ (changes : Changes). insert changes c.args.key (Some c.args.coin)) c.self.view_is
