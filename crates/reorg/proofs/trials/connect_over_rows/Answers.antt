use Rattle.std.proofs.Common.{sym, ap, subst, ◌∙◌}
use Rattle.chain_model.specs.Connecting.{calls_of}
use Rattle.coin_store.specs.Behind.{AllRead}
use Rattle.coin_store.specs.Viewing.{coins_seen, view_counts}
use Rattle.reorg.proofs.Viewing.{none_broken}
use Rattle.reorg.proofs.trials.connect_over_rows.Goals as goal

pub connect_over-requires-clause-over_tip : goal.connect_over-requires-clause-over_tip
connect_over-requires-clause-over_tip g c = c.requires.over_tip (coins_seen c.view-rows.result.mask.now c.view-rows.result.index.now (g.D.Disk.contents c.view-rows.result.disk.now))

pub returns-clause-whole : goal.returns-clause-whole
returns-clause-whole g c image told all =
    let view = c.view-rows.result in
    let after = c.connect_over.new.under in
    let reads = subst (λ index. AllRead view.mask.now index image) (sym c.view-rows.ensures.index.0) (subst (λ mask. AllRead mask c.args.store.now.index image) (sym c.view-rows.ensures.index.1) all) in
    let same = c.connect_over.ensures.behind.5.sound image (ap g.D.Disk.contents c.view-rows.ensures.disk ∙ told) reads in
    none_broken (calls_of c.args.block.now.txs) c.args.layers.now c.connect_over.new.layers (view_counts (g.D.Disk.faults view.disk.now) view.broken.now.items) (view_counts (g.D.Disk.faults after.disk.now) after.broken.now.items)
    c.connect_over.result c.connect_over.ensures.cause same
