use Rattle.std.proofs.Common.{◌≡◌, Err, Some}
use Rattle.std.specs.Prelude.{IfSome}
use Rattle.chain_model.specs.Apply.{outcome}
use Rattle.coin_views.specs.Layers.{block_means}
use Rattle.reorg.proofs.TriedLayers.{on_commit, on_refusal, rule_of}
use Rattle.reorg.proofs.trials.try_block.Goals as goal

pub returns-in-Ok-commit-clause-ok : goal.returns-in-Ok-commit-clause-ok
returns-in-Ok-commit-clause-ok g c rows coins seen carry =
    on_commit c.args.layers.now c.drop_top.new.self c.connect_over_rows.new.layers rows coins carry c.drop_top.ensures.tip (c.drop_top.ensures.coins (Some rows)) (c.connect_over_rows.ensures.layers (Some rows) seen)
    (λ before. outcome c.args.tree.now.tree before c.args.block.now) c.commit.new.self (c.in-Ok.ensures.ok (Some rows) seen) (c.in-Ok-commit.ensures.coins (Some rows)) c.in-Ok-commit.ensures.block

pub returns-in-Err-Refused-clause-ok : goal.returns-in-Err-Refused-clause-ok
returns-in-Err-Refused-clause-ok g c rows coins seen carry =
    on_refusal c.args.layers.now c.drop_top.new.self c.connect_over_rows.new.layers rows coins carry c.drop_top.ensures.tip (c.drop_top.ensures.coins (Some rows)) (c.connect_over_rows.ensures.layers (Some rows) seen)
    (λ before. outcome c.args.tree.now.tree before c.args.block.now) c.drop_top-in-Err-Refused.new.self c.in-Err-Refused.rule
    (rule_of (Unit {0}) (λ rule. IfSome (block_means c.drop_top.new.self (Some rows)) (λ before. outcome c.args.tree.now.tree before c.args.block.now ≡ Err rule)) c.in-Err-Refused.field-0 c.in-Err-Refused.rule c.in-Err-Refused.field-0-is (c.in-Err-Refused.ensures.refused (Some rows) seen))
    c.drop_top-in-Err-Refused.ensures.tip (c.drop_top-in-Err-Refused.ensures.coins (Some rows)).1 c.drop_top-in-Err-Refused.ensures.block
