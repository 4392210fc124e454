use Rattle.std.proofs.Common.{◌≡◌, Option, rules, sym, ap, subst, ◌∙◌}
use Rattle.std.specs.Prelude.{Err, IfOk, IfSome}
use Rattle.base_types.specs.Coins.{Coins}
use Rattle.base_types.specs.Views.{ViewCounts, FindsFault}
use Rattle.chain_model.specs.Apply.{outcome}
use Rattle.chain_model.specs.Connecting.{Leads, OnRefusal, asked_by, calls_of, store_part}
use Rattle.chain_model.proofs.Telling.{among_itself}
use Rattle.coin_views.specs.Layers.{block_means, layers_count}
use Rattle.coin_views.specs.declared.layers.Layers.{Layers}
use Rattle.reorg.specs.Trials.{KeepsTip}
use Rattle.reorg.proofs.Viewing.{carried, keeps_tip}
use Rattle.reorg.proofs.trials.connect_over.Goals as goal

pub returns-clause-coins : goal.returns-clause-coins
returns-clause-coins g c =
    let b = c.connect.ensures.behind (asked_by c.args.block.now) (among_itself (asked_by c.args.block.now)) in
    let n = b.1 in let r = c.block_view-coins.ensures.same_references.1 in let f = c.under-1.given.1 in let v = c.block_view-coins.ensures.values in
    let u : c.under-1.given.0 ≡ c.connect.new.coins.under.now = search rules in
    ap g.V.View.coins u ∙ b.2 ∙ ap g.V.View.coins v.1

pub returns-clause-ok : goal.returns-clause-ok
returns-clause-ok g c =
    let b = c.connect.ensures.behind (asked_by c.args.block.now) (among_itself (asked_by c.args.block.now)) in
    let n = b.1 in let r = c.block_view-coins.ensures.same_references.1 in let f = c.under-1.given.1 in let v = c.block_view-coins.ensures.values in
    let u : c.under-1.given.0 ≡ c.connect.new.coins.under.now = search rules in
    let m = b.0 in let s = c.block_view-coins.ensures.same_references.0 in let h = c.layers-1.given.1 in
    let l : c.layers-1.given.0 ≡ c.connect.new.coins.layers.now = search rules in
    let coins = g.V.View.coins in
    carried
    (λ (old : Layers) (x : Option Coins) (new : Layers) (y : Option Coins). IfOk c.connect.result (λ _. Leads (λ before. outcome c.args.tree.now.tree before c.args.block.now) (block_means old x) (block_means new y)))
    c.block_view-coins.result.layers.now c.args.layers.now (coins c.block_view-coins.result.under.now) (coins c.args.under.now)
    c.connect.new.coins.layers.now c.layers-1.given.0 (coins c.connect.new.coins.under.now) (coins c.under-1.given.0)
    v.0 (ap coins v.1) (sym l) (ap coins (sym u)) c.connect.ensures.ok

pub returns-clause-refused : goal.returns-clause-refused
returns-clause-refused g c =
    let v = c.block_view-coins.ensures.values in
    let coins = g.V.View.coins in
    subst
    (λ (x : Option Coins). OnRefusal c.connect.result (λ rule. IfSome x (λ before. outcome c.args.tree.now.tree before c.args.block.now ≡ Err rule)))
    (λ i. block_means (v.0 i) (coins (v.1 i))) c.connect.ensures.refused

pub returns-clause-layers : goal.returns-clause-layers
returns-clause-layers g c =
    let b = c.connect.ensures.behind (asked_by c.args.block.now) (among_itself (asked_by c.args.block.now)) in
    let m = b.0 in let s = c.block_view-coins.ensures.same_references.0 in let h = c.layers-1.given.1 in
    let l : c.layers-1.given.0 ≡ c.connect.new.coins.layers.now = search rules in
    let v = c.block_view-coins.ensures.values in
    let coins = g.V.View.coins in
    carried (λ (old : Layers) (x : Option Coins) (new : Layers) (y : Option Coins). KeepsTip old new x)
    c.block_view-coins.result.layers.now c.args.layers.now (coins c.block_view-coins.result.under.now) (coins c.args.under.now)
    c.connect.new.coins.layers.now c.layers-1.given.0 (coins c.connect.new.coins.under.now) (coins c.connect.new.coins.under.now)
    v.0 (ap coins v.1) (sym l) (λ i. coins c.connect.new.coins.under.now)
    (keeps_tip (asked_by c.args.block.now) c.block_view-coins.result.layers.now c.connect.new.coins.layers.now (coins c.block_view-coins.result.under.now) (coins c.connect.new.coins.under.now) b.2 b.3 c.connect.new.coins.stands)

pub returns-clause-cause : goal.returns-clause-cause
returns-clause-cause g c =
    let b = c.connect.ensures.behind (asked_by c.args.block.now) (among_itself (asked_by c.args.block.now)) in
    let n = b.1 in let r = c.block_view-coins.ensures.same_references.1 in let f = c.under-1.given.1 in let v = c.block_view-coins.ensures.values in
    let u : c.under-1.given.0 ≡ c.connect.new.coins.under.now = search rules in
    let m = b.0 in let s = c.block_view-coins.ensures.same_references.0 in let h = c.layers-1.given.1 in
    let l : c.layers-1.given.0 ≡ c.connect.new.coins.layers.now = search rules in
    let counts = g.V.View.counts in
    carried
    (λ (old : Layers) (x : ViewCounts) (new : Layers) (y : ViewCounts). FindsFault (calls_of c.args.block.now.txs) (layers_count old x) (layers_count new y) (store_part c.connect.result))
    c.block_view-coins.result.layers.now c.args.layers.now (counts c.block_view-coins.result.under.now) (counts c.args.under.now)
    c.connect.new.coins.layers.now c.layers-1.given.0 (counts c.connect.new.coins.under.now) (counts c.under-1.given.0)
    v.0 (ap counts v.1) (sym l) (ap counts (sym u)) c.connect.ensures.cause

pub returns-clause-behind : goal.returns-clause-behind
returns-clause-behind g c =
    let b = c.connect.ensures.behind (asked_by c.args.block.now) (among_itself (asked_by c.args.block.now)) in
    let n = b.1 in let r = c.block_view-coins.ensures.same_references.1 in let f = c.under-1.given.1 in let v = c.block_view-coins.ensures.values in
    let u : c.under-1.given.0 ≡ c.connect.new.coins.under.now = search rules in
    subst (λ w. g.V.View.behind (asked_by c.args.block.now) c.args.under.now w) (sym u) (subst (λ w. g.V.View.behind (asked_by c.args.block.now) w c.connect.new.coins.under.now) v.1 b.4)
