use Rattle.std.proofs.Common.{◌≡◌, List, sym, subst}
use Rattle.std.specs.List.{flat_map}
use Rattle.base_types.specs.declared.hash.OutPoint.{OutPoint}
use Rattle.block_codec.specs.declared.block.Tx.{Tx}
use Rattle.chain_model.specs.BodyRules.{others_of}
use Rattle.chain_model.specs.Connecting.{outputs_asked}
use Rattle.chain_model.specs.Editing.{Among}
use Rattle.chain_model.specs.Laws.{inputs_named, outputs_named, named_by}
use Rattle.chain_model.proofs.Telling.{among_itself, among_named, among_split, edits_same, edits_then}
use Rattle.chain_model.proofs.paying.apply_over.Goals as goal

-- the transactions as a slice
as_slice : (names : List Tx → List OutPoint) (keys : List OutPoint) (slice txs : List Tx) → slice ≡ txs → Among keys (names txs) → Among keys (names slice)
as_slice names keys slice txs e all = let P : List Tx → Type 0 = λ some. Among keys (names some) in subst P (sym e) all

pub returns-in_err-overwrites-clause-behind : goal.returns-in_err-overwrites-clause-behind
returns-in_err-overwrites-clause-behind g c keys all =
    let txs = c.args.block.now.txs in
    let both = among_split keys (flat_map inputs_named (others_of txs)) (flat_map outputs_asked txs) all in
    c.in_err-overwrites.ensures.behind keys (as_slice (flat_map outputs_asked) keys c.as_slice.result.now txs c.as_slice.ensures both.1)

pub returns-then-branch-clause-behind : goal.returns-then-branch-clause-behind
returns-then-branch-clause-behind g c keys all =
    let txs = c.args.block.now.txs in
    let both = among_split keys (flat_map inputs_named (others_of txs)) (flat_map outputs_asked txs) all in
    c.in_ok-overwrites.ensures.behind keys (as_slice (flat_map outputs_asked) keys c.as_slice.result.now txs c.as_slice.ensures both.1)

pub returns-clause-untouched : goal.returns-clause-untouched
returns-clause-untouched g c =
    let txs = c.args.block.now.txs in
    let keys = named_by c.args.block.now in
    let both = among_split keys (flat_map inputs_named (others_of txs)) (flat_map outputs_named txs) (among_itself keys) in
    let paid = c.pay_block.ensures.within keys
    (as_slice (λ some. flat_map inputs_named (others_of some)) keys c.as_slice-2.result.now txs c.as_slice-2.ensures both.0)
    (as_slice (flat_map outputs_named) keys c.as_slice-2.result.now txs c.as_slice-2.ensures both.1) in
    edits_then keys (g.E.View.coins c.args.coins.now) (g.E.View.coins c.overwrites.new.coins) (g.E.View.coins c.pay_block.new.coins)
    (edits_same keys (g.E.View.coins c.args.coins.now) (g.E.View.coins c.overwrites.new.coins) c.in_ok-overwrites.ensures.coins) paid.1

pub returns-clause-behind : goal.returns-clause-behind
returns-clause-behind g c keys all =
    let txs = c.args.block.now.txs in
    let both = among_split keys (flat_map inputs_named (others_of txs)) (flat_map outputs_asked txs) all in
    let paid = c.pay_block.ensures.within keys
    (as_slice (λ some. flat_map inputs_named (others_of some)) keys c.as_slice-2.result.now txs c.as_slice-2.ensures both.0)
    (as_slice (flat_map outputs_named) keys c.as_slice-2.result.now txs c.as_slice-2.ensures (among_named keys txs both.1)) in
    g.met.E.View.behind_then keys c.args.coins.now c.overwrites.new.coins c.pay_block.new.coins
    (c.in_ok-overwrites.ensures.behind keys (as_slice (flat_map outputs_asked) keys c.as_slice.result.now txs c.as_slice.ensures both.1)) paid.0
