use Rattle.std.proofs.Common.{◌≡◌, ◌+◌, ℕ, length, Bool, true, false, Ok, Err, refl, ap, sym, ◌∙◌, arith}
use Rattle.base_types.specs.declared.hash.Hash32.{Hash32}
use Rattle.base_types.specs.declared.hash.OutPoint.{OutPoint}
use Rattle.block_codec.specs.Text.{txid_of}
use Rattle.chain_model.specs.Coins.{coin_of, output_value}
use Rattle.chain_model.proofs.Calls.{answered_then}
use Rattle.chain_model.proofs.Entering.{among_here, among_skipped, count_here, made, skipped, left_from}
use Rattle.chain_model.proofs.Telling.{edits_then, edits_add}
use Rattle.chain_model.proofs.editing.make_outputs.Goals as goal
use Rattle.chain_model.proofs.editing.make_outputs.Goals.{then-is_spendable+in_ok-number_of+in_ok-coin_of+in_ok-put_coin, else-is_spendable}

at_key : (txid id : Hash32) (number index : ℕ) → txid ≡ id → number ≡ index → let key : OutPoint = record { txid = txid; index = number } in key ≡ record { txid = id; index = index }
at_key txid id number index e n = ap (λ (h : Hash32). record { txid = h; index = number }) e ∙ ap (λ (m : ℕ). record { txid = id; index = m }) n

pub returns-in_err-number_of-clause-within : goal.returns-in_err-number_of-clause-within
returns-in_err-number_of-clause-within g c keys all = let w = c.loop-index.invariant.within keys all in (w.1, w.2)

pub returns-in_err-coin_of-clause-within : goal.returns-in_err-coin_of-clause-within
returns-in_err-coin_of-clause-within g c keys all = let w = c.loop-index.invariant.within keys all in (w.1, w.2)

pub returns-in_err-put_coin-clause-within : goal.returns-in_err-put_coin-clause-within
returns-in_err-put_coin-clause-within g c keys all =
    let w = c.loop-index.invariant.within keys all in
    let key : OutPoint = record { txid = c.args.txid.now; index = c.in_ok-number_of.field-0 } in
    let a = among_here (txid_of c.args.tx.now) c.as_slice-output-items.result.now c.loop-index.index c.output-item.result (omega arith) c.output-item.is key (at_key c.args.txid.now (txid_of c.args.tx.now) c.in_ok-number_of.field-0 c.loop-index.index c.requires.txid c.in_ok-number_of.ensures) keys (sym c.is_spendable.ensures ∙ c.if-is_spendable.true) w.0 in (
      g.met.E.View.behind_then keys c.args.coins.now c.loop-index.coins c.put_coin.new.coins w.1 (c.in_err-put_coin.ensures.behind keys a.0),
      edits_then keys (g.E.View.coins c.args.coins.now) (g.E.View.coins c.loop-index.coins) (g.E.View.coins c.put_coin.new.coins) w.2 (edits_add keys key a.0 (Unit {0}) (Err c.in_err-put_coin.field-0.0) (g.E.View.coins c.loop-index.coins) c.in_ok-coin_of.field-0 (g.E.View.coins c.put_coin.new.coins) c.in_err-put_coin.ensures.coins),
    )

pub loop-index-preserved : goal.loop-index-preserved
loop-index-preserved g c =
    let at = c.args.height in
    let tx = c.args.tx.now in
    let id = txid_of tx in
    let outputs = c.as_slice-output-items.result.now in
    let i = c.loop-index.index in
    let output = c.output-item.result in
    let total = c.loop-index.invariant.finds.2 in
    elim c.if-is_spendable.branch [
      | then-is_spendable+in_ok-number_of+in_ok-coin_of+in_ok-put_coin w ↦
          let key : OutPoint = record { txid = c.args.txid.now; index = w.in_ok-number_of.field-0 } in
          let named = at_key c.args.txid.now id w.in_ok-number_of.field-0 i c.requires.txid w.in_ok-number_of.ensures in
          let spendable = sym c.is_spendable.ensures ∙ w.if-is_spendable.true in
          let coin : w.in_ok-coin_of.field-0 ≡ coin_of at tx output =
          w.in_ok-coin_of.ensures ∙ ap (λ (b : Bool). record { value = output_value output; script = output.script; height = at; coinbase = b }) c.is_coinbase-coinbase.ensures in
          let one : length (left_from id i outputs) ≡ 1 + length (left_from id (i + 1) outputs) = count_here id outputs i output (omega arith) c.output-item.is key named true spendable in
          rw w.coins-is record {
            coins =
                made id outputs i output (omega arith) c.output-item.is key named at tx (g.E.View.coins c.loop-index.coins) (g.E.View.coins w.put_coin.new.coins) w.in_ok-coin_of.field-0 spendable coin w.in_ok-put_coin.ensures.coins
                ∙ c.loop-index.invariant.coins;
            finds = (
              c.loop-index.invariant.finds.0 + 2,
              answered_then (Unit {0}) (Unit {0}) (Unit {0}) c.loop-index.invariant.finds.0 2 (c.loop-index.invariant.finds.0 + 2) (g.E.View.counts c.args.coins.now) (g.E.View.counts c.loop-index.coins) (g.E.View.counts w.put_coin.new.coins) tt (omega arith) c.loop-index.invariant.finds.1 w.in_ok-put_coin.field-0 tt w.in_ok-put_coin.ensures.cause,
              omega (arith, one, total),
            );
            within = λ keys all.
                let so_far = c.loop-index.invariant.within keys all in
                let a = among_here id outputs i output (omega arith) c.output-item.is key named keys spendable so_far.0 in (
                  a.1,
                  g.met.E.View.behind_then keys c.args.coins.now c.loop-index.coins w.put_coin.new.coins so_far.1 (w.in_ok-put_coin.ensures.behind keys a.0),
                  edits_then keys (g.E.View.coins c.args.coins.now) (g.E.View.coins c.loop-index.coins) (g.E.View.coins w.put_coin.new.coins) so_far.2 (edits_add keys key a.0 (Unit {0}) (Ok w.in_ok-put_coin.field-0) (g.E.View.coins c.loop-index.coins) w.in_ok-coin_of.field-0 (g.E.View.coins w.put_coin.new.coins) w.in_ok-put_coin.ensures.coins),
                );
          }
      | else-is_spendable w ↦
          let key : OutPoint = record { txid = id; index = i } in
          let kept = sym c.is_spendable.ensures ∙ w.if-is_spendable.false in
          let none : length (left_from id i outputs) ≡ 0 + length (left_from id (i + 1) outputs) = count_here id outputs i output (omega arith) c.output-item.is key refl false kept in
          rw w.coins-is record {
            coins = skipped id outputs i output (omega arith) c.output-item.is key refl at tx (g.E.View.coins c.loop-index.coins) kept ∙ c.loop-index.invariant.coins;
            finds = (c.loop-index.invariant.finds.0, c.loop-index.invariant.finds.1, omega (arith, none, total));
            within = λ keys all.
                let so_far = c.loop-index.invariant.within keys all in
                (among_skipped id outputs i output (omega arith) c.output-item.is key refl keys kept so_far.0, so_far.1, so_far.2);
          }
    ]

pub returns-clause-within : goal.returns-clause-within
returns-clause-within g c keys all = let w = c.loop-index.invariant.within keys all in (w.1, w.2)
