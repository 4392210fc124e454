use Rattle.std.proofs.Common.{◌≡◌, ◌+◌, ◌++◌, ℕ, List, [], ◌∷◌, drop, map, Err, ap, sym, subst, ◌∙◌, arith}
use Rattle.std.specs.Prelude.{Option, All, IfSome, option_map, sum_by}
use Rattle.std.specs.List.{flat_map}
use Rattle.std.specs.Slice.Iter.{iter_rest}
use Rattle.std.specs.Iterator.Adapters.{zip_first, zip_second}
use Rattle.std.proofs.lemmas.Slice.Zip.{Zip-more, either_empty_from_Zip}
use Rattle.std.proofs.lemmas.List.Elements.{All-tail, All-push}
use Rattle.std.proofs.lemmas.List.Sums.{sum_by-cons}
use Rattle.std.proofs.lemmas.Result.{err_from_is_err_and}
use Rattle.base_types.specs.Coins.{Coins, CoinFits}
use Rattle.base_types.specs.declared.coin.Coin.{Coin}
use Rattle.base_types.specs.declared.hash.Hash32.{Hash32}
use Rattle.base_types.specs.declared.hash.OutPoint.{OutPoint}
use Rattle.base_types.specs.declared.refused.CoinRefused.{CoinRefused}
use Rattle.block_codec.specs.declared.block.Tx.{Tx}
use Rattle.block_codec.specs.Text.{txid_of}
use Rattle.chain_model.specs.Apply.{Position, after_tx, after_txs, spent_in}
use Rattle.chain_model.specs.Connecting.{IsPayable, OnRefusal, calls_to_pay}
use Rattle.chain_model.specs.Editing.{Among}
use Rattle.chain_model.specs.Laws.{inputs_named, outputs_named}
use Rattle.chain_model.specs.declared.fault.ConnectFault.{ConnectFault}
use Rattle.chain_model.specs.declared.paying.Payment.{Payment}
use Rattle.chain_model.specs.declared.paying.Payments.{Payments}
use Rattle.chain_model.specs.declared.fault.ConnectFault.TheVariants.{Refused, Store}
use Rattle.chain_model.proofs.Calls.{answered_then, handed}
use Rattle.chain_model.proofs.Steps.{all_paid, all_undone, both_end, paid_next, refused_here, undo_next}
use Rattle.chain_model.proofs.Telling.{among_split, answered, edits_then}
use Rattle.chain_model.proofs.paying.pay_all.Goals as goal

-- what the first transaction names, and what the others name
named_first : (names : Tx → List OutPoint) (keys : List OutPoint) (txs rest : List Tx) (tx : Tx) → txs ≡ tx ∷ rest → Among keys (flat_map names txs) → Among keys (names tx) × Among keys (flat_map names rest)
named_first names keys txs rest tx split all =
    let P : List Tx → Type 0 = λ some. Among keys (flat_map names some) in
    among_split keys (names tx) (flat_map names rest) (subst P split all)

refused_on : (A B : Type 0) (P Q : CoinRefused → Type 0) → ((rule : CoinRefused) → P rule → Q rule) → (fault : ConnectFault) → OnRefusal {A = A} (Err fault) P → OnRefusal {A = B} (Err fault) Q
refused_on A B P Q on (Refused rule) refused = on rule refused
refused_on A B P Q on (Store fault) refused = tt

-- the first of the transactions that are left breaks a rule
first_breaks : (position : Position) (fees : ℕ) (txs all rest : List Tx) (tx : Tx) (now first : Option Coins) (rule : CoinRefused) → txs ≡ tx ∷ rest
    → option_map (λ coins. after_txs position (record { coins = coins; fees = fees }) txs) now ≡ option_map (λ coins. after_txs position (record { coins = coins; fees = 0 }) all) first
    → IfSome now (λ coins. after_tx position (record { coins = coins; fees = fees }) tx ≡ Err rule) → IfSome first (λ coins. after_txs position (record { coins = coins; fees = 0 }) all ≡ Err rule)
first_breaks position fees txs all rest tx now first rule split so_far breaks =
    let P : List Tx → Type 0 = λ some. IfSome now (λ coins. after_txs position (record { coins = coins; fees = fees }) some ≡ Err rule) in
    answered (λ coins. after_txs position (record { coins = coins; fees = fees }) txs) (λ coins. after_txs position (record { coins = coins; fees = 0 }) all) (Err rule) now first so_far
    (subst P (sym split) (refused_here position fees tx rest now rule breaks))

payable_rest : (txs rest : List Tx) (tx : Tx) → txs ≡ tx ∷ rest → All IsPayable txs → All IsPayable rest
payable_rest txs rest tx split all = let P : List Tx → Type 0 = λ some. All IsPayable some in All-tail IsPayable tx rest (subst P split all)

all_fit : (before after : List (List Coin)) (spent : List Coin) → after ≡ before ++ spent ∷ [] → All (λ coins. All CoinFits coins) before → All CoinFits spent → All (λ coins. All CoinFits coins) after
all_fit before after spent e all fits = let P : List (List Coin) → Type 0 = λ undo. All (λ coins. All CoinFits coins) undo in subst P (sym e) (All-push (λ (coins : List Coin). All CoinFits coins) before spent all fits)

pub returns-in_err-paid-clause-refused : goal.returns-in_err-paid-clause-refused
returns-in_err-paid-clause-refused g c =
    let position : Position = record { tree = g.T.TreeView.tree c.args.context.now.tree.now; parent = c.args.context.now.parent.now; at = c.args.context.now.height } in
    let more = Zip-more c.loop-tx.tx-iterator c.next.new.self c.next.result (c.in-Some.tx, c.in-Some.txid) c.in-Some.is c.next.ensures.steps in
    let before = iter_rest (zip_first c.loop-tx.tx-iterator) in
    let rest = iter_rest (zip_first c.next.new.self) in
    let tx = c.in-Some.tx.now in
    let p = err_from_is_err_and c.from_residual.result c.from_residual.ensures.1 in
    handed (λ result. OnRefusal result (λ rule. IfSome (g.E.View.coins c.args.coins.now) (λ coins. after_txs position (record { coins = coins; fees = 0 }) c.args.txs.now ≡ Err rule))) c.in_err-paid.field-0.0 p.0 c.from_residual.result
    (refused_on Payment Payments (λ rule. IfSome (g.E.View.coins c.loop-tx.coins) (λ coins. after_tx position (record { coins = coins; fees = c.loop-tx.fees }) tx ≡ Err rule)) (λ rule. IfSome (g.E.View.coins c.args.coins.now) (λ coins. after_txs position (record { coins = coins; fees = 0 }) c.args.txs.now ≡ Err rule))
    (λ rule. first_breaks position c.loop-tx.fees before c.args.txs.now rest tx (g.E.View.coins c.loop-tx.coins) (g.E.View.coins c.args.coins.now) rule more.0 c.loop-tx.invariant.paid)
    c.in_err-paid.field-0.0 c.in_err-paid.ensures.refused)
    p.2 p.1

pub returns-in_err-paid-clause-within : goal.returns-in_err-paid-clause-within
returns-in_err-paid-clause-within g c keys ins outs =
    let more = Zip-more c.loop-tx.tx-iterator c.next.new.self c.next.result (c.in-Some.tx, c.in-Some.txid) c.in-Some.is c.next.ensures.steps in
    let before = iter_rest (zip_first c.loop-tx.tx-iterator) in
    let rest = iter_rest (zip_first c.next.new.self) in
    let tx = c.in-Some.tx.now in
    let w = c.loop-tx.invariant.within keys ins outs in
    let i = named_first inputs_named keys before rest tx more.0 w.0 in
    let o = named_first outputs_named keys before rest tx more.0 w.1 in
    let then = c.in_err-paid.ensures.within keys i.0 o.0 in (
      g.met.E.View.behind_then keys c.args.coins.now c.loop-tx.coins c.pay.new.coins w.2 then.0,
      edits_then keys (g.E.View.coins c.args.coins.now) (g.E.View.coins c.loop-tx.coins) (g.E.View.coins c.pay.new.coins) w.3 then.1,
    )

pub loop-tx-preserved : goal.loop-tx-preserved
loop-tx-preserved g c =
    let position : Position = record { tree = g.T.TreeView.tree c.args.context.now.tree.now; parent = c.args.context.now.parent.now; at = c.args.context.now.height } in
    let more = Zip-more c.loop-tx.tx-iterator c.next.new.self c.next.result (c.in-Some.tx, c.in-Some.txid) c.in-Some.is c.next.ensures.steps in
    let before = iter_rest (zip_first c.loop-tx.tx-iterator) in
    let rest = iter_rest (zip_first c.next.new.self) in
    let tx = c.in-Some.tx.now in
    let now = g.E.View.coins c.loop-tx.coins in
    let next = g.E.View.coins c.pay.new.coins in
    let sum : sum_by calls_to_pay before ≡ calls_to_pay tx + sum_by calls_to_pay rest = ap (sum_by calls_to_pay) more.0 ∙ sum_by-cons calls_to_pay tx rest in
    let total = c.loop-tx.invariant.finds.2 in
    record {
      can_next = (tt, tt);
      is_finite = tt;
      ids = ap (λ (hashes : List Hash32). drop 1 hashes) (sym more.1 ∙ c.loop-tx.invariant.ids ∙ ap (λ (txs : List Tx). map txid_of txs) more.0);
      payable = payable_rest before rest tx more.0 c.loop-tx.invariant.payable;
      in_range = c.in_ok-paid.ensures.in_range;
      paid =
          paid_next position c.loop-tx.fees tx rest now next c.in_ok-paid.paid.fees c.in_ok-paid.ensures.coins c.in_ok-paid.ensures.ok
          ∙ ap (λ (txs : List Tx). option_map (λ coins. after_txs position (record { coins = coins; fees = c.loop-tx.fees }) txs) now) (sym more.0)
          ∙ c.loop-tx.invariant.paid;
      undo =
          ap (λ (undo : List (List Coin)). option_map (λ coins. undo ++ spent_in position.at coins rest) next) c.in_ok-push.ensures.ok
          ∙ undo_next position.at tx rest now next c.loop-tx.undo c.in_ok-paid.paid.spent c.in_ok-paid.ensures.coins c.in_ok-paid.ensures.spent
          ∙ ap (λ (txs : List Tx). option_map (λ coins. c.loop-tx.undo ++ spent_in position.at coins txs) now) (sym more.0)
          ∙ c.loop-tx.invariant.undo;
      fits = all_fit c.loop-tx.undo c.push.new.self c.in_ok-paid.paid.spent c.in_ok-push.ensures.ok c.loop-tx.invariant.fits c.in_ok-paid.ensures.fits;
      finds = (
        c.loop-tx.invariant.finds.0 + calls_to_pay tx,
        answered_then (Unit {0}) (Unit {0}) (Unit {0}) c.loop-tx.invariant.finds.0 (calls_to_pay tx) (c.loop-tx.invariant.finds.0 + calls_to_pay tx) (g.E.View.counts c.args.coins.now) (g.E.View.counts c.loop-tx.coins) (g.E.View.counts c.pay.new.coins) tt (omega arith) c.loop-tx.invariant.finds.1 tt tt c.in_ok-paid.ensures.cause,
        omega (arith, sum, total),
      );
      within = λ keys ins outs.
          let w = c.loop-tx.invariant.within keys ins outs in
          let i = named_first inputs_named keys before rest tx more.0 w.0 in
          let o = named_first outputs_named keys before rest tx more.0 w.1 in
          let then = c.in_ok-paid.ensures.within keys i.0 o.0 in (
            i.1,
            o.1,
            g.met.E.View.behind_then keys c.args.coins.now c.loop-tx.coins c.pay.new.coins w.2 then.0,
            edits_then keys (g.E.View.coins c.args.coins.now) now next w.3 then.1,
          );
    }

pub returns-in_err-push-clause-within : goal.returns-in_err-push-clause-within
returns-in_err-push-clause-within g c keys ins outs =
    let more = Zip-more c.loop-tx.tx-iterator c.next.new.self c.next.result (c.in-Some.tx, c.in-Some.txid) c.in-Some.is c.next.ensures.steps in
    let before = iter_rest (zip_first c.loop-tx.tx-iterator) in
    let rest = iter_rest (zip_first c.next.new.self) in
    let tx = c.in-Some.tx.now in
    let w = c.loop-tx.invariant.within keys ins outs in
    let i = named_first inputs_named keys before rest tx more.0 w.0 in
    let o = named_first outputs_named keys before rest tx more.0 w.1 in
    let then = c.in_ok-paid.ensures.within keys i.0 o.0 in (
      g.met.E.View.behind_then keys c.args.coins.now c.loop-tx.coins c.pay.new.coins w.2 then.0,
      edits_then keys (g.E.View.coins c.args.coins.now) (g.E.View.coins c.loop-tx.coins) (g.E.View.coins c.pay.new.coins) w.3 then.1,
    )

pub returns-clause-ok : goal.returns-clause-ok
returns-clause-ok g c =
    let position : Position = record { tree = g.T.TreeView.tree c.args.context.now.tree.now; parent = c.args.context.now.parent.now; at = c.args.context.now.height } in
    let rest = iter_rest (zip_first c.loop-tx.tx-iterator) in
    let ended = both_end txid_of rest (iter_rest (zip_second c.loop-tx.tx-iterator)) c.loop-tx.invariant.ids (either_empty_from_Zip c.loop-tx.tx-iterator c.next.new.self c.next.result c.in-None.is c.next.ensures.steps) in
    sym c.loop-tx.invariant.paid ∙ all_paid position c.loop-tx.fees (g.E.View.coins c.loop-tx.coins) rest ended

pub returns-clause-undo : goal.returns-clause-undo
returns-clause-undo g c =
    let rest = iter_rest (zip_first c.loop-tx.tx-iterator) in
    let ended = both_end txid_of rest (iter_rest (zip_second c.loop-tx.tx-iterator)) c.loop-tx.invariant.ids (either_empty_from_Zip c.loop-tx.tx-iterator c.next.new.self c.next.result c.in-None.is c.next.ensures.steps) in
    all_undone c.args.context.now.height (g.E.View.coins c.loop-tx.coins) (g.E.View.coins c.args.coins.now) c.loop-tx.undo c.args.txs.now rest ended c.loop-tx.invariant.undo

pub returns-clause-within : goal.returns-clause-within
returns-clause-within g c keys ins outs = let w = c.loop-tx.invariant.within keys ins outs in (w.2, w.3)
