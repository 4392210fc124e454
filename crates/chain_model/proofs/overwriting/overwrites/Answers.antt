use Rattle.std.proofs.Common.{◌≡◌, ◌+◌, ℕ, List, ◌∷◌, drop, length, map, Bool, ap, sym, subst, ◌∙◌, arith}
use Rattle.std.specs.Prelude.{Option, Some, None, false, IfSome, sum_by}
use Rattle.std.specs.List.{flat_map, list_any}
use Rattle.std.specs.FinMap.{contains_key}
use Rattle.std.specs.Slice.Iter.{iter_rest}
use Rattle.std.specs.Iterator.Adapters.{zip_first, zip_second}
use Rattle.std.proofs.lemmas.Slice.Zip.{Zip-more}
use Rattle.std.proofs.lemmas.List.Sums.{sum_by-cons}
use Rattle.base_types.specs.Coins.{Coins}
use Rattle.base_types.specs.declared.coin.TxOut.{TxOut}
use Rattle.base_types.specs.declared.hash.Hash32.{Hash32}
use Rattle.base_types.specs.declared.hash.OutPoint.{OutPoint}
use Rattle.block_codec.specs.declared.block.Tx.{Tx}
use Rattle.block_codec.specs.Text.{txid_of}
use Rattle.chain_model.specs.Apply.{overwrites}
use Rattle.chain_model.specs.Coins.{numbered, outputs_of}
use Rattle.chain_model.specs.Connecting.{outputs_asked}
use Rattle.chain_model.specs.Editing.{Among}
use Rattle.chain_model.proofs.Calls.{answered_then}
use Rattle.chain_model.proofs.KnownOutputs.{overwritten_later}
use Rattle.chain_model.proofs.Telling.{among_split}
use Rattle.chain_model.proofs.overwriting.overwrites.Goals as goal

-- the outputs of the first transaction, and those of the others
asked_first : (keys : List OutPoint) (txs rest : List Tx) (tx : Tx) (txid : Hash32) (outputs : List TxOut) → txs ≡ tx ∷ rest → txid ≡ txid_of tx → outputs ≡ tx.outputs → Among keys (flat_map outputs_asked txs)
    → Among keys (map (λ n. n.0) (numbered txid 0 outputs)) × Among keys (flat_map outputs_asked rest)
asked_first keys txs rest tx txid outputs split id outs all =
    let P : List Tx → Type 0 = λ some. Among keys (flat_map outputs_asked some) in
    let both = among_split keys (outputs_asked tx) (flat_map outputs_asked rest) (subst P split all) in
    let Q : List OutPoint → Type 0 = λ outpoints. Among keys outpoints in
    (subst Q (sym (ap (λ (h : Hash32). map (λ n. n.0) (numbered h 0 outputs)) id ∙ ap (λ (os : List TxOut). map (λ n. n.0) (numbered (txid_of tx) 0 os)) outs)) both.0, both.1)

-- none of the first transaction's outputs has a coin
first_unknown : (now first : Option Coins) (txs rest all : List Tx) (tx : Tx) (txid : Hash32) (outputs : List TxOut) (found : Bool) → now ≡ first → txs ≡ tx ∷ rest → txid ≡ txid_of tx → outputs ≡ tx.outputs → found ≡ false
    → IfSome now (λ coins. found ≡ list_any (λ named. contains_key coins named.0) (numbered txid 0 outputs)) → IfSome first (λ coins. overwrites coins txs ≡ overwrites coins all) → IfSome first (λ coins. overwrites coins rest ≡ overwrites coins all)
first_unknown now None txs rest all tx txid outputs found same split id outs none f so_far = tt
first_unknown None (Some coins) txs rest all tx txid outputs found same split id outs none f so_far = absurd cc
first_unknown (Some now) (Some coins) txs rest all tx txid outputs found same split id outs none f so_far =
    let one : now ≡ coins = cc in
    let here : false ≡ list_any (λ named. contains_key coins named.0) (outputs_of tx) =
    sym none ∙ f ∙ ap (λ (c : Coins). list_any (λ named. contains_key c named.0) (numbered txid 0 outputs)) one
    ∙ ap (λ (h : Hash32). list_any (λ named. contains_key coins named.0) (numbered h 0 outputs)) id
    ∙ ap (λ (os : List TxOut). list_any (λ named. contains_key coins named.0) (numbered (txid_of tx) 0 os)) outs in
    overwritten_later tx rest all (Some coins) (ap (λ (some : List Tx). overwrites coins some) (sym split) ∙ so_far) here

-- the first hash is that of the first transaction
first_id : (txs rest : List Tx) (txids ids : List Hash32) (tx : Tx) (txid : Hash32) → txs ≡ tx ∷ rest → txids ≡ txid ∷ ids → txids ≡ map txid_of txs → txid ≡ txid_of tx
first_id txs rest txids ids tx txid split first e = let both : txid ∷ ids ≡ txid_of tx ∷ map txid_of rest = sym first ∙ e ∙ ap (map txid_of) split in cc

pub returns-in_err-has_output-clause-behind : goal.returns-in_err-has_output-clause-behind
returns-in_err-has_output-clause-behind g c keys all =
    let more = Zip-more c.loop-tx.tx-iterator c.next.new.self c.next.result (c.in-Some.tx, c.in-Some.txid) c.in-Some.is c.next.ensures.steps in
    let w = c.loop-tx.invariant.behind keys all in
    let id = first_id (iter_rest (zip_first c.loop-tx.tx-iterator)) (iter_rest (zip_first c.next.new.self)) (iter_rest (zip_second c.loop-tx.tx-iterator)) (iter_rest (zip_second c.next.new.self)) c.in-Some.tx.now c.in-Some.txid.now more.0 more.1 c.loop-tx.invariant.ids in
    let a = asked_first keys (iter_rest (zip_first c.loop-tx.tx-iterator)) (iter_rest (zip_first c.next.new.self)) c.in-Some.tx.now c.in-Some.txid.now c.as_slice.result.now more.0 id c.as_slice.ensures w.0 in
    g.met.V.View.behind_then keys c.args.coins.now c.loop-tx.coins c.has_output.new.coins w.1 (c.in_err-has_output.ensures.behind keys a.0)

pub returns-then-branch-clause-behind : goal.returns-then-branch-clause-behind
returns-then-branch-clause-behind g c keys all =
    let more = Zip-more c.loop-tx.tx-iterator c.next.new.self c.next.result (c.in-Some.tx, c.in-Some.txid) c.in-Some.is c.next.ensures.steps in
    let w = c.loop-tx.invariant.behind keys all in
    let id = first_id (iter_rest (zip_first c.loop-tx.tx-iterator)) (iter_rest (zip_first c.next.new.self)) (iter_rest (zip_second c.loop-tx.tx-iterator)) (iter_rest (zip_second c.next.new.self)) c.in-Some.tx.now c.in-Some.txid.now more.0 more.1 c.loop-tx.invariant.ids in
    let a = asked_first keys (iter_rest (zip_first c.loop-tx.tx-iterator)) (iter_rest (zip_first c.next.new.self)) c.in-Some.tx.now c.in-Some.txid.now c.as_slice.result.now more.0 id c.as_slice.ensures w.0 in
    g.met.V.View.behind_then keys c.args.coins.now c.loop-tx.coins c.has_output.new.coins w.1 (c.in_ok-has_output.ensures.behind keys a.0)

pub loop-tx-preserved : goal.loop-tx-preserved
loop-tx-preserved g c =
    let more = Zip-more c.loop-tx.tx-iterator c.next.new.self c.next.result (c.in-Some.tx, c.in-Some.txid) c.in-Some.is c.next.ensures.steps in
    let rest = iter_rest (zip_first c.next.new.self) in
    let id = first_id (iter_rest (zip_first c.loop-tx.tx-iterator)) rest (iter_rest (zip_second c.loop-tx.tx-iterator)) (iter_rest (zip_second c.next.new.self)) c.in-Some.tx.now c.in-Some.txid.now more.0 more.1 c.loop-tx.invariant.ids in
    let outputs : ℕ = length c.as_slice.result.now in
    let sum : sum_by (λ tx. length tx.outputs) (iter_rest (zip_first c.loop-tx.tx-iterator)) ≡ outputs + sum_by (λ tx. length tx.outputs) rest =
    ap (sum_by (λ (tx : Tx). length tx.outputs)) more.0 ∙ sum_by-cons (λ (tx : Tx). length tx.outputs) c.in-Some.tx.now rest ∙ ap (λ (os : List TxOut). length os + sum_by (λ (tx : Tx). length tx.outputs) rest) (sym c.as_slice.ensures) in
    let total = c.loop-tx.invariant.finds.2 in
    record {
      can_next = (tt, tt);
      is_finite = tt;
      ids = ap (λ (hashes : List Hash32). drop 1 hashes) (sym more.1 ∙ c.loop-tx.invariant.ids ∙ ap (λ (txs : List Tx). map txid_of txs) more.0);
      same = c.in_ok-has_output.ensures.coins ∙ c.loop-tx.invariant.same;
      found =
          first_unknown (g.V.View.coins c.loop-tx.coins) (g.V.View.coins c.args.coins.now) (iter_rest (zip_first c.loop-tx.tx-iterator)) rest c.args.txs.now c.in-Some.tx.now c.in-Some.txid.now c.as_slice.result.now c.in_ok-has_output.field-0
          c.loop-tx.invariant.same more.0 id c.as_slice.ensures c.if-branch.false c.in_ok-has_output.ensures.found c.loop-tx.invariant.found;
      finds = (
        c.loop-tx.invariant.finds.0 + outputs,
        answered_then (Unit {0}) Bool (Unit {0}) c.loop-tx.invariant.finds.0 outputs (c.loop-tx.invariant.finds.0 + outputs) (g.V.View.counts c.args.coins.now) (g.V.View.counts c.loop-tx.coins) (g.V.View.counts c.has_output.new.coins) tt (omega arith) c.loop-tx.invariant.finds.1 c.in_ok-has_output.field-0 tt c.in_ok-has_output.ensures.cause,
        omega (arith, sum, total),
      );
      behind = λ keys all.
          let w = c.loop-tx.invariant.behind keys all in
          let a = asked_first keys (iter_rest (zip_first c.loop-tx.tx-iterator)) rest c.in-Some.tx.now c.in-Some.txid.now c.as_slice.result.now more.0 id c.as_slice.ensures w.0 in
          (a.1, g.met.V.View.behind_then keys c.args.coins.now c.loop-tx.coins c.has_output.new.coins w.1 (c.in_ok-has_output.ensures.behind keys a.0));
    }
