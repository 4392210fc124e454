use Rattle.std.proofs.Common.{arith, ap, rules, ◌≡◌, Err, refl, length}
use Rattle.std.proofs.lemmas.List.{length-drop}
use Rattle.base_types.proofs.Codecs.{IsBytes-slice}
use Rattle.snapshot_file.proofs.Moving.{rest_is}
use Rattle.snapshot_file.proofs.Taking.{take_at_head, take_at_head_none, take_at_head_err, take_at_coins}
use Rattle.snapshot_file.proofs.reader.Reader.take.Goals as goal

pub take_items-requires-in-Head-clause-fits : goal.take_items-requires-in-Head-clause-fits
take_items-requires-in-Head-clause-fits c =
    let held = ap length c.begin_coins-progress.ensures.held in
    let enough = rw c.in-Some.is at c.in_ok-head-in-Head.ensures.used in
    rw rest_is (omega (arith, held, c.begin_coins-progress.ensures.at, enough, length-drop c.in-Some.used c.args.piece.now))

pub returns-in_err-head-in-Head-clause-step : goal.returns-in_err-head-in-Head-clause-step
returns-in_err-head-in-Head-clause-step c = λ height fed h on none.
    let is : c.from_residual.result ≡ Err c.in_err-head-in-Head.field-0.0 = search rules in
    rw is (take_at_head_err c.args.self.now height fed c.args.piece.now c.args.pieces.now c.in-Head.is h (IsBytes-slice c.args.piece.now c.type_inv.piece) c.in_err-head-in-Head.field-0.0 _ c.complete.new.held.items c.in_err-head-in-Head.ensures.step none c.requires.none)

pub returns-in_default-clause-step : goal.returns-in_default-clause-step
returns-in_default-clause-step c = λ height fed h on none.
    take_at_head_none c.args.self.now height fed c.args.piece.now c.args.pieces.now c.in-Head.is h (IsBytes-slice c.args.piece.now c.type_inv.piece) _ (rw c.in_default.is at c.in_ok-head-in-Head.ensures.step) c.in-Head.is refl none c.requires.none

pub returns-in-Coins-clause-step : goal.returns-in-Coins-clause-step
returns-in-Coins-clause-step c = λ height fed h on none.
    take_at_coins c.take_items.result c.args.self.now c.take_items.new.self c.in-Coins.progress height fed c.args.piece.now _ c.in-Coins.is h (IsBytes-slice c.args.piece.now c.type_inv.piece) none (rw c.requires.none at c.take_items.ensures.step)

pub returns-in-Some-clause-step : goal.returns-in-Some-clause-step
returns-in-Some-clause-step c = λ height fed h on none.
    let step = rw c.in-Some.is at c.in_ok-head-in-Head.ensures.step in
    let b = c.begin_coins-progress in
    let moves = rw (b.ensures.result, rest_is c.args.piece.now c.in-Some.used, c.requires.none) at c.take_items-in-Head.ensures.step in
    take_at_head c.args.self.now height fed c.args.piece.now _ c.in-Head.is h (IsBytes-slice c.args.piece.now c.type_inv.piece) c.take_items-in-Head.result b.new.self c.take_items-in-Head.new.self c.in-Some.head c.in-Some.used c.complete.new.held.items step b.ensures.stage b.ensures.at b.ensures.held refl moves
