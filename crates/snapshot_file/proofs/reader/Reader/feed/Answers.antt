use Rattle.std.proofs.Common.{arith, ◌+◌, length, sym, inl, inr}
use Rattle.base_types.proofs.Codecs.{IsBytes-slice}
use Rattle.snapshot_file.proofs.Growth.{parts_grow}
use Rattle.snapshot_file.proofs.Answering.{other, on_of, feed_failed, feed_taken, feed_refused, feed_later}
use Rattle.snapshot_file.proofs.reader.Reader.feed.Goals as goal

pub returns-in-Failed-clause-answer : goal.returns-in-Failed-clause-answer
returns-in-Failed-clause-answer c = λ height fed h. feed_failed c.args.self.now c.in-Failed.fault height fed c.args.piece.now c.in-Failed.is h

pub returns-in-Failed-clause-grows : goal.returns-in-Failed-clause-grows
returns-in-Failed-clause-grows c = λ height fed. parts_grow height fed c.args.piece.now

pub returns-in_default-take-clause-grows : goal.returns-in_default-take-clause-grows
returns-in_default-take-clause-grows c = λ height fed. parts_grow height fed c.args.piece.now

pub returns-in_default-take-clause-answer : goal.returns-in_default-take-clause-answer
returns-in_default-take-clause-answer c = λ height fed h.
    let taken = c.in_default-take.ensures.step height fed h (on_of c.args.self.now.stage c.in_default.not-Failed) c.new-pieces.ensures.head in
    feed_taken c.take.new.self height fed c.args.piece.now c.take.new.pieces taken

pub returns-then-is_empty-clause-grows : goal.returns-then-is_empty-clause-grows
returns-then-is_empty-clause-grows c = λ height fed. parts_grow height fed c.args.piece.now

pub returns-in-NoMemory-clause-grows : goal.returns-in-NoMemory-clause-grows
returns-in-NoMemory-clause-grows c = λ height fed. parts_grow height fed c.args.piece.now

pub returns-in-Bad-clause-grows : goal.returns-in-Bad-clause-grows
returns-in-Bad-clause-grows c = λ height fed. parts_grow height fed c.args.piece.now

pub returns-then-is_empty-clause-answer : goal.returns-then-is_empty-clause-answer
returns-then-is_empty-clause-answer c = λ height fed h.
    let step = c.in-Err.ensures.step height fed h (on_of c.args.self.now.stage c.in_default.not-Failed) c.new-pieces.ensures.head in
    feed_refused c.in-Err.fault c.fail.new.self c.take.new.self height fed c.args.piece.now c.take.new.pieces (inr (sym c.if-is_empty.ensures)) step

pub returns-in-NoMemory-clause-answer : goal.returns-in-NoMemory-clause-answer
returns-in-NoMemory-clause-answer c = λ height fed h.
    let step = c.in-Err.ensures.step height fed h (on_of c.args.self.now.stage c.in_default.not-Failed) c.new-pieces.ensures.head in
    feed_refused c.in-Err.fault c.fail.new.self c.take.new.self height fed c.args.piece.now c.take.new.pieces (inl c.in-NoMemory.is) step

pub returns-in-Bad-clause-answer : goal.returns-in-Bad-clause-answer
returns-in-Bad-clause-answer c = λ height fed h.
    let step = c.in-Err.ensures.step height fed h (on_of c.args.self.now.stage c.in_default.not-Failed) c.new-pieces.ensures.head in
    feed_later c.in-Err.fault c.args.self.now c.take.new.self c.fail.new.self (c.fed.result + length c.args.piece.now) height fed c.args.piece.now c.take.new.pieces h (IsBytes-slice c.args.piece.now c.type_inv.piece) (omega (arith, c.fed.ensures)) c.fail.ensures.stage c.fail.ensures.count (λ memory. other c.in-Err.fault c.in-Bad.error c.in-Bad.at c.in-Bad.is memory) (sym c.if-is_empty.ensures) step
