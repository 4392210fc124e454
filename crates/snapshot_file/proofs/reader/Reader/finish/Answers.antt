use Rattle.std.proofs.Common.{arith}
use Rattle.snapshot_file.proofs.Ending.{finishes}
use Rattle.snapshot_file.proofs.Answering.{finish_failed, finish_whole, finish_short_head, finish_short_coins}
use Rattle.snapshot_file.proofs.reader.Reader.finish.Goals as goal

pub returns-in-Failed-clause-answer : goal.returns-in-Failed-clause-answer
returns-in-Failed-clause-answer c = λ height fed h. finish_failed c.args.self.now c.in-Failed.fault height fed c.in-Failed.is h

pub returns-in-Head-clause-answer : goal.returns-in-Head-clause-answer
returns-in-Head-clause-answer c = λ height fed h. rw c.short.ensures (finish_short_head c.args.self.now height fed c.in-Head.is h)

pub returns-then-progress-gt0-clause-answer : goal.returns-then-progress-gt0-clause-answer
returns-then-progress-gt0-clause-answer c = λ height fed h. rw c.short-then-progress-gt0.ensures (finish_short_coins c.args.self.now c.in-Coins.progress height fed c.in-Coins.is c.if-progress-gt0.true h)

pub returns-else-progress-gt0-clause-answer : goal.returns-else-progress-gt0-clause-answer
returns-else-progress-gt0-clause-answer c = λ height fed h. finish_whole c.args.self.now c.in-Coins.progress height fed c.in-Coins.is (omega arith) h

pub returns-in-Failed-clause-whole : goal.returns-in-Failed-clause-whole
returns-in-Failed-clause-whole c = λ height fed h. finishes _ height fed h.bytes (finish_failed c.args.self.now c.in-Failed.fault height fed c.in-Failed.is h)

pub returns-in-Head-clause-whole : goal.returns-in-Head-clause-whole
returns-in-Head-clause-whole c = λ height fed h. finishes _ height fed h.bytes (rw c.short.ensures (finish_short_head c.args.self.now height fed c.in-Head.is h))

pub returns-then-progress-gt0-clause-whole : goal.returns-then-progress-gt0-clause-whole
returns-then-progress-gt0-clause-whole c = λ height fed h. finishes _ height fed h.bytes (rw c.short-then-progress-gt0.ensures (finish_short_coins c.args.self.now c.in-Coins.progress height fed c.in-Coins.is c.if-progress-gt0.true h))

pub returns-else-progress-gt0-clause-whole : goal.returns-else-progress-gt0-clause-whole
returns-else-progress-gt0-clause-whole c = λ height fed h. finishes _ height fed h.bytes (finish_whole c.args.self.now c.in-Coins.progress height fed c.in-Coins.is (omega arith) h)
