use Rattle.std.proofs.Common.{sym}
use Rattle.snapshot_file.proofs.DumpExamples.{small_dump, order_of_three}
use Rattle.snapshot_file.proofs.tests.small_dump.Goals as goal

pub returns-clause-text : goal.returns-clause-text
returns-clause-text c = sym small_dump

pub returns-clause-order : goal.returns-clause-order
returns-clause-order c = order_of_three
