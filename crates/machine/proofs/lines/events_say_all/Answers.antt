use Rattle.machine.proofs.Keeping.{begins_with, course_keeps, known}
use Rattle.machine.proofs.lines.events_say_all.Goals as goal

pub returns-clause-begins : goal.returns-clause-begins
returns-clause-begins c = λ store. begins_with store

pub returns-clause-kept : goal.returns-clause-kept
returns-clause-kept c = λ setting from bytes course. course_keeps course

pub returns-clause-known : goal.returns-clause-known
returns-clause-known c = λ state hash header. known state hash header
