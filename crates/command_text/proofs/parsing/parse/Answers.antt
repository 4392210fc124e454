use Rattle.std.proofs.Common.{arith, rules, sym, ◌∙◌}
use Rattle.std.proofs.lemmas.Bool.{false≢true}
use Rattle.command_text.proofs.FieldsOfLines.{begins, goes_on, ends, by_fields, by_many_fields}
use Rattle.command_text.proofs.parsing.parse.Goals as goal
use Rattle.command_text.proofs.parsing.parse.Goals.{in_default-via-in-Some+in-Some+in-Some+in-Some+in_default, in_default-via-in_default}

pub returns-in-Some-None-default-default-default : goal.returns-in-Some-None-default-default-default
returns-in-Some-None-default-default-default c =
    let x = c.in-Some-None-default-default-default in
    by_fields c.args.line.now (
    ends c.next-2.new.self x.ensures'.steps (
    goes_on x.name c.next.new.self x.ensures.steps (
    begins {s = c.split-fields.result} _ c.args.line.now c.split-fields.ensures.rest c.split-fields.ensures.done c.split-fields.ensures.closure (λ x b q k. search rules)
    ))) c.if-is_empty.ensures (omega arith) c.alone.result c.alone.ensures

pub returns-in-Some-Some-None-default-default : goal.returns-in-Some-Some-None-default-default
returns-in-Some-Some-None-default-default c =
    let x = c.in-Some-Some-None-default-default in
    by_fields c.args.line.now (
    ends c.next-3.new.self x.ensures''.steps (
    goes_on x.a c.next-2.new.self x.ensures'.steps (
    goes_on x.name c.next.new.self x.ensures.steps (
    begins {s = c.split-fields.result} _ c.args.line.now c.split-fields.ensures.rest c.split-fields.ensures.done c.split-fields.ensures.closure (λ x b q k. search rules)
    )))) c.if-is_empty.ensures (omega arith) c.with_one.result c.with_one.ensures

pub returns-in-Some-Some-Some-None-default : goal.returns-in-Some-Some-Some-None-default
returns-in-Some-Some-Some-None-default c =
    let x = c.in-Some-Some-Some-None-default in
    by_fields c.args.line.now (
    ends c.next-4.new.self x.ensures'''.steps (
    goes_on x.b c.next-3.new.self x.ensures''.steps (
    goes_on x.a c.next-2.new.self x.ensures'.steps (
    goes_on x.name c.next.new.self x.ensures.steps (
    begins {s = c.split-fields.result} _ c.args.line.now c.split-fields.ensures.rest c.split-fields.ensures.done c.split-fields.ensures.closure (λ x b q k. search rules)
    ))))) c.if-is_empty.ensures (omega arith) c.with_two.result c.with_two.ensures

pub returns-in-Some-Some-Some-Some-None : goal.returns-in-Some-Some-Some-Some-None
returns-in-Some-Some-Some-Some-None c =
    let x = c.in-Some-Some-Some-Some-None in
    by_fields c.args.line.now (
    ends c.next-5.new.self x.ensures''''.steps (
    goes_on x.c c.next-4.new.self x.ensures'''.steps (
    goes_on x.b c.next-3.new.self x.ensures''.steps (
    goes_on x.a c.next-2.new.self x.ensures'.steps (
    goes_on x.name c.next.new.self x.ensures.steps (
    begins {s = c.split-fields.result} _ c.args.line.now c.split-fields.ensures.rest c.split-fields.ensures.done c.split-fields.ensures.closure (λ x b q k. search rules)
    )))))) c.if-is_empty.ensures (omega arith) c.with_three.result c.with_three.ensures

pub returns-in_default : goal.returns-in_default
returns-in_default c =
    elim c.in_default.branch [
      | in_default-via-in-Some+in-Some+in-Some+in-Some+in_default w ↦
          let x = w.in_default in
          by_many_fields c.args.line.now (
          goes_on x.field-0-4 c.next-5.new.self x.ensures''''.steps (
          goes_on x.field-0-3 c.next-4.new.self x.ensures'''.steps (
          goes_on x.field-0-2 c.next-3.new.self x.ensures''.steps (
          goes_on x.field-0-1 c.next-2.new.self x.ensures'.steps (
          goes_on x.field-0-0 c.next.new.self x.ensures.steps (
          begins {s = c.split-fields.result} _ c.args.line.now c.split-fields.ensures.rest c.split-fields.ensures.done c.split-fields.ensures.closure (λ x b q k. search rules)
          )))))) c.if-is_empty.ensures (omega arith) c.into-in_default.result c.into-in_default.ensures
      | in_default-via-in_default w ↦ absurd (false≢true (sym c.split-fields.ensures.done ∙ w.in_default.ensures.steps.0))
    ]
