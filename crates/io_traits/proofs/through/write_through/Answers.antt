use Rattle.std.proofs.Common.{◌≡◌, ◌∙◌, ℕ, List, Bor, ◌+◌, ◌∷◌, Ok, Err, ap, arith, take, drop, subst, sym}
use Rattle.io_traits.specs.RawCalls.{WritesThrough}
use Rattle.io_traits.specs.declared.raw.RawError.TheVariants.{Interrupted}
use Rattle.io_traits.specs.Told.{OnTold}
use Rattle.io_traits.proofs.Told.{OnTold-then}
use Rattle.io_traits.proofs.Reading.{rest_whole}
use Rattle.io_traits.proofs.Writes.{Writes, Writes-took, Writes-refused, Writes-failed, Writes-empty}
use Rattle.io_traits.proofs.through.write_through.Goals.{in-Ok, in-Err-Interrupted}
use Rattle.io_traits.proofs.through.write_through.Goals as goal

pub returns-in-Ok-2-clause-calls : goal.returns-in-Ok-2-clause-calls
returns-in-Ok-2-clause-calls g c =
    let bytes = c.args.bytes.now in
    let rest = c.loop.rest.now in
    let n = c.in-Ok.count in
    OnTold-then (Writes c.loop.counter bytes rest) (λ now next. next ≡ Ok (take n rest) ∷ now) (WritesThrough bytes (Err record {}))
    (g.W.RawWriter.writes c.args.writer.now) (g.W.RawWriter.writes c.loop.writer) (g.W.RawWriter.writes c.write.new.self)
    (λ before now next. Writes-empty (record {}) c.loop.counter n bytes rest before now next (omega (arith, c.if-count-gt0.false))) c.loop.invariant.calls c.in-Ok.ensures.call

pub returns-in-Err-Failed-clause-calls : goal.returns-in-Err-Failed-clause-calls
returns-in-Err-Failed-clause-calls g c =
    let bytes = c.args.bytes.now in
    let rest = c.loop.rest.now in
    let error = c.in-Err-Failed.field-0 in
    OnTold-then (Writes c.loop.counter bytes rest) (λ now next. next ≡ Err error ∷ now) (WritesThrough bytes (Err record {}))
    (g.W.RawWriter.writes c.args.writer.now) (g.W.RawWriter.writes c.loop.writer) (g.W.RawWriter.writes c.write.new.self)
    (λ before now next. Writes-failed (record {}) c.loop.counter error bytes rest before now next c.in-Err-Failed.field-0-is) c.loop.invariant.calls c.in-Err-Failed.ensures.call

pub loop-preserved : goal.loop-preserved
loop-preserved g c =
    let bytes = c.args.bytes.now in
    let rest = c.loop.rest.now in
    let writes = g.W.RawWriter.writes in
    let before = c.args.writer.now in
    record {
      name = c.write.ensures.name ∙ c.loop.invariant.name;
      calls = elim c.match-write.branch [
        | in-Ok w ↦
            let n = w.in-Ok.count in
            subst (λ left. OnTold (writes before) (writes c.write.new.self) (Writes (c.loop.counter + 1) bytes left)) (sym (ap (λ (left : Bor (List ℕ)). left.now) w.rest-is ∙ rest_whole rest n))
            (OnTold-then (Writes c.loop.counter bytes rest) (λ now next. next ≡ Ok (take n rest) ∷ now) (Writes (c.loop.counter + 1) bytes (drop n rest)) (writes before) (writes c.loop.writer) (writes c.write.new.self)
            (Writes-took c.loop.counter n bytes rest) c.loop.invariant.calls w.in-Ok.ensures.call)
        | in-Err-Interrupted w ↦
            subst (λ left. OnTold (writes before) (writes c.write.new.self) (Writes (c.loop.counter + 1) bytes left)) (sym (ap (λ (left : Bor (List ℕ)). left.now) w.rest-is))
            (OnTold-then (Writes c.loop.counter bytes rest) (λ now next. next ≡ Err w.in-Err-Interrupted.field-0 ∷ now) (Writes (c.loop.counter + 1) bytes rest) (writes before) (writes c.loop.writer) (writes c.write.new.self)
            (Writes-refused w.in-Err-Interrupted.field-0 c.loop.counter bytes rest) c.loop.invariant.calls w.in-Err-Interrupted.ensures.call)
      ];
    }
