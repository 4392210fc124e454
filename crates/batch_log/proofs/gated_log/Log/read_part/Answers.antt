-- What stands at a place, and that it is read.
use Rattle.std.proofs.Common.{◌≡◌, ◌≤◌, ◌+◌, ℕ, length, take, drop, arith, ◌∙◌, sym, ap, subst}
use Rattle.std.specs.Prelude.{Contains}
use Rattle.std.proofs.lemmas.List.Elements.{All-contains}
use Rattle.std.proofs.lemmas.List.{take_all}
use Rattle.batch_log.specs.OpenLog.{OpenLog}
use Rattle.batch_log.specs.declared.places.Place.{Place}
use Rattle.batch_log.proofs.PayloadBytes.{payload_read}
use Rattle.batch_log.proofs.gated_log.Log.read_part.Goals as goal

pub overflow_add-first : goal.overflow_add-first
overflow_add-first g c =
    let listed = subst (λ (l : OpenLog). Contains l.places c.args.place) (sym c.self.view_is) c.requires.listed in
    let before = All-contains (λ (p : Place). p.at + (5 + p.len) ≤ c.self.inside.end) c.self.inside.places.items c.args.place c.self.invariant.2 listed in
    let small = c.self.invariant.1 in
    omega arith

pub overflow_add-first-2 : goal.overflow_add-first-2
overflow_add-first-2 g c =
    let listed = subst (λ (l : OpenLog). Contains l.places c.args.place) (sym c.self.view_is) c.requires.listed in
    let before = All-contains (λ (p : Place). p.at + (5 + p.len) ≤ c.self.inside.end) c.self.inside.places.items c.args.place c.self.invariant.2 listed in
    let small = c.self.invariant.1 in
    let within = c.requires.within in
    omega arith

pub returns-then-count-buf-clause-payload : goal.returns-then-count-buf-clause-payload
returns-then-count-buf-clause-payload g c payloads i payload stands there here =
    let same : c.self.inside.file ≡ c.args.self.now.file = ap (λ (l : OpenLog). l.file) c.self.view_is in
    let r = payload_read payloads (stands.holds.image c.args.self.now.file) stands.holds.reads c.args.self.now.places stands.places i c.args.place payload there here in
    let ends = r.ends in
    let long = r.long in
    let size : length (stands.holds.image c.self.inside.file) ≡ length (stands.holds.image c.args.self.now.file) = ap (λ (f : ℕ). length (stands.holds.image f)) same in
    let came = c.in-Ok.ensures.count stands.holds.image stands.holds.told in
    let few = c.if-count-buf.true in
    let within = c.requires.within in
    absurd (omega arith)

pub returns-clause-payload : goal.returns-clause-payload
returns-clause-payload g c payloads i payload stands there here =
    let same : c.self.inside.file ≡ c.args.self.now.file = ap (λ (l : OpenLog). l.file) c.self.view_is in
    let r = payload_read payloads (stands.holds.image c.args.self.now.file) stands.holds.reads c.args.self.now.places stands.places i c.args.place payload there here in
    let long = r.long in
    let within = c.requires.within in
    let all = c.if-count-buf.false in (
      sym (take_all c.in-Ok.count c.read.new.buf (omega arith))
          ∙ c.in-Ok.ensures.bytes stands.holds.image stands.holds.told
          ∙ ap (λ (f : ℕ). take (length c.args.buf.now) (drop (c.args.place.at + 5 + c.args.from) (stands.holds.image f))) same
          ∙ r.part c.args.from (length c.args.buf.now) (omega arith),
      tt,
    )
