use Rattle.std.proofs.Common.{◌≡◌, ◌∙◌, List, Some, sym, ap, subst}
use Rattle.std.specs.Prelude.{slice_get, IsTrue, IsSomeAnd, IfOk}
use Rattle.std.specs.Option.{option_and_then}
use Rattle.batch_log.specs.OpenLog.{Stands}
use Rattle.batch_log.specs.declared.places.Place.{Place}
use Rattle.block_store.specs.Headers.{headers_of, is_headers_length}
use Rattle.block_store.specs.Reading.{whole_part}
use Rattle.block_store.specs.OpenStore.{OpenStore}
use Rattle.block_store.proofs.HashSteps.{of_each}
use Rattle.block_store.proofs.Lookups.{same_place, listed, past_end, has_place}
use Rattle.block_store.proofs.store.BlockStore.headers.Goals as goal

pub returns-in_default-clause-payload : goal.returns-in_default-clause-payload
returns-in_default-clause-payload g c payloads payload holds here =
    let same = ap (λ (s : OpenStore). s.headers.places) c.self.view_is in (
      has_place c.args.self.now.headers.places payloads.headers c.args.number payload holds.headers.places here
          (ap (λ (l : List Place). slice_get l c.args.number) (sym same) ∙ sym c.place_at.ensures ∙ c.in_default.is),
      tt,
    )

pub read_record-requires-clause-listed : goal.read_record-requires-clause-listed
read_record-requires-clause-listed g c = listed c.self.inside.headers.places c.args.number c.in-Some.place (sym c.in-Some.ensures)

pub read_record-requires-clause-right : goal.read_record-requires-clause-right
read_record-requires-clause-right g c = of_each (λ (p : Place). IsTrue (is_headers_length p.len)) c.self.inside.headers.places c.args.number c.in-Some.place c.self.invariant.3 (sym c.in-Some.ensures)

pub returns-clause-none : goal.returns-clause-none
returns-clause-none g c past =
    let same = ap (λ (s : OpenStore). s.headers.places) c.self.view_is in
    absurd (past_end c.args.self.now.headers.places c.args.number c.in-Some.place past (ap (λ (l : List Place). slice_get l c.args.number) (sym same) ∙ sym c.in-Some.ensures))

pub returns-clause-found : goal.returns-clause-found
returns-clause-found g c place there m told =
    let same = ap (λ (s : OpenStore). s.headers.places) c.self.view_is in
    let it = same_place c.self.inside.headers.places c.args.number c.in-Some.place place (sym c.in-Some.ensures) (ap (λ (l : List Place). slice_get l c.args.number) same ∙ there) in
    subst (λ (p : Place). IfOk c.read_record.result (λ found. IsSomeAnd found (λ here. (option_and_then headers_of (whole_part p 0 (m 1)) ≡ Some here.headers) × (here.at ≡ p.at)))) it (c.read_record.ensures.found m told)

pub returns-clause-payload : goal.returns-clause-payload
returns-clause-payload g c payloads payload holds here =
    let stands = subst (λ (s : OpenStore). Stands (g.D.Disk.contents c.args.disk.now) (g.D.Disk.left_since c.args.disk.now (g.D.Disk.time c.args.disk.now)) s.headers payloads.headers) (sym c.self.view_is) holds.headers in
    c.read_record.ensures.payload payloads.headers c.args.number payload stands (sym c.in-Some.ensures) here
