use Rattle.std.proofs.Common.{arith, ℕ, List, ◌≡◌, ◌<◌, ◌^◌, length, ap, sym, ◌∙◌, ◌++◌, ◌∷◌, [], subst}
use Rattle.disk_model.specs.Disk.{Only}
use Rattle.batch_log.specs.OpenLog.{OpenLog, Stands, Knows}
use Rattle.batch_log.specs.declared.places.Place.{Place}
use Rattle.batch_log.proofs.OneMore.{length-records-push, one_listed, ok_arm}
use Rattle.batch_log.proofs.gated_log.Log.append.Goals as goal

pub returns-clause-knows : goal.returns-clause-knows
returns-clause-knows g c ps known =
    let payload = c.args.payload.now in
    let k = subst (λ (l : OpenLog). Knows l ps) (sym c.self.view_is) known in
    let end = k.end in
    let place = λ (j : ℕ). let p : Place = record { at = j; len = length payload } in p in
    record {
      end = omega (arith, length-records-push ps payload);
      places = c.push.ensures.items
          ∙ ok_arm c.push.result _ _ (c.push.ensures.succeeds (omega (arith, c.in_ok-reserve.ensures.ok)))
          ∙ ap (λ (l : List Place). l ++ place c.self.inside.end ∷ []) c.reserve.ensures.items
          ∙ one_listed ps payload c.self.inside.end c.self.inside.places.items k.end k.places;
    }

pub returns-clause-ok : goal.returns-clause-ok
returns-clause-ok g c ps stands =
    let payload = c.args.payload.now in
    let s = subst (λ (l : OpenLog). Stands (g.D.Disk.contents c.args.disk.now) (g.D.Disk.left_since c.args.disk.now (g.D.Disk.time c.args.disk.now)) l ps) (sym c.self.view_is) stands in
    let fits : length payload < 2 ^ 32 = omega arith in
    let end = s.end in
    let place = λ (j : ℕ). let p : Place = record { at = j; len = length payload } in p in
    record {
      holds = c.in-Ok.ensures.ok ps payload s.end fits (c.deref.ensures.value ∙ c.in_ok-spell.ensures.ok) s.holds;
      end = omega (arith, length-records-push ps payload);
      places = c.push.ensures.items
          ∙ ok_arm c.push.result _ _ (c.push.ensures.succeeds (omega (arith, c.in_ok-reserve.ensures.ok)))
          ∙ ap (λ (l : List Place). l ++ place c.self.inside.end ∷ []) c.reserve.ensures.items
          ∙ one_listed ps payload c.self.inside.end c.self.inside.places.items s.end s.places;
    }

pub returns-clause-durable : goal.returns-clause-durable
returns-clause-durable g c m told =
    let same : c.self.inside.file ≡ c.args.self.now.file = ap (λ (l : OpenLog). l.file) c.self.view_is in
    subst (λ (f : ℕ). Only f (m f) (g.D.Disk.left_since c.write_record.new.disk (g.D.Disk.time c.write_record.new.disk))) same (c.in-Ok.ensures.durable m told)
