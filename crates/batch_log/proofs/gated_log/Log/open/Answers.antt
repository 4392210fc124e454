use Rattle.std.proofs.Common.{◌≤◌, ◌<◌, length, arith, refl, ◌∙◌, ap}
use Rattle.batch_log.proofs.Opens.{opened_tiny, opened_long}
use Rattle.batch_log.proofs.gated_log.Log.open.Goals as goal
use Rattle.batch_log.proofs.gated_log.Log.open.Goals.{then-len-le1, else-len-le1+in_ok-places}

pub returns-clause-ok : goal.returns-clause-ok
returns-clause-ok g c m told =
    let is_long = c.in-Ok.ensures.length m told in
    elim c.if-len-le1.branch [
      | then-len-le1 w ↦
          let test = w.if-len-le1.true in
          let small : length (m c.args.file) ≤ 1 = omega arith in
          let made = c.in-Ok.ensures.tiny m told small in
          opened_tiny g.D.Disk.time g.D.Disk.left_since g.D.Disk.contents c.args.file m _ refl c.begin.new.disk c.if-len-le1.disk w.disk-is small made.0
          (ap (λ p. p.1) w.places-is) (ap (λ p. p.0.items) w.places-is ∙ w.new.ensures.items)
      | else-len-le1+in_ok-places w ↦
          let test = w.if-len-le1.false in
          let more : 1 < length (m c.args.file) = omega arith in
          let same = c.in-Ok.ensures.long m told more in
          let now = same.0 ∙ told in
          opened_long g.D.Disk.time g.D.Disk.left_since g.D.Disk.contents c.args.file m _ refl g.met.D.Disk.since_earlier c.begin.new.disk w.find_places.new.disk c.if-len-le1.disk w.disk-is
          (w.find_places.ensures.contents ∙ now) same.2 w.find_places.ensures.quiet _ _
          (w.in_ok-places.ensures.ok m now is_long (omega arith)) (ap (λ p. p.1) w.places-is) (ap (λ p. p.0.items) w.places-is)
    ]
