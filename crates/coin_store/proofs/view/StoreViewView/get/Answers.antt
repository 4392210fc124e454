use Rattle.std.specs.Prelude.{◌≡◌, Some, None, Ok, refl}
use Rattle.std.proofs.Common.{◌∙◌, sym, ap, subst, ◌≤◌}
use Rattle.disk_model.specs.Reads.{OnlyRead}
use Rattle.disk_model.proofs.Reading.{only_read_wider}
use Rattle.coin_store.specs.Behind.{HasPlaceIn, coin_place}
use Rattle.coin_store.specs.Places.{coin_there}
use Rattle.coin_store.proofs.RowLaws.{some_is}
use Rattle.coin_store.proofs.Seen.{answers}
use Rattle.coin_store.proofs.Behind.{no_place}
use Rattle.coin_store.proofs.view.StoreViewView.get.Goals as goal

pub returns-in_default-clause-coin : goal.returns-in_default-clause-coin
returns-in_default-clause-coin g c =
    let mask = c.args.self.now.mask.now in
    let index = c.args.self.now.index.now in
    answers mask index (g.D.Disk.contents c.args.self.now.disk.now) c.args.key.now (Ok None) (λ none. refl) (λ place m is told. no_place place (c.in_default.ensures ∙ is))

pub returns-in-Ok-Some-clause-coin : goal.returns-in-Ok-Some-clause-coin
returns-in-Ok-Some-clause-coin g c =
    let mask = c.args.self.now.mask.now in
    let index = c.args.self.now.index.now in
    let here : coin_place index c.args.key.now ≡ Some c.in-Some.place = sym c.in-Some.ensures in
    answers mask index (g.D.Disk.contents c.args.self.now.disk.now) c.args.key.now (Ok (Some c.in-Ok-Some.coin)) (λ none. no_place c.in-Some.place (sym none ∙ here))
    (λ place m is told. (refl, sym c.in-Ok-Some.field-0-is ∙ c.in-Ok-Some.ensures.coin m told ∙ ap (coin_there mask m) (some_is c.in-Some.place place (sym here ∙ is))))

pub returns-in-Ok-None-clause-may_fail : goal.returns-in-Ok-None-clause-may_fail
returns-in-Ok-None-clause-may_fail g c = record {
  later = subst (λ d. g.D.Disk.faults c.args.self.now.disk.now ≤ g.D.Disk.faults d) (sym c.add_broken.ensures.disk) c.read_place.ensures.later;
  sound = λ image is all. absurd (all c.args.key.now c.in-Some.place (sym c.in-Some.ensures) (sym (c.in-Ok-None.ensures.coin image is) ∙ c.in-Ok-None.field-0-is));
}

pub returns-in-Ok-None-clause-behind : goal.returns-in-Ok-None-clause-behind
returns-in-Ok-None-clause-behind g c keys named =
    let before = c.args.self.now.disk.now in
    let here = HasPlaceIn c.args.self.now.index.now keys in
    let read = only_read_wider g.D.Disk.contents g.D.Disk.time g.D.Disk.left_since g.D.Disk.bytes_read (λ f. f ≡ c.in-Some.place.file) here before c.read_place.new.disk
    (λ file is. record { key = c.args.key.now; named = named; place = c.in-Some.place; is = sym c.in-Some.ensures; there = sym is }) c.read_place.ensures.read.only in (
      c.add_broken.ensures.index.0,
      c.add_broken.ensures.index.1,
      c.add_broken.ensures.same_reference.0,
      c.add_broken.ensures.same_reference.1,
      subst (λ d. OnlyRead g.D.Disk.contents g.D.Disk.time g.D.Disk.left_since g.D.Disk.bytes_read here before d) (sym c.add_broken.ensures.disk) read,
      returns-in-Ok-None-clause-may_fail g c,
    )
