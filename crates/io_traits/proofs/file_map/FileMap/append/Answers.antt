use Rattle.std.proofs.Common.{◌++◌, [], sym, ap, ◌∙◌, unwrap_or}
use Rattle.std.specs.FinMap as map
use Rattle.std.specs.List.{position}
use Rattle.std.proofs.lemmas.Result.{on_ok_weaker}
use Rattle.io_traits.specs.Names.{same}
use Rattle.io_traits.proofs.FileLookup.{get_at, get_absent, insert_at}
use Rattle.io_traits.proofs.file_map.FileMap.append.Goals as goal

pub returns-in-Some-clause-ok : goal.returns-in-Some-clause-ok
returns-in-Some-clause-ok c =
    let place = ap (position (λ e. same c.args.name.now e.0)) (sym c.deref.ensures.value) ∙ sym c.place_of.ensures ∙ c.in-Some.is in
    let had = ap (λ m. map.get m c.args.name.now) (sym c.self.view_is) ∙ get_at c.args.name.now _ c.in-Some.place c.index_mut.result.now place c.index_mut.ensures.value in
    on_ok_weaker c.append.result (λ grown.
    insert_at c.args.name.now c.append.new.self _ c.in-Some.place c.index_mut.result.now place c.index_mut.ensures.value
    ∙ ap (λ m. map.insert m c.args.name.now c.append.new.self) c.self.view_is
    ∙ ap (map.insert c.args.self.now c.args.name.now) (grown ∙ ap (λ o. unwrap_or o [] ++ c.args.bytes.now) (sym had))) c.append.ensures.ok

pub returns-in_ok-added-in-None-clause-ok : goal.returns-in_ok-added-in-None-clause-ok
returns-in_ok-added-in-None-clause-ok c =
    let none = ap (position (λ e. same c.args.name.now e.0)) (sym c.deref.ensures.value) ∙ sym c.place_of.ensures ∙ c.in-None.is in
    let had = ap (λ m. map.get m c.args.name.now) (sym c.self.view_is) ∙ get_absent c.args.name.now _ none in
    on_ok_weaker c.put.result (λ grown.
    grown ∙ ap (map.insert c.args.self.now c.args.name.now) (c.in_ok-added-in-None.ensures ∙ ap (λ o. unwrap_or o [] ++ c.args.bytes.now) (sym had))) c.put.ensures.ok
