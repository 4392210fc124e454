use Rattle.std.proofs.Common.{◌++◌, ◌∷◌, [], sym, ap, ◌∙◌}
use Rattle.std.specs.FinMap as map
use Rattle.std.specs.List.{position}
use Rattle.io_traits.specs.Names.{same}
use Rattle.io_traits.proofs.FileLookup.{insert_at, insert_new}
use Rattle.io_traits.proofs.file_map.FileMap.put.Goals as goal

pub returns-in-Some-clause-ok : goal.returns-in-Some-clause-ok
returns-in-Some-clause-ok c =
    let place = ap (position (λ e. same c.args.name.now e.0)) (sym c.deref.ensures.value) ∙ sym c.place_of.ensures ∙ c.in-Some.is in
    insert_at c.args.name.now c.args.bytes _ c.in-Some.place c.index_mut.result.now place c.index_mut.ensures.value ∙ ap (λ m. map.insert m c.args.name.now c.args.bytes) c.self.view_is

pub returns-in_ok-push-in-None-clause-ok : goal.returns-in_ok-push-in-None-clause-ok
returns-in_ok-push-in-None-clause-ok c =
    let none = ap (position (λ e. same c.args.name.now e.0)) (sym c.deref.ensures.value) ∙ sym c.place_of.ensures ∙ c.in-None.is in
    ap map.from_entries (c.in_ok-push-in-None.ensures.items ∙ ap (λ key. c.self.inside.entries.items ++ (key, c.args.bytes) ∷ []) c.in_ok-from_slice-in-None.ensures)
    ∙ insert_new c.args.name.now c.args.bytes _ none ∙ ap (λ m. map.insert m c.args.name.now c.args.bytes) c.self.view_is
