use Rattle.std.proofs.Common.{Some, sym, ap, ◌∙◌}
use Rattle.std.specs.FinMap as map
use Rattle.std.specs.List.{position}
use Rattle.io_traits.specs.Names.{same}
use Rattle.io_traits.proofs.FileLookup.{get_at, get_absent}
use Rattle.io_traits.proofs.file_map.FileMap.get.Goals as goal

pub returns-in-Some : goal.returns-in-Some
returns-in-Some c =
    let place = ap (position (λ e. same c.args.name.now e.0)) (sym c.deref.ensures.value) ∙ sym c.place_of.ensures ∙ c.in-Some.is in
    ap Some c.as_slice.ensures ∙ sym (get_at c.args.name.now _ c.in-Some.place c.index.result.now place c.index.ensures) ∙ ap (λ m. map.get m c.args.name.now) c.self.view_is

pub returns-in-None : goal.returns-in-None
returns-in-None c =
    let none = ap (position (λ e. same c.args.name.now e.0)) (sym c.deref.ensures.value) ∙ sym c.place_of.ensures ∙ c.in-None.is in
    sym (get_absent c.args.name.now _ none) ∙ ap (λ m. map.get m c.args.name.now) c.self.view_is
