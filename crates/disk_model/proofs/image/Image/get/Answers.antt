use Rattle.std.proofs.Common.{ap, sym, ◌∙◌}
use Rattle.std.specs.FinMap.{get}
use Rattle.std.specs.Option.{option_copied}
use Rattle.std.specs.Prelude.{Some}
use Rattle.disk_model.proofs.Lookups.{get-files}
use Rattle.disk_model.proofs.image.Image.get.Goals as goal

pub returns-in-Some : goal.returns-in-Some
returns-in-Some c =
    ap Some c.as_slice.ensures
    ∙ ap option_copied (sym c.in-Some.is)
    ∙ c.get.ensures.value
    ∙ sym (get-files c.self.inside.files c.args.file)
    ∙ ap (λ m. get m c.args.file) c.self.view_is

pub returns-in-None : goal.returns-in-None
returns-in-None c =
    ap option_copied (sym c.in-None.is)
    ∙ c.get.ensures.value
    ∙ sym (get-files c.self.inside.files c.args.file)
    ∙ ap (λ m. get m c.args.file) c.self.view_is
