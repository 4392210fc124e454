use Rattle.std.proofs.Common.{ap, ◌∙◌, ◌==◌}
use Rattle.std.specs.Option.{is_some}
use Rattle.std.specs.List.{list_any}
use Rattle.std.specs.FinMap.{get}
use Rattle.disk_model.proofs.Lookups.{has_number, if_ok}
use Rattle.disk_model.proofs.image.Image.numbers.Goals as goal

pub returns : goal.returns
returns c = if_ok c.keys_of.result _ _ (λ v is f.
    ap (list_any (λ n. f == n)) is ∙ has_number c.self.inside.files f ∙ ap (λ m. is_some (get m f)) c.self.view_is) c.keys_of.ensures
