use Rattle.std.proofs.Common.{ap, ◌∙◌}
use Rattle.std.specs.FinMap.{insert}
use Rattle.disk_model.proofs.Lookups.{files-updates}
use Rattle.disk_model.proofs.image.Image.set.Goals as goal

pub returns-clause-ok : goal.returns-clause-ok
returns-clause-ok c =
    files-updates c.self.inside.files c.insert.new.self c.args.file _ c.in_ok-insert.ensures.updates
    ∙ ap (λ m. insert m c.args.file c.args.bytes) c.self.view_is
