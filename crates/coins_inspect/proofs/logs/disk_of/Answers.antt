use Rattle.std.proofs.Common.{[], refl, ap, ◌∙◌}
use Rattle.std.specs.Prelude.{unwrap_or}
use Rattle.std.specs.FinMap.{get-insert}
use Rattle.std.specs.FinMap as map
use Rattle.std.specs.Cmp.{nat_cmp_total}
use Rattle.std.proofs.lemmas.Result.{IfOk-weaker}
use Rattle.disk_model.specs.Image.{Files, bytes_in}
use Rattle.disk_model.specs.MemDisk.{files_of}
use Rattle.coins_inspect.proofs.logs.disk_of.Goals as goal

pub returns : goal.returns
returns c =
    IfOk-weaker c.from_image.result _ _ (λ disk fresh. (
      bytes_in (files_of disk),
      refl,
      ap (λ (files : Files). bytes_in files 1) (fresh.files ∙ c.in_ok-put.ensures.ok ∙ ap (λ (files : Files). map.insert files 1 c.args.bytes.now) c.new-image.ensures)
          ∙ ap (λ o. unwrap_or o []) (get-insert nat_cmp_total map.empty 1 c.args.bytes.now 1),
    )) c.from_image.ensures.fresh
