use Rattle.disk_model.specs.declared.call.Request.TheVariants.{Sync}
use Rattle.disk_model.proofs.requests.Requests.add_sync.Given as goal

abbrev pub ghost-add : goal.ghost-add
ghost-add a = Sync a._file
