use Rattle.disk_model.specs.declared.call.Request.TheVariants.{Read}
use Rattle.disk_model.proofs.requests.Requests.add_read.Given as goal

abbrev pub ghost-add : goal.ghost-add
ghost-add a = Read a._file a._at a._count
