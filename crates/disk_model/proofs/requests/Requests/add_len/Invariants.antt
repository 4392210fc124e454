use Rattle.disk_model.specs.declared.call.Request.TheVariants.{Len}
use Rattle.disk_model.proofs.requests.Requests.add_len.Given as goal

abbrev pub ghost-add : goal.ghost-add
ghost-add a = Len a._file
