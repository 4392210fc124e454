use Rattle.disk_model.specs.declared.call.Request.TheVariants.{Cut}
use Rattle.disk_model.proofs.requests.Requests.add_cut.Given as goal

abbrev pub ghost-add : goal.ghost-add
ghost-add a = Cut a._file a._at
