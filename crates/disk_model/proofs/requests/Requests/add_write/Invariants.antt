use Rattle.disk_model.specs.declared.call.Request.TheVariants.{Write}
use Rattle.disk_model.proofs.requests.Requests.add_write.Given as goal

abbrev pub ghost-add : goal.ghost-add
ghost-add a = Write a._file a._at a._bytes.now
