use Rattle.std.proofs.Common.{◌∙◌}
use Rattle.base_types.proofs.flushes.Flushes.tell.Goals as goal
use Rattle.base_types.proofs.Members.{changed_there}
use Rattle.base_types.specs.Flushes.{told_of}

pub returns : goal.returns
returns c front rest member long split = changed_there told_of c.self.inside.members.items front rest c.index_mut.result.now member c.args.place c.index_mut.ensures.value long (c.self.view_is ∙ split)
