use Rattle.chainstates.proofs.OfferSteps.{parent_there}
use Rattle.chainstates.proofs.bodies.is_known.Goals as goal

pub returns-clause-parent : goal.returns-clause-parent
returns-clause-parent c is apart =
    parent_there c.args.tree.now.limit c.args.tree.now.tree c.size-size.ensures.tree c.args.hash.now c.args.header.now (c.has_header.ensures.yes is) apart
