use Rattle.chainstates.proofs.session.Session.flush.Goals as goal

pub returns-clause-err : goal.returns-clause-err
returns-clause-err g c limit state store stands settled = c.flush.ensures.err limit c.args.self.now.shared state store stands settled
