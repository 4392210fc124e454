use Rattle.std.proofs.Common.{◌∙◌}
use Rattle.coin_store.proofs.Indexes.{test_is}
use Rattle.coin_store.proofs.index.IndexKeyPartialEq.eq.Goals as goal

pub returns : goal.returns
returns c = c.eq.ensures ∙ test_is c.args.self.now.outpoint c.args.other.now.outpoint
