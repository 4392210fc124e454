use Rattle.std.proofs.Common.{subst}
use Rattle.coin_cache.specs.Flags.{ChangesOne}
use Rattle.coin_cache.proofs.cache.Cache.take_over.Goals as goal

pub returns-clause-one : goal.returns-clause-one
returns-clause-one c = λ x at. (subst (λ k. ChangesOne k c.args.self.now c.put_over.new.self) (c.entry.ensures.entry x at).0 c.put_over.ensures.one, c.remove-coin.ensures.one x at)
