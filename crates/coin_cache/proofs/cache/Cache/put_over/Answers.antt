use Rattle.std.proofs.Common.{subst}
use Rattle.coin_cache.specs.Flags.{ChangesOne}
use Rattle.coin_cache.proofs.cache.Cache.put_over.Goals as goal

pub returns-in-Some-clause-one : goal.returns-in-Some-clause-one
returns-in-Some-clause-one c =
    let x = c.find.ensures.some c.in-Some.slot c.in-Some.is in subst (λ k. ChangesOne k c.args.self.now c.merge_into.new.self) x.2 (c.merge_into.ensures.one x.0 x.1)
