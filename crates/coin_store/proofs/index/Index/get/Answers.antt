use Rattle.std.proofs.Common.{◌∙◌, sym, ap}
use Rattle.std.specs.FinMap.{get}
use Rattle.coin_store.specs.OpenIndex.{OpenIndex}
use Rattle.coin_store.proofs.Indexes.{get_is}
use Rattle.coin_store.proofs.index.Index.get.Goals as goal

pub returns : goal.returns
returns c = c.copied.ensures ∙ c.get.ensures.value ∙ sym (get_is c.self.inside.places (record { outpoint = c.args.key.now })) ∙ ap (λ (i : OpenIndex). get i.places c.args.key.now) c.self.view_is
