use Rattle.std.proofs.Common.{◌∙◌, ap}
use Rattle.coin_store.specs.declared.store.Marked.{Marked}
use Rattle.coin_store.specs.Store.{last_marker}
use Rattle.std.specs.Prelude.{List}
use Rattle.coin_store.proofs.Opens.{last_is, last_at, last_none}
use Rattle.coin_store.proofs.store.CoinStore.marker.Goals as goal

pub returns-in-Some-clause-last : goal.returns-in-Some-clause-last
returns-in-Some-clause-last c = last_at c.args.self.now.start c.args.self.now.markers.items c.deref.result.now c.in-Some.marked.now c.deref.ensures.value c.in-Some.ensures.value

pub returns-in-Some-clause-held : goal.returns-in-Some-clause-held
returns-in-Some-clause-held c = λ base batches knows.
    last_at c.args.self.now.start c.args.self.now.markers.items c.deref.result.now c.in-Some.marked.now c.deref.ensures.value c.in-Some.ensures.value
    ∙ ap (λ (l : List Marked). last_marker c.args.self.now.start l) knows.markers
    ∙ last_is c.args.self.now.mask 0 c.args.self.now.start batches

pub returns-in-None-clause-held : goal.returns-in-None-clause-held
returns-in-None-clause-held c = λ base batches knows.
    last_none c.args.self.now.start c.args.self.now.markers.items c.deref.result.now c.deref.ensures.value c.in-None.ensures.value
    ∙ ap (λ (l : List Marked). last_marker c.args.self.now.start l) knows.markers
    ∙ last_is c.args.self.now.mask 0 c.args.self.now.start batches
