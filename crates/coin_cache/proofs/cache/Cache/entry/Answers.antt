use Rattle.std.proofs.Common.{◌≡◌, ap, ◌∙◌}
use Rattle.coin_cache.specs.Contents.{Entry}
use Rattle.coin_cache.specs.Inside.{entry_of}
use Rattle.coin_cache.proofs.Views.{sound_is, held_in, node_in}
use Rattle.coin_cache.proofs.cache.Cache.entry.Goals as goal

pub get-requires : goal.get-requires
get-requires c = held_in c.self.inside c.self.invariant c.args.self.now c.self.view_is c.args.slot c.requires

pub returns-clause-sound : goal.returns-clause-sound
returns-clause-sound c = sound_is c.self.inside c.self.invariant c.args.self.now c.self.view_is

pub returns-clause-entry : goal.returns-clause-entry
returns-clause-entry c =
    λ x at. let n = node_in c.self.inside c.self.invariant c.args.self.now c.self.view_is c.args.slot x at in
    let same : c.get.result.now ≡ n.0 = cc (c.get.ensures, n.1) in let is = ap entry_of same ∙ n.2 in
    (ap (λ (e : Entry). e.key) is, ap (λ (e : Entry). e.coin) is, ap (λ (e : Entry). e.dirty) is, ap (λ (e : Entry). e.fresh) is)
