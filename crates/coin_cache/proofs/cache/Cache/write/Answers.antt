use Rattle.std.proofs.Common.{◌≡◌, ◌∙◌, sym, ap, subst, refl}
use Rattle.std.specs.FinMap.{insert}
use Rattle.std.specs.Prelude.{IfSome}
use Rattle.base_types.specs.Coins.{CoinFits}
use Rattle.coin_cache.specs.Contents.{Entry, contents}
use Rattle.coin_cache.specs.Inside.{entry_of}
use Rattle.coin_cache.proofs.Steps.{write_inside, write_view}
use Rattle.coin_cache.proofs.Views.{sound_is, held_in, node_in}
use Rattle.coin_cache.proofs.cache.Cache.write.Goals as goal

pub get_mut-node-requires : goal.get_mut-node-requires
get_mut-node-requires c = held_in c.self.inside c.self.invariant c.args.self.now c.self.view_is c.args.slot c.requires.held

pub invariant_of-self : goal.invariant_of-self
invariant_of-self c =
    write_inside c.self.inside c.self.invariant c.args.self.now c.self.view_is c.args.slot c.get_mut-node.result.now _ c.get_mut-node.ensures.value refl refl refl refl (subst (λ o. IfSome o CoinFits) (sym c.replace.ensures.after) c.requires.fits)

pub returns-clause-write : goal.returns-clause-write
returns-clause-write c =
    λ x at. let n = node_in c.self.inside c.self.invariant c.args.self.now c.self.view_is c.args.slot x at in
    let same : c.get_mut-node.result.now ≡ n.0 = cc (c.get_mut-node.ensures.value, n.1) in let e = ap entry_of same ∙ n.2 in
    write_view c.self.inside c.self.invariant c.args.self.now c.self.view_is c.args.slot c.get_mut-node.result.now _ c.get_mut-node.ensures.value refl refl refl
    ∙ (λ i. contents (insert c.args.self.now.slots c.args.slot (record (e i) { coin = c.replace.ensures.after i; fresh = c.args.fresh })) c.args.self.now.changes c.args.self.now.spare c.args.self.now.salt)

pub returns-clause-sound : goal.returns-clause-sound
returns-clause-sound c = sound_is _ (invariant_of-self c) _ refl

pub returns-clause-coin : goal.returns-clause-coin
returns-clause-coin c =
    λ x at. let n = node_in c.self.inside c.self.invariant c.args.self.now c.self.view_is c.args.slot x at in
    let same : c.get_mut-node.result.now ≡ n.0 = cc (c.get_mut-node.ensures.value, n.1) in c.replace.ensures.value ∙ ap (λ (e : Entry). e.coin) (ap entry_of same ∙ n.2)
