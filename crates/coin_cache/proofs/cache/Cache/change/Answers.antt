use Rattle.std.proofs.Common.{◌≡◌, ap, subst, is_some, ◌∙◌}
use Rattle.slot_pool.specs.Slots.{IsIn}
use Rattle.coin_cache.specs.Contents.{Entry}
use Rattle.coin_cache.specs.Inside.{entry_of}
use Rattle.coin_cache.proofs.Nodes.{node_at}
use Rattle.coin_cache.proofs.Views.{changes_are, node_in}
use Rattle.coin_cache.proofs.cache.Cache.change.Goals as goal

pub get-node-requires : goal.get-node-requires
get-node-requires c =
    let h = c.self.invariant in let x = h.sound.dirty c.args.slot (subst (IsIn c.args.slot) (changes_are c.self.inside h c.args.self.now c.self.view_is) c.requires) in
    ap is_some (node_at c.self.inside.pool.values c.args.slot x.0 x.1).1

pub returns : goal.returns
returns c =
    λ x at. let n = node_in c.self.inside c.self.invariant c.args.self.now c.self.view_is c.args.slot x at in
    let same : c.get-node.result.now ≡ n.0 = cc (c.get-node.ensures, n.1) in let is = ap entry_of same ∙ n.2 in
    (ap (λ (e : Entry). e.key) is, c.as_ref.ensures.value ∙ ap (λ (e : Entry). e.coin) is)
