use Rattle.std.proofs.Common.{sym, subst, ◌∙◌}
use Rattle.slot_pool.specs.Slots.{IsIn}
use Rattle.slot_pool.proofs.SlotLaws.{cut_at}
use Rattle.flag_list.specs.List.{IsList}
use Rattle.coin_cache.specs.Inside.{links_of}
use Rattle.coin_cache.proofs.Views.{changes_are}
use Rattle.coin_cache.proofs.cache.Cache.next_change.Goals as goal

pub next-requires : goal.next-requires
next-requires c =
    let h = c.self.invariant in let p = cut_at h.flagged c.args.slot (subst (IsIn c.args.slot) (changes_are c.self.inside h c.args.self.now c.self.view_is) c.requires) in
    (p.0, p.1, subst (IsList links_of c.self.inside.pool.values c.self.inside.flags) p.2 h.list)

pub returns : goal.returns
returns c =
    λ xs ys split. let h = c.self.invariant in
    c.next.ensures xs ys (subst (IsList links_of c.self.inside.pool.values c.self.inside.flags) (sym (changes_are c.self.inside h c.args.self.now c.self.view_is) ∙ split) h.list)
