use Rattle.std.proofs.Common.{◌∙◌, inl, inr, is_some, refl, ap}
use Rattle.flag_list.proofs.Neighbours.{member, is_there}
use Rattle.flag_list.proofs.Unlinks.{before_there, passed, unlinked_last, after_there, unlinked_between, changed_between}
use Rattle.flag_list.proofs.list.FlagList.unlink.Goals as goal
use Rattle.flag_list.proofs.list.FlagList.unlink.Goals.{in-Some, in-None}

pub get-requires : goal.get-requires
get-requires g c =
    let links = g.T.Linked.links_of in let m = c.args.pool.now.values in let q = c.requires in is_there links m c.args.slot _ (member links m c.args.self.now q.0 c.args.slot q.1 q.2)

pub set_after-requires : goal.set_after-requires
set_after-requires g c =
    let T = g.T.Linked in let law = g.met.T.Linked in let q = c.requires in
    ap is_some (before_there T.links_of T.with_links law.links_set law.set_own law.set_twice c.args.pool.now c.args.self.now q.0 c.args.slot q.1 q.2 c.get.result.now c.get.ensures c.links-links.result c.links-links.ensures c.in-Some.before c.in-Some.is).1

pub set_before-requires : goal.set_before-requires
set_before-requires g c =
    let T = g.T.Linked in let law = g.met.T.Linked in let q = c.requires in
    let s = passed T.links_of T.with_links law.links_set law.set_own law.set_twice c.args.pool.now c.args.self.now q.0 c.args.slot q.1 q.2 c.get.result.now c.get.ensures c.links-links.result c.links-links.ensures c.match-links.pool c.match-links.self
    (elim c.match-links.branch [ in-Some w ↦ inr (w.in-Some.before, w.in-Some.is, (λ y e. w.pool-is ∙ w.set_after.ensures y e), w.self-is) | in-None w ↦ inl (w.in-None.is, w.pool-is, w.self-is) ]) in
    ap is_some (after_there T.links_of T.with_links law.links_set law.set_own law.set_twice c.args.pool.now c.args.self.now q.0 c.args.slot q.1 q.2 c.get.result.now c.get.ensures c.links-links.result c.links-links.ensures c.match-links.pool c.match-links.self s c.in-Some-after.after c.in-Some-after.is).1

pub returns-in-Some-after-clause-list : goal.returns-in-Some-after-clause-list
returns-in-Some-after-clause-list g c =
    λ xs ys h. let T = g.T.Linked in let law = g.met.T.Linked in
    let s = passed T.links_of T.with_links law.links_set law.set_own law.set_twice c.args.pool.now c.args.self.now xs c.args.slot ys h c.get.result.now c.get.ensures c.links-links.result c.links-links.ensures c.match-links.pool c.match-links.self
    (elim c.match-links.branch [ in-Some w ↦ inr (w.in-Some.before, w.in-Some.is, (λ y e. w.pool-is ∙ w.set_after.ensures y e), w.self-is) | in-None w ↦ inl (w.in-None.is, w.pool-is, w.self-is) ]) in
    unlinked_between T.links_of T.with_links law.links_set law.set_own law.set_twice c.args.pool.now c.args.self.now xs c.args.slot ys h c.get.result.now c.get.ensures c.links-links.result c.links-links.ensures c.match-links.pool c.match-links.self s c.set_before.new.pool c.in-Some-after.after c.in-Some-after.is c.set_before.ensures

pub returns-in-None-after-clause-list : goal.returns-in-None-after-clause-list
returns-in-None-after-clause-list g c =
    λ xs ys h. let T = g.T.Linked in let law = g.met.T.Linked in
    let s = passed T.links_of T.with_links law.links_set law.set_own law.set_twice c.args.pool.now c.args.self.now xs c.args.slot ys h c.get.result.now c.get.ensures c.links-links.result c.links-links.ensures c.match-links.pool c.match-links.self
    (elim c.match-links.branch [ in-Some w ↦ inr (w.in-Some.before, w.in-Some.is, (λ y e. w.pool-is ∙ w.set_after.ensures y e), w.self-is) | in-None w ↦ inl (w.in-None.is, w.pool-is, w.self-is) ]) in
    unlinked_last T.links_of T.with_links law.links_set law.set_own law.set_twice c.args.pool.now c.args.self.now xs c.args.slot ys h c.get.result.now c.get.ensures c.links-links.result c.links-links.ensures c.match-links.pool c.match-links.self s _ c.in-None-after.is refl

pub returns-in-Some-after-clause-changes : goal.returns-in-Some-after-clause-changes
returns-in-Some-after-clause-changes g c =
    let T = g.T.Linked in let law = g.met.T.Linked in let q = c.requires in
    let s = passed T.links_of T.with_links law.links_set law.set_own law.set_twice c.args.pool.now c.args.self.now q.0 c.args.slot q.1 q.2 c.get.result.now c.get.ensures c.links-links.result c.links-links.ensures c.match-links.pool c.match-links.self
    (elim c.match-links.branch [ in-Some w ↦ inr (w.in-Some.before, w.in-Some.is, (λ y e. w.pool-is ∙ w.set_after.ensures y e), w.self-is) | in-None w ↦ inl (w.in-None.is, w.pool-is, w.self-is) ]) in
    changed_between T.links_of T.with_links law.links_set law.set_own law.set_twice c.args.pool.now c.args.self.now q.0 c.args.slot q.1 q.2 c.get.result.now c.get.ensures c.links-links.result c.links-links.ensures c.match-links.pool c.match-links.self s c.set_before.new.pool c.in-Some-after.after c.in-Some-after.is c.set_before.ensures

pub returns-in-None-after-clause-changes : goal.returns-in-None-after-clause-changes
returns-in-None-after-clause-changes g c =
    let T = g.T.Linked in let law = g.met.T.Linked in let q = c.requires in
    let s = passed T.links_of T.with_links law.links_set law.set_own law.set_twice c.args.pool.now c.args.self.now q.0 c.args.slot q.1 q.2 c.get.result.now c.get.ensures c.links-links.result c.links-links.ensures c.match-links.pool c.match-links.self
    (elim c.match-links.branch [ in-Some w ↦ inr (w.in-Some.before, w.in-Some.is, (λ y e. w.pool-is ∙ w.set_after.ensures y e), w.self-is) | in-None w ↦ inl (w.in-None.is, w.pool-is, w.self-is) ]) in
    s.1
