use Rattle.std.proofs.Common.{◌∙◌, is_some, ap}
use Rattle.slot_pool.proofs.ChangeLaws.{changes_one, changes_then}
use Rattle.slot_pool.proofs.SlotLaws.{some_of}
use Rattle.flag_list.proofs.Pushes.{pushed_first, last_has, pushed_behind}
use Rattle.flag_list.proofs.list.FlagList.push_back.Goals as goal
use Rattle.flag_list.proofs.list.FlagList.push_back.Goals.{in-Some, in-None}

pub set_after-requires : goal.set_after-requires
set_after-requires g c =
    let T = g.T.Linked in let law = g.met.T.Linked in let x = some_of _ c.requires.held in let q = c.requires.out in
    let y = last_has T.links_of T.with_links law.links_set c.args.pool.now c.set_links.new.pool c.args.self.now q.0 c.args.slot x.0 q.1 q.2 (c.set_links.ensures x.0 x.1) c.in-Some.last c.in-Some.is in
    ap is_some y.1

pub returns-clause-list : goal.returns-clause-list
returns-clause-list g c =
    λ ss h out. let T = g.T.Linked in let law = g.met.T.Linked in let x = some_of _ c.requires.held in let p = c.args.pool.now in let n = c.set_links.new.pool in let l = c.args.self.now in let slot = c.args.slot in
    let e = c.set_links.ensures x.0 x.1 in
    elim c.match-self.branch [
      | in-Some w ↦ let t = w.in-Some.last in let y = last_has T.links_of T.with_links law.links_set p n l ss slot x.0 h out e t w.in-Some.is in
          pushed_behind T.links_of T.with_links law.links_set p n l ss slot x.0 h out e t w.in-Some.is c.match-self.pool c.match-self.self y.0 y.1 (w.pool-is ∙ w.set_after.ensures y.0 y.1) w.self-is
      | in-None w ↦ pushed_first T.links_of T.with_links law.links_set p n l ss slot x.0 h out e c.match-self.pool c.match-self.self w.in-None.is w.pool-is w.self-is
    ]

pub returns-clause-changes : goal.returns-clause-changes
returns-clause-changes g c =
    let T = g.T.Linked in let law = g.met.T.Linked in let x = some_of _ c.requires.held in let p = c.args.pool.now in let n = c.set_links.new.pool in let k = c.match-self.pool in let slot = c.args.slot in
    let e = c.set_links.ensures x.0 x.1 in let one = changes_one T.links_of T.with_links law.set_own law.set_twice p n slot x.0 _ x.1 e in
    elim c.match-self.branch [
      | in-Some w ↦ let t = w.in-Some.last in let q = c.requires.out in let y = last_has T.links_of T.with_links law.links_set p n c.args.self.now q.0 slot x.0 q.1 q.2 e t w.in-Some.is in
          changes_then T.links_of T.with_links law.set_own law.set_twice p n k one (changes_one T.links_of T.with_links law.set_own law.set_twice n k t y.0 _ y.1 (w.pool-is ∙ w.set_after.ensures y.0 y.1))
      | in-None w ↦ changes_one T.links_of T.with_links law.set_own law.set_twice p k slot x.0 _ x.1 (w.pool-is ∙ e)
    ]
