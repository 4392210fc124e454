use Rattle.std.proofs.Common.{◌≡◌, ◌+◌, ◌∙◌, inr, ap, sym, arith}
use Rattle.std.specs.FinMap.{len}
use Rattle.slot_pool.proofs.SlotLaws.{some_of, cut_at}
use Rattle.coin_cache.specs.Contents.{Entry, Contents}
use Rattle.coin_cache.proofs.Lookups.{entries_put}
use Rattle.coin_cache.proofs.Nodes.{len_over}
use Rattle.coin_cache.proofs.cache.Cache.settle.Goals as goal

pub returns-else-is_none-clause-entries : goal.returns-else-is_none-clause-entries
returns-else-is_none-clause-entries c =
    λ x at. let p = cut_at c.args.self.now.changes c.args.slot c.requires.flagged in
    inr (entries_put c.args.self.now c.unflag.new.self c.requires.sound c.unflag.ensures.sound c.args.slot _ (ap (λ (k : Contents). k.slots) (c.unflag.ensures.flag x p.0 p.1 at p.2))
    (λ y f. let one : x ≡ y = cc (at, f) in ap (λ (e : Entry). e.key) (sym one)))

pub returns-else-is_none-clause-changes : goal.returns-else-is_none-clause-changes
returns-else-is_none-clause-changes c = λ xs ys split. let x = some_of _ c.requires.held in ap (λ (k : Contents). k.changes) (c.unflag.ensures.flag x.0 xs ys x.1 split)

pub returns-else-is_none-clause-room : goal.returns-else-is_none-clause-room
returns-else-is_none-clause-room c =
    let now = c.args.self.now in let x = some_of _ c.requires.held in let p = cut_at now.changes c.args.slot c.requires.flagged in let v = c.unflag.ensures.flag x.0 p.0 p.1 x.1 p.2 in
    (ap (λ (k : Contents). k.spare + len k.slots) v ∙ ap (λ n. now.spare + n) (len_over now.slots c.args.slot _ c.requires.held), ap (λ (k : Contents). k.salt) v)

pub returns-then-is_none-clause-room : goal.returns-then-is_none-clause-room
returns-then-is_none-clause-room c =
    let x = some_of _ c.requires.held in (omega (arith, c.remove.ensures.count, c.remove.ensures.room), (c.remove.ensures.one x.0 x.1).salt)
