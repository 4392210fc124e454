use Rattle.std.proofs.Common.{◌≡◌, ◌∙◌, Some, true, is_some, sym, ap, refl}
use Rattle.std.specs.FinMap.{get, insert, len}
use Rattle.slot_pool.proofs.SlotLaws.{some_of, get_here}
use Rattle.coin_cache.specs.Contents.{Entry, Contents}
use Rattle.coin_cache.specs.Entries.{changed}
use Rattle.coin_cache.proofs.Lookups.{entries_again, slots_again}
use Rattle.coin_cache.proofs.Nodes.{len_over}
use Rattle.coin_cache.proofs.Flags.{one_set}
use Rattle.coin_cache.proofs.cache.Cache.set.Goals as goal

pub write-requires-clause-held : goal.write-requires-clause-held
write-requires-clause-held c = let x = some_of _ c.requires.held in ap (λ m. is_some (get m c.args.slot)) (c.mark.ensures.slots x.0 x.1) ∙ ap is_some (get_here c.args.self.now.slots c.args.slot _)

pub returns-clause-coin : goal.returns-clause-coin
returns-clause-coin c = λ x at. c.write.ensures.coin _ (ap (λ m. get m c.args.slot) (c.mark.ensures.slots x at) ∙ get_here c.args.self.now.slots c.args.slot (record x { dirty = true }))

pub returns-clause-entries : goal.returns-clause-entries
returns-clause-entries c =
    λ x at. let v = record x { dirty = true } in let first = c.mark.ensures.slots x at in let w = changed x.key c.args.coin c.args.fresh in
    let both = ap (λ (k : Contents). k.slots) (c.write.ensures.write v (ap (λ m. get m c.args.slot) first ∙ get_here c.args.self.now.slots c.args.slot v)) ∙ ap (λ m. insert m c.args.slot w) first in
    entries_again c.args.self.now c.write.new.self c.mark.ensures.sound.0 c.write.ensures.sound c.args.slot v w both refl (λ y f. let g : Some x ≡ Some y = sym at ∙ f in let one : x ≡ y = cc g in ap (λ (e : Entry). e.key) (sym one))

pub returns-clause-one : goal.returns-clause-one
returns-clause-one c =
    λ x at. let s = c.args.slot in let now = c.args.self.now in let v = record x { dirty = true } in let w = changed x.key c.args.coin c.args.fresh in let first = c.mark.ensures.slots x at in
    let all = c.write.ensures.write v (ap (λ m. get m s) first ∙ get_here now.slots s v) in
    let both = ap (λ (k : Contents). k.slots) all ∙ ap (λ m. insert m s w) first ∙ slots_again now.slots s v w in
    one_set now c.write.new.self c.mark.ensures.sound.0 c.write.ensures.sound (ap (λ (k : Contents). k.salt) all ∙ c.mark.ensures.room.1) s x w at both refl refl
    (λ d. ap (λ (k : Contents). k.changes) all ∙ c.mark.ensures.clean x at d) (λ d. ap (λ (k : Contents). k.changes) all ∙ c.mark.ensures.dirty x at d)

pub returns-clause-count : goal.returns-clause-count
returns-clause-count c =
    let x = some_of _ c.requires.held in let v = record x.0 { dirty = true } in let first = c.mark.ensures.slots x.0 x.1 in let at = ap (λ m. get m c.args.slot) first ∙ get_here c.args.self.now.slots c.args.slot v in
    ap (λ (k : Contents). len k.slots) (c.write.ensures.write v at) ∙ len_over c.mark.new.self.slots c.args.slot _ (ap is_some at) ∙ ap len first ∙ len_over c.args.self.now.slots c.args.slot v (ap is_some x.1)

pub returns-clause-room : goal.returns-clause-room
returns-clause-room c =
    let x = some_of _ c.requires.held in let v = record x.0 { dirty = true } in
    ap (λ (k : Contents). k.spare) (c.write.ensures.write v (ap (λ m. get m c.args.slot) (c.mark.ensures.slots x.0 x.1) ∙ get_here c.args.self.now.slots c.args.slot v)) ∙ c.mark.ensures.room.0
