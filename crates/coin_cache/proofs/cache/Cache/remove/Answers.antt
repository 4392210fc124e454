use Rattle.std.proofs.Common.{◌∙◌, ap, arith}
use Rattle.std.specs.FinMap.{get, remove, len}
use Rattle.slot_pool.proofs.SlotLaws.{some_of, get_here, cut_at, positive}
use Rattle.coin_cache.specs.Contents.{Contents}
use Rattle.coin_cache.proofs.Lookups.{entries_take, remove_over}
use Rattle.coin_cache.proofs.Nodes.{len_take}
use Rattle.coin_cache.proofs.Flags.{one_gone}
use Rattle.coin_cache.proofs.cache.Cache.remove.Goals as goal

pub take-requires : goal.take-requires
take-requires c =
    let x = some_of _ c.requires in let w = c.clean.ensures.slots x.0 x.1 in
    (w.0, ap (λ m. get m c.args.slot) w.1 ∙ get_here c.args.self.now.slots c.args.slot w.0, w.4)

pub returns-clause-coin : goal.returns-clause-coin
returns-clause-coin c =
    λ x at. let w = c.clean.ensures.slots x at in
    c.into_coin.ensures ∙ (c.take.ensures.node w.0 (ap (λ m. get m c.args.slot) w.1 ∙ get_here c.args.self.now.slots c.args.slot w.0)).1 ∙ w.3

pub returns-clause-entries : goal.returns-clause-entries
returns-clause-entries c =
    λ x at. let w = c.clean.ensures.slots x at in
    entries_take c.args.self.now c.take.new.self c.clean.ensures.sound.0 c.take.ensures.sound c.args.slot x at
    (ap (λ (k : Contents). k.slots) c.take.ensures.rest ∙ ap (λ m. remove m c.args.slot) w.1 ∙ remove_over c.args.self.now.slots c.args.slot w.0)

pub returns-clause-count : goal.returns-clause-count
returns-clause-count c =
    let x = some_of _ c.requires in let w = c.clean.ensures.slots x.0 x.1 in
    let gone = ap (λ (k : Contents). len k.slots) c.take.ensures.rest ∙ ap (λ m. len (remove m c.args.slot)) w.1 ∙ ap len (remove_over c.args.self.now.slots c.args.slot w.0) ∙ len_take c.args.self.now.slots c.args.slot c.requires in
    omega (arith, gone, positive c.args.self.now.slots c.args.slot c.requires)

pub returns-clause-one : goal.returns-clause-one
returns-clause-one c =
    λ x at. let s = c.args.slot in let now = c.args.self.now in let w = c.clean.ensures.slots x at in let rest = c.take.ensures.rest in let sound = c.clean.ensures.sound.0 in
    one_gone now c.take.new.self sound c.take.ensures.sound (ap (λ (k : Contents). k.salt) rest ∙ c.clean.ensures.room.1) s x at
    (ap (λ (k : Contents). k.slots) rest ∙ ap (λ m. remove m s) w.1 ∙ remove_over now.slots s w.0)
    (λ d. let p = cut_at now.changes s (sound.flagged s x at d) in (p.0, p.1, p.2, ap (λ (k : Contents). k.changes) rest ∙ c.clean.ensures.changes p.0 p.1 p.2))
    (λ d. ap (λ (k : Contents). k.changes) rest ∙ c.clean.ensures.same x at d)
