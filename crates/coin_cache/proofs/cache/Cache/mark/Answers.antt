use Rattle.std.proofs.Common.{◌≡◌, ◌∙◌, true, sym, ap}
use Rattle.slot_pool.proofs.SlotLaws.{some_of}
use Rattle.coin_cache.specs.Contents.{Contents}
use Rattle.coin_cache.proofs.Lookups.{same_slot}
use Rattle.coin_cache.proofs.cache.Cache.mark.Goals as goal

pub returns-then-not-entry-clause-clean : goal.returns-then-not-entry-clause-clean
returns-then-not-entry-clause-clean c = λ x at d. ap (λ (k : Contents). k.changes) (c.flag.ensures.flag x at)

pub returns-then-not-entry-clause-room : goal.returns-then-not-entry-clause-room
returns-then-not-entry-clause-room c = let x = some_of _ c.requires in let v = c.flag.ensures.flag x.0 x.1 in (ap (λ (k : Contents). k.spare) v, ap (λ (k : Contents). k.salt) v)

pub returns-else-not-entry-clause-slots : goal.returns-else-not-entry-clause-slots
returns-else-not-entry-clause-slots c =
    λ x at. let d : x.dirty ≡ true = sym (c.entry.ensures.entry x at).2 ∙ c.if-not-entry.false in
    same_slot c.args.self.now.slots c.args.slot x (record x { dirty = true }) at (λ i. record x { dirty = sym d i })
