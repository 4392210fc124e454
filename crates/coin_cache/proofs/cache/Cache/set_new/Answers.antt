use Rattle.std.proofs.Common.{◌≡◌, ◌∙◌, ◌++◌, ◌∷◌, [], true, false, Some, None, is_some, sym, ap, refl, arith}
use Rattle.std.specs.FinMap.{get, insert, len}
use Rattle.slot_pool.proofs.SlotLaws.{get_here}
use Rattle.coin_cache.specs.Contents.{Contents, entry_without_flag}
use Rattle.coin_cache.specs.Entries.{changed}
use Rattle.coin_cache.proofs.Lookups.{entries_again, slots_again}
use Rattle.coin_cache.proofs.Nodes.{len_put, len_over}
use Rattle.coin_cache.proofs.Flags.{one_new}
use Rattle.coin_cache.proofs.cache.Cache.set_new.Goals as goal

pub flag-requires : goal.flag-requires
flag-requires c = (entry_without_flag c.args.key c.args.coin c.args.fresh, ap (λ (k : Contents). get k.slots c.put-slot.result) c.put-slot.ensures.put ∙ get_here c.args.self.now.slots c.put-slot.result _, refl)

pub returns-clause-entries : goal.returns-clause-entries
returns-clause-entries c =
    let e = entry_without_flag c.args.key c.args.coin c.args.fresh in let first = ap (λ (k : Contents). k.slots) c.put-slot.ensures.put in
    let at = ap (λ m. get m c.put-slot.result) first ∙ get_here c.args.self.now.slots c.put-slot.result e in
    let w = changed c.args.key c.args.coin c.args.fresh in
    let both = ap (λ (k : Contents). k.slots) (c.flag.ensures.flag e at) ∙ ap (λ m. insert m c.put-slot.result w) first in
    entries_again c.args.self.now c.flag.new.self c.requires.sound c.flag.ensures.sound c.put-slot.result e w both refl (λ x f. let g : None ≡ Some x = sym c.put-slot.ensures.slot ∙ f in cc)

pub returns-clause-one : goal.returns-clause-one
returns-clause-one c =
    let e = entry_without_flag c.args.key c.args.coin c.args.fresh in let first = ap (λ (k : Contents). k.slots) c.put-slot.ensures.put in let s = c.put-slot.result in
    let v = c.flag.ensures.flag e (ap (λ m. get m s) first ∙ get_here c.args.self.now.slots s e) in
    let w = changed c.args.key c.args.coin c.args.fresh in
    let both = ap (λ (k : Contents). k.slots) v ∙ ap (λ m. insert m s w) first ∙ slots_again c.args.self.now.slots s e w in
    one_new c.args.self.now c.flag.new.self c.requires.sound c.flag.ensures.sound (ap (λ (k : Contents). k.salt) v ∙ ap (λ (k : Contents). k.salt) c.put-slot.ensures.put) s w c.put-slot.ensures.slot c.requires.free both
    (λ _. ap (λ (k : Contents). k.changes) v ∙ ap (λ (k : Contents). k.changes ++ s ∷ []) c.put-slot.ensures.put) (λ d. let f : true ≡ false = d in cc)

pub returns-clause-count : goal.returns-clause-count
returns-clause-count c =
    let e = entry_without_flag c.args.key c.args.coin c.args.fresh in
    let at = ap (λ (k : Contents). get k.slots c.put-slot.result) c.put-slot.ensures.put ∙ get_here c.args.self.now.slots c.put-slot.result e in
    ap (λ (k : Contents). len k.slots) (c.flag.ensures.flag e at) ∙ len_over c.put-slot.new.self.slots c.put-slot.result _ (ap is_some at) ∙ ap (λ (k : Contents). len k.slots) c.put-slot.ensures.put ∙ len_put c.args.self.now.slots c.put-slot.result _ c.put-slot.ensures.slot

pub returns-clause-room : goal.returns-clause-room
returns-clause-room c =
    let e = entry_without_flag c.args.key c.args.coin c.args.fresh in
    let at = ap (λ (k : Contents). get k.slots c.put-slot.result) c.put-slot.ensures.put ∙ get_here c.args.self.now.slots c.put-slot.result e in
    let one = ap (λ (k : Contents). k.spare) (c.flag.ensures.flag e at) in let two = ap (λ (k : Contents). k.spare) c.put-slot.ensures.put in
    omega (arith, one, two, c.requires.room)
