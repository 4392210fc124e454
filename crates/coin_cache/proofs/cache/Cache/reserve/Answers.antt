use Rattle.std.proofs.Common.{◌∙◌, ◌≤◌, ◌-◌, min, sym, ap, subst, arith}
use Rattle.std.specs.Prelude.{OnOk}
use Rattle.std.specs.FinMap.{len}
use Rattle.coin_cache.specs.Contents.{Contents}
use Rattle.base_types.specs.Views.{max_entries}
use Rattle.coin_cache.specs.Inside.{slots_of}
use Rattle.coin_cache.proofs.Steps.{keep_inside, keep_view}
use Rattle.coin_cache.proofs.Views.{slots_are}
use Rattle.coin_cache.proofs.cache.Cache.reserve.Goals as goal
use Rattle.coin_cache.proofs.cache.Cache.reserve.Goals.{in-Ok-reserve, in-Err-reserve}

pub invariant_of-self-2 : goal.invariant_of-self-2
invariant_of-self-2 c =
    let i = c.self.inside in let h = c.self.invariant in let e = c.in-Ok.ensures in
    keep_inside i h c.args.self.now c.self.view_is c.reserve_buckets.new.pool c.reserve.new.self c.reserve_buckets.new.self e.changes (e.index h.found h.index) c.reserve.ensures.values (λ _. e.ok.0) e.salt

pub returns-clause-entries : goal.returns-clause-entries
returns-clause-entries c =
    let i = c.self.inside in let h = c.self.invariant in let e = c.in-Ok.ensures in
    let v = keep_view i h c.args.self.now c.self.view_is c.reserve_buckets.new.pool c.reserve.new.self c.reserve_buckets.new.self e.changes (e.index h.found h.index) c.reserve.ensures.values (λ _. e.ok.0) e.salt in record {
      slots = ap (λ (k : Contents). k.slots) v;
      changes = ap (λ (k : Contents). k.changes) v;
      salt = ap (λ (k : Contents). k.salt) v;
    }

pub returns-clause-room : goal.returns-clause-room
returns-clause-room c =
    let i = c.self.inside in let h = c.self.invariant in let e = c.in-Ok.ensures in
    let v = keep_view i h c.args.self.now c.self.view_is c.reserve_buckets.new.pool c.reserve.new.self c.reserve_buckets.new.self e.changes (e.index h.found h.index) c.reserve.ensures.values (λ _. e.ok.0) e.salt in
    let size = ap (λ (k : Contents). len k.slots) v ∙ ap len (slots_are i h c.args.self.now c.self.view_is) in
    let few = c.if-self-n-gt-MAX_ENTRIES.false in
    elim c.match-reserve.branch [
      | in-Ok-reserve w ↦ let room = w.in-Ok-reserve.ensures.room in subst (λ r. OnOk r (c.args.n ≤ min c.reserve.new.self.spare (max_entries - len (slots_of c.reserve.new.self.values)))) (sym w.result-is) (omega (arith, room, size, h.count, few))
      | in-Err-reserve w ↦ subst (λ r. OnOk r (c.args.n ≤ min c.reserve.new.self.spare (max_entries - len (slots_of c.reserve.new.self.values)))) (sym w.result-is) tt
    ]
