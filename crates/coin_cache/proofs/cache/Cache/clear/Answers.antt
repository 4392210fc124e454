use Rattle.std.proofs.Common.{◌≡◌, ◌+◌, ◌<◌, [], refl, sym, ap, ◌∙◌, subst, arith}
use Rattle.std.specs.Ordering.{nat_cmp}
use Rattle.std.specs.FinMap as map
use Rattle.slot_pool.specs.Pool.{Contents}
use Rattle.coin_index.proofs.Moves.{fresh_index, empty_count}
use Rattle.flag_list.proofs.ListLaws.{new_list}
use Rattle.coin_cache.specs.declared.node.Node.{Node}
use Rattle.coin_cache.specs.Contents.{Entry, contents}
use Rattle.coin_cache.specs.Inside.{key_of, chain_of, links_of, slots_of}
use Rattle.coin_cache.proofs.Meanings.{means_parent}
use Rattle.coin_cache.proofs.Nodes.{len-slots, nothing_in, no_slots}
use Rattle.coin_cache.proofs.Sound.{no_sound}
use Rattle.coin_cache.proofs.Steps.{some_buckets}
use Rattle.coin_cache.proofs.Views.{view_as, slots_are, spare_is, salt_is}
use Rattle.coin_cache.proofs.cache.Cache.clear.Goals as goal

pub invariant_of-self : goal.invariant_of-self
invariant_of-self c =
    let p = c.clear.new.self in let none : slots_of p.values ≡ map.empty = no_slots p.values (ap (λ (q : Contents Node). q.values) c.clear.ensures) in
    let room = ap (λ (q : Contents Node). q.spare) c.clear.ensures in let size = ap map.len none ∙ map.len-empty nat_cmp Entry in record {
      found = map.empty;
      flagged = [];
      index = fresh_index key_of chain_of p.values c.clear-2.new.self _ c.clear-2.ensures.buckets;
      list = new_list links_of p.values c.new-self-inside.result c.new-self-inside.ensures;
      each = λ s x e. absurd (nothing_in _ s x none e);
      sound = no_sound _ none;
      count = sym size;
      changes = refl;
      few = omega (arith, size);
      buckets = λ some. let b = some_buckets c.self.inside c.self.invariant (subst (λ n. 0 < n) room some) in omega (arith, b, empty_count c.clear-2.new.self _ c.clear-2.ensures.buckets);
    }

pub returns-clause-cleared : goal.returns-clause-cleared
returns-clause-cleared c =
    let i = c.self.inside in let h = c.self.invariant in let s = c.args.self.now in let p = c.clear.new.self in
    let none : slots_of p.values ≡ map.empty = no_slots p.values (ap (λ (q : Contents Node). q.values) c.clear.ensures) in
    let room = ap (λ (q : Contents Node). q.spare) c.clear.ensures in let size = ap map.len none ∙ map.len-empty nat_cmp Entry in
    view_as p c.new-self-inside.result _ map.empty [] (s.spare + map.len s.slots) s.salt none (new_list links_of p.values c.new-self-inside.result c.new-self-inside.ensures)
    (omega (arith, room, size, spare_is i h s c.self.view_is, ap map.len (slots_are i h s c.self.view_is), len-slots i.pool.values, h.few)) (c.clear-2.ensures.salt ∙ sym (salt_is i h s c.self.view_is))

pub returns-clause-coins : goal.returns-clause-coins
returns-clause-coins c = means_parent (contents (slots_of c.clear.new.self.values) [] 0 c.args.self.now.salt) (no_slots c.clear.new.self.values (ap (λ (q : Contents Node). q.values) c.clear.ensures))
