use Rattle.std.proofs.Common.{◌≡◌, [], refl, sym, ap, ◌∙◌, arith}
use Rattle.std.specs.Ordering.{nat_cmp}
use Rattle.std.specs.FinMap as map
use Rattle.slot_pool.specs.Pool.{Contents}
use Rattle.coin_index.proofs.IndexLaws.{new_index}
use Rattle.flag_list.proofs.ListLaws.{new_list}
use Rattle.coin_cache.specs.declared.node.Node.{Node}
use Rattle.coin_cache.specs.Contents.{Entry, contents}
use Rattle.coin_cache.specs.Inside.{key_of, chain_of, links_of, slots_of}
use Rattle.coin_cache.proofs.Meanings.{means_parent}
use Rattle.coin_cache.proofs.Nodes.{nothing_in, no_slots}
use Rattle.coin_cache.proofs.Sound.{no_sound}
use Rattle.coin_cache.proofs.Views.{view_as}
use Rattle.coin_cache.proofs.cache.Cache.new.Goals as goal

pub invariant_of-result : goal.invariant_of-result
invariant_of-result c =
    let none : slots_of c.new.result.values ≡ map.empty = no_slots c.new.result.values (ap (λ (p : Contents Node). p.values) c.new.ensures) in
    let no = ap (λ (p : Contents Node). p.spare) c.new.ensures in let size = ap map.len none ∙ map.len-empty nat_cmp Entry in record {
      found = map.empty;
      flagged = [];
      index = new_index key_of chain_of c.new.result.values c.new-2.result _ c.new-2.ensures;
      list = new_list links_of c.new.result.values c.new-3.result c.new-3.ensures;
      each = λ s x e. absurd (nothing_in _ s x none e);
      sound = no_sound _ none;
      count = sym size;
      changes = refl;
      few = omega (arith, size);
      buckets = λ some. absurd (omega (arith, no, some));
    }

pub returns-clause-empty : goal.returns-clause-empty
returns-clause-empty c =
    let none : c.new.result.values ≡ map.empty = ap (λ (p : Contents Node). p.values) c.new.ensures in let no = ap (λ (p : Contents Node). p.spare) c.new.ensures in
    view_as c.new.result c.new-3.result _ map.empty [] 0 _ (no_slots c.new.result.values none) (new_list links_of c.new.result.values c.new-3.result c.new-3.ensures) (omega (arith, no)) c.new-2.ensures.1

pub returns-clause-coins : goal.returns-clause-coins
returns-clause-coins c = means_parent (contents (slots_of c.new.result.values) [] 0 c.args.salt.now) (no_slots c.new.result.values (ap (λ (p : Contents Node). p.values) c.new.ensures))
