use Rattle.std.proofs.Common.{◌∙◌, ap, arith, refl, rules, length}
use Rattle.std.proofs.lemmas.Map.Made.{filter_same_pairs}
use Rattle.coin_store.specs.OpenIndex.{OpenIndex}
use Rattle.coin_store.proofs.Vacant.{has_bytes, vacant_dropped, vacant_many, few_vacant, none_left}
use Rattle.coin_store.proofs.index.Index.trim.Goals as goal

pub returns-then-self-len-clause-few : goal.returns-then-self-len-clause-few
returns-then-self-len-clause-few c =
    few_vacant c.self.inside.places c.args.self.now (ap (λ (i : OpenIndex). i.places) c.self.view_is)
    (omega (arith, c.if-self-len.true, c.len.ensures.len, c.self.invariant.0, vacant_many c.self.inside.places.entries, ap (λ (i : OpenIndex). i.size) c.self.view_is))

pub invariant_of-self : goal.invariant_of-self
invariant_of-self c =
    let left = filter_same_pairs _ has_bytes _ (λ k v b w f' t. search rules) c.self.inside.places.entries c.retain.new.self.entries c.retain.ensures.filtered in
    (omega (arith, vacant_many c.retain.new.self.entries, ap length (none_left c.self.inside.places c.retain.new.self left)), c.retain.ensures.hasher ∙ c.self.invariant.1)

pub returns-clause-same : goal.returns-clause-same
returns-clause-same c =
    vacant_dropped c.self.inside.places c.retain.new.self c.args.self.now.places (ap (λ (i : OpenIndex). i.places) c.self.view_is) c.retain.ensures.was_unique
    (filter_same_pairs _ has_bytes _ (λ k v b w f' t. search rules) c.self.inside.places.entries c.retain.new.self.entries c.retain.ensures.filtered)

pub returns-clause-few : goal.returns-clause-few
returns-clause-few c =
    let left = filter_same_pairs _ has_bytes _ (λ k v b w f' t. search rules) c.self.inside.places.entries c.retain.new.self.entries c.retain.ensures.filtered in
    few_vacant c.retain.new.self _ refl (omega (arith, ap length (none_left c.self.inside.places c.retain.new.self left)))
