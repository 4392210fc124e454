use Rattle.std.specs.Prelude.{◌≡◌, List, [], ◌∷◌, ◌++◌, refl}
use Rattle.std.proofs.Common.{◌∙◌, sym, ap, arith, subst}
use Rattle.std.specs.List.{IsDistinct}
use Rattle.std.specs.Ordering.{eq_by_cmp}
use Rattle.base_types.specs.Keys.{outpoint_cmp}
use Rattle.base_types.specs.declared.hash.OutPoint.{OutPoint}
use Rattle.coin_store.specs.Kept.{kept}
use Rattle.coin_store.specs.OpenIndex.{OpenIndex}
use Rattle.coin_store.proofs.Keeping.{Entry, kept_vacant, kept_live, one_further, kept_distinct, found}
use Rattle.coin_store.proofs.index.Index.outpoints.Goals as goal

pub loop-key-init : goal.loop-key-init
loop-key-init c = ([], refl, c.new-keys.ensures.items)

pub loop-key-preserved : goal.loop-key-preserved
loop-key-preserved c =
    let i = c.loop-key.invariant in
    let e : Entry = (c.in-Some.key.now, c.in-Some.place.now) in (
      i.0 ++ e ∷ [],
      one_further _ i.0 c.loop-key.key-iterator c.next.new.self e i.1 c.in-Some.ensures.steps,
      i.2 ∙ sym (kept_vacant i.0 e (omega (arith, c.if-place-gt0.false))),
    )

pub loop-key-preserved-in-Continue-1 : goal.loop-key-preserved-in-Continue-1
loop-key-preserved-in-Continue-1 c =
    let i = c.loop-key.invariant in
    let e : Entry = (c.in-Some.key.now, c.in-Some.place.now) in (
      i.0 ++ e ∷ [],
      one_further _ i.0 c.loop-key.key-iterator c.next.new.self e i.1 c.in-Some.ensures.steps,
      c.in_ok-push.ensures.items ∙ ap (λ (l : List OutPoint). l ++ e.0.outpoint ∷ []) i.2 ∙ sym (kept_live i.0 e (λ none. omega (arith, none, c.if-place-gt0.true))),
    )

append_nil : (xs : List Entry) → xs ++ [] ≡ xs
append_nil [] = refl
append_nil (x ∷ xs) = ap (λ (l : List Entry). x ∷ l) (append_nil xs)

all_of : (all front rest shown entries : List Entry) → all ≡ front ++ rest → rest ≡ [] → all ≡ shown → shown ≡ entries → front ≡ entries
all_of all front rest shown entries parts none is rest_is = sym (append_nil front) ∙ ap (λ (l : List Entry). front ++ l) (sym none) ∙ sym parts ∙ is ∙ rest_is

pub returns-clause-found : goal.returns-clause-found
returns-clause-found c = λ q.
    let i = c.loop-key.invariant in
    let whole = all_of _ i.0 c.loop-key.key-iterator c.iter-key-items.result c.self.inside.places.entries i.1 c.in-None.ensures.steps.0 c.into_iter-key-iterator.ensures.into_iter_gives c.iter-key-items.ensures.rest in
    found c.self.inside.places c.args.self.now.places c.loop-key.keys.items q c.iter-key-items.ensures.unique (ap (λ (i : OpenIndex). i.places) c.self.view_is) (i.2 ∙ ap kept whole)

pub returns-clause-once : goal.returns-clause-once
returns-clause-once c =
    let i = c.loop-key.invariant in
    let whole = all_of _ i.0 c.loop-key.key-iterator c.iter-key-items.result c.self.inside.places.entries i.1 c.in-None.ensures.steps.0 c.into_iter-key-iterator.ensures.into_iter_gives c.iter-key-items.ensures.rest in
    subst (λ (l : List OutPoint). IsDistinct (eq_by_cmp outpoint_cmp) l) (sym (i.2 ∙ ap kept whole)) (kept_distinct c.self.inside.places.entries c.iter-key-items.ensures.unique)
