use Rattle.std.specs.FinMap.{get, get-insert, get-empty}
use Rattle.std.specs.Ordering.{eq_by_cmp}
use Rattle.std.specs.Prelude.{◌≡◌, List, [], ◌∷◌, ◌++◌, Option, Some, refl}
use Rattle.std.proofs.Common.{◌∙◌, cond, sym, ap, subst}
use Rattle.std.specs.List.{IsDistinct}
use Rattle.std.specs.Map.{keys_of}
use Rattle.base_types.specs.Keys.{outpoint_cmp}
use Rattle.base_types.proofs.KeyOrders.{outpoint_cmp_total}
use Rattle.coin_store.specs.IndexKeys.{key_cmp}
use Rattle.coin_store.specs.OpenIndex.{OpenIndex}
use Rattle.coin_store.specs.Places.{CoinPlaces}
use Rattle.coin_store.specs.declared.places.CoinPlace.{CoinPlace}
use Rattle.coin_store.proofs.Keeping.{Entry, one_further, one_copied, copied}
use Rattle.coin_store.proofs.index.Index.copy.Goals as goal

pub loop-key-init : goal.loop-key-init
loop-key-init c = ([], refl, λ q. ap (λ (p : CoinPlaces). get p q) c.new-copy.ensures.places ∙ get-empty outpoint_cmp q, c.new-copy.ensures.salt ∙ ap (λ (i : OpenIndex). i.salt) c.self.view_is)

parts : (all front rest shown entries : List Entry) (e : Entry) (now : List Entry) → all ≡ front ++ rest → rest ≡ e ∷ now → all ≡ shown → shown ≡ entries → entries ≡ front ++ e ∷ now
parts all front rest shown entries e now split step is rest_is = sym rest_is ∙ sym is ∙ split ∙ ap (λ (l : List Entry). front ++ l) step

pub loop-key-preserved : goal.loop-key-preserved
loop-key-preserved c =
    let i = c.loop-key.invariant in
    let e : Entry = (c.in-Some.key.now, c.in-Some.place.now) in
    let whole = parts _ i.0 c.loop-key.key-iterator c.iter-key-items.result c.self.inside.places.entries e c.next.new.self i.1 c.in-Some.ensures.steps c.into_iter-key-iterator.ensures.into_iter_gives c.iter-key-items.ensures.rest in
    let distinct : IsDistinct (eq_by_cmp key_cmp) (keys_of (i.0 ++ e ∷ c.next.new.self)) = subst (λ (l : List Entry). IsDistinct (eq_by_cmp key_cmp) (keys_of l)) whole c.iter-key-items.ensures.unique in (
      i.0 ++ e ∷ [],
      one_further _ i.0 c.loop-key.key-iterator c.next.new.self e i.1 c.in-Some.ensures.steps,
      λ q. ap (λ (p : CoinPlaces). get p q) c.in_ok-set.ensures.ok
          ∙ get-insert outpoint_cmp_total c.loop-key.copy.places e.0.outpoint e.1 q
          ∙ ap (λ (o : Option CoinPlace). cond (eq_by_cmp outpoint_cmp q e.0.outpoint) (Some e.1) o) (i.2 q)
          ∙ one_copied i.0 e c.next.new.self (record { outpoint = q }) distinct,
      c.set.ensures.salt ∙ i.3,
    )

append_nil : (xs : List Entry) → xs ++ [] ≡ xs
append_nil [] = refl
append_nil (x ∷ xs) = ap (λ (l : List Entry). x ∷ l) (append_nil xs)

all_of : (all front rest shown entries : List Entry) → all ≡ front ++ rest → rest ≡ [] → all ≡ shown → shown ≡ entries → front ≡ entries
all_of all front rest shown entries parts none is rest_is = sym (append_nil front) ∙ ap (λ (l : List Entry). front ++ l) (sym none) ∙ sym parts ∙ is ∙ rest_is

pub returns-clause-places : goal.returns-clause-places
returns-clause-places c =
    let i = c.loop-key.invariant in
    let whole = all_of _ i.0 c.loop-key.key-iterator c.iter-key-items.result c.self.inside.places.entries i.1 c.in-None.ensures.steps.0 c.into_iter-key-iterator.ensures.into_iter_gives c.iter-key-items.ensures.rest in
    copied c.self.inside.places c.loop-key.copy.places c.args.self.now.places i.0 i.2 whole (ap (λ (x : OpenIndex). x.places) c.self.view_is)
