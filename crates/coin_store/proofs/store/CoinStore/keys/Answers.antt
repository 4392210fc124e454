use Rattle.std.specs.Prelude.{List}
use Rattle.std.proofs.Common.{◌∙◌, sym, subst}
use Rattle.std.proofs.lemmas.List.Sorted.{list_any-IsPermutation}
use Rattle.std.proofs.lemmas.Map.Keys.{IsDistinct-IsPermutation}
use Rattle.std.specs.Cmp.{eq_by_cmp_equiv}
use Rattle.std.specs.List.Sorted.{IsPermutation}
use Rattle.std.specs.Ordering.{eq_by_cmp}
use Rattle.base_types.specs.Keys.{outpoint_cmp}
use Rattle.base_types.proofs.KeyOrders.{outpoint_cmp_total}
use Rattle.base_types.specs.declared.hash.OutPoint.{OutPoint}
use Rattle.coin_store.proofs.HeldCoins.{coins_known}
use Rattle.coin_store.proofs.store.CoinStore.keys.Goals as goal

pub returns-clause-found : goal.returns-clause-found
returns-clause-found c = λ q.
    let moved = subst (λ (l : List OutPoint). IsPermutation l c.in_ok-sorted.sorted) c.deref.ensures.value c.in_ok-sorted.ensures.same in
    sym (list_any-IsPermutation (eq_by_cmp outpoint_cmp q) c.in_ok-keys.keys.items c.in_ok-sorted.sorted moved) ∙ c.in_ok-keys.ensures.found q

pub returns-clause-held : goal.returns-clause-held
returns-clause-held c = λ base batches knows q.
    let moved = subst (λ (l : List OutPoint). IsPermutation l c.in_ok-sorted.sorted) c.deref.ensures.value c.in_ok-sorted.ensures.same in
    sym (list_any-IsPermutation (eq_by_cmp outpoint_cmp q) c.in_ok-keys.keys.items c.in_ok-sorted.sorted moved) ∙ c.in_ok-keys.ensures.found q ∙ coins_known c.args.self.now base batches knows q

pub returns-clause-once : goal.returns-clause-once
returns-clause-once c =
    let moved = subst (λ (l : List OutPoint). IsPermutation l c.in_ok-sorted.sorted) c.deref.ensures.value c.in_ok-sorted.ensures.same in
    IsDistinct-IsPermutation (eq_by_cmp outpoint_cmp) (eq_by_cmp_equiv outpoint_cmp_total).symm c.in_ok-keys.keys.items c.in_ok-sorted.sorted moved c.in_ok-keys.ensures.once
