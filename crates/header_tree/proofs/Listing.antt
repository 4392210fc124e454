-- The order lists each member once.
use Rattle.std.proofs.Common.{◌≡◌, ℕ, List, refl, sym, ap, subst, ◌∙◌}
use Rattle.std.specs.Prelude.{slice_get, is_some, IsTrue}
use Rattle.std.specs.declared.option.Option.{Option}
use Rattle.std.specs.declared.option.Option.TheVariants.{Some, None}
use Rattle.std.specs.FinMap.{get, contains_key}
use Rattle.std.proofs.lemmas.Option.{same_Some, slice_get_within}
use Rattle.base_types.specs.declared.hash.Hash32.{Hash32}
use Rattle.base_types.specs.declared.program.Rules.{Rules}
use Rattle.header_tree.specs.declared.entry.Entry.{Entry}
use Rattle.header_tree.specs.Kept.{Numbers, headers_of, order_of, state_of, IsKept}
use Rattle.header_tree.specs.State.{State, IsAcceptedInOrder, IsListing}
use Rattle.header_tree.proofs.Down.{any_entry}
use Rattle.header_tree.proofs.Members.{known, known_at, order_at, ordered}

module _ (entries : List Entry) (numbers : Numbers) (limit : ℕ) (rules : Rules) (kept : IsKept entries numbers limit rules) where
  entry_at : (n : ℕ) (hash : Hash32) → slice_get (order_of entries) n ≡ Some hash → (x : Entry) × (slice_get entries n ≡ Some x) × (x.hash ≡ hash)
  entry_at n hash at =
      let x = any_entry entries numbers limit rules kept n (slice_get_within (order_of entries) n hash at) in
      (x.0, x.1, same_Some x.0.hash hash (sym (order_at entries numbers limit rules kept n x.0 x.1) ∙ at))

  found : (hash : Hash32) (o : Option ℕ) → get numbers hash ≡ o → IsTrue (is_some o) → (n : ℕ) × (slice_get (order_of entries) n ≡ Some hash)
  found hash None e there = absurd cc
  found hash (Some n) e there = (n, ordered entries numbers limit rules kept hash n e)

  listing : IsListing (headers_of entries) (order_of entries)
  listing = record {
    first = ap (λ (order : List Hash32). slice_get order 0) kept.in_order.listed;
    all = λ hash there. found hash (get numbers hash) refl (known entries numbers limit rules kept hash ∙ there);
    only = λ n hash at.
        let x = entry_at n hash at in
        subst (λ (h : Hash32). IsTrue (contains_key (headers_of entries) h)) x.2 (sym (known_at entries numbers limit rules kept n x.0 x.1));
    once = λ n m hash at_n at_m.
        let x = entry_at n hash at_n in
        let y = entry_at m hash at_m in
        same_Some n m (sym (kept.placed n x.0 x.1).numbered ∙ ap (get numbers) (x.2 ∙ sym y.2) ∙ (kept.placed m y.0 y.1).numbered);
  }

  -- the same of what callers see
  pub sees_order : (s : State) → state_of entries limit rules ≡ s → IsAcceptedInOrder s
  sees_order s is = subst (λ (t : State). IsAcceptedInOrder t) is kept.in_order

  pub sees_listing : (s : State) → state_of entries limit rules ≡ s → IsListing s.tree.headers s.order
  sees_listing s is = subst (λ (t : State). IsListing t.tree.headers t.order) is listing
