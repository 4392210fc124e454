-- Maps whose coins fit.
use Rattle.std.proofs.Common.{◌≡◌, List, [], ◌∷◌, T, Bool, true, false, cond, Option, Some, None, refl, sym, ap, subst, ◌∙◌}
use Rattle.std.specs.Prelude.{IfSome}
use Rattle.std.specs.Ordering.{eq_by_cmp}
use Rattle.std.specs.FinMap as finite
use Rattle.std.specs.FinMap.{FinMap, get, find, insert, remove, entries, entries_sorted, from_entries, is_sorted, get-empty, get-entries, get-from_entries, get-insert, get-remove}
use Rattle.std.specs.FinMap.Entries.{below_all}
use Rattle.std.specs.List.{AllByRecursion}
use Rattle.std.specs.BTreeMap as tree
use Rattle.std.specs.BTreeMap.{BTreeMap}
use Rattle.base_types.proofs.KeyOrders.{outpoint_cmp_total, outpoint_cmp-IsAntisymmetric}
use Rattle.base_types.specs.Keys.{outpoint_cmp}
use Rattle.base_types.specs.declared.hash.OutPoint.{OutPoint}
use Rattle.chain_model.specs.Changes.{Changes, ChangesFit}
use Rattle.chain_model.proofs.Changing.{absent, both_true, tied}
use Rattle.chain_model.proofs.Entries.{put_entry, taken_entry}
use Rattle.chain_model.proofs.Worth.{same_key}

module _ {X : Type 0} (P : X → Type 0) where
  at : (o p : Option X) → p ≡ o → IfSome o P → IfSome p P
  at o p e fits = let Q : Option X → Type 0 = λ x. IfSome x P in subst Q (sym e) fits

  pub none_there : (key : OutPoint) → IfSome (get (finite.empty {X = X} {R = outpoint_cmp}) key) P
  none_there key = at None (get (finite.empty {X = X} {R = outpoint_cmp}) key) (get-empty outpoint_cmp key) tt

  pub with_one : (map : FinMap outpoint_cmp X) (key : OutPoint) (x : X) → P x → ((q : OutPoint) → IfSome (get map q) P) → (q : OutPoint) → IfSome (get (insert map key x) q) P
  with_one map key x fits all q = at (cond (eq_by_cmp outpoint_cmp q key) (Some x) (get map q)) (get (insert map key x) q) (get-insert outpoint_cmp_total map key x q) (go (eq_by_cmp outpoint_cmp q key))
    where
      go : (b : Bool) → IfSome (cond b (Some x) (get map q)) P
      go true = fits
      go false = all q

  pub without_one : (map : FinMap outpoint_cmp X) (key : OutPoint) → ((q : OutPoint) → IfSome (get map q) P) → (q : OutPoint) → IfSome (get (remove map key) q) P
  without_one map key all q = at (cond (eq_by_cmp outpoint_cmp q key) None (get map q)) (get (remove map key) q) (get-remove outpoint_cmp_total map key q) (go (eq_by_cmp outpoint_cmp q key))
    where
      go : (b : Bool) → IfSome (cond b None (get map q)) P
      go true = tt
      go false = all q

  -- ---- maps of the program

  pub new_fits : (m : BTreeMap OutPoint X) → m.entries ≡ [] → (q : OutPoint) → IfSome (get (from_entries {R = outpoint_cmp} m.entries) q) P
  new_fits m e q = at None (get (from_entries {R = outpoint_cmp} m.entries) q) (get-from_entries outpoint_cmp_total m.entries q ∙ ap (λ (es : List (OutPoint × X)). find outpoint_cmp q es) e) tt

  pub put_fits : (m n : BTreeMap OutPoint X) (key : OutPoint) (x : X) → tree.Updates outpoint_cmp m n key (Some x) → P x → ((q : OutPoint) → IfSome (get (from_entries {R = outpoint_cmp} m.entries) q) P) → (q : OutPoint) → IfSome (get (from_entries {R = outpoint_cmp} n.entries) q) P
  put_fits m n key x updates fits all q =
      at (get (insert (from_entries m.entries) key x) q) (get (from_entries n.entries) q)
      (ap (λ (map : FinMap outpoint_cmp X). get map q) (put_entry outpoint_cmp outpoint_cmp_total outpoint_cmp-IsAntisymmetric m n key x updates))
      (with_one (from_entries m.entries) key x fits all q)

  pub take_fits : (m n : BTreeMap OutPoint X) (key : OutPoint) → tree.Updates outpoint_cmp m n key None → ((q : OutPoint) → IfSome (get (from_entries {R = outpoint_cmp} m.entries) q) P) → (q : OutPoint) → IfSome (get (from_entries {R = outpoint_cmp} n.entries) q) P
  take_fits m n key updates all q =
      at (get (remove (from_entries m.entries) key) q) (get (from_entries n.entries) q)
      (ap (λ (map : FinMap outpoint_cmp X). get map q) (taken_entry outpoint_cmp outpoint_cmp_total outpoint_cmp-IsAntisymmetric m n key updates))
      (without_one (from_entries m.entries) key all q)

  -- ---- entry by entry

  by_find : (es : List (OutPoint × X)) → T (is_sorted outpoint_cmp es) → ((q : OutPoint) → IfSome (find outpoint_cmp q es) P) → AllByRecursion (λ e. P e.1) es
  by_find [] rising all = tt
  by_find (e ∷ es) rising all =
      let parts = both_true (below_all outpoint_cmp e.0 es) (is_sorted outpoint_cmp es) rising in (
        at (find outpoint_cmp e.0 (e ∷ es)) (Some e.1) (sym (ap (λ (b : Bool). cond b (Some e.1) (find outpoint_cmp e.0 es)) (same_key e.0))) (all e.0),
        by_find es parts.1 (λ q. go q (eq_by_cmp outpoint_cmp q e.0) refl parts.0 (all q)),
      )
    where
      go : (q : OutPoint) (b : Bool) → eq_by_cmp outpoint_cmp q e.0 ≡ b → T (below_all outpoint_cmp e.0 es) → IfSome (cond b (Some e.1) (find outpoint_cmp q es)) P → IfSome (find outpoint_cmp q es) P
      go q true ties below here = at None (find outpoint_cmp q es) (ap (λ (k : OutPoint). find outpoint_cmp k es) (tied q e.0 ties) ∙ absent e.0 es below) tt
      go q false ties below here = here

  pub each_fits : (map : FinMap outpoint_cmp X) (es : List (OutPoint × X)) → es ≡ entries map → ((q : OutPoint) → IfSome (get map q) P) → AllByRecursion (λ e. P e.1) es
  each_fits map es e all =
      let Q : List (OutPoint × X) → Type 0 = λ xs. AllByRecursion (λ x. P x.1) xs in
      subst Q (sym e) (by_find (entries map) (entries_sorted map) (λ q. at (get map q) (find outpoint_cmp q (entries map)) (sym (get-entries map q)) (all q)))

-- the same of an equal map
pub changes_fit : (old new : Changes) → old ≡ new → ChangesFit old → ChangesFit new
changes_fit old new e fits = let P : Changes → Type 0 = λ changes. ChangesFit changes in subst P e fits
