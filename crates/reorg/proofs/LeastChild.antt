-- Of the children of a tip, the first one among the tree's entries has the smallest hash.
use Rattle.std.proofs.Common.{◌≡◌, List, [], ◌∷◌, Option, Some, None, Bool, true, false, cond, T, refl, sym, ap, ◌∙◌}
use Rattle.std.specs.Prelude.{◌&&◌}
use Rattle.std.specs.List.{find}
use Rattle.std.specs.Ordering.{eq_by_cmp, is_eq, is_lt}
use Rattle.std.specs.declared.cmp.Ordering.{Ordering}
use Rattle.std.specs.declared.cmp.Ordering.TheVariants.{Less, Equal, Greater}
use Rattle.std.specs.FinMap as finite
use Rattle.std.specs.FinMap.{is_sorted}
use Rattle.std.specs.FinMap.Entries.{below_all}
use Rattle.std.proofs.lemmas.Option.{same_Some, none-some}
use Rattle.base_types.specs.Keys.{hash_cmp}
use Rattle.base_types.proofs.KeyOrders.{hash_cmp-IsAntisymmetric, hash_ties}
use Rattle.base_types.specs.declared.hash.Hash32.{Hash32}
use Rattle.block_codec.specs.declared.block.Header.{Header}
use Rattle.chain_model.proofs.Changing.{both_true}

abbrev Entry : Type 0
Entry = Hash32 × Header

holds : (b : Bool) → T b → b ≡ true
holds true t = refl
holds false t = absurd t

tied : (a b : Hash32) → eq_by_cmp hash_cmp a b ≡ true → a ≡ b
tied a b e = hash_cmp-IsAntisymmetric a b (equal (hash_cmp a b) e)
  where
    equal : (r : Ordering) → is_eq r ≡ true → r ≡ Equal
    equal Less e = absurd cc
    equal Equal e = refl
    equal Greater e = absurd cc

-- what is found among entries above a key is above it
found_above : (key hash : Hash32) (header : Header) (es : List Entry) → T (below_all hash_cmp key es) → finite.find hash_cmp hash es ≡ Some header → is_lt (hash_cmp key hash) ≡ true
found_above key hash header [] below found = absurd (none-some header found)
found_above key hash header (e ∷ es) below found = go (λ rest. found_above key hash header es rest) (eq_by_cmp hash_cmp hash e.0) refl found (both_true (is_lt (hash_cmp key e.0)) (below_all hash_cmp key es) below)
  where
    go : (T (below_all hash_cmp key es) → finite.find hash_cmp hash es ≡ Some header → is_lt (hash_cmp key hash) ≡ true) → (b : Bool) → eq_by_cmp hash_cmp hash e.0 ≡ b → cond b (Some e.1) (finite.find hash_cmp hash es) ≡ Some header
        → T (is_lt (hash_cmp key e.0)) × T (below_all hash_cmp key es) → is_lt (hash_cmp key hash) ≡ true
    go later true is found parts = ap (λ (h : Hash32). is_lt (hash_cmp key h)) (tied hash e.0 is) ∙ holds (is_lt (hash_cmp key e.0)) parts.0
    go later false is found parts = later parts.1 found

-- nor is it that key
found_behind : (e : Entry) (es : List Entry) → T (below_all hash_cmp e.0 es) → (hash : Hash32) (header : Header) → finite.find hash_cmp hash es ≡ Some header → finite.find hash_cmp hash (e ∷ es) ≡ Some header
found_behind e es below hash header found = go (eq_by_cmp hash_cmp hash e.0) refl
  where
    go : (b : Bool) → eq_by_cmp hash_cmp hash e.0 ≡ b → finite.find hash_cmp hash (e ∷ es) ≡ Some header
    go true is =
        let above = found_above e.0 hash header es below found in
        let itself : is_lt (hash_cmp e.0 hash) ≡ false = ap (λ (h : Hash32). is_lt (hash_cmp e.0 h)) (tied hash e.0 is) ∙ ap is_lt (hash_ties e.0) in
        absurd cc
    go false is = ap (λ (b : Bool). cond b (Some e.1) (finite.find hash_cmp hash es)) is ∙ found

found_first : (e : Entry) (es : List Entry) → finite.find hash_cmp e.0 (e ∷ es) ≡ Some e.1
found_first e es = ap (λ (b : Bool). cond b (Some e.1) (finite.find hash_cmp e.0 es)) (ap is_eq (hash_ties e.0))

module _ (test : Entry → Bool) where
  -- an entry that passes, below which none passes, is the first that does
  pub least_found : (hash : Hash32) (header : Header) → test (hash, header) ≡ true → (es : List Entry) → T (is_sorted hash_cmp es) → finite.find hash_cmp hash es ≡ Some header
      → ((k : Hash32) (v : Header) → finite.find hash_cmp k es ≡ Some v → test (k, v) ≡ true → is_lt (hash_cmp k hash) ≡ false) → find test es ≡ Some (hash, header)
  least_found hash header passes [] rising found least = absurd (none-some header found)
  least_found hash header passes (e ∷ es) rising found least =
      let parts = both_true (below_all hash_cmp e.0 es) (is_sorted hash_cmp es) rising in
      go parts.0 (λ f l. least_found hash header passes es parts.1 f l) (test e) refl (eq_by_cmp hash_cmp hash e.0) refl found
    where
      go : T (below_all hash_cmp e.0 es)
          → (finite.find hash_cmp hash es ≡ Some header → ((k : Hash32) (v : Header) → finite.find hash_cmp k es ≡ Some v → test (k, v) ≡ true → is_lt (hash_cmp k hash) ≡ false) → find test es ≡ Some (hash, header))
          → (p : Bool) → test e ≡ p → (t : Bool) → eq_by_cmp hash_cmp hash e.0 ≡ t → cond t (Some e.1) (finite.find hash_cmp hash es) ≡ Some header → cond p (Some e) (find test es) ≡ Some (hash, header)
      go below rest true is true same found = λ i. Some (sym (tied hash e.0 same) i, same_Some e.1 header found i)
      go below rest true is false apart found =
          let less = found_above e.0 hash header es below found in
          let not_less = least e.0 e.1 (found_first e es) is in
          absurd cc
      go below rest false is true same found =
          let fails : test (hash, header) ≡ false = (λ i. test (tied hash e.0 same i, sym (same_Some e.1 header found) i)) ∙ is in
          absurd cc
      go below rest false is false apart found = rest found (λ k v there ok. least k v (found_behind e es below k v there) ok)

  -- where no entry passes, none is found
  pub none_found : (es : List Entry) → T (is_sorted hash_cmp es) → ((k : Hash32) (v : Header) → finite.find hash_cmp k es ≡ Some v → test (k, v) ≡ false) → find test es ≡ None
  none_found [] rising fail = refl
  none_found (e ∷ es) rising fail =
      let parts = both_true (below_all hash_cmp e.0 es) (is_sorted hash_cmp es) rising in
      ap (λ (b : Bool). cond b (Some e) (find test es)) (fail e.0 e.1 (found_first e es))
      ∙ none_found es parts.1 (λ k v there. fail k v (found_behind e es parts.0 k v there))
