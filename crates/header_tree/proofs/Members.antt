-- What is answered of one hash.
use Rattle.std.proofs.Common.{◌≡◌, ℕ, true, get_or, cond, List, refl, sym, ap, subst, ◌∙◌}
use Rattle.std.specs.Prelude.{slice_get, is_some}
use Rattle.std.specs.declared.option.Option.{Option}
use Rattle.std.specs.declared.option.Option.TheVariants.{Some, None}
use Rattle.std.specs.FinMap.{get, contains_key}
use Rattle.std.specs.Option.{option_map, IfSome}
use Rattle.std.proofs.lemmas.Option.{slice_get-map}
use Rattle.base_types.specs.declared.hash.Hash32.{Hash32}
use Rattle.base_types.specs.declared.program.Rules.{Rules}
use Rattle.block_codec.specs.declared.block.Header.{Header}
use Rattle.chain_model.specs.Tree.{Headers, of_member, height}
use Rattle.header_tree.specs.declared.entry.Entry.{Entry}
use Rattle.header_tree.specs.Kept.{Numbers, headers_of, order_of, state_of, IsKept}
use Rattle.header_tree.specs.State.{State}
use Rattle.chain_model.proofs.Chains.{height_is}
use Rattle.header_tree.proofs.Keeping.{at_number, not_numbered, read_of, low}

pub of_some : {A : Type 0} (headers : Headers) (hash : Hash32) (x : Header) (a : A) → get headers hash ≡ Some x → Some a ≡ of_member headers hash a
of_some headers hash x a found = sym (ap (λ (o : Option Header). cond (is_some o) (Some a) None) found)

module _ (entries : List Entry) (numbers : Numbers) (limit : ℕ) (rules : Rules) (kept : IsKept entries numbers limit rules) where
  known_by : (hash : Hash32) (o : Option ℕ) → get numbers hash ≡ o → is_some o ≡ contains_key (headers_of entries) hash
  known_by hash None e = sym (ap (λ (x : Option Header). is_some x) (not_numbered entries numbers limit rules kept hash e))
  known_by hash (Some n) e =
      let there = at_number entries numbers limit rules kept hash n e in
      let placed = kept.placed n there.0 there.1 in
      sym (ap (λ (x : Option Header). is_some x) (ap (get (headers_of entries)) (sym there.2) ∙ placed.found))

  pub known : (hash : Hash32) → is_some (get numbers hash) ≡ contains_key (headers_of entries) hash
  known hash = known_by hash (get numbers hash) refl

  -- each entry's hash stands at its number, and is known
  pub order_at : (n : ℕ) (x : Entry) → slice_get entries n ≡ Some x → slice_get (order_of entries) n ≡ Some x.hash
  order_at n x at = slice_get-map (λ (e : Entry). e.hash) entries n ∙ ap (λ (o : Option Entry). option_map (λ (e : Entry). e.hash) o) at

  pub known_at : (n : ℕ) (x : Entry) → slice_get entries n ≡ Some x → true ≡ contains_key (headers_of entries) x.hash
  known_at n x at = sym (ap (λ (o : Option Header). is_some o) (kept.placed n x at).found)

  pub ordered : (hash : Hash32) (n : ℕ) → get numbers hash ≡ Some n → slice_get (order_of entries) n ≡ Some hash
  ordered hash n e =
      let there = at_number entries numbers limit rules kept hash n e in
      order_at n there.0 there.1 ∙ ap (λ (h : Hash32). Some h) there.2

  pub member_header : (hash : Hash32) (n : ℕ) (x : Entry) → get numbers hash ≡ Some n → x ≡ get_or entries n x → Some x.header ≡ get (headers_of entries) hash
  member_header hash n x e read =
      let at = read_of entries numbers limit rules kept hash n x e read in
      sym at.1.found ∙ ap (get (headers_of entries)) at.0

  pub member_height : (hash : Hash32) (n : ℕ) (x : Entry) → get numbers hash ≡ Some n → x ≡ get_or entries n x → Some x.height ≡ of_member (headers_of entries) hash (height (headers_of entries) hash)
  member_height hash n x e read =
      let at = read_of entries numbers limit rules kept hash n x e read in
      let less = low entries numbers limit rules kept n x at.2 in
      let is = height_is (headers_of entries) x.height x.hash at.1.high less in
      ap (λ (n : ℕ). Some n) (sym is ∙ ap (height (headers_of entries)) at.0) ∙ of_some (headers_of entries) hash x.header (height (headers_of entries) hash) (sym (member_header hash n x e read))

  -- the same of what callers see
  pub sees_ordered : (s : State) → state_of entries limit rules ≡ s → (hash : Hash32) (o : Option ℕ) → o ≡ get numbers hash → IfSome o (λ n. slice_get s.order n ≡ Some hash)
  sees_ordered s is hash None e = tt
  sees_ordered s is hash (Some n) e = subst (λ (t : State). slice_get t.order n ≡ Some hash) is (ordered hash n (sym e))
