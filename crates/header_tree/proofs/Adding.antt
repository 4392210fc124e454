-- One more header, by what callers see.
use Rattle.std.proofs.Common.{◌≡◌, ℕ, ◌+◌, ◌-◌, ◌<◌, ◌^◌, List, [], ◌∷◌, ◌++◌, length, sym, ap, subst, ◌∙◌, arith}
use Rattle.std.specs.Prelude.{slice_get}
use Rattle.std.specs.declared.option.Option.TheVariants.{Some, None}
use Rattle.std.specs.FinMap.{get, insert}
use Rattle.std.proofs.lemmas.Option.{slice_get_within, get_or_from_slice_get}
use Rattle.std.proofs.lemmas.List.{length-map}
use Rattle.base_types.specs.declared.hash.Hash32.{Hash32}
use Rattle.base_types.specs.declared.program.Rules.{Rules}
use Rattle.block_codec.specs.declared.block.Header.{Header}
use Rattle.block_codec.specs.Text.{hash_of_header}
use Rattle.block_codec.specs.Genesis.{genesis_hash}
use Rattle.chain_model.specs.Tree.{height, ancestor}
use Rattle.chain_model.specs.HeaderRules.{header_broken}
use Rattle.header_tree.specs.declared.entry.Entry.{Entry}
use Rattle.chain_model.specs.Above.{IsAbove}
use Rattle.header_tree.specs.Kept.{Numbers, headers_of, order_of, state_of, tree_of, IsKept, skip_height}
use Rattle.header_tree.specs.State.{State, hash_at}
use Rattle.chain_model.proofs.Chains.{height_is}
use Rattle.header_tree.proofs.Keeping.{low, next_kept}
use Rattle.chain_model.proofs.Trees.{acceptable}
use Rattle.header_tree.proofs.Down.{named, any_entry, hash_here, height_here, way_here}

-- a header that breaks no rule, and where its parent and its skip stand
pub record Adds (s : State) (header : Header) (hash : Hash32) (parent skip below number : ℕ) : Type 0 where
  pub its_hash : hash ≡ hash_of_header header
  pub fine : header_broken s.limit s.tree header ≡ None
  pub under : slice_get s.order parent ≡ Some header.prev
  pub tall : below ≡ height s.tree.headers (hash_at s parent)
  pub lower : skip_height (below + 1) < below + 1
  pub there : skip < length s.order
  pub way : Some (hash_at s skip) ≡ ancestor s.tree.headers (hash_at s parent) (skip_height (below + 1))
  pub last : number ≡ length s.order
  pub small : s.limit < 2 ^ 32

abbrev pub entry_of : Header → Hash32 → ℕ → ℕ → ℕ → Entry
entry_of header hash parent skip below = record { header = header; hash = hash; height = below + 1; parent = parent; skip = skip }

module _ (entries : List Entry) (numbers : Numbers) (limit : ℕ) (rules : Rules) (kept : IsKept entries numbers limit rules) (header : Header) (hash : Hash32) (parent skip below number : ℕ) where
  added : Adds (state_of entries limit rules) header hash parent skip below number → IsKept (entries ++ entry_of header hash parent skip below ∷ []) (insert numbers hash number) limit rules
  added adds =
      let fine = acceptable limit (tree_of entries rules) header adds.fine in
      let new = ap (get (headers_of entries)) adds.its_hash ∙ fine.fresh in
      let room = fine.room in
      let count = kept.count in
      let small = adds.small in
      let parent_less = slice_get_within (order_of entries) parent header.prev adds.under in
      let x = any_entry entries numbers limit rules kept parent parent_less in
      let t = any_entry entries numbers limit rules kept skip adds.there in
      let prev = get_or_from_slice_get (order_of entries) parent header.prev genesis_hash adds.under in
      let x_hash = hash_here entries numbers limit rules kept parent x.0 x.1 in
      let t_hash = hash_here entries numbers limit rules kept skip t.0 t.1 in
      let tall = adds.tall in
      let x_tall = height_here entries numbers limit rules kept parent x.0 x.1 in
      let t_tall = height_here entries numbers limit rules kept skip t.0 t.1 in
      let lower = adds.lower in
      let bound = low entries numbers limit rules kept parent x.0 x.1 in
      let ways = way_here entries numbers limit rules kept parent skip (skip_height (below + 1)) parent_less adds.there (omega arith) adds.way in
      let lands = height_is (headers_of entries) (skip_height (below + 1)) (named entries numbers limit rules kept skip) ways.1 (omega arith) in
      let steps = height (headers_of entries) (named entries numbers limit rules kept parent) - skip_height (below + 1) in
      let down = subst (λ (h : Hash32). IsAbove (headers_of entries) steps h t.0.hash) x_hash (subst (λ (h : Hash32). IsAbove (headers_of entries) steps (named entries numbers limit rules kept parent) h) t_hash ways.0) in
      let size = length-map entries (λ (e : Entry). e.hash) in
      let last : number ≡ length entries = adds.last ∙ size in
      subst (λ (n : ℕ). IsKept (entries ++ entry_of header hash parent skip below ∷ []) (insert numbers hash n) limit rules) (sym last)
      (next_kept entries numbers limit rules kept (entry_of header hash parent skip below) x.0 t.0 steps adds.its_hash adds.fine new x.1 (sym x_hash ∙ prev) (omega arith) t.1 down (omega arith) (sym t_tall ∙ lands) (omega arith))

  pub sees_added : (s : State) → state_of entries limit rules ≡ s → Adds s header hash parent skip below number → IsKept (entries ++ entry_of header hash parent skip below ∷ []) (insert numbers hash number) limit rules
  sees_added s is adds = added (subst (λ (t : State). Adds t header hash parent skip below number) (sym is) adds)
