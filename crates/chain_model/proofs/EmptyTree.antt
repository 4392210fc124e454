-- A tree without headers.
use Rattle.std.proofs.Common.{◌≡◌, ℕ, [], cond, Option, Some, None, refl, sym, ap, ◌∙◌}
use Rattle.std.specs.Prelude.{slice_get, reverse, is_some}
use Rattle.std.specs.FinMap as finite
use Rattle.std.specs.FinMap.{get-empty, len-empty}
use Rattle.base_types.specs.Keys.{hash_cmp}
use Rattle.base_types.specs.declared.hash.Hash32.{Hash32}
use Rattle.block_codec.specs.declared.block.Header.{Header}
use Rattle.chain_model.specs.Tree.{chain_within, ancestor, of_member}

nothing_at : (at : ℕ) → None ≡ slice_get {X = Hash32} (reverse []) at
nothing_at at = refl

pub no_header : (hash : Hash32) → None ≡ finite.get (finite.empty {X = Header} {R = hash_cmp}) hash
no_header hash = sym (get-empty hash_cmp hash)

pub no_member : (hash : Hash32) (n : ℕ) → None ≡ of_member finite.empty hash n
no_member hash n = ap (λ (o : Option Header). cond (is_some o) (Some n) None) (no_header hash)

pub no_ancestor : (hash : Hash32) (at : ℕ) → None ≡ ancestor finite.empty hash at
unfolding chain_within
no_ancestor hash at = nothing_at at ∙ ap (λ (n : ℕ). slice_get (reverse (chain_within n finite.empty hash)) at) (sym (len-empty hash_cmp Header))
