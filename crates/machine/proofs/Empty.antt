-- An empty disk is settled, at genesis and without coins.
use Rattle.std.proofs.Common.{◌≡◌, ℕ, ◌+◌, true, List, [], ◌∷◌, Bool, cond, Option, Some, refl, ap, ◌∙◌, arith, nat_eq, is_some}
use Rattle.std.proofs.lemmas.Bool.Decides.{nat_tests}
use Rattle.std.specs.Prelude.{bytes_eq}
use Rattle.std.proofs.lemmas.List.Elements.{All-nil, All-cons}
use Rattle.std.specs.FinMap.{empty, len-insert, get-empty, len-empty}
use Rattle.std.specs.FinMap as finite
use Rattle.disk_model.specs.Disk.{Image}
use Rattle.base_types.specs.Keys.{hash_cmp}
use Rattle.base_types.proofs.KeyOrders.{hash_cmp_total}
use Rattle.block_codec.specs.declared.block.Header.{Header}
use Rattle.base_types.specs.declared.hash.Hash32.{Hash32}
use Rattle.base_types.specs.declared.program.Rules.{Rules}
use Rattle.block_codec.specs.Text.{same_hash}
use Rattle.block_codec.specs.Genesis.{genesis, genesis_hash}
use Rattle.chain_model.specs.Tree.{first_headers, chain, chain_within, and_below}
use Rattle.chain_model.specs.HeaderRules.{first_tree}
use Rattle.chain_model.specs.Choice.{coins_at, is_valid}
use Rattle.chain_model.specs.Apply.{replayed}
use Rattle.store_state.specs.Roles.{Alone}
use Rattle.store_state.specs.State.{StoreState, state_of, choice_of, chainstate_of, gated, each_of, each_passes, tree_after, last_reached, blocks_in}
use Rattle.store_state.specs.Settled.{Settled}

abbrev pub empty_store : Rules → StoreState
empty_store given = record { tree = first_tree given; bodies = []; active = chainstate_of genesis_hash empty []; role = Alone }

same_bytes : (xs : List ℕ) → bytes_eq xs xs ≡ true
same_bytes [] = refl
same_bytes (x ∷ xs) = let e : nat_eq x x ≡ true = grind (arith, nat_tests) in rw e (same_bytes xs)

same_self : (hash : Hash32) → same_hash hash hash ≡ true
same_self hash = same_bytes hash.bytes

pub at_empty : (limit : ℕ) (given : Rules) (c : Image) → ((file : ℕ) → c file ≡ []) → state_of limit given c ≡ Some (empty_store given)
unfolding gated each_of each_passes tree_after last_reached
at_empty limit given c none = rw (none 1, none 2, none 3) refl

one_header : finite.len first_headers ≡ 1
one_header =
    len-insert hash_cmp_total empty genesis_hash genesis
    ∙ ap (λ (o : Option Header). cond (is_some o) (finite.len (empty {X = Header} {R = hash_cmp})) (finite.len (empty {X = Header} {R = hash_cmp}) + 1)) (get-empty {X = Header} hash_cmp genesis_hash)
    ∙ ap (λ (n : ℕ). n + 1) (len-empty hash_cmp Header)

-- the chain of genesis is genesis alone
chain_of_genesis : chain first_headers genesis_hash ≡ genesis_hash ∷ []
unfolding chain_within
chain_of_genesis =
    ap (λ (n : ℕ). chain_within n first_headers genesis_hash) one_header
    ∙ ap (λ (b : Bool). cond b (genesis_hash ∷ []) (and_below genesis_hash (finite.get first_headers genesis_hash) (λ parent. chain_within 0 first_headers parent))) (same_self genesis_hash)

-- so there is nothing to replay
replay : (given : Rules) → coins_at (choice_of (empty_store given) (empty_store given).active) genesis_hash ≡ Some empty
unfolding blocks_in replayed
replay given = rw (chain_of_genesis, same_self genesis_hash) refl

pub empty_settled : (limit : ℕ) (given : Rules) (c : Image) → ((file : ℕ) → c file ≡ []) → Settled limit given c
empty_settled limit given c none = let Valid : Hash32 → Type 0 = λ tip. is_valid (choice_of (empty_store given) (empty_store given).active) tip ≡ true in record {
  state = empty_store given;
  stands_for = at_empty limit given c none;
  settled = record {
    bodies = All-nil _;
    distinct = λ i j d low high. absurd (omega arith);
    tips = All-cons Valid genesis_hash [] (ap is_some (replay given)) (All-nil Valid);
    rows = replay given;
  };
}
