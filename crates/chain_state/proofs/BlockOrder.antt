-- Waiting blocks in their order.
use Rattle.std.proofs.Common.{◌≡◌, ℕ, Bool, true, false, not, cond, ◌&&◌, ◌||◌, List, [], ◌∷◌, eqb, refl, sym, ap, ◌∙◌, arith}
use Rattle.std.specs.Prelude.{nat_eq}
use Rattle.std.specs.List.{list_any}
use Rattle.std.specs.declared.cmp.Ordering.{Ordering}
use Rattle.std.specs.declared.cmp.Ordering.TheVariants.{Less, Equal, Greater}
use Rattle.std.specs.Ordering.{is_eq, nat_cmp, ordering_then, on, then_cmp}
use Rattle.std.specs.Cmp.Lexicographic.{slice_cmp, pointwise}
use Rattle.std.specs.BTreeSet.{BTreeSet, contains}
use Rattle.std.proofs.lemmas.Bool.Decides.{nat_tests}
use Rattle.base_types.specs.Keys.{hash_cmp}
use Rattle.base_types.specs.declared.hash.Hash32.{Hash32}
use Rattle.block_codec.specs.Text.{same_hash}
use Rattle.chain_state.specs.declared.waiting.WaitingBlock.{WaitingBlock}

abbrev pub block_cmp : WaitingBlock → WaitingBlock → Ordering
block_cmp = then_cmp (on (λ b. b.parent) hash_cmp) (on (λ b. b.hash) hash_cmp)

abbrev pub waiting_block : Hash32 → Hash32 → WaitingBlock
waiting_block parent hash = record { parent = parent; hash = hash }

-- ---- ties

numbers : (a b : ℕ) → is_eq (nat_cmp a b) ≡ eqb b a
numbers a b = grind (arith, nat_tests)

both : (r s : Ordering) → is_eq (ordering_then r s) ≡ (is_eq r && is_eq s)
both Less s = refl
both Equal s = refl
both Greater s = refl

texts : (xs ys : List ℕ) → is_eq (slice_cmp nat_cmp xs ys) ≡ pointwise nat_eq ys xs
texts [] [] = refl
texts [] (y ∷ ys) = refl
texts (x ∷ xs) [] = refl
texts (x ∷ xs) (y ∷ ys) =
    both (nat_cmp x y) (slice_cmp nat_cmp xs ys)
    ∙ ap (λ (b : Bool). b && is_eq (slice_cmp nat_cmp xs ys)) (numbers x y)
    ∙ ap (λ (b : Bool). eqb y x && b) (texts xs ys)

-- two blocks tie in their order exactly where they are the same
tied : (a b : WaitingBlock) → is_eq (block_cmp a b) ≡ (same_hash b.parent a.parent && same_hash b.hash a.hash)
tied a b =
    both (hash_cmp a.parent b.parent) (hash_cmp a.hash b.hash)
    ∙ ap (λ (t : Bool). t && is_eq (hash_cmp a.hash b.hash)) (texts a.parent.bytes b.parent.bytes)
    ∙ ap (λ (t : Bool). same_hash b.parent a.parent && t) (texts a.hash.bytes b.hash.bytes)

-- the test of a set, by the parts of its blocks
among : List WaitingBlock → Hash32 → Hash32 → Bool
among blocks parent hash = list_any (λ block. same_hash block.parent parent && same_hash block.hash hash) blocks

pub stands_among : (blocks : List WaitingBlock) (parent hash : Hash32) → list_any (λ block. is_eq (block_cmp (waiting_block parent hash) block)) blocks ≡ list_any (λ block. same_hash block.parent parent && same_hash block.hash hash) blocks
stands_among [] parent hash = refl
stands_among (block ∷ blocks) parent hash =
    ap (λ (b : Bool). b || list_any (λ block. is_eq (block_cmp (waiting_block parent hash) block)) blocks) (tied (waiting_block parent hash) block)
    ∙ ap (λ (b : Bool). (same_hash block.parent parent && same_hash block.hash hash) || b) (stands_among blocks parent hash)

-- the set and `waits` agree
abbrev pub has : BTreeSet WaitingBlock → Hash32 → Hash32 → Bool
has blocks parent hash = list_any (λ block. same_hash block.parent parent && same_hash block.hash hash) blocks.keys

added : (known new : Bool) → cond new true known ≡ (known || new)
added true true = refl
added true false = refl
added false true = refl
added false false = refl

taken : (known gone : Bool) → cond gone false known ≡ (known && not gone)
taken true true = refl
taken true false = refl
taken false true = refl
taken false false = refl

module _ (old new : BTreeSet WaitingBlock) (block : WaitingBlock) where
  pub adds_block : ((q : WaitingBlock) → contains block_cmp new q ≡ cond (is_eq (block_cmp block q)) true (contains block_cmp old q)) → (p h : Hash32)
      → has new p h ≡ (has old p h || (same_hash p block.parent && same_hash h block.hash))
  adds_block updates p h =
      sym (stands_among new.keys p h)
      ∙ updates (waiting_block p h)
      ∙ ap (λ (b : Bool). cond b true (contains block_cmp old (waiting_block p h))) (tied block (waiting_block p h))
      ∙ ap (λ (b : Bool). cond (same_hash p block.parent && same_hash h block.hash) true b) (stands_among old.keys p h)
      ∙ added (has old p h) (same_hash p block.parent && same_hash h block.hash)

  pub takes_block : ((q : WaitingBlock) → contains block_cmp new q ≡ cond (is_eq (block_cmp block q)) false (contains block_cmp old q)) → (p h : Hash32)
      → has new p h ≡ (has old p h && not (same_hash p block.parent && same_hash h block.hash))
  takes_block updates p h =
      sym (stands_among new.keys p h)
      ∙ updates (waiting_block p h)
      ∙ ap (λ (b : Bool). cond b false (contains block_cmp old (waiting_block p h))) (tied block (waiting_block p h))
      ∙ ap (λ (b : Bool). cond (same_hash p block.parent && same_hash h block.hash) false b) (stands_among old.keys p h)
      ∙ taken (has old p h) (same_hash p block.parent && same_hash h block.hash)
