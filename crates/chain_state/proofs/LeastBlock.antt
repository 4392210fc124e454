-- The waiting blocks above a parent, from the first one on.
use Rattle.std.proofs.Common.{◌≡◌, ℕ, zero, suc, Bool, true, false, cond, ◌&&◌, ◌||◌, List, [], ◌∷◌, length, refl, sym, ap, subst, ◌∙◌, arith}
use Rattle.std.specs.Prelude.{replicate, slice_get, IfSome, OnOk, OnErr, Result, Ok, Err}
use Rattle.std.specs.List.{All, AllByRecursion, list_any}
use Rattle.std.specs.declared.cmp.Ordering.{Ordering}
use Rattle.std.specs.declared.cmp.Ordering.TheVariants.{Less, Equal, Greater}
use Rattle.std.specs.declared.ops.Bound.TheVariants.{Included, Unbounded}
use Rattle.std.specs.Ordering.{is_gt, is_lt, nat_cmp, match_ordering, ordering_then, ordering_reverse}
use Rattle.std.specs.Cmp.Lexicographic.{slice_cmp}
use Rattle.std.specs.BTreeSet.{BTreeSet, contains, insert_key, IsKeyRangeOf, IsKeyInRange}
use Rattle.std.specs.Set.{remove_key}
use Rattle.std.proofs.lemmas.Bool.Decides.{nat_tests}
use Rattle.base_types.specs.Keys.{hash_cmp}
use Rattle.base_types.proofs.KeyOrders.{hash_cmp_total, hash_cmp-IsAntisymmetric, hash_ties}
use Rattle.base_types.specs.declared.hash.Hash32.{Hash32}
use Rattle.block_codec.specs.Text.{same_hash}
use Rattle.chain_model.proofs.Hashes.{same_self, same_true}
use Rattle.chain_state.specs.declared.waiting.WaitingBlock.{WaitingBlock}
use Rattle.chain_state.proofs.BlockOrder.{block_cmp, waiting_block, has, stands_among}

-- ---- hashes of 32 bytes

abbrev pub IsWhole : WaitingBlock → Type 0
IsWhole block = length block.hash.bytes ≡ 32

all_by_recursion : (xs : List WaitingBlock) → All IsWhole xs → AllByRecursion IsWhole xs
all_by_recursion [] all = tt
all_by_recursion (x ∷ xs) all = (all 0 x (omega arith), all_by_recursion xs (λ k d less. all (suc k) d (omega arith)))

all_by_place : (xs : List WaitingBlock) → AllByRecursion IsWhole xs → All IsWhole xs
all_by_place [] all k d less = absurd (omega arith)
all_by_place (x ∷ xs) all zero d less = all.0
all_by_place (x ∷ xs) all (suc k) d less = all_by_place xs all.1 k d (omega arith)

insert_step : (key x : WaitingBlock) (xs more : List WaitingBlock) → IsWhole key → AllByRecursion IsWhole (x ∷ xs) → AllByRecursion IsWhole more → (o : Ordering) → AllByRecursion IsWhole (match_ordering o (key ∷ x ∷ xs) (x ∷ xs) (x ∷ more))
insert_step key x xs more one all rest Less = (one, all)
insert_step key x xs more one all rest Equal = all
insert_step key x xs more one all rest Greater = (all.0, rest)

insert_whole : (key : WaitingBlock) (keys : List WaitingBlock) → IsWhole key → AllByRecursion IsWhole keys → AllByRecursion IsWhole (insert_key block_cmp keys key)
insert_whole key [] one all = (one, tt)
insert_whole key (x ∷ xs) one all = insert_step key x xs (insert_key block_cmp xs key) one all (insert_whole key xs one all.1) (block_cmp key x)

remove_step : (x : WaitingBlock) (xs more : List WaitingBlock) → AllByRecursion IsWhole (x ∷ xs) → AllByRecursion IsWhole more → (b : Bool) → AllByRecursion IsWhole (cond b xs (x ∷ more))
remove_step x xs more all rest true = all.1
remove_step x xs more all rest false = (all.0, rest)

remove_whole : (test : WaitingBlock → Bool) (keys : List WaitingBlock) → AllByRecursion IsWhole keys → AllByRecursion IsWhole (remove_key test keys)
remove_whole test [] all = tt
remove_whole test (x ∷ xs) all = remove_step x xs (remove_key test xs) all (remove_whole test xs all.1) (test x)

pub inserted_whole : (key : WaitingBlock) (keys : List WaitingBlock) → IsWhole key → All IsWhole keys → All IsWhole (insert_key block_cmp keys key)
inserted_whole key keys one all = all_by_place (insert_key block_cmp keys key) (insert_whole key keys one (all_by_recursion keys all))

pub removed_whole : (test : WaitingBlock → Bool) (keys : List WaitingBlock) → All IsWhole keys → All IsWhole (remove_key test keys)
removed_whole test keys all = all_by_place (remove_key test keys) (remove_whole test keys (all_by_recursion keys all))

long_step : (parent hash : Hash32) (block : WaitingBlock) (rest : Bool) → IsWhole block → (rest ≡ true → length hash.bytes ≡ 32) → (p h : Bool) → same_hash block.hash hash ≡ h → ((p && h) || rest) ≡ true → length hash.bytes ≡ 32
long_step parent hash block rest one more true true is e = ap (λ (h : Hash32). length h.bytes) (sym (same_true block.hash hash is)) ∙ one
long_step parent hash block rest one more true false is e = more e
long_step parent hash block rest one more false h is e = more e

long_among : (keys : List WaitingBlock) → AllByRecursion IsWhole keys → (parent hash : Hash32) → list_any (λ block. same_hash block.parent parent && same_hash block.hash hash) keys ≡ true → length hash.bytes ≡ 32
long_among [] all parent hash e = absurd cc
long_among (block ∷ keys) all parent hash e =
    long_step parent hash block (list_any (λ block. same_hash block.parent parent && same_hash block.hash hash) keys) all.0 (λ e. long_among keys all.1 parent hash e)
    (same_hash block.parent parent) (same_hash block.hash hash) refl e

-- ---- orders

zeros_step : (rest : Ordering) → is_gt rest ≡ false → (o : Ordering) → is_gt o ≡ false → is_gt (ordering_then o rest) ≡ false
zeros_step rest no_more Less e = refl
zeros_step rest no_more Equal e = no_more
zeros_step rest no_more Greater e = e

zero_first : (x : ℕ) → is_gt (nat_cmp 0 x) ≡ false
zero_first x = grind (arith, nat_tests)

zeros_first : (n : ℕ) (xs : List ℕ) → length xs ≡ n → is_gt (slice_cmp nat_cmp (replicate n 0) xs) ≡ false
zeros_first zero [] e = refl
zeros_first zero (x ∷ xs) e = refl
zeros_first (suc n) [] e = absurd (omega arith)
zeros_first (suc n) (x ∷ xs) e = zeros_step (slice_cmp nat_cmp (replicate n 0) xs) (zeros_first n xs (omega arith)) (nat_cmp 0 x) (zero_first x)

turned : (a b : Hash32) → is_gt (hash_cmp a b) ≡ false → is_lt (hash_cmp b a) ≡ false
turned a b e = go (hash_cmp a b) e (hash_cmp_total.antisymm b a) where
  go : (o : Ordering) → is_gt o ≡ false → hash_cmp b a ≡ ordering_reverse o → is_lt (hash_cmp b a) ≡ false
  go Less e f = ap is_lt f
  go Equal e f = ap is_lt f
  go Greater e f = absurd cc

same_parent : (parent : Hash32) (rest : Ordering) → is_gt (ordering_then (hash_cmp parent parent) rest) ≡ is_gt rest
same_parent parent rest = ap (λ (o : Ordering). is_gt (ordering_then o rest)) (hash_ties parent)

-- a hash between a hash and itself is that hash
between : (a b : Hash32) (r s : Ordering) → is_gt (ordering_then (hash_cmp a b) r) ≡ false → is_gt (ordering_then (hash_cmp b a) s) ≡ false → b ≡ a
between a b r s low high = go (hash_cmp b a) refl (hash_cmp_total.antisymm a b) low high where
  go : (o : Ordering) → hash_cmp b a ≡ o → hash_cmp a b ≡ ordering_reverse o → is_gt (ordering_then (hash_cmp a b) r) ≡ false → is_gt (ordering_then o s) ≡ false → b ≡ a
  go Less e f low high = absurd (let more : is_gt (ordering_then (hash_cmp a b) r) ≡ true = ap (λ (o : Ordering). is_gt (ordering_then o r)) f in cc)
  go Equal e f low high = hash_cmp-IsAntisymmetric b a e
  go Greater e f low high = absurd cc

-- ---- what the range from the first possible block on has

abbrev pub first_above : Hash32 → WaitingBlock
first_above parent = waiting_block parent (record { bytes = replicate 32 0 })

module _ (set : BTreeSet WaitingBlock) (whole : All IsWhole set.keys) (parent : Hash32) (range : List WaitingBlock) (is : IsKeyRangeOf block_cmp (Included (first_above parent)) Unbounded set range) where
  starts : (hash : Hash32) → has set parent hash ≡ true → is_gt (block_cmp (first_above parent) (waiting_block parent hash)) ≡ false
  starts hash e = same_parent parent (hash_cmp (first_above parent).hash hash) ∙ zeros_first 32 hash.bytes (long_among set.keys (all_by_recursion set.keys whole) parent hash e)

  contained : (hash : Hash32) → has set parent hash ≡ true → contains block_cmp set (waiting_block parent hash) ≡ true
  contained hash e = stands_among set.keys parent hash ∙ e

  pub none_left : range ≡ [] → (hash : Hash32) → has set parent hash ≡ false
  none_left none hash = go (has set parent hash) refl where
    go : (b : Bool) → has set parent hash ≡ b → has set parent hash ≡ false
    go true e = let no = is.5 none (waiting_block parent hash) (starts hash e, tt) in let yes = contained hash e in absurd cc
    go false e = e

  module _ (block : WaitingBlock) (rest : List WaitingBlock) (begins : range ≡ block ∷ rest) where
    in_range : IsKeyInRange block_cmp (Included (first_above parent)) Unbounded set block
    in_range = subst (λ (r : List WaitingBlock). IfSome (slice_get r 0) (IsKeyInRange block_cmp (Included (first_above parent)) Unbounded set)) begins is.1

    before : (hash : Hash32) → has set parent hash ≡ true → is_gt (block_cmp block (waiting_block parent hash)) ≡ false
    before hash e = subst (λ (r : List WaitingBlock). IfSome (slice_get r 0) (λ k. is_gt (block_cmp k (waiting_block parent hash)) ≡ false)) begins (is.2 (waiting_block parent hash) (starts hash e, tt) (contained hash e))

    pub none_above : same_hash block.parent parent ≡ false → (hash : Hash32) → has set parent hash ≡ false
    none_above other hash = go (has set parent hash) refl where
      go : (b : Bool) → has set parent hash ≡ b → has set parent hash ≡ false
      go true e =
          let same = between parent block.parent (hash_cmp (first_above parent).hash block.hash) (hash_cmp block.hash hash) in_range.0.0 (before hash e) in
          let self = ap (λ (h : Hash32). same_hash h parent) same ∙ same_self parent in
          absurd cc
      go false e = e

    pub is_waiting : same_hash block.parent parent ≡ true → has set parent block.hash ≡ true
    is_waiting same =
        ap (λ (h : Hash32). has set h block.hash) (sym (same_true block.parent parent same))
        ∙ sym (stands_among set.keys block.parent block.hash)
        ∙ in_range.1

    pub is_least : same_hash block.parent parent ≡ true → (hash : Hash32) → has set parent hash ≡ true → is_lt (hash_cmp hash block.hash) ≡ false
    is_least same hash e =
        turned block.hash hash
        (sym (ap (λ (h : Hash32). is_gt (ordering_then (hash_cmp h parent) (hash_cmp block.hash hash))) (same_true block.parent parent same) ∙ same_parent parent (hash_cmp block.hash hash))
        ∙ before hash e)

-- after an insertion, whether it was made or not
pub still_whole : {T E : Type 0} (result : Result T E) (key : WaitingBlock) (old new : List WaitingBlock) → OnOk result (new ≡ insert_key block_cmp old key) → OnErr result (new ≡ old) → IsWhole key → All IsWhole old → All IsWhole new
still_whole (Ok value) key old new made kept one all = subst (All IsWhole) (sym made) (inserted_whole key old one all)
still_whole (Err fault) key old new made kept one all = subst (All IsWhole) (sym kept) all

pub less_whole : (test : WaitingBlock → Bool) (old new : List WaitingBlock) → new ≡ remove_key test old → All IsWhole old → All IsWhole new
less_whole test old new is all = subst (All IsWhole) (sym is) (removed_whole test old all)
