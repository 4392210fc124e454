-- The chain of a block, by the blocks above others.
use Rattle.std.proofs.Common.{◌≡◌, ℕ, zero, suc, ◌+◌, ◌-◌, ◌<◌, ◌≤◌, Bool, cond, List, [], ◌∷◌, ◌++◌, length, reverse, refl, sym, ap, subst, ◌∙◌, le_refl, arith}
use Rattle.std.specs.Prelude.{slice_get}
use Rattle.std.specs.declared.option.Option.{Option}
use Rattle.std.specs.declared.option.Option.TheVariants.{Some, None}
use Rattle.std.specs.FinMap.{get}
use Rattle.std.specs.FinMap as finite
use Rattle.std.proofs.lemmas.Option.{same_Some, slice_get_past}
use Rattle.std.proofs.lemmas.List.{reverse-append, length-append, length-reverse}
use Rattle.base_types.specs.declared.hash.Hash32.{Hash32}
use Rattle.block_codec.specs.declared.block.Header.{Header}
use Rattle.chain_model.specs.Tree.{Headers, chain_within, chain, height, ancestor, and_below}
use Rattle.block_codec.specs.Genesis.{genesis_hash}
use Rattle.chain_model.specs.Above.{IsBlock, IsAbove}
use Rattle.chain_model.proofs.Hashes.{same_self, same_false}
use Rattle.block_codec.specs.Text.{same_hash}

-- ---- places in lists

pub get_first : {X : Type 0} (xs ys : List X) (i : ℕ) → i < length xs → slice_get (xs ++ ys) i ≡ slice_get xs i
get_first [] ys i less = absurd (omega arith)
get_first (x ∷ xs) ys zero less = refl
get_first (x ∷ xs) ys (suc i) less = get_first xs ys i (omega arith)

pub get_middle : {X : Type 0} (xs : List X) (y : X) (i : ℕ) → length xs ≡ i → slice_get (xs ++ y ∷ []) i ≡ Some y
get_middle [] y zero e = refl
get_middle [] y (suc i) e = absurd (omega arith)
get_middle (x ∷ xs) y zero e = absurd (omega arith)
get_middle (x ∷ xs) y (suc i) e = get_middle xs y i (omega arith)

-- ---- steps

module _ (headers : Headers) where
  pub above_join : (n m k : ℕ) (a b c : Hash32) → k ≡ n + m → IsAbove headers n a b → IsAbove headers m b c → IsAbove headers k a c
  above_join zero m k a b c e s t =
      let same_count : m ≡ k = omega arith in
      subst (λ (i : ℕ). IsAbove headers i a c) same_count (subst (λ (h : Hash32). IsAbove headers m h c) (sym s) t)
  above_join (suc n) m zero a b c e s t = absurd (omega arith)
  above_join (suc n) m (suc k) a b c e (header, step, s) t = (header, step, above_join n m k header.prev b c (omega arith) s t)

  -- a way down has a block after so many steps
  pub above_split : (n m k : ℕ) (a c : Hash32) → k ≡ n + m → IsAbove headers k a c → (b : Hash32) × IsAbove headers n a b × IsAbove headers m b c
  above_split zero m k a c e s = let same_count : k ≡ m = omega arith in (a, refl, subst (λ (i : ℕ). IsAbove headers i a c) same_count s)
  above_split (suc n) m zero a c e s = absurd (omega arith)
  above_split (suc n) m (suc k) a c e (x, step, s) =
      let rest = above_split n m k x.prev c (omega arith) s in
      (rest.0, (x, step, rest.1), rest.2)

  same_header : (a : Hash32) (x y : Header) → IsBlock headers a x → IsBlock headers a y → x ≡ y
  same_header a x y s t = same_Some x y (sym s.found ∙ t.found)

  -- one way down is a part of the longer one
  pub above_rest : (n m k : ℕ) (a b c : Hash32) → k ≡ n + m → IsAbove headers n a b → IsAbove headers k a c → IsAbove headers m b c
  above_rest zero m k a b c e s t =
      let same_count : k ≡ m = omega arith in
      subst (λ (i : ℕ). IsAbove headers i b c) same_count (subst (λ (h : Hash32). IsAbove headers k h c) s t)
  above_rest (suc n) m zero a b c e s t = absurd (omega arith)
  above_rest (suc n) m (suc k) a b c e (x, step, s) (y, other, t) =
      above_rest n m k x.prev b c (omega arith) s (subst (λ (h : Header). IsAbove headers k h.prev c) (sym (same_header a x y step other)) t)

  -- a block has one height
  pub one_height : (n m : ℕ) (a : Hash32) → IsAbove headers n a genesis_hash → IsAbove headers m a genesis_hash → n ≡ m
  one_height zero zero a s t = refl
  one_height zero (suc m) a s (x, step, t) = absurd (step.later s)
  one_height (suc n) zero a (x, step, s) t = absurd (step.later t)
  one_height (suc n) (suc m) a (x, step, s) (y, other, t) =
      ap (λ (i : ℕ). suc i) (one_height n m x.prev s (subst (λ (h : Header). IsAbove headers m h.prev genesis_hash) (sym (same_header a x y step other)) t))

  -- the blocks from one down to the one before another
  abbrev pub line : (n : ℕ) (a b : Hash32) → IsAbove headers n a b → List Hash32
  line zero a b s = []
  line (suc n) a b (x, step, s) = a ∷ line n x.prev b s

  pub length-line : (n : ℕ) (a b : Hash32) (s : IsAbove headers n a b) → length (line n a b s) ≡ n
  length-line zero a b s = refl
  length-line (suc n) a b (x, step, s) = ap (λ (i : ℕ). suc i) (length-line n x.prev b s)

  not_first : (a : Hash32) (x : Header) (step : IsBlock headers a x) (below : Hash32 → List Hash32) → cond (same_hash a genesis_hash) (a ∷ []) (and_below a (get headers a) below) ≡ a ∷ below x.prev
  not_first a x step below =
      ap (λ (b : Bool). cond b (a ∷ []) (and_below a (get headers a) below)) (same_false a genesis_hash step.later)
      ∙ ap (λ (o : Option Header). and_below a o below) step.found

  -- the chain goes down the line
  pub within_line : (n f k : ℕ) (a b : Hash32) (s : IsAbove headers n a b) → k ≡ n + f → chain_within k headers a ≡ line n a b s ++ chain_within f headers b
  unfolding chain_within
  within_line zero f k a b s e =
      let same_count : k ≡ f = omega arith in
      ap (λ (i : ℕ). chain_within i headers a) same_count ∙ ap (λ (h : Hash32). chain_within f headers h) s
  within_line (suc n) f zero a b s e = absurd (omega arith)
  within_line (suc n) f (suc k) a b (x, step, s) e =
      not_first a x step (λ parent. chain_within k headers parent) ∙ ap (λ (l : List Hash32). a ∷ l) (within_line n f k x.prev b s (omega arith))

  within_first : (f : ℕ) → chain_within (suc f) headers genesis_hash ≡ genesis_hash ∷ []
  unfolding chain_within
  within_first f = ap (λ (b : Bool). cond b (genesis_hash ∷ []) (and_below genesis_hash (get headers genesis_hash) (λ parent. chain_within f headers parent))) (same_self genesis_hash)

  -- the chain of a block is the line to genesis, and genesis
  pub whole_line : (n k : ℕ) (a : Hash32) (s : IsAbove headers n a genesis_hash) → n < k → chain_within k headers a ≡ line n a genesis_hash s ++ genesis_hash ∷ []
  whole_line n k a s less =
      let rest : k ≡ n + suc (k - n - 1) = omega arith in
      within_line n (suc (k - n - 1)) k a genesis_hash s rest ∙ ap (λ (l : List Hash32). line n a genesis_hash s ++ l) (within_first (k - n - 1))

  pub length-chain : (n : ℕ) (a : Hash32) → IsAbove headers n a genesis_hash → n < finite.len headers → length (chain headers a) ≡ suc n
  length-chain n a s less =
      let whole = whole_line n (finite.len headers) a s less in
      let sum = length-append (line n a genesis_hash s) (genesis_hash ∷ []) in
      let first = length-line n a genesis_hash s in
      ap length whole ∙ sum ∙ omega arith

  pub height_is : (n : ℕ) (a : Hash32) → IsAbove headers n a genesis_hash → n < finite.len headers → height headers a ≡ n
  height_is n a s less = let l = length-chain n a s less in omega arith

  -- the chain of a block ends in the chain of each of its ancestors
  pub chain_above : (n m : ℕ) (a b : Hash32) (s : IsAbove headers n a b) → IsAbove headers m b genesis_hash → n + m < finite.len headers → chain headers a ≡ line n a b s ++ chain headers b
  chain_above n m a b s t less =
      let f = finite.len headers - n in
      let rest : finite.len headers ≡ n + f = omega arith in
      within_line n f (finite.len headers) a b s rest
      ∙ ap (λ (l : List Hash32). line n a b s ++ l) (whole_line m f b t (omega arith) ∙ sym (whole_line m (finite.len headers) b t (omega arith)))

  -- ---- ancestors

  pub ancestor_below : (n m at : ℕ) (a b : Hash32) → IsAbove headers n a b → IsAbove headers m b genesis_hash → n + m < finite.len headers → at ≤ m → ancestor headers a at ≡ ancestor headers b at
  ancestor_below n m at a b s t less low =
      let whole = chain_above n m a b s t less in
      let turned = reverse-append (line n a b s) (chain headers b) in
      let tall = length-chain m b t (omega arith) in
      let tall_turned = length-reverse (chain headers b) in
      ap (λ (l : List Hash32). slice_get (reverse l) at) whole
      ∙ ap (λ (l : List Hash32). slice_get l at) turned
      ∙ get_first (reverse (chain headers b)) (reverse (line n a b s)) at (omega arith)

  last_turned : (x : Hash32) (xs : List Hash32) (i : ℕ) → length xs ≡ i → slice_get (reverse (x ∷ xs)) i ≡ Some x
  last_turned x xs i e =
      ap (λ (l : List Hash32). slice_get l i) (reverse-append (x ∷ []) xs)
      ∙ get_middle (reverse xs) x i (length-reverse xs ∙ e)

  pub chain_starts : (n : ℕ) (a : Hash32) → IsAbove headers n a genesis_hash → n < finite.len headers → (rest : List Hash32) × (chain headers a ≡ a ∷ rest)
  chain_starts zero a s less =
      ([], whole_line zero (finite.len headers) a s less ∙ ap (λ (h : Hash32). h ∷ []) (sym s))
  chain_starts (suc n) a (x, step, s) less =
      (line n x.prev genesis_hash s ++ genesis_hash ∷ [], whole_line (suc n) (finite.len headers) a (x, step, s) less)

  pub ancestor_self : (n : ℕ) (a : Hash32) → IsAbove headers n a genesis_hash → n < finite.len headers → ancestor headers a n ≡ Some a
  ancestor_self n a s less =
      let start = chain_starts n a s less in
      let tall = length-chain n a s less in
      let same_length = ap length start.1 in
      ap (λ (l : List Hash32). slice_get (reverse l) n) start.1 ∙ last_turned a start.0 n (omega arith)

  pub ancestor_past : (n at : ℕ) (a : Hash32) → IsAbove headers n a genesis_hash → n < finite.len headers → n < at → ancestor headers a at ≡ None
  ancestor_past n at a s less past =
      let tall = length-chain n a s less in
      let tall_turned = length-reverse (chain headers a) in
      slice_get_past (reverse (chain headers a)) at (omega arith)

  -- the ancestor at a height is so many steps down
  pub ancestor_way : (n at : ℕ) (a b : Hash32) → IsAbove headers n a genesis_hash → n < finite.len headers → at ≤ n → ancestor headers a at ≡ Some b → IsAbove headers (n - at) a b × IsAbove headers at b genesis_hash
  ancestor_way n at a b s less low is =
      let sum : n ≡ (n - at) + at = omega arith in
      let way = above_split (n - at) at n a genesis_hash sum s in
      let found = ancestor_below (n - at) at at a way.0 way.1 way.2 (omega arith) (le_refl at) ∙ ancestor_self at way.0 way.2 (omega arith) in
      let same_block = same_Some way.0 b (sym found ∙ is) in
      (subst (λ (h : Hash32). IsAbove headers (n - at) a h) same_block way.1, subst (λ (h : Hash32). IsAbove headers at h genesis_hash) same_block way.2)

  -- ---- blocks that aren't there

  within_none : (a : Hash32) → (a ≡ genesis_hash → ⊥) → get headers a ≡ None → (k : ℕ) → chain_within k headers a ≡ []
  unfolding chain_within
  within_none a later none zero = refl
  within_none a later none (suc k) =
      ap (λ (b : Bool). cond b (a ∷ []) (and_below a (get headers a) (λ parent. chain_within k headers parent))) (same_false a genesis_hash later)
      ∙ ap (λ (o : Option Header). and_below a o (λ parent. chain_within k headers parent)) none

  pub chain_none : (a : Hash32) → (a ≡ genesis_hash → ⊥) → get headers a ≡ None → chain headers a ≡ []
  chain_none a later none = within_none a later none (finite.len headers)

-- more headers leave each block above those that it was above
unfoldable pub above_stays : (old new : Headers) → ((q : Hash32) (x : Header) → get old q ≡ Some x → get new q ≡ Some x) → (n : ℕ) (a b : Hash32) → IsAbove old n a b → IsAbove new n a b
above_stays old new stays zero a b s = s
above_stays old new stays (suc n) a b (x, step, s) =
    (x, record { later = step.later; found = stays a x step.found }, above_stays old new stays n x.prev b s)
