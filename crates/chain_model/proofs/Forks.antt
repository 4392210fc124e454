-- The fork of two blocks, as both go down.
use Rattle.std.proofs.Common.{◌≡◌, ℕ, zero, suc, ◌+◌, ◌-◌, ◌<◌, ◌≤◌, Bool, false, ◌||◌, cond, List, [], ◌∷◌, ◌++◌, refl, sym, ap, subst, ◌∙◌, arith}
use Rattle.std.specs.declared.option.Option.{Option}
use Rattle.std.specs.declared.option.Option.TheVariants.{Some, None}
use Rattle.std.specs.List.{find, list_any}
use Rattle.std.specs.FinMap as finite
use Rattle.base_types.specs.declared.hash.Hash32.{Hash32}
use Rattle.chain_model.specs.Tree.{Headers, chain, fork}
use Rattle.block_codec.specs.Genesis.{genesis_hash}
use Rattle.chain_model.specs.Above.{IsAbove}
use Rattle.block_codec.specs.Text.{same_hash}
use Rattle.chain_model.proofs.Hashes.{same_self, same_false}
use Rattle.chain_model.proofs.Chains.{above_rest, one_height, line, whole_line, chain_above, chain_starts}

module _ (headers : Headers) where
  -- blocks that fail the test are passed over
  find_past : (test : Hash32 → Bool) (n : ℕ) (a b : Hash32) (s : IsAbove headers n a b) (rest : List Hash32) → ((i : ℕ) (z : Hash32) → i < n → IsAbove headers i a z → test z ≡ false) → find test (line headers n a b s ++ rest) ≡ find test rest
  find_past test zero a b s rest none = refl
  find_past test (suc n) a b (x, step, s) rest none =
      ap (λ (r : Bool). cond r (Some a) (find test (line headers n x.prev b s ++ rest))) (none 0 a (omega arith) refl)
      ∙ find_past test n x.prev b s rest (λ i z less t. none (suc i) z (omega arith) (x, step, t))

  any_past : (test : Hash32 → Bool) (n : ℕ) (a b : Hash32) (s : IsAbove headers n a b) (rest : List Hash32) → ((i : ℕ) (z : Hash32) → i < n → IsAbove headers i a z → test z ≡ false) → list_any test (line headers n a b s ++ rest) ≡ list_any test rest
  any_past test zero a b s rest none = refl
  any_past test (suc n) a b (x, step, s) rest none =
      ap (λ (r : Bool). r || list_any test (line headers n x.prev b s ++ rest)) (none 0 a (omega arith) refl)
      ∙ any_past test n x.prev b s rest (λ i z less t. none (suc i) z (omega arith) (x, step, t))

  -- two tests that agree find one block
  find_same : (p q : Hash32 → Bool) (n : ℕ) (a b : Hash32) (s : IsAbove headers n a b) (rest : List Hash32) → ((i : ℕ) (z : Hash32) → i < n → IsAbove headers i a z → p z ≡ q z) → find p rest ≡ find q rest → find p (line headers n a b s ++ rest) ≡ find q (line headers n a b s ++ rest)
  find_same p q zero a b s rest both after = after
  find_same p q (suc n) a b (x, step, s) rest both after =
      ap (λ (r : Bool). cond r (Some a) (find p (line headers n x.prev b s ++ rest))) (both 0 a (omega arith) refl)
      ∙ ap (λ (o : Option Hash32). cond (q a) (Some a) o) (find_same p q n x.prev b s rest (λ i z less t. both (suc i) z (omega arith) (x, step, t)) after)

  abbrev on : Hash32 → Hash32 → Bool
  on b hash = list_any (same_hash hash) (chain headers b)

  not_on : (z y : Hash32) (m : ℕ) (t : IsAbove headers m y genesis_hash) → m < finite.len headers → ((i : ℕ) → i ≤ m → IsAbove headers i y z → ⊥) → on y z ≡ false
  not_on z y m t less none =
      ap (list_any (same_hash z)) (whole_line headers m (finite.len headers) y t less)
      ∙ any_past (same_hash z) m y genesis_hash t (genesis_hash ∷ []) (λ i w l s. same_false z w (λ is. none i (omega arith) (subst (λ (h : Hash32). IsAbove headers i y h) (sym is) s)))
      ∙ ap (λ (r : Bool). r || false) (same_false z genesis_hash (λ is. none m (omega arith) (subst (λ (h : Hash32). IsAbove headers m y h) (sym is) t)))

  -- none of the first n blocks of one chain is on the other
  abbrev pub Apart : ℕ → Hash32 → ℕ → Hash32 → Type 0
  Apart n a k b = (i : ℕ) (z : Hash32) → i < n → IsAbove headers i a z → (j : ℕ) → j ≤ k → IsAbove headers j b z → ⊥

  pub fork_down_left : (n m k : ℕ) (a c b : Hash32) → IsAbove headers n a c → IsAbove headers m c genesis_hash → IsAbove headers k b genesis_hash → n + m < finite.len headers → k < finite.len headers → Apart n a k b → fork headers a b ≡ fork headers c b
  fork_down_left n m k a c b s t u less_a less_b none =
      ap (find (on b)) (chain_above headers n m a c s t less_a)
      ∙ find_past (on b) n a c s (chain headers c) (λ i z less p. not_on z b k u less_b (λ j at q. none i z less p j at q))

  pub fork_down_right : (n m k : ℕ) (a b c : Hash32) → IsAbove headers n b c → IsAbove headers m c genesis_hash → IsAbove headers k a genesis_hash → n + m < finite.len headers → k < finite.len headers → Apart n b k a → fork headers a b ≡ fork headers a c
  fork_down_right n m k a b c s t u less_b less_a none =
      let whole = whole_line headers k (finite.len headers) a u less_a in
      let passes = λ (z : Hash32) (i : ℕ) (at : i ≤ k) (p : IsAbove headers i a z).
      ap (list_any (same_hash z)) (chain_above headers n m b c s t less_b)
      ∙ any_past (same_hash z) n b c s (chain headers c) (λ j w less q. same_false z w (λ is. none j w less q i at (subst (λ (h : Hash32). IsAbove headers i a h) is p))) in
      ap (find (on b)) whole
      ∙ find_same (on b) (on c) k a genesis_hash u (genesis_hash ∷ []) (λ i z less p. passes z i (omega arith) p)
      (ap (λ (r : Bool). cond r (Some genesis_hash) None) (passes genesis_hash k (omega arith) u))
      ∙ ap (find (on c)) (sym whole)

  -- blocks that are higher than all of the other chain
  pub apart_tall : (n h k : ℕ) (a b : Hash32) → IsAbove headers h a genesis_hash → IsAbove headers k b genesis_hash → ((i : ℕ) → i < n → k + i < h) → Apart n a k b
  apart_tall n h k a b s t gap i z less p j at q =
      let higher = gap i less in
      let left : h ≡ i + (h - i) = omega arith in
      let right : k ≡ j + (k - j) = omega arith in
      let same_height = one_height headers (h - i) (k - j) z (above_rest headers i (h - i) h a z genesis_hash left p s) (above_rest headers j (k - j) k b z genesis_hash right q t) in
      absurd (omega arith)

  -- a block so many steps below two blocks of one height is as many steps below each
  level : (h i j : ℕ) (a b z : Hash32) → IsAbove headers h a genesis_hash → IsAbove headers h b genesis_hash → i ≤ h → j ≤ h → IsAbove headers i a z → IsAbove headers j b z → i ≡ j
  level h i j a b z s t li lj p q =
      let left : h ≡ i + (h - i) = omega arith in
      let right : h ≡ j + (h - j) = omega arith in
      let same_height = one_height headers (h - i) (h - j) z (above_rest headers i (h - i) h a z genesis_hash left p s) (above_rest headers j (h - j) h b z genesis_hash right q t) in
      omega arith

  -- blocks of one height whose ancestors still differ
  pub apart_differ : (n h : ℕ) (a b c d : Hash32) → n ≤ h → IsAbove headers h a genesis_hash → IsAbove headers h b genesis_hash → IsAbove headers n a c → IsAbove headers n b d → (c ≡ d → ⊥) → Apart n a h b
  apart_differ n h a b c d low s t to_c to_d differ i z less p j at q =
      let even = level h i j a b z s t (omega arith) at p q in
      let left : n ≡ i + (n - i) = omega arith in
      let right : n ≡ j + (n - i) = omega arith in
      let z_c = above_rest headers i (n - i) n a z c left p to_c in
      let z_d = above_rest headers j (n - i) n b z d right q to_d in
      let whole : n - i ≡ (n - i) + 0 = omega arith in
      differ (above_rest headers (n - i) 0 (n - i) z c d whole z_c z_d)

  -- blocks of one height that differ, one step down
  pub apart_one : (h : ℕ) (a b : Hash32) → IsAbove headers h a genesis_hash → IsAbove headers h b genesis_hash → (a ≡ b → ⊥) → Apart 1 a h b
  apart_one h a b s t differ zero z less p j at q =
      let even = level h zero j a b z s t (omega arith) at p q in
      differ (p ∙ sym (subst (λ (n : ℕ). IsAbove headers n b z) (sym even) q))
  apart_one h a b s t differ (suc i) z less p j at q = absurd (omega arith)

  -- the fork of a block and itself
  pub fork_same : (h : ℕ) (a : Hash32) → IsAbove headers h a genesis_hash → h < finite.len headers → fork headers a a ≡ Some a
  fork_same h a s less =
      let start = chain_starts headers h a s less in
      ap (find (on a)) start.1
      ∙ ap (λ (r : Bool). cond r (Some a) (find (on a) start.0)) (ap (list_any (same_hash a)) start.1 ∙ ap (λ (r : Bool). r || list_any (same_hash a) start.0) (same_self a))

  -- both go down by as many steps
  pub fork_step : (n t h : ℕ) (a b c d : Hash32) → h ≡ n + t → h < finite.len headers → IsAbove headers h a genesis_hash → IsAbove headers h b genesis_hash → IsAbove headers t c genesis_hash → IsAbove headers t d genesis_hash → IsAbove headers n a c → IsAbove headers n b d → Apart n a h b → fork headers c d ≡ fork headers a b
  fork_step n t h a b c d sum less high_a high_b high_c high_d to_c to_d apart =
      let within : n + t < finite.len headers = omega arith in
      let low : t < finite.len headers = omega arith in
      sym (fork_down_left n t h a c b to_c high_c high_b within less apart
      ∙ fork_down_right n t t c b d to_d high_d high_c within low (apart_tall n h t b c high_b high_c (λ i l. omega arith)))

  -- both go down to the height of the lower one
  pub fork_low : (h k m : ℕ) (a b c d : Hash32) → m ≤ h → m ≤ k → ((i : ℕ) → i < h - m → k + i < h) → h < finite.len headers → k < finite.len headers → IsAbove headers h a genesis_hash → IsAbove headers k b genesis_hash → IsAbove headers m c genesis_hash → IsAbove headers m d genesis_hash → IsAbove headers (h - m) a c → IsAbove headers (k - m) b d → fork headers c d ≡ fork headers a b
  fork_low h k m a b c d low_a low_b gap less_a less_b high_a high_b high_c high_d to_c to_d =
      sym (fork_down_left (h - m) m k a c b to_c high_c high_b (omega arith) less_b (apart_tall (h - m) h k a b high_a high_b gap)
      ∙ fork_down_right (k - m) m m c b d to_d high_d high_c (omega arith) (omega arith) (apart_tall (k - m) k m b c high_b high_c (λ i l. omega arith)))
