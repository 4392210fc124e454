-- Levels of a merkle tree: how long they are, and that more turns than levels change nothing.
use Rattle.std.proofs.Common.{◌≡◌, ℕ, zero, suc, ◌+◌, ◌-◌, ◌*◌, ◌<◌, ◌≤◌, add-one, Bool, true, false, ◌||◌, List, [], ◌∷◌, ◌++◌, length, get_or, set, take, drop, refl, sym, ap, ◌∙◌, arith, append_assoc, nat_eq}
use Rattle.std.specs.Cmp.Lexicographic.{pointwise}
use Rattle.std.proofs.lemmas.List.{take_more_set, drop-set-lt, drop_all, take_all, append-nil}
use Rattle.std.specs.Option.{unwrap_or}
use Rattle.std.specs.List.{slice_get}
use Rattle.block_codec.specs.Text.{zero_hash}
use Rattle.base_types.specs.declared.hash.Hash32.{Hash32}
use Rattle.block_codec.specs.Merkle.{pair_hash, level_above, has_twins, root_within, twins_within, merkle_root, is_mutated}

pub length-level_above : (hs : List Hash32) → length (level_above hs) + length (level_above hs) ≤ length hs + 1
unfolding level_above
length-level_above [] = omega arith
length-level_above (a ∷ []) = omega arith
length-level_above (a ∷ b ∷ hs) = omega (arith, length-level_above hs)

pub root_within-enough : (n m : ℕ) (hs : List Hash32) → length hs ≤ n → length hs ≤ m → root_within n hs ≡ root_within m hs
unfolding root_within
root_within-enough n m [] p q = refl
root_within-enough n m (a ∷ []) p q = refl
root_within-enough zero m (a ∷ b ∷ hs) p q = absurd (omega arith)
root_within-enough (suc n) zero (a ∷ b ∷ hs) p q = absurd (omega arith)
root_within-enough (suc n) (suc m) (a ∷ b ∷ hs) p q =
    root_within-enough n m (level_above (a ∷ b ∷ hs)) (omega (arith, length-level_above (a ∷ b ∷ hs))) (omega (arith, length-level_above (a ∷ b ∷ hs)))

pub twins_within-enough : (n m : ℕ) (hs : List Hash32) → length hs ≤ n → length hs ≤ m → twins_within n hs ≡ twins_within m hs
unfolding twins_within
twins_within-enough n m [] p q = refl
twins_within-enough n m (a ∷ []) p q = refl
twins_within-enough zero m (a ∷ b ∷ hs) p q = absurd (omega arith)
twins_within-enough (suc n) zero (a ∷ b ∷ hs) p q = absurd (omega arith)
twins_within-enough (suc n) (suc m) (a ∷ b ∷ hs) p q =
    ap (λ t. has_twins (a ∷ b ∷ hs) || t)
    (twins_within-enough n m (level_above (a ∷ b ∷ hs)) (omega (arith, length-level_above (a ∷ b ∷ hs))) (omega (arith, length-level_above (a ∷ b ∷ hs))))

-- ---- one level up

pub merkle_root-above : (hs : List Hash32) → 1 < length hs → merkle_root (level_above hs) ≡ merkle_root hs
unfolding root_within
merkle_root-above [] h = absurd (omega arith)
merkle_root-above (a ∷ []) h = absurd (omega arith)
merkle_root-above (a ∷ b ∷ hs) h =
    let up = level_above (a ∷ b ∷ hs) in
    root_within-enough (length up) (suc (length hs)) up (omega arith) (omega (arith, length-level_above (a ∷ b ∷ hs)))

pub is_mutated-above : (hs : List Hash32) → 1 < length hs → (has_twins hs || is_mutated (level_above hs)) ≡ is_mutated hs
unfolding twins_within
is_mutated-above [] h = absurd (omega arith)
is_mutated-above (a ∷ []) h = absurd (omega arith)
is_mutated-above (a ∷ b ∷ hs) h =
    let up = level_above (a ∷ b ∷ hs) in
    ap (λ t. has_twins (a ∷ b ∷ hs) || t)
    (twins_within-enough (length up) (suc (length hs)) up (omega arith) (omega (arith, length-level_above (a ∷ b ∷ hs))))

-- ---- the pair at a place

pub level_above-next : (i : ℕ) (hs : List Hash32) (d : Hash32) → i < length hs → level_above (drop i hs) ≡ pair_hash (get_or hs i d) (get_or hs (suc i) (get_or hs i d)) ∷ level_above (drop (suc (suc i)) hs)
unfolding level_above
level_above-next i [] d h = absurd (omega arith)
level_above-next zero (a ∷ []) d h = refl
level_above-next zero (a ∷ b ∷ hs) d h = refl
level_above-next (suc i) (a ∷ hs) d h = level_above-next i hs d (omega arith)

-- the hashes that are written, and the level above of those that are left
abbrev pub raised : ℕ → List Hash32 → List Hash32
raised i hs = take i hs ++ level_above (drop (2 * i) hs)

pub raised-next : (i : ℕ) (hs : List Hash32) (left right : Hash32) → 2 * i < length hs → left ≡ get_or hs (2 * i) left → right ≡ get_or hs (2 * i + 1) left → raised (i + 1) (set hs i (pair_hash left right)) ≡ raised i hs
raised-next i hs left right lt l r =
    let within : i < length hs = omega arith in
    let h = pair_hash left right in
    let behind : 2 * (i + 1) ≡ suc (suc (2 * i)) = omega arith in
    let rest : drop (2 * (i + 1)) (set hs i h) ≡ drop (suc (suc (2 * i))) hs = drop-set-lt (2 * (i + 1)) hs i h (omega arith) ∙ ap (λ n. drop n hs) behind in
    let beside : get_or hs (suc (2 * i)) (get_or hs (2 * i) left) ≡ right = ap (λ d. get_or hs (suc (2 * i)) d) (sym l) ∙ ap (λ n. get_or hs n left) (sym (add-one (2 * i))) ∙ sym r in
    let next : level_above (drop (2 * i) hs) ≡ h ∷ level_above (drop (suc (suc (2 * i))) hs) = level_above-next (2 * i) hs left lt ∙ ap (λ x. pair_hash x (get_or hs (suc (2 * i)) x) ∷ level_above (drop (suc (suc (2 * i))) hs)) (sym l) ∙ ap (λ x. pair_hash left x ∷ level_above (drop (suc (suc (2 * i))) hs)) (ap (λ n. get_or hs n left) (sym (add-one (2 * i))) ∙ sym r) in
    cc (take_more_set hs i h within, ap level_above rest, next, append_assoc (take i hs) (h ∷ []) (level_above (drop (suc (suc (2 * i))) hs)))

-- where all pairs are written
pub raised_all : (i : ℕ) (hs : List Hash32) → length hs ≤ 2 * i → raised i hs ≡ take i hs
unfolding level_above
raised_all i hs h = ap (λ t. take i hs ++ level_above t) (drop_all (2 * i) hs h) ∙ append-nil (take i hs)

-- ---- twins

pub has_twins-found : (hs : List Hash32) (d e : Hash32) (r : Bool) → 2 ≤ length hs → r ≡ pointwise nat_eq (get_or hs 0 d).bytes (get_or hs 1 e).bytes → r ≡ true → has_twins hs ≡ true
unfolding has_twins
has_twins-found [] d e r len is found = absurd (omega arith)
has_twins-found (a ∷ []) d e r len is found = absurd (omega arith)
has_twins-found (a ∷ b ∷ hs) d e r len is found = ap (λ t. t || has_twins hs) (sym is ∙ found)

pub has_twins-passed : (hs : List Hash32) (d e : Hash32) (r : Bool) → 2 ≤ length hs → r ≡ pointwise nat_eq (get_or hs 0 d).bytes (get_or hs 1 e).bytes → r ≡ false → has_twins (take (length hs - 2) (drop 2 hs)) ≡ has_twins hs
unfolding has_twins
has_twins-passed [] d e r len is differ = absurd (omega arith)
has_twins-passed (a ∷ []) d e r len is differ = absurd (omega arith)
has_twins-passed (a ∷ b ∷ hs) d e r len is differ =
    ap has_twins (take_all (length (a ∷ b ∷ hs) - 2) hs (omega arith)) ∙ ap (λ t. t || has_twins hs) (sym (sym is ∙ differ))

pub has_twins_few : (hs : List Hash32) → length hs < 2 → has_twins hs ≡ false
unfolding has_twins
has_twins_few [] h = refl
has_twins_few (a ∷ []) h = refl
has_twins_few (a ∷ b ∷ hs) h = absurd (omega arith)

-- ---- the top level

pub merkle_root_top : (hs : List Hash32) → length hs ≤ 1 → unwrap_or (slice_get hs 0) zero_hash ≡ merkle_root hs
unfolding root_within
merkle_root_top [] h = refl
merkle_root_top (a ∷ []) h = refl
merkle_root_top (a ∷ b ∷ hs) h = absurd (omega arith)

pub is_mutated_top : (m : Bool) (hs : List Hash32) → length hs ≤ 1 → (m || is_mutated hs) ≡ m
unfolding twins_within
is_mutated_top true hs h = refl
is_mutated_top false [] h = refl
is_mutated_top false (a ∷ []) h = refl
is_mutated_top false (a ∷ b ∷ hs) h = absurd (omega arith)

pub or_assoc : (a b c : Bool) → ((a || b) || c) ≡ (a || (b || c))
or_assoc true b c = refl
or_assoc false b c = refl
