-- Each image after a call is an image before it, after the call's step.
use Rattle.std.specs.Prelude.{◌⊎◌, ◌<◌, ◌≡◌, ◌≢◌, ◌==◌, ℕ, ◌+◌, ◌-◌, ◌≤◌, ◌||◌, ◌&&◌, min, max, Bool, false, List, length, take, drop, get_or, nat_le, nat_lt, refl, map, if◌then◌else◌}
use Rattle.std.specs.List.{range_with_len}
use Rattle.std.proofs.Common.{arith, subst, sym, ◌∙◌, ap, inl, inr, ⊎_elim, cond, eq-eqb}
use Rattle.std.proofs.lemmas.List.{length-take, length-drop, get_or-take, get_or-drop, take_all, take_min}
use Rattle.std.proofs.lemmas.List.FromFn.{length-map-range_with_len, get_or-map-range_with_len}
use Rattle.std.proofs.lemmas.Grind.{same_number_lists}
use Rattle.std.proofs.lemmas.Bool.{cases_eq, ne_eqb}
use Rattle.std.proofs.lemmas.Bool.Decides.{nat_tests}
use Rattle.disk_model.specs.Disk.{Image, At, Torn, Cut}
use Rattle.disk_model.specs.Crash.{FileState, IsFileImage, in_range, at_rest, after_write, after_cut, after_sync, IsImage}
use Rattle.disk_model.specs.Sound.{IsSound, length-written}

-- the first n bytes of c, with those of d from a to b
overlaid : ℕ → ℕ → ℕ → List ℕ → List ℕ → List ℕ
overlaid n a b d c = map (λ i. if nat_le a i && nat_lt i b then get_or d i 0 else get_or c i 0) (range_with_len 0 n)

length-overlaid : (n a b : ℕ) (d c : List ℕ) → length (overlaid n a b d c) ≡ n
unfolding overlaid
length-overlaid n a b d c = length-map-range_with_len _ 0 n

overlaid_at : (n a b : ℕ) (d c : List ℕ) (i : ℕ) → i < n → get_or (overlaid n a b d c) i 0 ≡ (if nat_le a i && nat_lt i b then get_or d i 0 else get_or c i 0)
unfolding overlaid
overlaid_at n a b d c i h = get_or-map-range_with_len _ 0 n i i 0 h (omega arith)

overlaid_in : (n a b : ℕ) (d c : List ℕ) (i : ℕ) → i < n → a ≤ i → i < b → get_or (overlaid n a b d c) i 0 ≡ get_or d i 0
overlaid_in n a b d c i h l r = overlaid_at n a b d c i h ∙ grind (arith, nat_tests)

overlaid_out : (n a b : ℕ) (d c : List ℕ) (i : ℕ) → i < n → (i < a ⊎ b ≤ i) → get_or (overlaid n a b d c) i 0 ≡ get_or c i 0
overlaid_out n a b d c i h o = overlaid_at n a b d c i h ∙ grind (arith, nat_tests)

into_range : (at n i : ℕ) → (i < at ⊎ at + n ≤ i) → in_range at n i ≡ false
into_range at n i h = grind (arith, nat_tests)

range_cases : (at n i : ℕ) → (i < at ⊎ at + n ≤ i) ⊎ (at ≤ i) × (i < at + n)
range_cases at n i = grind arith

below_or : (n i : ℕ) → (i < n) ⊎ (n ≤ i)
below_or n i = grind arith

pub write_follows : (at : ℕ) (xs : List ℕ) (s : FileState) → IsSound s → (c : List ℕ) → IsFileImage (after_write at xs s) c → (e : List ℕ) × IsFileImage s e × Torn at (length xs) e c
write_follows at xs s sound c im =
    let n = min (length c) s.most in
    let e = overlaid n at (at + length xs) s.durable c in
    let long : length e ≡ n = length-overlaid n at (at + length xs) s.durable c in
    let lo = sound.image.no_shorter in
    let hi = sound.image.no_longer in
    let clo = im.no_shorter in
    let chi : length c ≤ max s.most (max (length s.reads) (at + length xs)) = subst (λ k. length c ≤ max s.most k) (length-written at xs s.reads) im.no_longer in
    let kept : (i : ℕ) → i < s.least → s.covered i ≡ false → get_or e i 0 ≡ get_or s.durable i 0 = λ i below bare. ⊎_elim
    (λ out. overlaid_out n at (at + length xs) s.durable c i (omega arith) out
    ∙ im.kept i below (ap (λ (b : Bool). b || in_range at (length xs) i) bare ∙ into_range at (length xs) i out))
    (λ inn. overlaid_in n at (at + length xs) s.durable c i (omega arith) inn.0 inn.1)
    (range_cases at (length xs) i) in
    let image : IsFileImage s e = record { no_shorter = omega arith; no_longer = omega arith; kept = kept } in
    let front : take (min at (length e)) c ≡ take at e = same_number_lists _ _ (omega (arith, length-take (min at (length e)) c, length-take at e)) (λ k below.
    let within : k < min (min at (length e)) (length c) = subst (λ m. k < m) (length-take (min at (length e)) c) below in
    get_or-take (min at (length e)) c k 0 (omega arith)
    ∙ sym (overlaid_out n at (at + length xs) s.durable c k (omega arith) (inl (omega arith)))
    ∙ sym (get_or-take at e k 0 (omega arith))) in
    let back : drop (at + length xs) (take (length e) c) ≡ drop (at + length xs) e = same_number_lists _ _ (omega (arith, length-drop (at + length xs) (take (length e) c), length-take (length e) c, length-drop (at + length xs) e)) (λ k below.
    let within : k < min (length e) (length c) - (at + length xs) = subst (λ m. k < m) (length-drop (at + length xs) (take (length e) c) ∙ ap (λ m. m - (at + length xs)) (length-take (length e) c)) below in
    get_or-drop (at + length xs) (take (length e) c) k 0
    ∙ get_or-take (length e) c (at + length xs + k) 0 (omega arith)
    ∙ sym (overlaid_out n at (at + length xs) s.durable c (at + length xs + k) (omega arith) (inr (omega arith)))
    ∙ sym (get_or-drop (at + length xs) e k 0)) in
    (e, image, record { before = front; after = back; no_shorter = omega arith; no_longer = omega arith })

pub cut_follows : (n : ℕ) (s : FileState) → IsSound s → (c : List ℕ) → IsFileImage (after_cut n s) c → (e : List ℕ) × IsFileImage s e × Cut n e c
cut_follows n s sound c im =
    let m = max (length c) s.least in
    let e = overlaid m n s.least s.durable c in
    let long : length e ≡ m = length-overlaid m n s.least s.durable c in
    let lo = sound.image.no_shorter in
    let hi = sound.image.no_longer in
    let clo = im.no_shorter in
    let chi = im.no_longer in
    let kept : (i : ℕ) → i < s.least → s.covered i ≡ false → get_or e i 0 ≡ get_or s.durable i 0 = λ i below bare. ⊎_elim
    (λ early. overlaid_out m n s.least s.durable c i (omega arith) (inl early) ∙ im.kept i (omega arith) bare)
    (λ late. overlaid_in m n s.least s.durable c i (omega arith) late below)
    (below_or n i) in
    let image : IsFileImage s e = record { no_shorter = omega arith; no_longer = omega arith; kept = kept } in
    let front : take n c ≡ take n e = same_number_lists _ _ (omega (arith, length-take n c, length-take n e)) (λ k below.
    let within : k < min n (length c) = subst (λ m. k < m) (length-take n c) below in
    get_or-take n c k 0 (omega arith)
    ∙ sym (overlaid_out m n s.least s.durable c k (omega arith) (inl (omega arith)))
    ∙ sym (get_or-take n e k 0 (omega arith))) in
    (e, image, record { front = front; no_shorter = omega arith; no_longer = omega arith })

-- a file at rest has one image
pub rest_only : (bytes c : List ℕ) → IsFileImage (at_rest bytes) c → c ≡ bytes
rest_only bytes c im =
    let lo = im.no_shorter in
    let hi = im.no_longer in
    same_number_lists c bytes (omega arith) (λ k below. im.kept k (omega arith) refl)

pub sync_follows : (s : FileState) → IsSound s → (c : List ℕ) → IsFileImage (after_sync s) c → (e : List ℕ) × IsFileImage s e × (e ≡ c)
sync_follows s sound c im = (c, subst (IsFileImage s) (sym (rest_only s.reads c im)) sound.image, refl)

-- the same of all files, where one of them changes
pub all_follow : (file : ℕ) (change : FileState → FileState) (old new : ℕ → FileState) → ((f : ℕ) → new f ≡ (if f == file then change (old f) else old f))
    → (Step : List ℕ → List ℕ → Type 0) → ((c : List ℕ) → IsFileImage (change (old file)) c → (e : List ℕ) × IsFileImage (old file) e × Step e c)
    → (c : Image) → IsImage new c → (e : Image) × IsImage old e × At file Step e c
all_follow file change old new is Step one c im =
    let here : new file ≡ change (old file) = is file ∙ ap (λ (b : Bool). cond b (change (old file)) (old file)) (eq-eqb file file refl) in
    let from = one (c file) (subst (λ (t : FileState). IsFileImage t (c file)) here (im file)) in
    let e : Image = λ f. cond (f == file) from.0 (c f) in
    let e_here : e file ≡ from.0 = ap (λ (b : Bool). cond b from.0 (c file)) (eq-eqb file file refl) in
    let e_else : (f : ℕ) → f ≢ file → e f ≡ c f = λ f apart. ap (λ (b : Bool). cond b from.0 (c f)) (ne_eqb f file apart) in
    let image : IsImage old e = λ f. elim (cases_eq f file) [
      | inl same ↦ subst (λ (k : ℕ). IsFileImage (old k) (e k)) (sym same) (subst (λ (b : List ℕ). IsFileImage (old file) b) (sym e_here) from.1)
      | inr apart ↦ subst (λ (b : List ℕ). IsFileImage (old f) b) (sym (e_else f apart)) (subst (λ (t : FileState). IsFileImage t (c f)) (is f ∙ ap (λ (b : Bool). cond b (change (old f)) (old f)) (ne_eqb f file apart)) (im f))
    ] in
    (e, image, record { here = subst (λ (b : List ℕ). Step b (c file)) (sym e_here) from.2; others = λ f apart. sym (e_else f apart) })

-- A step may be no step.

pub no_tear : (at n : ℕ) (c : List ℕ) → Torn at n c c
no_tear at n c = record {
  before = take_min at c;
  after = ap (drop (at + n)) (take_all (length c) c (omega arith));
  no_shorter = omega arith;
  no_longer = omega arith;
}

pub no_cut : (n : ℕ) (c : List ℕ) → Cut n c c
no_cut n c = record { front = refl; no_shorter = omega arith; no_longer = omega arith }

pub none_at : (file : ℕ) (Step : List ℕ → List ℕ → Type 0) → ((c : List ℕ) → Step c c) → (c : Image) → At file Step c c
none_at file Step none c = record { here = none (c file); others = λ f apart. refl }
