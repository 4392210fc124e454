-- The image of a pick, file by file.
use Rattle.std.specs.Prelude.{◌≡◌, ◌==◌, ◌||◌, ℕ, ◌+◌, ◌<◌, ◌≤◌, List, length, [], ◌∷◌, ◌++◌, take, Option, Some, None, is_some, refl, Bool, true, false, map, get_or, nat_lt, not, ◌&&◌, if◌then◌else◌}
use Rattle.std.specs.List.{list_any, range_with_len}
use Rattle.std.specs.FinMap.{get, insert}
use Rattle.std.proofs.Common.{arith, ap, sym, ◌∙◌, cond, subst}
use Rattle.std.proofs.lemmas.List.{take_all, length-take, get_or-take}
use Rattle.std.proofs.lemmas.List.FromFn.{length-map-range_with_len, get_or-map-range_with_len}
use Rattle.std.proofs.lemmas.Bool.Decides.{nat_tests}
use Rattle.std.proofs.lemmas.List.Folds.{list_any-append}
use Rattle.disk_model.specs.Image.{Files, bytes_in}
use Rattle.disk_model.specs.Crash.{FileState, image_of, IsFileImage}
use Rattle.disk_model.specs.Sound.{IsSound}
use Rattle.disk_model.specs.Replay.{IsBlank, states, LeftSince}
use Rattle.disk_model.specs.ReplayLaws.{states_sound}
use Rattle.disk_model.specs.declared.call.Call.{Call}
use Rattle.disk_model.specs.declared.pick.Pick.{Pick}
use Rattle.disk_model.specs.declared.pick.Pick.TheVariants.{Old, New, Fill}
use Rattle.disk_model.specs.Disk.{Image}
use Rattle.disk_model.proofs.Follows.{rest_only}
use Rattle.disk_model.proofs.Lookups.{bytes_in-insert, if_at}

lt_true : (a b : ℕ) → a < b → nat_lt a b ≡ true
lt_true a b h = grind (arith, nat_tests)

not_free : (a b : Bool) (x y : ℕ) → a ≡ true → b ≡ false → cond (a && not b) x y ≡ x
not_free true false x y h k = refl
not_free true true x y h k = absurd (cc)
not_free false b x y h k = absurd (cc)

-- each pick is an image
pub picked_is_image : (pick : Pick) (s : FileState) → IsSound s → IsFileImage s (image_of pick s)
picked_is_image New s sound = sound.image
picked_is_image Old s sound =
    let lower = sound.lower in
    let is = sound.image in
    let shorter = is.no_shorter in
    let longer = is.no_longer in
    let long = length-take s.least s.durable in
    record { no_shorter = omega arith; no_longer = omega arith; kept = λ i below bare. get_or-take s.least s.durable i 0 below }
picked_is_image (Fill byte) s sound =
    let is = sound.image in
    let shorter = is.no_shorter in
    let longer = is.no_longer in
    let long : length (image_of (Fill byte) s) ≡ s.most = length-map-range_with_len _ 0 s.most in
    record {
      no_shorter = omega arith;
      no_longer = omega arith;
      kept = λ i below bare.
          get_or-map-range_with_len _ 0 s.most i i 0 (omega arith) (omega arith)
          ∙ not_free (nat_lt i s.least) (s.covered i) (get_or s.durable i 0) byte (lt_true i s.least below) bare;
    }

-- a file that was never there is empty in each image
picked_blank : (pick : Pick) (s : FileState) → IsBlank s → image_of pick s ≡ []
picked_blank Old s blank = ap (take s.least) blank.durable ∙ take_all s.least [] (omega arith)
picked_blank New s blank = blank.reads
picked_blank (Fill byte) s blank = ap (λ n. map (λ i. if nat_lt i s.least && not (s.covered i) then get_or s.durable i 0 else byte) (range_with_len 0 n)) blank.most

-- one more file of an image
pub one_more_file : (target : ℕ → List ℕ) (numbers : List ℕ) (i file : ℕ) → take (i + 1) numbers ≡ take i numbers ++ file ∷ [] → (m new : Files) (v : List ℕ) → new ≡ insert m file v → v ≡ target file
    → (f : ℕ) → bytes_in m f ≡ cond (list_any (λ n. f == n) (take i numbers)) (target f) [] → bytes_in new f ≡ cond (list_any (λ n. f == n) (take (i + 1) numbers)) (target f) []
one_more_file target numbers i file more m new v is value f so_far =
    ap (λ k. bytes_in k f) is
    ∙ bytes_in-insert m file v f
    ∙ ap (λ b. cond (f == file) b (bytes_in m f)) value
    ∙ if_at (List ℕ) f file target (bytes_in m f)
    ∙ ap (cond (f == file) (target f)) so_far
    ∙ at_tests (list_any (λ n. f == n) (take i numbers)) (f == file)
    ∙ ap (λ b. cond b (target f) []) (sym (ap (list_any (λ n. f == n)) more ∙ list_any-append (λ n. f == n) (take i numbers) (file ∷ [])))
  where
    at_tests : (a b : Bool) → cond b (target f) (cond a (target f) []) ≡ cond (a || (b || false)) (target f) []
    at_tests true true = refl
    at_tests true false = refl
    at_tests false true = refl
    at_tests false false = refl

-- all files that are there
pub all_files : (files : Files) (pick : Pick) (state : ℕ → FileState) → ((f : ℕ) → get files f ≡ None → IsBlank (state f)) → (numbers : List ℕ)
    → ((f : ℕ) → list_any (λ n. f == n) numbers ≡ is_some (get files f)) → (f : ℕ) → cond (list_any (λ n. f == n) numbers) (image_of pick (state f)) [] ≡ image_of pick (state f)
all_files files pick state blank numbers has f = ap (λ b. cond b (image_of pick (state f)) []) (has f) ∙ at_file (get files f) refl
  where
    at_file : (o : Option (List ℕ)) → get files f ≡ o → cond (is_some o) (image_of pick (state f)) [] ≡ image_of pick (state f)
    at_file (Some v) e = refl
    at_file None e = sym (picked_blank pick (state f) (blank f e))

-- it is an image that a crash at that moment may have left
pub picks_left : (start : Files) (calls : List Call) (clock moment : ℕ) → moment ≤ clock → (pick : Pick) (image : Files) → ((f : ℕ) → bytes_in image f ≡ image_of pick (states start calls moment f))
    → LeftSince start calls clock moment (bytes_in image)
picks_left start calls clock moment le pick image is =
    (moment, omega arith, le, λ f. subst (IsFileImage (states start calls moment f)) (sym (is f)) (picked_is_image pick (states start calls moment f) (states_sound start calls moment f)))

-- a disk on which no call was made
pub rest_left : (start image : Files) (calls : List Call) (clock : ℕ) → start ≡ image → calls ≡ [] → (t : ℕ) (c : Image) → LeftSince start calls clock t c → (f : ℕ) → c f ≡ bytes_in image f
rest_left start image calls clock same none t c left f =
    rest_only (bytes_in start f) (c f) (subst (λ (cs : List Call). IsFileImage (states start cs left.0 f) (c f)) none (left.3 f)) ∙ ap (λ m. bytes_in m f) same
