-- The files of a disk in memory at each moment, as its record goes on.
use Rattle.std.specs.Prelude.{◌≡◌, ◌⊎◌, ◌&&◌, ℕ, ◌+◌, ◌-◌, ◌^◌, ◌≤◌, ◌<◌, min, List, [], ◌∷◌, ◌++◌, nat_le, if◌then◌else◌, Result, IsErr, refl, Bool, true, false}
use Rattle.std.specs.List.{AllByRecursion}
use Rattle.std.proofs.Common.{arith, subst, sym, ◌∙◌, ap, inl, inr, ⊎_elim, cond}
use Rattle.std.proofs.lemmas.List.Elements.{recursion_from_All}
use Rattle.std.proofs.lemmas.Bool.Decides.{nat_tests}
use Rattle.disk_model.specs.declared.call.Request.{Request}
use Rattle.disk_model.specs.declared.call.Call.{Call}
use Rattle.disk_model.specs.Disk.{Image, Moves}
use Rattle.disk_model.specs.Image.{Files, bytes_in}
use Rattle.disk_model.specs.Crash.{FileState, at_rest, IsImage, IsFileImage}
use Rattle.disk_model.specs.Replay.{after_request, is_done_by, file_after, states, LeftSince, IsNumberedTo}

pub replayed-push : (k f : ℕ) (calls : List Call) (call : Call) (s : FileState)
    → file_after k f (calls ++ call ∷ []) s ≡ (if is_done_by k call then after_request f call.request (file_after k f calls s) else file_after k f calls s)
replayed-push k f [] call s = refl
replayed-push k f (c ∷ calls) call s = replayed-push k f calls call (if is_done_by k c then after_request f c.request s else s)

not_done : (call : Call) (k : ℕ) → call.done ≡ false → is_done_by k call ≡ false
not_done call k e = ap (λ b. b && nat_le call.number k) e

done_then : (call : Call) (k : ℕ) → call.done ≡ true → call.number ≤ k → is_done_by k call ≡ true
done_then call k e le = ap (λ b. b && nat_le call.number k) e ∙ le_true call.number k le
  where
    le_true : (a b : ℕ) → a ≤ b → nat_le a b ≡ true
    le_true a b le = grind (arith, nat_tests)

done_later : (call : Call) (k : ℕ) → k < call.number → is_done_by k call ≡ false
done_later call k lt = ap (λ b. call.done && b) (le_false call.number k lt) ∙ and_false call.done
  where
    le_false : (a b : ℕ) → b < a → nat_le a b ≡ false
    le_false a b lt = grind (arith, nat_tests)

    and_false : (b : Bool) → (b && false) ≡ false
    and_false true = refl
    and_false false = refl

same_by : (n k : ℕ) (call : Call) → call.number ≤ n → n ≤ k → is_done_by k call ≡ is_done_by n call
same_by n k call in_time le = ap (λ b. call.done && b) (both call.number in_time le)
  where
    both : (a : ℕ) → a ≤ n → n ≤ k → nat_le a k ≡ nat_le a n
    both a h l = grind (arith, nat_tests)

past_by_recursion : (n k f : ℕ) (calls : List Call) (s : FileState) → AllByRecursion (λ (call : Call). call.number ≤ n) calls → n ≤ k → file_after k f calls s ≡ file_after n f calls s
past_by_recursion n k f [] s all le = refl
past_by_recursion n k f (c ∷ calls) s all le =
    ap (λ (b : Bool). file_after k f calls (if b then after_request f c.request s else s)) (same_by n k c all.0 le)
    ∙ past_by_recursion n k f calls (if is_done_by n c then after_request f c.request s else s) all.1 le

-- after the last call on record the files stay
pub states_past : (start : Files) (calls : List Call) (n k f : ℕ) → IsNumberedTo n calls → n ≤ k → states start calls k f ≡ states start calls n f
states_past start calls n k f all le = past_by_recursion n k f calls (at_rest (bytes_in start f)) (recursion_from_All (λ (call : Call). call.number ≤ n) calls all) le

-- one more call on record
module _ (start : Files) (calls new : List Call) (call : Call) (is : new ≡ calls ++ call ∷ []) where
  pub states-push : (k f : ℕ) → states start new k f ≡ (if is_done_by k call then after_request f call.request (states start calls k f) else states start calls k f)
  states-push k f = ap (λ (cs : List Call). states start cs k f) is ∙ replayed-push k f calls call (at_rest (bytes_in start f))

  -- which was not done
  pub states_undone : call.done ≡ false → (k f : ℕ) → states start new k f ≡ states start calls k f
  states_undone undone k f = states-push k f ∙ ap (λ (b : Bool). cond b (after_request f call.request (states start calls k f)) (states start calls k f)) (not_done call k undone)

  -- which is later than that moment
  pub states_before : (k f : ℕ) → k < call.number → states start new k f ≡ states start calls k f
  states_before k f lt = states-push k f ∙ ap (λ (b : Bool). cond b (after_request f call.request (states start calls k f)) (states start calls k f)) (done_later call k lt)

  -- which was done
  pub states_done : call.done ≡ true → IsNumberedTo (call.number - 1) calls → (k f : ℕ) → call.number ≤ k → states start new k f ≡ after_request f call.request (states start calls (call.number - 1) f)
  states_done done numbered k f le =
      states-push k f
      ∙ ap (λ (b : Bool). cond b (after_request f call.request (states start calls k f)) (states start calls k f)) (done_then call k done le)
      ∙ ap (after_request f call.request) (states_past start calls (call.number - 1) k f numbered (omega arith))

same_images : (s t : ℕ → FileState) → ((f : ℕ) → s f ≡ t f) → (c : Image) → IsImage s c → IsImage t c
same_images s t same c im = λ f. subst (λ (u : FileState). IsFileImage u (c f)) (same f) (im f)

split : (n e : ℕ) → (n < e) ⊎ (e ≤ n)
split n e = grind arith

-- Crashes.
module _ {T E : Type 0} (Step : Image → Image → Type 0) (start : Files) (calls new : List Call) (clock now : ℕ) (result : Result T E) (in_time : clock ≤ 2 ^ 64 - 1) (ticks : now ≡ min (clock + 1) (2 ^ 64 - 1)) where
  -- a call at the last reading of the clock
  at_end_moves : 2 ^ 64 - 1 ≤ clock → IsErr result → ((k f : ℕ) → states start new k f ≡ states start calls k f) → ((c : Image) → Step c c)
      → Moves Step clock now (LeftSince start calls clock) (LeftSince start new now) result
  at_end_moves end failed same none = record {
    later = omega arith;
    rises = omega arith;
    nothing_else = λ t c le left. inl (back t c left);
    keeps = λ t c le left. let hi = left.2 in (left.0, left.1, omega arith, same_images _ _ (λ f. sym (same left.0 f)) c left.3);
    follows = λ c left. (c, let b = back now c left in (b.0, omega (arith, b.1), b.2, b.3), none c);
    at_end = λ here. (failed, omega arith, back);
  }
    where
      back : (t : ℕ) (c : Image) → LeftSince start new now t c → LeftSince start calls clock t c
      back t c left = let hi = left.2 in (left.0, left.1, omega arith, same_images _ _ (same left.0) c left.3)

  -- a call at an earlier one
  early_moves : clock < 2 ^ 64 - 1 → ((k f : ℕ) → k ≤ clock → states start new k f ≡ states start calls k f)
      → ((c : Image) → IsImage (states start new now) c → (e : Image) × IsImage (states start calls clock) e × Step e c)
      → Moves Step clock now (LeftSince start calls clock) (LeftSince start new now) result
  early_moves early same follow = record {
    later = omega arith;
    rises = omega arith;
    nothing_else = λ t c le left.
        let k = left.0 in
        let lo = left.1 in
        let hi : k ≤ now = left.2 in
        ⊎_elim
        (λ (before : k < now). inl (k, left.1, omega arith, same_images _ _ (λ f. same k f (omega arith)) c left.3))
        (λ (at : now ≤ k). inr (k, at, hi, left.3))
        (split k now);
    keeps = λ t c le left.
        let hi = left.2 in (left.0, left.1, omega arith, same_images _ _ (λ f. sym (same left.0 f hi)) c left.3);
    follows = λ c left.
        let lo = left.1 in
        let hi = left.2 in
        let is : left.0 ≡ now = omega arith in
        let from = follow c (subst (λ (k : ℕ). IsImage (states start new k) c) is left.3) in
        (from.0, (clock, omega arith, omega arith, from.1), from.2);
    at_end = λ end. absurd (omega arith);
  }

  -- a call that changes no file
  pub moves_still : IsNumberedTo clock calls → ((k f : ℕ) → states start new k f ≡ states start calls k f) → ((c : Image) → Step c c) → (2 ^ 64 - 1 ≤ clock → IsErr result)
      → Moves Step clock now (LeftSince start calls clock) (LeftSince start new now) result
  moves_still numbered same none fails = ⊎_elim
      (λ early. early_moves early (λ k f le. same k f) (λ c im. (c, same_images _ _ (λ f. same now f ∙ states_past start calls clock now f numbered (omega arith)) c im, none c)))
      (λ end. at_end_moves end (fails end) same none)
      (split clock (2 ^ 64 - 1))

  -- a call that is done
  pub moves_done : (request : Request) → clock < 2 ^ 64 - 1 → IsNumberedTo clock calls → new ≡ calls ++ record { number = clock + 1; done = true; request = request } ∷ []
      → ((old after : ℕ → FileState) → ((f : ℕ) → old f ≡ states start calls clock f) → ((f : ℕ) → after f ≡ after_request f request (old f)) → (c : Image) → IsImage after c → (e : Image) × IsImage old e × Step e c)
      → Moves Step clock now (LeftSince start calls clock) (LeftSince start new now) result
  moves_done request early numbered is follow =
      let call : Call = record { number = clock + 1; done = true; request = request } in
      let one : (clock + 1) - 1 ≡ clock = omega arith in
      let numbered_one : IsNumberedTo ((clock + 1) - 1) calls = subst (λ n. IsNumberedTo n calls) (sym one) numbered in
      early_moves early (λ k f le. states_before start calls new call is k f (omega arith))
      (follow (states start calls clock) (states start new now) (λ f. refl) (λ f. states_done start calls new call is refl numbered_one now f (omega arith) ∙ ap (λ n. after_request f request (states start calls n f)) one))
