-- The files of a disk in memory stay those of its record.
use Rattle.std.specs.Prelude.{◌≡◌, ◌==◌, ℕ, ◌+◌, ◌-◌, ◌≤◌, List, [], ◌∷◌, ◌++◌, take, length, Option, Some, None, unwrap_or, option_map, refl, Bool, true, false}
use Rattle.std.specs.FinMap.{get, insert, get-insert}
use Rattle.std.specs.Ordering.{nat_cmp, eq_by_cmp}
use Rattle.std.specs.Cmp.{nat_cmp_total}
use Rattle.std.proofs.Common.{arith, subst, sym, ◌∙◌, ap, cond, inl, inr, eq-eqb}
use Rattle.std.proofs.lemmas.Bool.{cases_eq, ne_eqb}
use Rattle.std.proofs.lemmas.List.{take_all}
use mathlib.Core.Path.{fun_ext}
use Rattle.disk_model.specs.declared.call.Request.{Request}
use Rattle.disk_model.specs.declared.call.Request.TheVariants.{Write, Cut, Sync}
use Rattle.disk_model.specs.declared.call.Call.{Call}
use Rattle.disk_model.specs.Disk.{changed_at, written}
use Rattle.disk_model.specs.Image.{Files, bytes_in, cut_in}
use Rattle.disk_model.specs.Crash.{FileState, after_write, after_cut, after_sync}
use Rattle.disk_model.specs.Replay.{after_request, is_done_by, states, IsNumberedTo, IsCurrent, IsBlank}
use Rattle.disk_model.proofs.Lookups.{bytes_in-changed, key_test}
use Rattle.disk_model.proofs.States.{states_past, states-push, states_done}

take_none : (n : ℕ) (bytes : List ℕ) → bytes ≡ [] → take n bytes ≡ bytes
take_none n bytes is = ap (take n) is ∙ take_all n [] (omega arith) ∙ sym is

-- a file that a map lacks after a value was put
insert_lacks : (m : Files) (k : ℕ) (v : List ℕ) (f : ℕ) → get (insert m k v) f ≡ None → ((f == k) ≡ false) × (get m f ≡ None)
insert_lacks m k v f none = at_test (eq_by_cmp nat_cmp f k) (key_test f k) (sym (get-insert nat_cmp_total m k v f) ∙ none)
  where
    at_test : (b : Bool) → b ≡ (f == k) → cond b (Some v) (get m f) ≡ None → ((f == k) ≡ false) × (get m f ≡ None)
    at_test true e none = absurd (cc)
    at_test false e none = (sym e, none)

cut_lacks : (m : Files) (k n : ℕ) (f : ℕ) → get (cut_in m k n) f ≡ None → get m f ≡ None
cut_lacks m k n f = at_file (get m k)
  where
    at_file : (o : Option (List ℕ)) → get (unwrap_or (option_map (λ bytes. insert m k (take n bytes)) o) m) f ≡ None → get m f ≡ None
    at_file None none = none
    at_file (Some bytes) none = (insert_lacks m k (take n bytes) f none).1

-- a file that isn't there has nothing to cut
absent_cut : (m : Files) (k n : ℕ) → get m k ≡ None → (f : ℕ) → changed_at k (take n) (bytes_in m) f ≡ bytes_in m f
absent_cut m k n is f = elim (cases_eq f k) [
  | inl same ↦ ap (λ b. cond b (take n (bytes_in m f)) (bytes_in m f)) (eq-eqb f k same) ∙ take_none n (bytes_in m f) (ap (bytes_in m) same ∙ ap (λ o. unwrap_or o []) is)
  | inr apart ↦ ap (λ b. cond b (take n (bytes_in m f)) (bytes_in m f)) (ne_eqb f k apart)
]

pub bytes_in-cut : (m : Files) (k n : ℕ) → bytes_in (cut_in m k n) ≡ changed_at k (take n) (bytes_in m)
bytes_in-cut m k n = at_file (get m k) refl
  where
    at_file : (o : Option (List ℕ)) → get m k ≡ o → bytes_in (unwrap_or (option_map (λ bytes. insert m k (take n bytes)) o) m) ≡ changed_at k (take n) (bytes_in m)
    at_file (Some bytes) is = ap (λ b. bytes_in (insert m k (take n b))) (sym (ap (λ o. unwrap_or o []) is)) ∙ bytes_in-changed m k (take n)
    at_file None is = sym (fun_ext (absent_cut m k n is))

-- what a file reads as where one of them changes
reads_changed : (file f : ℕ) (change : FileState → FileState) (edit : List ℕ → List ℕ) (s : FileState) → ((t : FileState) → (change t).reads ≡ edit t.reads)
    → (cond (f == file) (change s) s).reads ≡ cond (f == file) (edit s.reads) s.reads
reads_changed file f change edit s same = at_bool (f == file)
  where
    at_bool : (b : Bool) → (cond b (change s) s).reads ≡ cond b (edit s.reads) s.reads
    at_bool true = same s
    at_bool false = refl

if_blank : (here : Bool) (t s : FileState) → IsBlank t → IsBlank s → IsBlank (cond here t s)
if_blank true t s a b = a
if_blank false t s a b = b

cut_blank : (n : ℕ) (s : FileState) → IsBlank s → IsBlank (after_cut n s)
cut_blank n s blank =
    let least = blank.least in
    record { reads = take_none n s.reads blank.reads ∙ blank.reads; durable = blank.durable; least = omega arith; most = blank.most }

sync_blank : (s : FileState) → IsBlank s → IsBlank (after_sync s)
sync_blank s blank = record { reads = blank.reads; durable = blank.reads; least = ap length blank.reads; most = ap length blank.reads }

module _ (start files : Files) (calls new : List Call) (clock now : ℕ) (current : IsCurrent start files calls clock) (numbered : IsNumberedTo clock calls) where
  -- a call that was not done
  pub current_unchanged : clock ≤ now → ((k f : ℕ) → states start new k f ≡ states start calls k f) → (after : Files) → after ≡ files → IsCurrent start after new now
  current_unchanged le same after stay = subst (λ (m : Files). IsCurrent start m new now) (sym stay) record {
    reads = λ f. current.reads f ∙ sym (ap (λ (s : FileState). s.reads) (same now f ∙ states_past start calls clock now f numbered le));
    blank = λ k f none. subst IsBlank (sym (same k f)) (current.blank k f none);
  }

  -- a call that was done
  module _ (request : Request) (ticks : now ≡ clock + 1) (is : new ≡ calls ++ record { number = clock + 1; done = true; request = request } ∷ []) where
    pub after_done : (f : ℕ) → states start new now f ≡ after_request f request (states start calls clock f)
    after_done f =
        let call : Call = record { number = clock + 1; done = true; request = request } in
        let one : (clock + 1) - 1 ≡ clock = omega arith in
        states_done start calls new call is refl (subst (λ n. IsNumberedTo n calls) (sym one) numbered) now f (omega arith)
        ∙ ap (λ n. after_request f request (states start calls n f)) one

    current_done : (after : Files) → ((f : ℕ) → bytes_in after f ≡ (after_request f request (states start calls clock f)).reads)
        → ((f : ℕ) → get after f ≡ None → (get files f ≡ None) × ((s : FileState) → IsBlank s → IsBlank (after_request f request s)))
        → IsCurrent start after new now
    current_done after reads lacks = record {
      reads = λ f. reads f ∙ sym (ap (λ (s : FileState). s.reads) (after_done f));
      blank = λ k f none.
          let call : Call = record { number = clock + 1; done = true; request = request } in
          let was = lacks f none in
          let old = current.blank k f was.0 in
          subst IsBlank (sym (states-push start calls new call is k f)) (if_blank (is_done_by k call) (after_request f request (states start calls k f)) (states start calls k f) (was.1 (states start calls k f) old) old);
    }

  pub current_write : (file at : ℕ) (xs : List ℕ) → now ≡ clock + 1 → new ≡ calls ++ record { number = clock + 1; done = true; request = Write file at xs } ∷ []
      → (after : Files) → after ≡ insert files file (written at xs (bytes_in files file)) → IsCurrent start after new now
  current_write file at xs ticks is after put = subst (λ (m : Files). IsCurrent start m new now) (sym put) (current_done (Write file at xs) ticks is _
      (λ f.
      ap (λ (m : ℕ → List ℕ). m f) (bytes_in-changed files file (written at xs))
      ∙ ap (λ b. cond (f == file) (written at xs b) b) (current.reads f)
      ∙ sym (reads_changed file f (after_write at xs) (written at xs) (states start calls clock f) (λ t. refl)))
      (λ f none.
      let lacks = insert_lacks files file (written at xs (bytes_in files file)) f none in
      (lacks.1, λ s blank. subst IsBlank (sym (ap (λ b. cond b (after_write at xs s) s) lacks.0)) blank)))

  pub current_cut : (file n : ℕ) → now ≡ clock + 1 → new ≡ calls ++ record { number = clock + 1; done = true; request = Cut file n } ∷ []
      → (after : Files) → after ≡ cut_in files file n → IsCurrent start after new now
  current_cut file n ticks is after cut = subst (λ (m : Files). IsCurrent start m new now) (sym cut) (current_done (Cut file n) ticks is _
      (λ f.
      ap (λ (m : ℕ → List ℕ). m f) (bytes_in-cut files file n)
      ∙ ap (λ b. cond (f == file) (take n b) b) (current.reads f)
      ∙ sym (reads_changed file f (after_cut n) (take n) (states start calls clock f) (λ t. refl)))
      (λ f none. (cut_lacks files file n f none, λ s blank. if_blank (f == file) (after_cut n s) s (cut_blank n s blank) blank)))

  pub current_sync : (file : ℕ) → now ≡ clock + 1 → new ≡ calls ++ record { number = clock + 1; done = true; request = Sync file } ∷ []
      → IsCurrent start files new now
  current_sync file ticks is = current_done (Sync file) ticks is files
      (λ f. current.reads f ∙ sym (reads_changed file f after_sync (λ b. b) (states start calls clock f) (λ t. refl) ∙ at_bool (f == file) (states start calls clock f).reads))
      (λ f none. (none, λ s blank. if_blank (f == file) (after_sync s) s (sync_blank s blank) blank))
    where
      at_bool : (b : Bool) (bytes : List ℕ) → cond b bytes bytes ≡ bytes
      at_bool true bytes = refl
      at_bool false bytes = refl

  -- a call that looks only
  pub current_look : (request : Request) → ((f : ℕ) (s : FileState) → after_request f request s ≡ s) → now ≡ clock + 1 → new ≡ calls ++ record { number = clock + 1; done = true; request = request } ∷ []
      → IsCurrent start files new now
  current_look request looks ticks is = current_done request ticks is files
      (λ f. current.reads f ∙ sym (ap (λ (s : FileState). s.reads) (looks f (states start calls clock f))))
      (λ f none. (none, λ s blank. subst IsBlank (sym (looks f s)) blank))
