-- What a call that was put on record leaves of a disk in memory.
use Rattle.std.specs.Prelude.{◌≡◌, ◌⊎◌, ◌==◌, ℕ, ◌+◌, ◌-◌, ◌^◌, ◌≤◌, ◌<◌, min, List, [], ◌∷◌, ◌++◌, length, Result, Ok, Err, IsErr, OnOk, OnErr, IfOk, IfErr, Some, refl, Bool, true, false, if◌then◌else◌}
use Rattle.std.specs.FinMap.{insert}
use Rattle.std.proofs.Common.{arith, subst, sym, ◌∙◌, ap, inl, inr, ⊎_elim, cond, eq-eqb}
use Rattle.std.proofs.lemmas.Bool.{cases_eq}
use Rattle.std.proofs.lemmas.List.Sums.{sum_by_push}
use mathlib.Core.Path.{fun_ext}
use Rattle.disk_model.specs.declared.call.Request.{Request}
use Rattle.disk_model.specs.declared.call.Request.TheVariants.{Read, Write, Cut, Sync}
use Rattle.disk_model.specs.declared.call.Call.{Call}
use Rattle.disk_model.specs.Disk.{Image, At, Torn, Cut as CutStep, Stays, Moves, Only, changed_at, written}
use Rattle.disk_model.specs.Image.{Files, bytes_in, cut_in}
use Rattle.disk_model.specs.Crash.{FileState, IsImage, IsFileImage, after_write, after_cut, after_sync}
use Rattle.disk_model.specs.Sound.{IsSound}
use Rattle.disk_model.specs.Replay.{after_request, states, LeftSince, Recorded, IsNumberedTo, IsCurrent, bytes_read_of, count_read}
use Rattle.disk_model.specs.ReplayLaws.{states_sound}
use Rattle.disk_model.proofs.States.{states_undone, moves_still, moves_done}
use Rattle.disk_model.proofs.Current.{current_unchanged, current_write, current_cut, current_sync, current_look, after_done}
use Rattle.disk_model.proofs.Follows.{all_follow, write_follows, cut_follows, sync_follows, rest_only}

-- the request is on record as done; or it isn't
abbrev pub IsDone : ℕ → Request → List Call → List Call → Type 0
IsDone number request old new = new ≡ old ++ record { number = number; done = true; request = request } ∷ []

abbrev pub IsUndone : ℕ → Request → List Call → List Call → Type 0
IsUndone number request old new = (new ≡ old) ⊎ (new ≡ old ++ record { number = number; done = false; request = request } ∷ [])

either : {T E : Type 0} (result : Result T E) (P Q : Type 0) → OnOk result P → OnErr result Q → P ⊎ Q
either (Ok v) P Q p q = inl p
either (Err e) P Q p q = inr q

both_ok : {T E : Type 0} (result : Result T E) (P Q : Type 0) → OnOk result P → OnOk result Q → OnOk result (P × Q)
both_ok (Ok v) P Q p q = (p, q)
both_ok (Err e) P Q p q = tt

-- a request that changes no file
abbrev pub IsLook : Request → Type 0
IsLook request = (f : ℕ) (s : FileState) → after_request f request s ≡ s

module _ (start files : Files) (calls new : List Call) (clock now : ℕ) (current : IsCurrent start files calls clock) (numbered : IsNumberedTo clock calls)
    (in_time : clock ≤ 2 ^ 64 - 1) (ticks : now ≡ min (clock + 1) (2 ^ 64 - 1)) where
  later : clock ≤ now
  later = omega arith

  next : clock < 2 ^ 64 - 1 → now ≡ clock + 1
  next early = omega arith

  pub same_states : (request : Request) → IsUndone (clock + 1) request calls new → (k f : ℕ) → states start new k f ≡ states start calls k f
  same_states request undone k f = ⊎_elim
      (λ same. ap (λ (cs : List Call). states start cs k f) same)
      (λ is. states_undone start calls new record { number = clock + 1; done = false; request = request } is refl k f)
      undone

  -- the files, after a call that failed
  pub current_failed : (request : Request) → IsUndone (clock + 1) request calls new → (after : Files) → after ≡ files → IsCurrent start after new now
  current_failed request undone after same = current_unchanged start files calls new clock now current numbered later (same_states request undone) after same

  pub current_looked : {T E : Type 0} (request : Request) (result : Result T E) → IsLook request → Recorded (clock + 1) request calls new result → OnOk result (clock < 2 ^ 64 - 1)
      → IsCurrent start files new now
  current_looked request result looks recorded early = ⊎_elim
      (λ done. current_look start files calls new clock now current numbered request looks (next done.1) done.0)
      (λ undone. current_failed request undone files refl)
      (either result (IsDone (clock + 1) request calls new × (clock < 2 ^ 64 - 1)) (IsUndone (clock + 1) request calls new) (both_ok result _ _ recorded.ok early) recorded.err)

  pub current_synced : {T E : Type 0} (file : ℕ) (result : Result T E) → Recorded (clock + 1) (Sync file) calls new result → OnOk result (clock < 2 ^ 64 - 1)
      → IsCurrent start files new now
  current_synced file result recorded early = ⊎_elim
      (λ done. current_sync start files calls new clock now current numbered file (next done.1) done.0)
      (λ undone. current_failed (Sync file) undone files refl)
      (either result (IsDone (clock + 1) (Sync file) calls new × (clock < 2 ^ 64 - 1)) (IsUndone (clock + 1) (Sync file) calls new) (both_ok result _ _ recorded.ok early) recorded.err)

  pub current_written : (file at : ℕ) (xs : List ℕ) → clock < 2 ^ 64 - 1 → IsDone (clock + 1) (Write file at xs) calls new
      → (after : Files) → after ≡ insert files file (written at xs (bytes_in files file)) → IsCurrent start after new now
  current_written file at xs early done after is = current_write start files calls new clock now current numbered file at xs (next early) done after is

  pub current_shortened : (file n : ℕ) → clock < 2 ^ 64 - 1 → IsDone (clock + 1) (Cut file n) calls new
      → (after : Files) → after ≡ cut_in files file n → IsCurrent start after new now
  current_shortened file n early done after is = current_cut start files calls new clock now current numbered file n (next early) done after is

  -- crashes in it
  pub failed_moves : {T E : Type 0} (Step : Image → Image → Type 0) (request : Request) (result : Result T E) → ((c : Image) → Step c c) → IsErr result → IsUndone (clock + 1) request calls new
      → Moves Step clock now (LeftSince start calls clock) (LeftSince start new now) result
  failed_moves Step request result none failed undone =
      moves_still Step start calls new clock now result in_time ticks numbered (same_states request undone) none (λ end. failed)

  looks_follow : (request : Request) → IsLook request → (old after : ℕ → FileState) → ((f : ℕ) → after f ≡ after_request f request (old f)) → (c : Image) → IsImage after c → (e : Image) × IsImage old e × Stays e c
  looks_follow request looks old after is c im = (c, (λ f. subst (λ (s : FileState). IsFileImage s (c f)) (is f ∙ looks f (old f)) (im f)), refl)

  pub look_moves : {T E : Type 0} (request : Request) (result : Result T E) → IsLook request → clock < 2 ^ 64 - 1 → IsDone (clock + 1) request calls new
      → Moves Stays clock now (LeftSince start calls clock) (LeftSince start new now) result
  look_moves request result looks early done =
      moves_done Stays start calls new clock now result in_time ticks request early numbered done
      (λ old after same is c im. looks_follow request looks old after is c im)

  pub write_moves : {T E : Type 0} (file at : ℕ) (xs : List ℕ) (result : Result T E) → clock < 2 ^ 64 - 1 → IsDone (clock + 1) (Write file at xs) calls new
      → Moves (At file (Torn at (length xs))) clock now (LeftSince start calls clock) (LeftSince start new now) result
  write_moves file at xs result early done =
      moves_done (At file (Torn at (length xs))) start calls new clock now result in_time ticks (Write file at xs) early numbered done
      (λ old after same is c im. all_follow file (after_write at xs) old after is (Torn at (length xs))
      (λ b here. write_follows at xs (old file) (subst IsSound (sym (same file)) (states_sound start calls clock file)) b here) c im)

  pub cut_moves : {T E : Type 0} (file n : ℕ) (result : Result T E) → clock < 2 ^ 64 - 1 → IsDone (clock + 1) (Cut file n) calls new
      → Moves (At file (CutStep n)) clock now (LeftSince start calls clock) (LeftSince start new now) result
  cut_moves file n result early done =
      moves_done (At file (CutStep n)) start calls new clock now result in_time ticks (Cut file n) early numbered done
      (λ old after same is c im. all_follow file (after_cut n) old after is (CutStep n)
      (λ b here. cut_follows n (old file) (subst IsSound (sym (same file)) (states_sound start calls clock file)) b here) c im)

  same_stays : (file : ℕ) (e c : Image) → At file (λ a b. a ≡ b) e c → Stays e c
  same_stays file e c step = fun_ext (λ f. elim (cases_eq f file) [
    | inl same ↦ ap e same ∙ step.here ∙ ap c (sym same)
    | inr apart ↦ sym (step.others f apart)
  ])

  pub sync_moves : {T E : Type 0} (file : ℕ) (result : Result T E) → clock < 2 ^ 64 - 1 → IsDone (clock + 1) (Sync file) calls new
      → Moves Stays clock now (LeftSince start calls clock) (LeftSince start new now) result
  sync_moves file result early done =
      moves_done Stays start calls new clock now result in_time ticks (Sync file) early numbered done
      (λ old after same is c im.
      let from = all_follow file after_sync old after is (λ a b. a ≡ b)
      (λ b here. sync_follows (old file) (subst IsSound (sym (same file)) (states_sound start calls clock file)) b here) c im in
      (from.0, from.1, same_stays file from.0 c from.2))

  -- what a sync leaves of its file
  pub sync_durable : (file : ℕ) → clock < 2 ^ 64 - 1 → IsDone (clock + 1) (Sync file) calls new → (bytes : List ℕ) → bytes ≡ bytes_in files file → Only file bytes (LeftSince start new now now)
  sync_durable file early done bytes same c left =
      let lo = left.1 in
      let hi = left.2 in
      let at_now : left.0 ≡ now = omega arith in
      let im : IsFileImage (states start new now file) (c file) = subst (λ (k : ℕ). IsFileImage (states start new k file) (c file)) at_now (left.3 file) in
      let synced : states start new now file ≡ after_sync (states start calls clock file) =
      after_done start files calls new clock now current numbered (Sync file) (next early) done file
      ∙ ap (λ b. cond b (after_sync (states start calls clock file)) (states start calls clock file)) (eq-eqb file file refl) in
      rest_only (states start calls clock file).reads (c file) (subst (λ (s : FileState). IsFileImage s (c file)) synced im)
      ∙ sym (current.reads file)
      ∙ sym same

-- Bytes read.

read_pushed : (calls new : List Call) (call : Call) → new ≡ calls ++ call ∷ [] → (f : ℕ) → bytes_read_of new f ≡ bytes_read_of calls f + (if call.done then count_read f call.request else 0)
read_pushed calls new call is f = ap (λ (cs : List Call). bytes_read_of cs f) is ∙ sum_by_push (λ (c : Call). if c.done then count_read f c.request else 0) calls call

pub read_undone : (number : ℕ) (request : Request) (calls new : List Call) → IsUndone number request calls new → bytes_read_of new ≡ bytes_read_of calls
read_undone number request calls new undone = ⊎_elim
    (λ same. ap bytes_read_of same)
    (λ is. fun_ext (λ f. read_pushed calls new record { number = number; done = false; request = request } is f ∙ none (bytes_read_of calls f)))
    undone
  where
    none : (n : ℕ) → n + 0 ≡ n
    none n = omega arith

-- a request that reads no bytes
pub read_none : (number : ℕ) (request : Request) → ((f : ℕ) → count_read f request ≡ 0) → (calls new : List Call) → IsDone number request calls new → bytes_read_of new ≡ bytes_read_of calls
read_none number request reads calls new is = fun_ext (λ f.
    read_pushed calls new record { number = number; done = true; request = request } is f ∙ none (bytes_read_of calls f) (count_read f request) (reads f))
  where
    none : (n m : ℕ) → m ≡ 0 → n + m ≡ n
    none n m e = omega arith

pub read_entered : {T E : Type 0} (number : ℕ) (request : Request) (result : Result T E) → ((f : ℕ) → count_read f request ≡ 0) → (calls new : List Call) → Recorded number request calls new result → bytes_read_of new ≡ bytes_read_of calls
read_entered number request result reads calls new recorded = ⊎_elim
    (read_none number request reads calls new)
    (read_undone number request calls new)
    (either result (IsDone number request calls new) (IsUndone number request calls new) recorded.ok recorded.err)

pub read_done : (number file at count : ℕ) (calls new : List Call) → IsDone number (Read file at count) calls new → bytes_read_of new ≡ changed_at file (λ r. r + count) (bytes_read_of calls)
read_done number file at count calls new is = fun_ext (λ f.
    read_pushed calls new record { number = number; done = true; request = Read file at count } is f ∙ at_bool (f == file) (bytes_read_of calls f))
  where
    at_bool : (b : Bool) (n : ℕ) → n + cond b count 0 ≡ cond b (n + count) n
    at_bool true n = refl
    at_bool false n = omega arith

-- a sync, whatever it answers
module _ (start files : Files) (calls new : List Call) (clock now : ℕ) (current : IsCurrent start files calls clock) (numbered : IsNumberedTo clock calls)
    (in_time : clock ≤ 2 ^ 64 - 1) (ticks : now ≡ min (clock + 1) (2 ^ 64 - 1)) {T E : Type 0} (file : ℕ) where
  pub sync_made : (result : Result T E) → Recorded (clock + 1) (Sync file) calls new result → OnOk result (clock < 2 ^ 64 - 1) → (2 ^ 64 - 1 ≤ clock → IsErr result)
      → Moves Stays clock now (LeftSince start calls clock) (LeftSince start new now) result
  sync_made result recorded early at_end = ⊎_elim
      (λ done. sync_moves start files calls new clock now current numbered in_time ticks file result done.1 done.0)
      (λ undone. moves_still Stays start calls new clock now result in_time ticks numbered (same_states start files calls new clock now current numbered in_time ticks (Sync file) undone) (λ c. refl) at_end)
      (either result (IsDone (clock + 1) (Sync file) calls new × (clock < 2 ^ 64 - 1)) (IsUndone (clock + 1) (Sync file) calls new) (both_ok result _ _ recorded.ok early) recorded.err)

  pub sync_done : (result : Result T E) → Recorded (clock + 1) (Sync file) calls new result → OnOk result (clock < 2 ^ 64 - 1)
      → (m : Image) → Some (bytes_in files) ≡ Some m → OnOk result (Only file (m file) (LeftSince start new now now))
  sync_done (Ok v) recorded early m told =
      let same : bytes_in files ≡ m = cc in
      sync_durable start files calls new clock now current numbered in_time ticks file early recorded.ok (m file) (ap (λ (i : Image). i file) (sym same))
  sync_done (Err e) recorded early m told = tt

-- a request for which memory was asked first
pub recorded_request : {T E F : Type 0} (request : Request) (made : Result Request F) (number : ℕ) (calls new : List Call) (result : Result T E) → IfOk made (λ r. r ≡ request)
    → IfOk made (λ r. Recorded number r calls new result) → IfErr made (λ e. IsErr result × (new ≡ calls)) → Recorded number request calls new result
recorded_request request (Ok r) number calls new result is recorded none = subst (λ (r : Request). Recorded number r calls new result) is recorded
recorded_request request (Err e) number calls new (Ok v) is recorded none = absurd (cc (none.0))
recorded_request request (Err e) number calls new (Err f) is recorded none = record { ok = tt; err = inl none.1 }

pub if_err : {T E : Type 0} (result : Result T E) (P : Type 0) → P → OnErr result P
if_err (Ok v) P p = tt
if_err (Err e) P p = p
