-- The device calls of an opening.
use Rattle.std.proofs.Common.{◌≡◌, ℕ, ◌-◌, ◌≤◌, List, [], ◌∷◌, ◌++◌, length, drop, refl, sym, ◌∙◌, ap, subst, cond, arith}
use Rattle.std.specs.Prelude.{Option, Some, Result, Ok, nat_le, true, replicate}
use Rattle.std.proofs.lemmas.Bool.Decides.{nat_tests}
use Rattle.std.proofs.lemmas.List.{drop_all}
use Rattle.disk_model.specs.Disk.{Image, At, Torn, Stays, Moves, Quiet, Only, written}
use Rattle.disk_model.proofs.Moments.{IsSinceEarlier, SoFar, so_far_begins, so_far_steps, so_far_stays, so_far_durable}
use Rattle.batch_log.specs.OpenLog.{OpenLog, Stands}
use Rattle.batch_log.specs.Opening.{IsWholly}
use Rattle.batch_log.proofs.RecordLaws.{log_closed}
use Rattle.batch_log.specs.declared.places.Place.{Place}
use Rattle.batch_log.specs.Records.{EndsClosed, HoldsLog, log, payloads_from, SameLog}

le_true : (a b : ℕ) → a ≤ b → nat_le a b ≡ true
le_true a b h = grind (arith, nat_tests)

pub tiny_log : (bytes : List ℕ) → length bytes ≤ 1 → log bytes ≡ Ok []
tiny_log bytes h = ap (λ b. cond b (Ok []) (payloads_from 0 0 bytes)) (le_true (length bytes) 1 h)

none : (n : ℕ) → 0 - n ≡ 0
none n = omega arith

-- the one byte that a new log is
pub one_gate : (bytes : List ℕ) → length bytes ≤ 1 → written 0 (0 ∷ []) bytes ≡ 0 ∷ []
one_gate bytes h = ap (λ (k : ℕ). replicate k 0 ++ 0 ∷ [] ++ drop 1 bytes) (none (length bytes)) ∙ ap (λ (l : List ℕ). 0 ∷ l) (drop_all 1 bytes h)

new_log : (bytes : List ℕ) → length bytes ≤ 1 → EndsClosed [] (written 0 (0 ∷ []) bytes)
new_log bytes h = record { fit = tt; gate = 0; rest = []; closed = omega arith; is = one_gate bytes h }

module _ {D : Type 0} (time : D → ℕ) (left : D → ℕ → Image → Type 0) (file : ℕ) (old : D) (m : Image) where
  abbrev pub Begun : List ℕ → List ℕ → Type 0
  Begun o b = o ≡ b

  abbrev pub Held : List ℕ → List ℕ → Type 0
  Held o b = (o ≡ b) × (b ≡ m file)

  abbrev pub Tiny : List ℕ → List ℕ → Type 0
  Tiny o b = (length o ≤ 1) × (length b ≤ 1)

  abbrev pub Run : (List ℕ → List ℕ → Type 0) → D → Type 0
  Run Now d = SoFar (time old) (left old) file SameLog Now (time d) (left d)

  pub first : {T E : Type 0} (new : D) (r : Result T E) → Moves Stays (time old) (time new) (left old) (left new) r → Run Begun new
  first new r moved = so_far_stays (time old) (left old) file SameLog Begun (time old) (time new) (left old) (left new) r
      (so_far_begins (time old) (left old) file SameLog Begun (λ c here. refl)) moved (λ o b e. ap log (sym e))

  pub held : (d : D) → Run Begun d → Only file (m file) (left d (time d)) → Run Held d
  held d s only = so_far_durable (time old) (left old) file SameLog Begun (m file) (time d) (left d) s only

  pub looked : {T E : Type 0} (mid new : D) (r : Result T E) → Run Held mid → Moves Stays (time mid) (time new) (left mid) (left new) r → Run Held new
  looked mid new r s moved = so_far_stays (time old) (left old) file SameLog Held (time mid) (time new) (left mid) (left new) r s moved (λ o b e. ap log (sym e.0))

  pub wrote : {T E : Type 0} (mid new : D) (r : Result T E) → length (m file) ≤ 1 → Run Held mid → Moves (At file (Torn 0 1)) (time mid) (time new) (left mid) (left new) r → Run Tiny new
  wrote mid new r small s moved = so_far_steps (time old) (left old) file SameLog Held Tiny (Torn 0 1) (time mid) (time new) (left mid) (left new) r s moved
      (λ o a b e torn.
      let long : length a ≡ length (m file) = ap length e.1 in
      let same : length o ≡ length a = ap length e.0 in
      let upper = torn.no_longer in
      (omega arith, omega arith))
      (λ o b e. tiny_log b e.1 ∙ sym (tiny_log o e.0))

  pub synced : {T E : Type 0} (mid new : D) (r : Result T E) → Run Tiny mid → Moves Stays (time mid) (time new) (left mid) (left new) r → Run Tiny new
  synced mid new r s moved = so_far_stays (time old) (left old) file SameLog Tiny (time mid) (time new) (left mid) (left new) r s moved (λ o b e. tiny_log b e.1 ∙ sym (tiny_log o e.0))

  pub made : (contents : Option Image) (new : D) (image : Image) → length (m file) ≤ 1 → contents ≡ Some image → image file ≡ written 0 (0 ∷ []) (m file) → Only file (image file) (left new (time new)) → HoldsLog contents (left new (time new)) file []
  made contents new image small told is only =
      let closed = subst (EndsClosed []) (sym is) (new_log (m file) small) in
      record { image = image; told = told; reads = closed; outcomes = λ c here. subst (EndsClosed []) (sym (only c here)) closed }

  -- what is there after the length was asked of a file that stays
  pub stayed : (new : D) → Run Held new → Only file (m file) (left new (time new))
  stayed new s c here = let o = s.present c here in o.2.here.1

module _ {D : Type 0} (time : D → ℕ) (left : D → ℕ → Image → Type 0) (contents : D → Option Image) (file : ℕ) (m : Image) (opened : OpenLog) (is_file : opened.file ≡ file) where
  abbrev pub IsOpened : D → Type 0
  IsOpened d = (x : List (List ℕ)) × (log (m file) ≡ Ok x) × Stands (contents d) (left d (time d)) opened x

  -- an empty log
  pub opened_tiny : (last d : D) → d ≡ last → length (m file) ≤ 1 → HoldsLog (contents last) (left last (time last)) file [] → opened.end ≡ 0 → opened.places ≡ [] → IsOpened d
  opened_tiny last d is small holds end none =
      subst IsOpened (sym is) (
        [],
        tiny_log (m file) small,
        record {
          holds = subst (λ (f : ℕ). HoldsLog (contents last) (left last (time last)) f []) (sym is_file) holds;
          end = end;
          places = none;
        },
      )

  -- a log whose gates were read
  pub opened_long : IsSinceEarlier time left → (mid last d : D) → d ≡ last → contents last ≡ Some m → Only file (m file) (left mid (time mid)) → Quiet time left mid last
      → (seen : List Place) (end : ℕ) → IsWholly (m file) seen end → opened.end ≡ end → opened.places ≡ seen → IsOpened d
  opened_long earlier mid last d is told only quiet seen end w ends listed =
      subst IsOpened (sym is) (
        w.payloads,
        log_closed w.payloads (m file) w.closed,
        record {
          holds = subst (λ (f : ℕ). HoldsLog (contents last) (left last (time last)) f w.payloads) (sym is_file) record {
            image = m;
            told = told;
            reads = w.closed;
            outcomes = λ c now. subst (EndsClosed w.payloads) (sym (only c (quiet.since (time mid) c (omega arith) (earlier last (time mid) (time last) c quiet.later (omega arith) now)))) w.closed;
          };
          end = ends ∙ w.end;
          places = listed ∙ w.places;
        },
      )
