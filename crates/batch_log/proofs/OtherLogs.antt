-- A log stands as before where only another file was changed.
use Rattle.std.specs.Prelude.{◌≡◌, ◌≢◌, ℕ, List, Option, Some, None, refl}
use Rattle.std.proofs.Common.{subst, sym, ap, ◌∙◌}
use Rattle.disk_model.specs.Disk.{Image, At, Leaves, OthersKept}
use Rattle.disk_model.proofs.Moments.{IsSinceEarlier, elsewhere}
use Rattle.batch_log.specs.Records.{EndsClosed, HoldsLog}
use Rattle.batch_log.specs.OpenLog.{OpenLog, Stands}

told_else : (file other : ℕ) (old new : Option Image) (m : Image) → OthersKept file old new → other ≢ file → old ≡ Some m → (n : Image) × (new ≡ Some n) × (n other ≡ m other)
told_else file other None None m kept apart is = absurd (cc)
told_else file other None (Some n) m kept apart is = absurd kept
told_else file other (Some l) None m kept apart is = absurd kept
told_else file other (Some l) (Some n) m kept apart is =
    let same : l ≡ m = cc in
    (n, refl, kept other apart ∙ ap (λ (i : Image). i other) same)

module _ {D : Type 0} (time : D → ℕ) (left : D → ℕ → Image → Type 0) (contents : D → Option Image) (earlier : IsSinceEarlier time left)
    (file : ℕ) (Step : List ℕ → List ℕ → Type 0) (old new : D) (l : Leaves time left (At file Step) old new) (kept : OthersKept file (contents old) (contents new)) where
  pub other_holds : (other : ℕ) → other ≢ file → (payloads : List (List ℕ)) → HoldsLog (contents old) (left old (time old)) other payloads
      → HoldsLog (contents new) (left new (time new)) other payloads
  other_holds other apart payloads h =
      let t = told_else file other (contents old) (contents new) h.image kept apart h.told in
      record {
        image = t.0;
        told = t.1;
        reads = subst (EndsClosed payloads) (sym t.2) h.reads;
        outcomes = λ c now. let e = elsewhere time left earlier file Step old new l other apart c now in subst (EndsClosed payloads) (sym e.2) (h.outcomes e.0 e.1);
      }

  pub other_stands : (log : OpenLog) → log.file ≢ file → (payloads : List (List ℕ)) → Stands (contents old) (left old (time old)) log payloads
      → Stands (contents new) (left new (time new)) log payloads
  other_stands log apart payloads s = record { holds = other_holds log.file apart payloads s.holds; end = s.end; places = s.places }
