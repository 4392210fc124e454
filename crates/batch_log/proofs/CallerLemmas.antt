-- What the crates above cite of a log.
use Rattle.std.proofs.Common.{◌≡◌, ℕ, ◌-◌, List, ◌++◌, length, take, drop, arith, ◌∙◌, ap, subst, sym, refl, length-append}
use Rattle.std.specs.Prelude.{Option}
use Rattle.std.proofs.lemmas.List.{take_at, drop_at}
use Rattle.disk_model.specs.Disk.{Image, Quiet}
use Rattle.disk_model.proofs.Moments.{IsSinceEarlier}
use Rattle.batch_log.specs.Records.{payload_in, EndsClosed}
use Rattle.batch_log.specs.OpenLog.{OpenLog, Stands, Knows, Unchanged}

-- what a log's file has, its log knows
pub stands_knows : (contents : Option Image) (left : Image → Type 0) (log : OpenLog) (payloads : List (List ℕ)) → Stands contents left log payloads → Knows log payloads
stands_knows contents left log payloads s = record { end = s.end; places = s.places }

pub unchanged_knows : (old new : OpenLog) (payloads : List (List ℕ)) → Unchanged old new → Knows old payloads → Knows new payloads
unchanged_knows old new payloads u k = record { end = u.end ∙ k.end; places = u.places ∙ k.places }

-- where no payload was added, the log stands for the same ones
pub stands_unchanged : (contents : Option Image) (left : Image → Type 0) (old new : OpenLog) (payloads : List (List ℕ)) → Unchanged old new → Stands contents left old payloads → Stands contents left new payloads
stands_unchanged contents left old new payloads same stands =
    let file = same.file in
    record {
      holds = record {
        image = stands.holds.image;
        told = stands.holds.told;
        reads = subst (λ (f : ℕ). EndsClosed payloads (stands.holds.image f)) (sym file) stands.holds.reads;
        outcomes = λ c now. subst (λ (f : ℕ). EndsClosed payloads (c f)) (sym file) (stands.holds.outcomes c now);
      };
      end = same.end ∙ stands.end;
      places = same.places ∙ stands.places;
    }

-- over calls that change nothing a log stands
pub quiet_stands : {D : Type 0} (time : D → ℕ) (left : D → ℕ → Image → Type 0) (contents : D → Option Image) → IsSinceEarlier time left → (old new : D) → Quiet time left old new → contents new ≡ contents old
    → (log : OpenLog) (payloads : List (List ℕ)) → Stands (contents old) (left old (time old)) log payloads → Stands (contents new) (left new (time new)) log payloads
quiet_stands time left contents earlier old new quiet same log payloads stands =
    let later = quiet.later in
    record {
      holds = record {
        image = stands.holds.image;
        told = same ∙ stands.holds.told;
        reads = stands.holds.reads;
        outcomes = λ c now. stands.holds.outcomes c (quiet.since (time old) c (omega arith) (earlier new (time old) (time new) c later (omega arith) now));
      };
      end = stands.end;
      places = stands.places;
    }

-- the payload of a buffer that was made with room around it
pub payload_between : (room payload gate : List ℕ) → length room ≡ 4 → length gate ≡ 1 → payload_in (room ++ (payload ++ gate)) ≡ payload
payload_between room payload gate four one =
    let size : length (room ++ (payload ++ gate)) - 5 ≡ length payload = omega (arith, length-append room (payload ++ gate), length-append payload gate) in
    ap (λ (n : ℕ). take n (drop 4 (room ++ (payload ++ gate)))) size
    ∙ ap (take (length payload)) (drop_at room (payload ++ gate) 4 four)
    ∙ take_at payload gate (length payload) refl
