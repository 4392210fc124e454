-- What a crash in an opening leaves.
use Rattle.std.proofs.Common.{◌≡◌, ⊎_elim, ℕ, [], Option, Some, refl, sym, ◌∙◌, le_refl}
use Rattle.disk_model.specs.Disk.{Image, Leaves}
use Rattle.disk_model.proofs.Moments.{IsSinceEarlier}
use Rattle.base_types.specs.declared.program.Rules.{Rules}
use Rattle.chainstates.specs.Opening.{SameLogs}
use Rattle.store_state.specs.State.{StoreState, state_of}
use Rattle.store_state.specs.Settled.{Settled}
use Rattle.machine.specs.declared.report.Opened.TheVariants.{Not}
use Rattle.machine.specs.Calls.{FailsToOpen, IsOpening}
use Rattle.machine.specs.Tips.{StaysSettled, OfEach, AsAtEntry}

-- images with the same logs stand for the same
pub same_state : (limit : ℕ) (given : Rules) (old new : Image) → SameLogs old new → state_of limit given new ≡ state_of limit given old
same_state limit given old new same = rw (same.headers, same.bodies, same.coins) refl

module _ {D : Type 0} (time : D → ℕ) (left : D → ℕ → Image → Type 0) (contents : D → Option Image) (earlier : IsSinceEarlier time left)
    (reads_as : (disk : D) (m : Image) → contents disk ≡ Some m → left disk (time disk) m) (limit : ℕ) (given : Rules) (old new : D) (leaves : Leaves time left SameLogs old new) where
  -- each image is as one at entry
  as_at_entry : (c : Image) → left new (time old) c → (e : Image) × left old (time old) e × (state_of limit given c ≡ state_of limit given e)
  as_at_entry c l = ⊎_elim (λ was. (c, was, refl)) (λ o. (o.0, o.1, same_state limit given o.0 c o.2)) (leaves.since (time old) c (le_refl _) l)

  settled_as : (e c : Image) → state_of limit given c ≡ state_of limit given e → Settled limit given e → Settled limit given c
  settled_as e c same s = record { state = s.state; stands_for = same ∙ s.stands_for; settled = s.settled }

  stays_settled : StaysSettled limit given (left old (time old)) (left new) (time old)
  stays_settled settled c l = let e = as_at_entry c l in settled_as e.0 c e.2 (settled e.0 e.1)

  at_entry : OfEach limit given (left new) (time old) (time new) (λ t store. AsAtEntry limit given (left old (time old)) Not t store)
  at_entry t c store low high l is =
      let e = as_at_entry c (earlier new (time old) t c low high l) in
      record { early = tt; image = e.0; at_entry = e.1; was = store; stands_for = sym e.2 ∙ is; stored = refl }

  pub opening_fails : FailsToOpen limit given (left old) (left new) (time old) (time new)
  opening_fails = record { later = leaves.later; settled = stays_settled; leaves = λ settled. at_entry }

  pub opening_opens : (before after : Image) (store : StoreState) → contents old ≡ Some before → contents new ≡ Some after → state_of limit given before ≡ Some store
      → IsOpening limit given (left old) (left new) (record { entered = time old; ended = time new; contents = before; after = after; flushes = []; events = [] }) store store
  opening_opens before after store was told is = record {
    disk = record { later = leaves.later; reads = reads_as old before was; reads_after = reads_as new after told; earlier = λ t u c h k l. earlier new t u c h k l };
    stands_for = is;
    settled = stays_settled;
    leaves = λ settled. at_entry;
    same = refl;
  }
