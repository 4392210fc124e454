-- A log, and a store, stand as before where a call changed nothing.
use Rattle.std.specs.Prelude.{◌≡◌, ◌⊎◌, ℕ, List, map, Option, Some, None, refl}
use Rattle.std.proofs.Common.{subst, sym, ap, ◌∙◌, inl, inr, ⊎_elim}
use Rattle.disk_model.specs.Disk.{Image, BothTold, Leaves, Quiet}
use Rattle.disk_model.proofs.Moments.{IsSinceEarlier, leaves_now}
use Rattle.base_types.specs.declared.hash.Hash32.{Hash32}
use Rattle.batch_log.specs.Records.{EndsClosed}
use Rattle.batch_log.specs.OpenLog.{OpenLog, Stands}
pub use Rattle.batch_log.proofs.CallerLemmas.{quiet_stands}
use Rattle.batch_log.proofs.CallerLemmas.{stands_unchanged}
use Rattle.block_store.specs.OpenStore.{OpenStore, Payloads, Holds, SameStore}

pub holds_same : (contents : Option Image) (left : Image → Type 0) (old new : OpenStore) (payloads : Payloads) → SameStore old new
    → Holds contents left old payloads → Holds contents left new payloads
holds_same contents left old new payloads same h = record {
  header_file = same.headers.file ∙ h.header_file;
  body_file = same.bodies.file ∙ h.body_file;
  headers = stands_unchanged contents left old.headers new.headers payloads.headers same.headers h.headers;
  bodies = stands_unchanged contents left old.bodies new.bodies payloads.bodies same.bodies h.bodies;
  lengths = h.lengths;
  hashes = h.hashes ∙ ap (λ (hashes : List Hash32). map (λ (h : Hash32). Some h) hashes) (sym same.hashes);
}

module _ {D : Type 0} (time : D → ℕ) (left : D → ℕ → Image → Type 0) (contents : D → Option Image) (earlier : IsSinceEarlier time left)
    (old new : D) (quiet : Quiet time left old new) (same : contents new ≡ contents old) where
  -- over calls that change nothing a store holds what it held
  pub quiet_holds : (store : OpenStore) (payloads : Payloads) → Holds (contents old) (left old (time old)) store payloads
      → Holds (contents new) (left new (time new)) store payloads
  quiet_holds store payloads h = record {
    header_file = h.header_file;
    body_file = h.body_file;
    headers = quiet_stands time left contents earlier old new quiet same store.headers payloads.headers h.headers;
    bodies = quiet_stands time left contents earlier old new quiet same store.bodies payloads.bodies h.bodies;
    lengths = h.lengths;
    hashes = h.hashes;
  }

told_both : (Related : Image → Image → Type 0) (old new : Option Image) (m : Image) → BothTold Related old new → old ≡ Some m → (n : Image) × (new ≡ Some n) × Related m n
told_both Related None None m both is = absurd (cc)
told_both Related None (Some n) m both is = absurd both
told_both Related (Some l) None m both is = absurd both
told_both Related (Some l) (Some n) m both is =
    let same : l ≡ m = cc in
    (n, refl, subst (λ (i : Image). Related i n) same both)

-- the image after a step has the same bytes in the two files of the store
pub record KeepsStore (old new : Image) : Type 0 where
  pub headers : new 1 ≡ old 1
  pub bodies : new 2 ≡ old 2

module _ {D : Type 0} (time : D → ℕ) (left : D → ℕ → Image → Type 0) (contents : D → Option Image) (earlier : IsSinceEarlier time left)
    (Step : Image → Image → Type 0) (keeps : (m n : Image) → Step m n → KeepsStore m n)
    (old new : D) (leaves : Leaves time left Step old new) (kept : BothTold KeepsStore (contents old) (contents new)) where
  same_file : (file : ℕ) → (file ≡ 1) ⊎ (file ≡ 2) → (m n : Image) → KeepsStore m n → n file ≡ m file
  same_file file one m n same = ⊎_elim
      (λ (e : file ≡ 1). subst (λ (f : ℕ). n f ≡ m f) (sym e) same.headers)
      (λ (e : file ≡ 2). subst (λ (f : ℕ). n f ≡ m f) (sym e) same.bodies)
      one

  beside_stands : (log : OpenLog) (payloads : List (List ℕ)) → (log.file ≡ 1) ⊎ (log.file ≡ 2) → Stands (contents old) (left old (time old)) log payloads → Stands (contents new) (left new (time new)) log payloads
  beside_stands log payloads one stands =
      let after = told_both KeepsStore (contents old) (contents new) stands.holds.image kept stands.holds.told in
      record {
        holds = record {
          image = after.0;
          told = after.1;
          reads = subst (EndsClosed payloads) (sym (same_file log.file one stands.holds.image after.0 after.2)) stands.holds.reads;
          outcomes = λ c now. ⊎_elim
              (λ was. stands.holds.outcomes c was)
              (λ o. subst (EndsClosed payloads) (sym (same_file log.file one o.0 c (keeps o.0 c o.2))) (stands.holds.outcomes o.0 o.1))
              (leaves_now time left earlier Step old new leaves c now);
        };
        end = stands.end;
        places = stands.places;
      }

  -- over calls that change other files alone a store holds what it held
  pub beside_holds : (store : OpenStore) (payloads : Payloads) → Holds (contents old) (left old (time old)) store payloads → Holds (contents new) (left new (time new)) store payloads
  beside_holds store payloads h = record {
    header_file = h.header_file;
    body_file = h.body_file;
    headers = beside_stands store.headers payloads.headers (inl h.header_file) h.headers;
    bodies = beside_stands store.bodies payloads.bodies (inr h.body_file) h.bodies;
    lengths = h.lengths;
    hashes = h.hashes;
  }
