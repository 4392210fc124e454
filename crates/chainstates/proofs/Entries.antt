-- An opening of the files: what they hold after it, and what a crash in it leaves.
use Rattle.std.proofs.Common.{◌≡◌, ⊎_elim, ℕ, List, [], Option, Some, None, refl, sym, ap, subst, ◌∙◌}
use Rattle.std.specs.Prelude.{◌≢◌}
use Rattle.disk_model.specs.Disk.{Image, Leaves, Quiet, BothTold}
use Rattle.disk_model.proofs.Moments.{IsSinceEarlier, leaves_wider, leaves_then, leaves_quiet}
use Rattle.base_types.specs.declared.fault.StoreFault.{StoreFault}
use Rattle.batch_log.specs.Records.{log, SameLog}
use Rattle.batch_log.proofs.CallerLemmas.{quiet_stands}
use Rattle.block_store.specs.OpenStore.{OpenStore}
use Rattle.block_store.specs.Opening as opening
use Rattle.block_store.specs.Opening.{InBoth, OthersKeptBoth}
use Rattle.block_store.proofs.StoreLaws.{KeepsStore, beside_holds}
use Rattle.chainstates.specs.Opening.{HasOpened, HasOpenedCoins, IsCoinDamage, SameLogs}
use Rattle.coin_store.specs.Batches.{Batch}
use Rattle.coin_store.specs.Files.{InFiles, IsOneOf, IsTiny, OthersKeptBut}
use Rattle.coin_store.specs.Store as coins
use Rattle.coin_store.specs.Store.{texts}
use Rattle.coin_store.specs.declared.store.CoinStore.{CoinStore}
use Rattle.store_state.specs.State.{header_file, body_file, coin_file}

-- ---- images with the same logs

pub from_both : (old new : Image) → InBoth SameLog old new → SameLogs old new
from_both old new s = record { headers = s.headers; bodies = s.bodies; coins = ap log (s.others coin_file (λ same. absurd cc) (λ same. absurd cc)) }

pub from_tiny : (m old new : Image) → InFiles (IsTiny (IsOneOf None coin_file) m) SameLog old new → SameLogs old new
from_tiny m old new s = record { headers = s.each header_file; bodies = s.each body_file; coins = s.each coin_file }

pub same_then : (a b c : Image) → SameLogs a b → SameLogs b c → SameLogs a c
same_then a b c one two = record { headers = two.headers ∙ one.headers; bodies = two.bodies ∙ one.bodies; coins = two.coins ∙ one.coins }

-- ---- what is told

told_then : (Related : Image → Image → Type 0) (old new : Option Image) (m : Image) → BothTold Related old new → old ≡ Some m → (n : Image) × (new ≡ Some n) × Related m n
told_then Related None None m both is = absurd cc
told_then Related None (Some n) m both is = absurd both
told_then Related (Some l) None m both is = absurd both
told_then Related (Some l) (Some n) m both is = let same : l ≡ m = cc in (n, refl, subst (λ (i : Image). Related i n) same both)

both_told : (old new : Option Image) (m n : Image) → old ≡ Some m → new ≡ Some n → KeepsStore m n → BothTold KeepsStore old new
both_told old new m n was is keeps = subst (λ (o : Option Image). BothTold KeepsStore o new) (sym was) (subst (λ (o : Option Image). BothTold KeepsStore (Some m) o) (sym is) keeps)

-- what is told after the first two files
pub told_after : (old new : Option Image) (m : Image) → OthersKeptBoth old new → old ≡ Some m → (n : Image) × (new ≡ Some n)
told_after old new m kept was = let after = told_then (λ m n. (f : ℕ) → f ≢ 1 → f ≢ 2 → n f ≡ m f) old new m kept was in (after.0, after.1)

same_some : {A : Type 0} (o : Option A) (a b : A) → o ≡ Some a → o ≡ Some b → a ≡ b
same_some o a b e f = cc

other_file : (f : ℕ) → f ≢ coin_file → IsOneOf None coin_file f → ⊥
other_file f apart one = ⊎_elim (λ (based : None ≡ Some f). absurd cc) (λ own. apart own) one

-- the file of coins isn't one of the two
pub coins_beside : (old new : Option Image) (m n : Image) → OthersKeptBoth old new → old ≡ Some m → new ≡ Some n → n coin_file ≡ m coin_file
coins_beside old new m n kept was is =
    let after = told_then (λ m n. (f : ℕ) → f ≢ 1 → f ≢ 2 → n f ≡ m f) old new m kept was in
    let same : n ≡ after.0 = same_some new n after.0 is after.1 in
    ap (λ (i : Image). i coin_file) same ∙ after.2 coin_file (λ same. absurd cc) (λ same. absurd cc)

module _ {D : Type 0} (time : D → ℕ) (left : D → ℕ → Image → Type 0) (contents : D → Option Image) (earlier : IsSinceEarlier time left) where
  pub leaves_first : (old mid : D) → Leaves time left (InBoth SameLog) old mid → Leaves time left SameLogs old mid
  leaves_first old mid one = leaves_wider time left (InBoth SameLog) SameLogs old mid from_both one

  pub leaves_both : (m : Image) (old mid new : D) → Leaves time left (InBoth SameLog) old mid → Leaves time left (InFiles (IsTiny (IsOneOf None coin_file) m) SameLog) mid new → Leaves time left SameLogs old new
  leaves_both m old mid new one two =
      leaves_then time left earlier SameLogs SameLogs SameLogs old mid new (λ a b s. s) (λ a b s. s) same_then
      (leaves_first old mid one)
      (leaves_wider time left (InFiles (IsTiny (IsOneOf None coin_file) m) SameLog) SameLogs mid new (from_tiny m) two)

  pub leaves_read : (old mid new : D) → Leaves time left SameLogs old mid → Quiet time left mid new → Leaves time left SameLogs old new
  leaves_read old mid new one quiet =
      leaves_then time left earlier SameLogs SameLogs SameLogs old mid new (λ a b s. s) (λ a b s. s) same_then one (leaves_quiet time left SameLogs mid new quiet)

  -- the files of headers and bodies, and then that of coins
  pub opened_both : (old mid new : D) (before : Image) (open_blocks : OpenStore) (open_coins : CoinStore) → contents old ≡ Some before → opening.OpensAs before (contents mid) (left mid (time mid)) open_blocks
      → OthersKeptBoth (contents old) (contents mid) → ((m : Image) → contents mid ≡ Some m → HasOpenedCoins m (contents new) (left new (time new)) open_coins)
      → ((m : Image) → contents mid ≡ Some m → Leaves time left (InFiles (IsTiny (IsOneOf None coin_file) m) SameLog) mid new) → OthersKeptBut (IsOneOf None coin_file) (contents mid) (contents new)
      → HasOpened before (contents new) (left new (time new)) open_blocks open_coins
  opened_both old mid new before open_blocks open_coins was opens first rows leaves second =
      let m = opens.holds.headers.holds.image in
      let told = opens.holds.headers.holds.told in
      let has = rows m told in
      let after = told_then (λ m n. (f : ℕ) → (IsOneOf None coin_file f → ⊥) → n f ≡ m f) (contents mid) (contents new) m second told in
      let one_apart : IsOneOf None coin_file header_file → ⊥ = other_file header_file (λ same. absurd cc) in
      let two_apart : IsOneOf None coin_file body_file → ⊥ = other_file body_file (λ same. absurd cc) in
      record {
        payloads = opens.payloads;
        headers = opens.header_log;
        bodies = opens.body_log;
        block_files = beside_holds time left contents earlier (InFiles (IsTiny (IsOneOf None coin_file) m) SameLog)
            (λ a b step. record { headers = step.others header_file (λ tiny. one_apart tiny.0); bodies = step.others body_file (λ tiny. two_apart tiny.0) })
            mid new (leaves m told)
            (both_told (contents mid) (contents new) m after.0 told after.1 (record { headers = after.2 header_file one_apart; bodies = after.2 body_file two_apart }))
            open_blocks opens.payloads opens.holds;
        rows = record {
          batches = has.batches;
          rows = ap log (sym (coins_beside (contents old) (contents mid) before m first was told)) ∙ has.rows;
          coin_rows = has.coin_rows;
          file = has.file;
          mask = has.mask;
          no_base = has.no_base;
          start = has.start;
        };
      }

  pub leaves_told : (old mid new : D) (before : Image) → contents old ≡ Some before → OthersKeptBoth (contents old) (contents mid) → Leaves time left (InBoth SameLog) old mid
      → ((m : Image) → contents mid ≡ Some m → Leaves time left (InFiles (IsTiny (IsOneOf None coin_file) m) SameLog) mid new) → Leaves time left SameLogs old new
  leaves_told old mid new before was first one two =
      let m = told_after (contents old) (contents mid) before first was in
      leaves_both m.0 old mid new one (two m.0 m.1)

  -- over calls that change nothing the open files hold what they held
  pub coins_quiet : (old new : D) → Quiet time left old new → contents new ≡ contents old → (open_coins : CoinStore) (batches : List Batch) → open_coins.base ≡ None → coins.Holds (contents old) (left old (time old)) open_coins [] batches
      → coins.Holds (contents new) (left new (time new)) open_coins [] batches
  coins_quiet old new quiet same open_coins batches none h = record {
    knows = h.knows;
    stands = quiet_stands time left contents earlier old new quiet same open_coins.log (texts open_coins.mask batches) h.stands;
    base_stands = λ file is. absurd (let never : None ≡ Some file = sym none ∙ is in cc);
    apart = h.apart;
  }

-- damage of the file of coins, as it was before the other two were opened
pub damage_before : {D : Type 0} (contents : D → Option Image) (old mid : D) (before m : Image) (fault : StoreFault) → contents old ≡ Some before → contents mid ≡ Some m → OthersKeptBoth (contents old) (contents mid) → IsCoinDamage (m coin_file) fault
    → IsCoinDamage (before coin_file) fault
damage_before contents old mid before m fault was told first damage = subst (λ (bytes : List ℕ). IsCoinDamage bytes fault) (coins_beside (contents old) (contents mid) before m first was told) damage
