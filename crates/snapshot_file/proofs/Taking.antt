-- Taking a piece, by where the reader stands.
use Rattle.std.specs.Prelude.{◌≡◌, ℕ, List, [], ◌++◌, length, drop, Option, Some, None, Result, Ok, Err}
use Rattle.std.proofs.Common.{sym, ap, subst, ◌∙◌, arith}
use Rattle.base_types.specs.Codec.{IsBytes}
use Rattle.snapshot_file.specs.Items.{from_first, head_at}
use Rattle.snapshot_file.specs.Steps.{item_len, Waits, HeadStep, HeadWhole, HeadWaits}
use Rattle.snapshot_file.specs.Fed.{StandsAt, HasFed, WithinHead, first_progress, MoveStep, TakesPiece, TakeStep, ahead, move, feeding}
use Rattle.snapshot_file.specs.declared.fault.SnapFault.{SnapFault}
use Rattle.snapshot_file.specs.declared.fault.SnapFault.TheVariants.{NoMemory, Bad}
use Rattle.snapshot_file.specs.declared.head.SnapHead.{SnapHead}
use Rattle.snapshot_file.specs.declared.progress.Progress.{Progress}
use Rattle.snapshot_file.specs.declared.reader.Stage.{Stage}
use Rattle.snapshot_file.specs.declared.reader.Stage.TheVariants.{Head, Coins}
use Rattle.snapshot_file.specs.declared.reader.Pieces.{Pieces}
use Rattle.snapshot_file.specs.declared.reader.Reader.{Reader}
use Rattle.snapshot_file.proofs.Feeding.{take_behind, take_first, take_waits, take_breaks}
use Rattle.snapshot_file.proofs.Steps.{empty_waits}

-- where the reader stands
pub stands_as : (reader : Reader) (stage : Stage) (height : Option ℕ) (fed : List ℕ) → reader.stage ≡ stage → HasFed reader height fed → StandsAt stage (ahead reader.at reader.held.items) height fed
stands_as reader stage height fed is h = subst (λ (s : Stage). StandsAt s (ahead reader.at reader.held.items) height fed) is h.stands

pub take_at_coins : (result : Result (Unit {0}) SnapFault) (old new : Reader) (s : Progress) (height : Option ℕ) (fed piece : List ℕ) (pieces : Pieces) → old.stage ≡ Coins s → HasFed old height fed → IsBytes piece → pieces.head ≡ None
    → (old.stage ≡ Coins s → Waits s old.held.items → MoveStep result (move s piece [] pieces.coins) old new) → TakeStep (feeding height fed piece) result new pieces
take_at_coins result old new s height fed piece pieces is h fits none step =
    let b = stands_as old (Coins s) height fed is h in
    take_behind result old new s height fed piece pieces h.bytes fits h.count b none (step is b.waits)

module _ (old : Reader) (height : Option ℕ) (fed piece : List ℕ) (pieces : Pieces) (is : old.stage ≡ Head) (h : HasFed old height fed) (fits : IsBytes piece) where
  within : WithinHead old.held.items height fed
  within = stands_as old Head height fed is h

  waits_held : head_at (from_first old.held.items) ≡ Err None
  waits_held = ap (λ (l : List ℕ). head_at (from_first l)) within.all ∙ within.waits

  abbrev Step : Result (Option (SnapHead × ℕ)) SnapFault → List ℕ → Type 0
  Step result now = head_at (from_first old.held.items) ≡ Err None → HeadStep result old.held.items piece now

  pub take_at_head : (result : Result (Unit {0}) SnapFault) (mid new : Reader) (head : SnapHead) (used : ℕ) (now : List ℕ) → Step (Ok (Some (head, used))) now → mid.stage ≡ Coins (first_progress head) → mid.at ≡ 51 → mid.held.items ≡ [] → pieces.head ≡ Some head
      → (mid.stage ≡ Coins (first_progress head) → Waits (first_progress head) mid.held.items → MoveStep result (move (first_progress head) (drop used piece) [] pieces.coins) mid new) → TakeStep (feeding height fed piece) result new pieces
  take_at_head result mid new head used now step stage place none first moves =
      let whole : HeadWhole head used fed piece = subst (λ (l : List ℕ). HeadWhole head used l piece) within.all (step waits_held) in
      let waits : Waits (first_progress head) mid.held.items = record { short = ap (λ (l : List ℕ). item_len None head.count 0 l) none ∙ empty_waits None head.count 0 } in
      subst (λ (x : Option ℕ). TakeStep (feeding x fed piece) result new pieces) (sym within.no_height) (take_first mid new head used fed piece pieces h.bytes fits within.waits whole place none first result (moves stage waits))

  pub take_at_head_none : (new : Reader) → Step (Ok None) new.held.items → new.stage ≡ Head → new.at ≡ old.at → pieces.head ≡ None → pieces.coins ≡ [] → TakesPiece (feeding height fed piece) new pieces
  take_at_head_none new step stage place none no_coins =
      let w : HeadWaits fed piece new.held.items = subst (λ (l : List ℕ). HeadWaits l piece new.held.items) within.all (step waits_held) in
      let zero : new.at ≡ 0 = omega (arith, place, h.count, ap length within.all) in
      subst (λ (x : Option ℕ). TakesPiece (feeding x fed piece) new pieces) (sym within.no_height) (take_waits new fed piece pieces h.bytes fits within.waits w stage zero none no_coins)

  pub take_at_head_err : (fault : SnapFault) (new : Reader) (now : List ℕ) → Step (Err fault) now → pieces.head ≡ None → pieces.coins ≡ [] → TakeStep (feeding height fed piece) (Err fault) new pieces
  take_at_head_err NoMemory new now step none no_coins = tt
  take_at_head_err (Bad error offset) new now step none no_coins =
      let broken = ap (λ (l : List ℕ). head_at (from_first (l ++ piece))) (sym within.all) ∙ step waits_held in
      subst (λ (x : Option ℕ). TakeStep (feeding x fed piece) (Err (Bad error offset)) new pieces) (sym within.no_height) (take_breaks fed piece error offset pieces within.waits broken none no_coins)
