use Rattle.std.proofs.Common.{arith, ◌≤◌, ◌+◌, length, refl, sym, ◌∙◌}
use Rattle.std.proofs.lemmas.Bool.{eqb-true, eqb-false}
use Rattle.snapshot_file.proofs.Moving.{Began, no_items, rest_is, began_none, began_whole, moved}
use Rattle.snapshot_file.proofs.reader.Reader.take_items.Goals as goal
use Rattle.snapshot_file.proofs.reader.Reader.take_items.Goals.{then-not-is_empty+in_ok-complete+in-Some, else-not-is_empty}

pub returns-clause-step : goal.returns-clause-step
returns-clause-step c = λ stage waits.
    let old = c.args.self.now in
    let piece = c.args.piece.now in
    let join = c.if-not-is_empty in
    let began : Began c.args.progress join.progress old.at old.held.items piece join.used c.args.coins.now join.coins = elim join.branch [
      | then-not-is_empty+in_ok-complete+in-Some w ↦
          let done = rw (w.in-Some.is, (c.in_ok-coins.ensures ∙ sym c.requires.none)) at (w.in_ok-complete.ensures.step waits) in
          began_whole c.args.progress w.complete.new.self join.progress old.at old.held.items piece join.used w.in-Some.len c.args.coins.now join.coins w.complete.new.coins done w.progress-is w.used-is w.coins-is
      | else-not-is_empty w ↦ let none = eqb-true _ _ (sym w.if-not-is_empty.ensures) in began_none c.args.progress join.progress old.at old.held.items piece join.used c.args.coins.now join.coins (no_items old.held.items (omega (arith, none))) w.progress-is w.used-is (rw (c.in_ok-coins.ensures ∙ sym c.requires.none) at w.coins-is)
    ] in
    let within : join.used ≤ length piece = elim join.branch [
      | then-not-is_empty+in_ok-complete+in-Some w ↦ let used = rw w.in-Some.is at w.in_ok-complete.ensures.used in omega arith
      | else-not-is_empty w ↦ omega arith
    ] in
    moved c.args.progress join.progress c.read_items.new.self old _ piece join.used c.in_ok-more.more c.args.coins.now join.coins c.read_items.new.coins (eqb-false _ _ (sym c.if-is_empty.ensures)) within began (let h = c.in_ok-more.ensures.step in rw (rest_is c.args.piece.now c.if-not-is_empty.used, c.fed-begun.ensures) at h) refl (omega arith) (rw (c.clear.ensures.items, rest_is c.args.piece.now (c.if-not-is_empty.used + c.in_ok-more.more)) at c.in_ok-extend_from_slice.ensures.items)
