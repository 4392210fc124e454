use Rattle.std.proofs.Common.{◌+◌, subst, sym, take}
use Rattle.chainstates.proofs.WaitSteps.{AllStored, none_more, one_stored}
use Rattle.chainstates.proofs.waiting.find_stored.Goals as goal
use Rattle.chainstates.proofs.waiting.find_stored.Goals.{in-Some-header+in_ok-add, in_default-header}

pub loop-number-preserved : goal.loop-number-preserved
loop-number-preserved c =
    let headers = c.args.tree.now.tree.headers in
    let hashes = c.args.blocks.now.hashes in
    let n = c.loop-number.number in
    elim c.match-header.branch [
      | in-Some-header+in_ok-add w ↦
          subst (AllStored headers (take (n + 1) hashes)) (sym w.waiting-is)
          (one_stored headers hashes n c.in-Some.hash w.in-Some-header.header.now c.loop-number.waiting w.add.new.self c.in-Some.ensures.0 (sym w.in-Some-header.ensures) c.loop-number.invariant (λ parent hash. w.in_ok-add.ensures.ok parent hash))
      | in_default-header w ↦
          subst (AllStored headers (take (n + 1) hashes)) (sym w.waiting-is)
          (none_more headers hashes n c.in-Some.hash c.loop-number.waiting c.in-Some.ensures.0 (sym w.in_default-header.ensures) c.loop-number.invariant)
    ]
