use Rattle.std.proofs.Common.{◌≡◌, ◌∙◌, ◌+◌, ◌-◌, ◌<◌, ℕ, List, arith, le_refl, refl, subst, suc, sym}
use Rattle.std.specs.FinMap.{len}
use Rattle.block_codec.specs.Text.{hash_of_header}
use Rattle.disk_model.proofs.Moments.{quiet_none, quiet_then}
use Rattle.reorg.specs.declared.refusals.RefusedBlock.{RefusedBlock}
use Rattle.reorg.proofs.Tried.{IsOnWay, begins_with, child_is_next, child_waits, ends_after, ends_without, goes_further, none_is_next, stored_now}
use Rattle.reorg.proofs.forward.advance.Goals as goal

all_left : (all : ℕ) → all - 0 ≡ all
all_left all = omega arith

-- so many trials are left, one of which is this one
one_less : (size step all : ℕ) → all ≡ size → step < all → size - step ≡ suc (size - (step + 1))
one_less size step all is less = omega (arith, is, less)

pub loop-step-init : goal.loop-step-init
loop-step-init g c =
    let disk = c.args.disk.now in
    let size = len c.args.shared.now.tree.tree.headers in
    record {
      way = λ limit state store stands settled given.
          begins_with limit (g.D.Disk.contents disk) (g.D.Disk.left_since disk (g.D.Disk.time disk)) c.args.shared.now c.args.chain.now state store stands
          c.new-refusals.result c.new-refusals.ensures (size - 0) (all_left size);
      faults = le_refl (g.D.Disk.faults disk);
      contents = refl;
      quiet = quiet_none g.D.Disk.time g.D.Disk.left_since disk;
      file = refl;
    }

pub returns-in_default-clause-ok : goal.returns-in_default-clause-ok
returns-in_default-clause-ok g c limit state store stands settled given =
    let at = c.loop-step in
    let images = g.D.Disk.left_since at.disk (g.D.Disk.time at.disk) in
    let most = len c.args.shared.now.tree.tree.headers - at._step in
    let way = at.invariant.way limit state store stands settled given in
    ends_without limit (g.D.Disk.contents at.disk) images c.args.shared.now at.chain state store at.refusals most way
    (none_is_next limit (g.D.Disk.contents at.disk) images c.args.shared.now at.chain state store at.refusals most way settled (c.least.ensures.none c.in_default.is)) stands.kept

pub returns-in-Err-clause-whole : goal.returns-in-Err-clause-whole
returns-in-Err-clause-whole g c limit state store stands settled given =
    let at = c.loop-step in
    let images = g.D.Disk.left_since at.disk (g.D.Disk.time at.disk) in
    let most = len c.args.shared.now.tree.tree.headers - at._step in
    let way = at.invariant.way limit state store stands settled given in
    c.in-Err.ensures.whole limit way.now store way.stands settled
    (stored_now limit (g.D.Disk.contents at.disk) images c.args.shared.now at.chain state store at.refusals most way state.bodies stands.bodies (hash_of_header c.args.stored.now.header) c.args.stored.now given)
    (child_waits limit (g.D.Disk.contents at.disk) images c.args.shared.now at.chain state store at.refusals most way settled c.in-Some.hash c.in-Some.ensures.some)

pub loop-step-preserved : goal.loop-step-preserved
loop-step-preserved g c =
    let at = c.loop-step in
    let after = c.try_child.new.disk in
    let size = len c.args.shared.now.tree.tree.headers in
    record {
      way = λ limit state store stands settled given.
          let images = g.D.Disk.left_since at.disk (g.D.Disk.time at.disk) in
          let way = at.invariant.way limit state store stands settled given in
          let tried = c.in-Ok.ensures.ok limit way.now store way.stands settled
          (stored_now limit (g.D.Disk.contents at.disk) images c.args.shared.now at.chain state store at.refusals (size - at._step) way state.bodies stands.bodies (hash_of_header c.args.stored.now.header) c.args.stored.now given)
          (child_waits limit (g.D.Disk.contents at.disk) images c.args.shared.now at.chain state store at.refusals (size - at._step) way settled c.in-Some.hash c.in-Some.ensures.some) in
          subst
          (λ (l : List RefusedBlock). IsOnWay limit (g.D.Disk.contents after) (g.D.Disk.left_since after (g.D.Disk.time after)) c.args.shared.now c.try_child.new.chain state store l (size - (at._step + 1)))
          (sym c.in-Ok-note.ensures.ok)
          (goes_further limit (g.D.Disk.contents at.disk) images c.args.shared.now at.chain state store at.refusals (size - at._step) way (size - (at._step + 1))
          (one_less size at._step c.size-step-end.result c.size-step-end.ensures.count c.loop-step-test.true) c.in-Some.hash
          (child_is_next limit (g.D.Disk.contents at.disk) images c.args.shared.now at.chain state store at.refusals (size - at._step) way settled c.in-Some.hash c.in-Some.ensures.some c.in-Some.ensures.least)
          (g.D.Disk.contents after) (g.D.Disk.left_since after (g.D.Disk.time after)) c.try_child.new.chain c.in-Ok.refused tried);
      faults = let a = at.invariant.faults in let b = c.in-Ok.ensures.faults in omega arith;
      contents = c.in-Ok.ensures.contents ∙ at.invariant.contents;
      quiet = quiet_then g.D.Disk.time g.D.Disk.left_since c.args.disk.now at.disk after at.invariant.quiet c.in-Ok.ensures.quiet;
      file = c.in-Ok.ensures.file ∙ at.invariant.file;
    }

pub returns-clause-ok : goal.returns-clause-ok
returns-clause-ok g c limit state store stands settled given =
    let at = c.loop-step in
    let over = c.loop-step-test.false in
    let count = c.size-step-end.ensures.count in
    let size = len c.args.shared.now.tree.tree.headers in
    ends_after limit (g.D.Disk.contents at.disk) (g.D.Disk.left_since at.disk (g.D.Disk.time at.disk)) c.args.shared.now at.chain state store at.refusals (size - at._step)
    (at.invariant.way limit state store stands settled given) (omega (arith, over, count)) stands.kept
