use Rattle.std.proofs.Common.{◌≡◌, ◌∙◌, ◌≤◌, ◌-◌, List, arith, drop, le_refl, length, refl, subst, sym, take}
use Rattle.std.proofs.lemmas.List.{length-drop, take_all}
use Rattle.block_codec.specs.declared.block.Header.{Header}
use Rattle.store_writes.specs.Written.{with_tree}
use Rattle.store_writes.proofs.Chunks.{SoFar, files_then, next_tree, same_files, so_far_all, so_far_more, so_far_none, so_far_stopped}
use Rattle.store_writes.proofs.headers.store_all_headers.Goals as goal

pub loop-rest-init : goal.loop-rest-init
loop-rest-init g c = record {
  so_far = λ limit coins store tree on grows. so_far_none g.D.Disk.time g.D.Disk.left_since g.D.Disk.contents g.met.D.Disk.since_earlier limit store coins c.args.headers.now tree c.args.disk.now c.args.blocks.now on grows;
  files = same_files c.args.blocks.now;
  later = le_refl _;
  faults = le_refl _;
  read = refl;
}

pub returns-in-Err-clause-err : goal.returns-in-Err-clause-err
returns-in-Err-clause-err g c limit coins store tree on grows =
    let at = c.loop-rest in
    let far = at.invariant.so_far limit coins store tree on grows in
    let next = next_tree g.D.Disk.time g.D.Disk.left_since g.D.Disk.contents g.met.D.Disk.since_earlier limit store coins c.args.headers.now tree c.args.disk.now at.disk c.store_headers.new.disk at.rest.now at.blocks c.min-count.result c.min-count.ensures c.loop-rest-test.true far in
    so_far_stopped g.D.Disk.time g.D.Disk.left_since g.D.Disk.contents g.met.D.Disk.since_earlier limit store coins c.args.headers.now tree c.args.disk.now at.disk c.store_headers.new.disk at.rest.now at.blocks c.min-count.result c.min-count.ensures c.loop-rest-test.true far
    (c.in-Err.ensures.err limit coins (with_tree far.tree store) next.0 far.files next.1)

pub loop-rest-preserved : goal.loop-rest-preserved
loop-rest-preserved g c =
    let at = c.loop-rest in
    let rest = at.rest.now in
    let n = c.min-count.result in
    let len = length-drop n rest in
    let behind : take (length rest - n) (drop n rest) ≡ drop n rest = take_all (length rest - n) (drop n rest) (let z : length (drop n rest) ≤ length rest - n = omega (arith, len) in z) in
    record {
      so_far = λ limit coins store tree on grows.
          let far = at.invariant.so_far limit coins store tree on grows in
          let next = next_tree g.D.Disk.time g.D.Disk.left_since g.D.Disk.contents g.met.D.Disk.since_earlier limit store coins c.args.headers.now tree c.args.disk.now at.disk c.store_headers.new.disk rest at.blocks n c.min-count.ensures c.loop-rest-test.true far in
          let stored = c.in-Ok.ensures.ok limit coins (with_tree far.tree store) next.0 far.files next.1 in
          subst (λ (l : List Header). SoFar limit (g.D.Disk.left_since c.args.disk.now) (g.D.Disk.left_since c.store_headers.new.disk) (g.D.Disk.time c.args.disk.now) (g.D.Disk.time c.store_headers.new.disk) (g.D.Disk.contents c.args.disk.now) (g.D.Disk.contents c.store_headers.new.disk) store c.args.headers.now l c.store_headers.new.blocks coins tree) (sym behind)
          (so_far_more g.D.Disk.time g.D.Disk.left_since g.D.Disk.contents g.met.D.Disk.since_earlier limit store coins c.args.headers.now tree c.args.disk.now at.disk c.store_headers.new.disk rest at.blocks n c.min-count.ensures c.loop-rest-test.true far
          c.store_headers.new.blocks next.0 next.2 stored.0 stored.1);
      files = files_then c.args.blocks.now at.blocks c.store_headers.new.blocks at.invariant.files c.in-Ok.ensures.files;
      later = let a = at.invariant.later in let b = c.in-Ok.ensures.later in omega (arith, a, b);
      faults = let a = at.invariant.faults in let b = c.in-Ok.ensures.faults in omega arith;
      read = c.in-Ok.ensures.read ∙ at.invariant.read;
    }

pub returns-clause-ok : goal.returns-clause-ok
returns-clause-ok g c limit coins store tree on grows =
    let at = c.loop-rest in
    let over = c.loop-rest-test.false in
    so_far_all g.D.Disk.time g.D.Disk.left_since g.D.Disk.contents g.met.D.Disk.since_earlier limit store coins c.args.headers.now tree c.args.disk.now at.disk at.rest.now at.blocks (omega (arith, over)) (at.invariant.so_far limit coins store tree on grows)

pub returns-in-Err-clause-files : goal.returns-in-Err-clause-files
returns-in-Err-clause-files g c =
    files_then c.args.blocks.now c.loop-rest.blocks c.store_headers.new.blocks c.loop-rest.invariant.files c.in-Err.ensures.files
