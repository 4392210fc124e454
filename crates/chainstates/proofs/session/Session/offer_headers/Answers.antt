use Rattle.std.proofs.Common.{◌-◌, arith, refl}
use Rattle.chainstates.proofs.Pieces.{none_written}
use Rattle.chainstates.proofs.Taken.{can_store, size_grows, taken_all, taken_some}
use Rattle.chainstates.specs.Offers.{closed_under}
use Rattle.machine.specs.State.{header_events}
use Rattle.chainstates.proofs.session.Session.offer_headers.Goals as goal

pub returns-in-Err-clause-err : goal.returns-in-Err-clause-err
returns-in-Err-clause-err g c limit state store stands settled = record {
  writes = none_written limit (g.D.Disk.left_since c.args.disk.now) (g.D.Disk.time c.args.disk.now) (g.D.Disk.contents c.args.disk.now) c.args.self.now.shared.blocks c.args.self.now.active.store store
      (λ u v i. g.met.D.Disk.since_earlier c.args.disk.now u v i) stands.files (header_events (closed_under limit state c.args.headers.now).added);
}

pub overflow_sub-result : goal.overflow_sub-result
overflow_sub-result g c =
    let more = size_grows c.args.self.now.shared.tree.limit c.args.self.now.shared.tree.tree c.args.headers.now c.close.new.tree c.in-Ok.closing c.in-Ok.ensures.ok in
    let before = c.size-before.ensures.count in
    let after = c.size.ensures.count in
    omega (arith, more, before, after)

pub returns-in-Ok-store_all_headers-clause-ok : goal.returns-in-Ok-store_all_headers-clause-ok
returns-in-Ok-store_all_headers-clause-ok g c limit state store stands settled =
    let past = g.D.Disk.left_since c.args.disk.now in
    let entered = g.D.Disk.time c.args.disk.now in
    let before = g.D.Disk.contents c.args.disk.now in
    let old = c.args.self.now in
    let headers = c.args.headers.now in
    let added = c.as_slice-added.result.now in
    let takes = can_store limit past entered before old state store stands settled headers c.in-Ok.closing c.close.new.tree c.in-Ok.ensures.ok added c.as_slice-added.ensures in
    let stored = c.in-Ok-store_all_headers.ensures.ok limit old.active.store store (closed_under limit state headers).tree stands.files takes in
    taken_all limit past entered before old state store stands settled headers c.in-Ok.closing c.close.new.tree c.in-Ok.ensures.ok
    (g.D.Disk.left_since c.store_all_headers.new.disk) (g.D.Disk.time c.store_all_headers.new.disk) (g.D.Disk.contents c.store_all_headers.new.disk) added c.as_slice-added.ensures c.store_all_headers.new.blocks
    (record { added = c.size.result - c.size-before.result; tree_full = c.in-Ok.closing.full }) c.size-before.result c.size.result stored.0 stored.1 c.in-Ok.ensures.limit c.size-before.ensures.count c.size.ensures.count refl refl

pub returns-clause-err : goal.returns-clause-err
returns-clause-err g c limit state store stands settled =
    let past = g.D.Disk.left_since c.args.disk.now in
    let entered = g.D.Disk.time c.args.disk.now in
    let before = g.D.Disk.contents c.args.disk.now in
    let old = c.args.self.now in
    let headers = c.args.headers.now in
    let added = c.as_slice-added.result.now in
    let takes = can_store limit past entered before old state store stands settled headers c.in-Ok.closing c.close.new.tree c.in-Ok.ensures.ok added c.as_slice-added.ensures in
    taken_some limit past entered before old state store stands settled headers c.in-Ok.closing c.close.new.tree c.in-Ok.ensures.ok
    (g.D.Disk.left_since c.store_all_headers.new.disk) (g.D.Disk.time c.store_all_headers.new.disk) (g.D.Disk.contents c.store_all_headers.new.disk) added c.as_slice-added.ensures
    (c.in-Err-store_all_headers.ensures.err limit old.active.store store (closed_under limit state headers).tree stands.files takes)
