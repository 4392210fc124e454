use Rattle.std.proofs.Common.{◌≤◌, [], ◌∷◌, length, arith, ◌∙◌}
use Rattle.disk_model.specs.Disk.{changed_at, written}
use Rattle.disk_model.proofs.Moments.{changed_here, told_after, so_far_leaves, quiet_none, quiet_call}
use Rattle.batch_log.specs.Records.{SameLog}
use Rattle.batch_log.proofs.Opens.{first, held, looked, wrote, synced, made, stayed, one_gate, Tiny}
use Rattle.batch_log.proofs.opening.begin.Goals as goal

pub returns-in_err-write_at-clause-any_moment : goal.returns-in_err-write_at-clause-any_moment
returns-in_err-write_at-clause-any_moment g c m told =
    let a = first g.D.Disk.time g.D.Disk.left_since c.args.file c.args.disk.now m c.sync.new.self _ c.sync.ensures.crash in
    let h = held g.D.Disk.time g.D.Disk.left_since c.args.file c.args.disk.now m c.sync.new.self a (c.in_ok-sync.ensures.durable m told) in
    let k = looked g.D.Disk.time g.D.Disk.left_since c.args.file c.args.disk.now m c.sync.new.self c.len.new.self _ h c.len.ensures.crash in
    let now = c.len.ensures.contents ∙ c.sync.ensures.contents ∙ told in
    let is_long = c.in_ok-len.ensures.length m (c.sync.ensures.contents ∙ told) in
    let test = c.if-len-le1.true in
    let small : length (m c.args.file) ≤ 1 = omega arith in
    let w = wrote g.D.Disk.time g.D.Disk.left_since c.args.file c.args.disk.now m c.len.new.self c.write_at.new.self _ small k c.write_at.ensures.crash in
    so_far_leaves g.D.Disk.time g.D.Disk.left_since c.args.file SameLog (Tiny g.D.Disk.time g.D.Disk.left_since c.args.file c.args.disk.now m) c.args.disk.now c.write_at.new.self w

pub returns-in_err-sync-2-clause-any_moment : goal.returns-in_err-sync-2-clause-any_moment
returns-in_err-sync-2-clause-any_moment g c m told =
    let a = first g.D.Disk.time g.D.Disk.left_since c.args.file c.args.disk.now m c.sync.new.self _ c.sync.ensures.crash in
    let h = held g.D.Disk.time g.D.Disk.left_since c.args.file c.args.disk.now m c.sync.new.self a (c.in_ok-sync.ensures.durable m told) in
    let k = looked g.D.Disk.time g.D.Disk.left_since c.args.file c.args.disk.now m c.sync.new.self c.len.new.self _ h c.len.ensures.crash in
    let now = c.len.ensures.contents ∙ c.sync.ensures.contents ∙ told in
    let is_long = c.in_ok-len.ensures.length m (c.sync.ensures.contents ∙ told) in
    let test = c.if-len-le1.true in
    let small : length (m c.args.file) ≤ 1 = omega arith in
    let w = wrote g.D.Disk.time g.D.Disk.left_since c.args.file c.args.disk.now m c.len.new.self c.write_at.new.self _ small k c.write_at.ensures.crash in
    let s = synced g.D.Disk.time g.D.Disk.left_since c.args.file c.args.disk.now m c.write_at.new.self c.sync-then-len-le1.new.self _ w c.sync-then-len-le1.ensures.crash in
    so_far_leaves g.D.Disk.time g.D.Disk.left_since c.args.file SameLog (Tiny g.D.Disk.time g.D.Disk.left_since c.args.file c.args.disk.now m) c.args.disk.now c.sync-then-len-le1.new.self s

pub returns-in_ok-sync-2-clause-any_moment : goal.returns-in_ok-sync-2-clause-any_moment
returns-in_ok-sync-2-clause-any_moment g c m told =
    let a = first g.D.Disk.time g.D.Disk.left_since c.args.file c.args.disk.now m c.sync.new.self _ c.sync.ensures.crash in
    let h = held g.D.Disk.time g.D.Disk.left_since c.args.file c.args.disk.now m c.sync.new.self a (c.in_ok-sync.ensures.durable m told) in
    let k = looked g.D.Disk.time g.D.Disk.left_since c.args.file c.args.disk.now m c.sync.new.self c.len.new.self _ h c.len.ensures.crash in
    let now = c.len.ensures.contents ∙ c.sync.ensures.contents ∙ told in
    let is_long = c.in_ok-len.ensures.length m (c.sync.ensures.contents ∙ told) in
    let test = c.if-len-le1.true in
    let small : length (m c.args.file) ≤ 1 = omega arith in
    let w = wrote g.D.Disk.time g.D.Disk.left_since c.args.file c.args.disk.now m c.len.new.self c.write_at.new.self _ small k c.write_at.ensures.crash in
    let s = synced g.D.Disk.time g.D.Disk.left_since c.args.file c.args.disk.now m c.write_at.new.self c.sync-then-len-le1.new.self _ w c.sync-then-len-le1.ensures.crash in
    so_far_leaves g.D.Disk.time g.D.Disk.left_since c.args.file SameLog (Tiny g.D.Disk.time g.D.Disk.left_since c.args.file c.args.disk.now m) c.args.disk.now c.sync-then-len-le1.new.self s

pub returns-in_ok-sync-2-clause-tiny : goal.returns-in_ok-sync-2-clause-tiny
returns-in_ok-sync-2-clause-tiny g c m told small =
    let now = c.len.ensures.contents ∙ c.sync.ensures.contents ∙ told in
    let image = changed_at c.args.file (written 0 (0 ∷ [])) m in
    let then_told = told_after (changed_at c.args.file (written 0 (0 ∷ []))) _ _ m c.in_ok-write_at.ensures.written now in
    let is = changed_here c.args.file (written 0 (0 ∷ [])) m in
    let only = c.in_ok-sync-2.ensures.durable image then_told in
    let last = c.sync-then-len-le1.new.self in (
      made g.D.Disk.time g.D.Disk.left_since c.args.file c.args.disk.now m (g.D.Disk.contents last) last image small (c.sync-then-len-le1.ensures.contents ∙ then_told) is only,
      λ i here. only i here ∙ is ∙ one_gate (m c.args.file) small,
    )

pub returns-else-len-le1-clause-long : goal.returns-else-len-le1-clause-long
returns-else-len-le1-clause-long g c m told more =
    let a = first g.D.Disk.time g.D.Disk.left_since c.args.file c.args.disk.now m c.sync.new.self _ c.sync.ensures.crash in
    let h = held g.D.Disk.time g.D.Disk.left_since c.args.file c.args.disk.now m c.sync.new.self a (c.in_ok-sync.ensures.durable m told) in
    let k = looked g.D.Disk.time g.D.Disk.left_since c.args.file c.args.disk.now m c.sync.new.self c.len.new.self _ h c.len.ensures.crash in (
      c.len.ensures.contents ∙ c.sync.ensures.contents,
      quiet_call g.D.Disk.time g.D.Disk.left_since g.met.D.Disk.since_earlier c.args.disk.now c.sync.new.self c.len.new.self _
          (quiet_call g.D.Disk.time g.D.Disk.left_since g.met.D.Disk.since_earlier c.args.disk.now c.args.disk.now c.sync.new.self _ (quiet_none g.D.Disk.time g.D.Disk.left_since c.args.disk.now) c.sync.ensures.crash) c.len.ensures.crash,
      stayed g.D.Disk.time g.D.Disk.left_since c.args.file c.args.disk.now m c.len.new.self k,
    )
