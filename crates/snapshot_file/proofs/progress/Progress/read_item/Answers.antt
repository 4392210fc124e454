use Rattle.std.proofs.lemmas.List.{length-append}
use Rattle.snapshot_file.proofs.Least.{read_least}
use Rattle.std.proofs.Common.{rules, arith, ap, length, ◌≡◌, Err, refl}
use Rattle.base_types.proofs.Codecs.{IsBytes-slice}
use Rattle.snapshot_file.proofs.Steps.{took_group, took_member, group_stops, member_stops, end_stops}
use Rattle.snapshot_file.proofs.progress.Progress.read_item.Goals as goal

pub returns-then-self-eq0-clause-step : goal.returns-then-self-eq0-clause-step
returns-then-self-eq0-clause-step c = end_stops c.after_last.result c.args.self.now c.args.at c.args.bytes.now c.args.coins.now c.if-self-eq0.true c.after_last.ensures

pub returns-in_err-group-clause-step : goal.returns-in_err-group-clause-step
returns-in_err-group-clause-step c =
    let is : c.from_residual.result ≡ Err c.in_err-group.field-0.0 = search rules in
    rw is (group_stops c.in_err-group.field-0.0 c.args.self.now c.args.at c.args.bytes.now c.args.coins.now c.if-self-eq0.false c.if-self-eq0-2.true c.in_err-group.ensures)

pub returns-in_err-member-clause-step : goal.returns-in_err-member-clause-step
returns-in_err-member-clause-step c =
    let is : c.from_residual-in_err-member.result ≡ Err c.in_err-member.field-0.0 = search rules in
    rw is (member_stops c.in_err-member.field-0.0 c.args.self.now c.args.at c.args.bytes.now c.args.coins.now c.if-self-eq0.false c.if-self-eq0-2.false c.in_err-member.ensures)

pub returns-then-self-eq0-2-clause-step : goal.returns-then-self-eq0-2-clause-step
returns-then-self-eq0-2-clause-step c =
    let read = c.in_ok-group.ensures in
    took_group c.args.self.now _ c.args.at c.args.bytes.now (c.in_ok-group.group.txid, c.in_ok-group.group.count) c.in_ok-group.group.len c.args.coins.now _ (IsBytes-slice c.args.bytes.now c.type_inv.bytes) c.if-self-eq0.false c.if-self-eq0-2.true read.0 read.1 refl refl

pub returns-clause-step : goal.returns-clause-step
returns-clause-step c =
    let read = c.in_ok-member.ensures in
    took_member c.args.self.now _ c.args.at c.args.bytes.now (c.in_ok-member.member.index, c.in_ok-member.member.coin) c.in_ok-member.member.len c.args.coins.now _ (IsBytes-slice c.args.bytes.now c.type_inv.bytes) c.if-self-eq0.false c.if-self-eq0-2.false read.0 read.1 refl c.in-Ok.ensures.ok

pub returns-clause-sized : goal.returns-clause-sized
returns-clause-sized c =
    let read = c.in_ok-member.ensures in
    let least = read_least c.args.self.now.height c.args.bytes.now (c.in_ok-member.member.index, c.in_ok-member.member.coin) c.in_ok-member.member.len (IsBytes-slice c.args.bytes.now c.type_inv.bytes) read.0 read.1 in
    let more = rw length-append at (ap length c.in-Ok.ensures.ok) in
    omega (arith, least, more)
