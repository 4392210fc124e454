use Rattle.chainstates.proofs.Breaks.{blocks_break_in, coins_break_in}
use Rattle.chainstates.proofs.Entries.{damage_before, leaves_told, opened_both, told_after}
use Rattle.chainstates.proofs.opening.open_files.Goals as goal

pub returns-in-Err-clause-damaged : goal.returns-in-Err-clause-damaged
returns-in-Err-clause-damaged g c contents told limit = blocks_break_in limit contents c.in-Err.fault (c.in-Err.ensures.damaged contents told)

pub returns-in-Ok-open_coins-clause-ok : goal.returns-in-Ok-open_coins-clause-ok
returns-in-Ok-open_coins-clause-ok g c contents told =
    opened_both g.D.Disk.time g.D.Disk.left_since g.D.Disk.contents g.met.D.Disk.since_earlier c.args.disk.now c.open.new.disk c.open_coins.new.disk contents c.in-Ok.blocks c.in-Ok-open_coins.coins told (c.in-Ok.ensures.ok contents told)
    c.open.ensures.others (λ m is. c.in-Ok-open_coins.ensures.ok m is) (λ m is. c.open_coins.ensures.any_moment m is) c.open_coins.ensures.others

pub returns-in-Ok-open_coins-clause-same : goal.returns-in-Ok-open_coins-clause-same
returns-in-Ok-open_coins-clause-same g c contents told =
    leaves_told g.D.Disk.time g.D.Disk.left_since g.D.Disk.contents g.met.D.Disk.since_earlier c.args.disk.now c.open.new.disk c.open_coins.new.disk contents told c.open.ensures.others (c.open.ensures.any_moment contents told) (λ m is. c.open_coins.ensures.any_moment m is)

pub returns-in-Err-open_coins-clause-damaged : goal.returns-in-Err-open_coins-clause-damaged
returns-in-Err-open_coins-clause-damaged g c contents told limit =
    let mid = told_after (g.D.Disk.contents c.args.disk.now) (g.D.Disk.contents c.open.new.disk) contents c.open.ensures.others told in
    coins_break_in limit contents c.in-Err-open_coins.fault
    (damage_before g.D.Disk.contents c.args.disk.now c.open.new.disk contents mid.0 c.in-Err-open_coins.fault told mid.1 c.open.ensures.others (c.in-Err-open_coins.ensures.damaged mid.0 mid.1))

pub returns-in-Err-open_coins-clause-same : goal.returns-in-Err-open_coins-clause-same
returns-in-Err-open_coins-clause-same g c contents told =
    leaves_told g.D.Disk.time g.D.Disk.left_since g.D.Disk.contents g.met.D.Disk.since_earlier c.args.disk.now c.open.new.disk c.open_coins.new.disk contents told c.open.ensures.others (c.open.ensures.any_moment contents told) (λ m is. c.open_coins.ensures.any_moment m is)
