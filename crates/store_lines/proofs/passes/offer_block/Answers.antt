use Rattle.std.proofs.Common.{ℕ, [], ◌∷◌, sym, subst}
use Rattle.store_lines.specs.Passing.{HasPassed}
use Rattle.store_lines.proofs.OneOffer.{passed_one, passed_one_part, unsaid_one}
use Rattle.store_lines.proofs.passes.offer_block.Goals as goal

pub returns-in-Err-clause-err : goal.returns-in-Err-clause-err
returns-in-Err-clause-err g c limit state store text stands settled is =
    let disk = c.offer_body.new.disk in
    passed_one_part limit (g.D.Disk.left_since c.args.disk.now) (g.D.Disk.left_since disk) (g.D.Disk.time c.args.disk.now) (g.D.Disk.time disk) (g.D.Disk.contents c.args.disk.now) (g.D.Disk.contents disk) c.args.session.now c.offer_body.new.self state store c.args.block.now
    (c.in-Err.ensures.err limit state store text stands settled is)

pub returns-in-Ok-say_offered-clause-ok : goal.returns-in-Ok-say_offered-clause-ok
returns-in-Ok-say_offered-clause-ok g c limit state store text stands settled is =
    let disk = c.offer_body.new.disk in
    let past = g.D.Disk.left_since c.args.disk.now in
    let left = g.D.Disk.left_since disk in
    let entered = g.D.Disk.time c.args.disk.now in
    let ended = g.D.Disk.time disk in
    let before = g.D.Disk.contents c.args.disk.now in
    let now = g.D.Disk.contents disk in
    let session = c.offer_body.new.self in
    let block = c.args.block.now in
    subst (λ (n : ℕ). HasPassed limit past left entered ended before now session state store c.args.out.now.items c.say_offered.new.out.items (block ∷ []) n) (sym c.stored_count.ensures)
    (passed_one limit past left entered ended before now c.args.session.now session state store block c.in-Ok.offered c.hash.result.now c.args.out.now.items c.say_offered.new.out.items stands c.hash.ensures c.in-Ok-say_offered.ensures.ok
    (c.in-Ok.ensures.ok limit state store text stands settled is))

pub returns-clause-err : goal.returns-clause-err
returns-clause-err g c limit state store text stands settled is =
    let disk = c.offer_body.new.disk in
    unsaid_one limit (g.D.Disk.left_since c.args.disk.now) (g.D.Disk.left_since disk) (g.D.Disk.time c.args.disk.now) (g.D.Disk.time disk) (g.D.Disk.contents c.args.disk.now) (g.D.Disk.contents disk) c.args.session.now c.offer_body.new.self state store c.args.block.now
    c.in-Ok.offered (c.in-Ok.ensures.ok limit state store text stands settled is)
