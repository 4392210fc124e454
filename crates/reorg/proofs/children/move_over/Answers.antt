use Rattle.std.proofs.Common.{◌≡◌, true, false, not, refl, sym, ap, ◌∙◌}
use Rattle.std.specs.List.{list_any}
use Rattle.block_checks.specs.Unpayable.{is_unpayable}
use Rattle.block_codec.specs.declared.block.Block.{Block}
use Rattle.machine.specs.State.{active_coins}
use Rattle.reorg.proofs.MovedOver.{can_pay, carries, rows_read, rows_seen, stands_tried, tip_moves, tip_stays}
use Rattle.reorg.proofs.Quieting.{stands_still}
use Rattle.reorg.proofs.children.move_over.Goals as goal

pub returns-in-Ok-true-clause-whole : goal.returns-in-Ok-true-clause-whole
returns-in-Ok-true-clause-whole g c limit state store stands settled child stored =
    let disk = c.args.disk.now in
    let pays = can_pay limit (g.D.Disk.contents disk) (g.D.Disk.left_since disk (g.D.Disk.time disk)) c.args.shared.now c.args.chain.now state store stands settled c.args.hash.now c.args.block.now stored in
    let same : c.as_slice.result.now ≡ c.args.block.now.txs = c.as_slice.ensures ∙ ap (λ (b : Block). b.txs) c.block.ensures in
    absurd (let never : true ≡ false = sym c.in-Ok-true.field-0-test ∙ c.in-Ok-true.ensures ∙ ap (list_any is_unpayable) same ∙ pays in cc)

pub returns-in-Err-tried-clause-whole : goal.returns-in-Err-tried-clause-whole
returns-in-Err-tried-clause-whole g c limit state store stands settled child stored =
    let disk = c.args.disk.now in
    c.in-Err-tried.ensures.whole stands.files.image stands.files.told
    (rows_read limit (g.D.Disk.contents disk) (g.D.Disk.left_since disk (g.D.Disk.time disk)) c.args.shared.now c.args.chain.now state store stands stands.files.image stands.files.told)

pub returns-then-is_none-clause-ok : goal.returns-then-is_none-clause-ok
returns-then-is_none-clause-ok g c limit state store stands settled child stored =
    let disk = c.args.disk.now in
    let contents = g.D.Disk.contents disk in
    let images = g.D.Disk.left_since disk (g.D.Disk.time disk) in
    let after = c.try_block-tried.new.disk in
    let shared = c.args.shared.now in
    let chain = c.args.chain.now in
    let later = stands_still g.D.Disk.time g.D.Disk.left_since g.D.Disk.contents g.met.D.Disk.since_earlier g.met.D.Disk.reads_as disk after c.in-Ok.ensures.quiet c.in-Ok.ensures.contents limit shared chain state store stands in
    stands_tried limit (g.D.Disk.contents after) (g.D.Disk.left_since after (g.D.Disk.time after)) shared chain state store later settled c.args.hash.now child c.args.block.now stored
    (record { tip = c.args.hash.now; store = chain.store; layers = c.try_block-tried.new.layers; waiting = c.remove.new.self }) refl c.remove.ensures c.in-Ok.refused
    (tip_moves c.in-Ok.refused (c.is_none.ensures ∙ ap not c.if-is_none.true) chain.tip c.args.hash.now)
    (c.in-Ok.ensures.ok store.active.coins (active_coins state) (rows_seen limit contents images shared chain state store stands) (carries limit contents images shared chain state store stands settled))

pub returns-else-is_none-clause-ok : goal.returns-else-is_none-clause-ok
returns-else-is_none-clause-ok g c limit state store stands settled child stored =
    let disk = c.args.disk.now in
    let contents = g.D.Disk.contents disk in
    let images = g.D.Disk.left_since disk (g.D.Disk.time disk) in
    let after = c.try_block-tried.new.disk in
    let shared = c.args.shared.now in
    let chain = c.args.chain.now in
    let later = stands_still g.D.Disk.time g.D.Disk.left_since g.D.Disk.contents g.met.D.Disk.since_earlier g.met.D.Disk.reads_as disk after c.in-Ok.ensures.quiet c.in-Ok.ensures.contents limit shared chain state store stands in
    stands_tried limit (g.D.Disk.contents after) (g.D.Disk.left_since after (g.D.Disk.time after)) shared chain state store later settled c.args.hash.now child c.args.block.now stored
    (record { tip = chain.tip; store = chain.store; layers = c.try_block-tried.new.layers; waiting = c.remove.new.self }) refl c.remove.ensures c.in-Ok.refused
    (tip_stays c.in-Ok.refused (c.is_none.ensures ∙ ap not c.if-is_none.false) chain.tip c.args.hash.now)
    (c.in-Ok.ensures.ok store.active.coins (active_coins state) (rows_seen limit contents images shared chain state store stands) (carries limit contents images shared chain state store stands settled))
