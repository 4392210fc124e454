use Rattle.std.proofs.Common.{◌+◌, length, Some, sym, ap, refl, ◌∙◌}
use Rattle.std.proofs.lemmas.Result.{on_err_weaker, on_ok_weaker}
use Rattle.base_types.specs.Coins.{Coins}
use Rattle.flusher.specs.Changes.{keys_of, payload_length, rows_in}
use Rattle.flusher.proofs.Begins.{on_staged}
use Rattle.flusher.proofs.Made.{is_cut, is_made, not_begun}
use Rattle.flusher.proofs.Meant.{rows_mean}
use Rattle.flusher.proofs.writing.write_changes.Goals as goal

pub returns-in-Ok-clause-ok : goal.returns-in-Ok-clause-ok
returns-in-Ok-clause-ok g c limit blocks store meant touched on leads =
    let old = c.args.disk.now in
    let new = c.store_coins.new.disk in
    let staged = c.in-Ok.ensures.staged in
    let mid = c.stage_changes.new.coins in
    let mask = c.args.coins.now.mask in
    let rows = rows_in c.args.cache.now.slots staged.slots in
    let mean = rows_mean c.args.cache.now staged.slots store.active.coins meant staged.sound staged.moved leads.stands leads.meaning in
    on_ok_weaker c.store_coins.result
    (is_made limit (g.D.Disk.left_since old) (g.D.Disk.left_since new) (g.D.Disk.time old) (g.D.Disk.time new) (g.D.Disk.contents old) (g.D.Disk.contents new) store c.args.tip.now c.args.why touched c.args.flushes.now c.store_coins.new.flushes blocks c.store_coins.new.coins rows meant mean)
    (c.store_coins.ensures.ok limit blocks store (keys_of rows) touched (payload_length mask rows) (1 + length (keys_of rows)) (5 + payload_length mask rows) rows
    (on_staged limit (g.D.Disk.contents old) (g.D.Disk.left_since old (g.D.Disk.time old)) blocks c.args.coins.now mid store c.stage_changes.ensures.same on) staged.staged
    (leads.replay ∙ ap (λ (k : Coins). Some k) (sym mean)))

pub returns-in-Ok-clause-err : goal.returns-in-Ok-clause-err
returns-in-Ok-clause-err g c limit blocks store meant touched on leads =
    let old = c.args.disk.now in
    let new = c.store_coins.new.disk in
    let staged = c.in-Ok.ensures.staged in
    let mid = c.stage_changes.new.coins in
    let mask = c.args.coins.now.mask in
    let rows = rows_in c.args.cache.now.slots staged.slots in
    let mean = rows_mean c.args.cache.now staged.slots store.active.coins meant staged.sound staged.moved leads.stands leads.meaning in
    on_err_weaker c.store_coins.result
    (is_cut limit (g.D.Disk.left_since old) (g.D.Disk.left_since new) (g.D.Disk.time old) (g.D.Disk.time new) (g.D.Disk.contents old) (g.D.Disk.contents new) store c.args.tip.now c.args.why touched c.args.flushes.now c.store_coins.new.flushes)
    (c.store_coins.ensures.err limit blocks store (keys_of rows) touched (payload_length mask rows) (1 + length (keys_of rows)) (5 + payload_length mask rows) rows
    (on_staged limit (g.D.Disk.contents old) (g.D.Disk.left_since old (g.D.Disk.time old)) blocks c.args.coins.now mid store c.stage_changes.ensures.same on) staged.staged
    (leads.replay ∙ ap (λ (k : Coins). Some k) (sym mean)))

pub returns-in-Err-clause-err : goal.returns-in-Err-clause-err
returns-in-Err-clause-err g c limit blocks store meant touched on leads =
    let old = c.args.disk.now in
    not_begun limit (g.D.Disk.left_since old) (g.D.Disk.time old) (g.D.Disk.contents old) blocks c.args.coins.now store c.args.tip.now c.args.why touched c.args.flushes.now c.args.flushes.now (g.met.D.Disk.since_earlier old) on refl

pub returns-in-Err-clause-cause : goal.returns-in-Err-clause-cause
returns-in-Err-clause-cause g c = c.in-Err.ensures.cause (g.D.Disk.faults c.args.disk.now) (g.D.Disk.faults c.args.disk.now)
