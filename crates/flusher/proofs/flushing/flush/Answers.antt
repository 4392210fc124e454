use Rattle.std.proofs.Common.{Some, ap, refl, sym, subst, ◌∙◌}
use Rattle.chain_state.specs.declared.state.ChainState.{ChainState}
use Rattle.coin_cache.specs.Contents.{Contents}
use Rattle.flusher.specs.Writing.{LeadsTo}
use Rattle.flusher.proofs.Begins.{leads}
use Rattle.flusher.proofs.Ends.{carries, has_failed, has_flushed}
use Rattle.machine.specs.State.{active_coins}
use Rattle.flusher.proofs.flushing.flush.Goals as goal

pub returns-in-Ok-clause-ok : goal.returns-in-Ok-clause-ok
returns-in-Ok-clause-ok g c limit shared state store stands settled =
    let old = c.args.disk.now in
    let new = c.make_flush.new.disk in
    let chain = c.args.chain.now in
    let cache = c.tip_cache-cache.result.now in
    let meant = active_coins state in
    let same = c.tip_cache-cache.ensures.value ∙ c.drop_top.ensures.tip in
    let leading = subst (λ (k : Contents). LeadsTo k chain.store store chain.tip meant) (sym same)
    (leads limit (g.D.Disk.contents old) (g.D.Disk.left_since old (g.D.Disk.time old)) shared chain state store stands settled) in
    let after : ChainState = record {
      tip = chain.tip;
      store = c.make_flush.new.coins;
      layers = record { tip = c.keep_clean.new.self; block = c.drop_top.new.self.block };
      waiting = chain.waiting;
    } in
    has_flushed limit (g.D.Disk.left_since old) (g.D.Disk.left_since new) (g.D.Disk.time old) (g.D.Disk.time new) (g.D.Disk.contents old) (g.D.Disk.contents new) shared chain state store c.args.why c.args.flushes.now c.make_flush.new.flushes stands settled
    after refl refl c.make_flush.ensures.same
    (carries after.layers cache c.keep_clean.new.self (Some store.active.coins) meant refl (ap (λ (k : Contents). k.slots) c.drop_top.ensures.block) leading.meaning (c.keep_clean.ensures.coins (Some store.active.coins) leading.stands))
    (c.in-Ok.ensures.ok limit shared.blocks store meant state.active.touched stands.files leading)

pub returns-in-Err-clause-err : goal.returns-in-Err-clause-err
returns-in-Err-clause-err g c limit shared state store stands settled =
    let old = c.args.disk.now in
    let new = c.make_flush.new.disk in
    let chain = c.args.chain.now in
    let meant = active_coins state in
    let same = c.tip_cache-cache.ensures.value ∙ c.drop_top.ensures.tip in
    let leading = subst (λ (k : Contents). LeadsTo k chain.store store chain.tip meant) (sym same)
    (leads limit (g.D.Disk.contents old) (g.D.Disk.left_since old (g.D.Disk.time old)) shared chain state store stands settled) in
    has_failed limit (g.D.Disk.left_since old) (g.D.Disk.left_since new) (g.D.Disk.time old) (g.D.Disk.time new) (g.D.Disk.contents old) (g.D.Disk.contents new) shared chain state store c.args.why c.args.flushes.now c.make_flush.new.flushes stands settled
    (c.in-Err.ensures.err limit shared.blocks store meant state.active.touched stands.files leading)
