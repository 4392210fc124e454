use Rattle.std.proofs.Common.{◌≡◌, refl, sym, ◌∙◌, arith}
use Rattle.std.proofs.lemmas.Result.{err_from_is_err_and}
use Rattle.io_traits.specs.Host.{Grows, Spoils}
use Rattle.io_traits.specs.Told.{OnTold}
use Rattle.chain_gen.proofs.Making.{Making-none, Making-next, failed_tip, failed_file, cut_off, cut_off_by, write_done, write_failed, write_kept}
use Rattle.chain_gen.proofs.generation.write_blocks.Goals as goal

pub loop-below-init : goal.loop-below-init
loop-below-init g c = record { making = Making-none (g.H.Host.held c.args.host.now) c.args.number c.genesis_hash-tip.result c.genesis_hash-tip.ensures; steady = refl }

pub returns-in_err-block-clause-tip : goal.returns-in_err-block-clause-tip
returns-in_err-block-clause-tip g c =
    let p = err_from_is_err_and c.from_residual.result c.from_residual.ensures.1 in
    rw (p.1, p.2) (failed_tip (g.H.Host.held c.args.host.now) (g.H.Host.held c.loop-below.host) c.args.number c.loop-below.below c.args.count c.loop-below.tip c.in_err-block.field-0.0 c.loop-below.invariant.making (omega arith) c.in_err-block.ensures)

pub returns-in_err-block-clause-file : goal.returns-in_err-block-clause-file
returns-in_err-block-clause-file g c =
    let p = err_from_is_err_and c.from_residual.result c.from_residual.ensures.1 in
    rw (p.1, p.2) (failed_file (g.H.Host.held c.args.host.now) (g.H.Host.held c.loop-below.host) c.args.number c.loop-below.below c.args.count c.loop-below.tip c.in_err-block.field-0.0 c.loop-below.invariant.making (omega arith) c.in_err-block.ensures)

pub returns-in_err-put_frame-clause-file : goal.returns-in_err-put_frame-clause-file
returns-in_err-put_frame-clause-file g c =
    let p = err_from_is_err_and c.from_residual-in_err-put_frame.result c.from_residual-in_err-put_frame.ensures.1 in
    rw (p.1, p.2) (λ name first begun. cut_off (g.H.Host.held c.args.host.now) (g.H.Host.held c.loop-below.host) c.args.number c.loop-below.below c.loop-below.tip name first c.loop-below.invariant.making begun)

pub returns-then-is_err-clause-file : goal.returns-then-is_err-clause-file
returns-then-is_err-clause-file g c = λ name first begun.
    let b = g.H.Host.held c.loop-below.host in
    let d = g.H.Host.held c.write.new.self in
    let failed : OnTold b d (λ t u. Spoils t.created t u × (u.created ≡ t.created)) =
    write_failed b d c.write.result c.deref.result.now (sym c.is_err.ensures.value ∙ c.if-is_err.true) c.write.ensures.held in
    cut_off_by (g.H.Host.held c.args.host.now) b d c.args.number c.loop-below.below c.loop-below.tip name first c.loop-below.invariant.making begun failed

pub loop-below-preserved : goal.loop-below-preserved
loop-below-preserved g c =
    let b = g.H.Host.held c.loop-below.host in
    let d = g.H.Host.held c.write.new.self in
    let grown : OnTold b d (λ t u. Grows t.created c.deref.result.now t u) =
    write_done b d c.write.result c.deref.result.now (sym c.is_err.ensures.value ∙ c.if-is_err.false) c.write.ensures.held in
    record {
      making = Making-next (g.H.Host.held c.args.host.now) b d c.args.number c.loop-below.below c.loop-below.tip c.in_ok-block.hash c.in_ok-block.block c.deref.result.now c.loop-below.invariant.making
          c.in_ok-block.ensures.0 c.in_ok-block.ensures.1 (c.deref.ensures.value ∙ c.in_ok-put_frame.ensures) grown;
      steady = write_kept _ _ c.write.result (sym c.is_err.ensures.value ∙ c.if-is_err.false) c.write.ensures.cause ∙ c.loop-below.invariant.steady;
    }
