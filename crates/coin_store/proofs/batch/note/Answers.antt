use Rattle.disk_model.proofs.Moments.{on_ok}
use Rattle.coin_store.proofs.BatchSteps.{noted_none, noted_some}
use Rattle.coin_store.proofs.batch.note.Goals as goal

pub returns-then-row-eq0-clause-places : goal.returns-then-row-eq0-clause-places
returns-then-row-eq0-clause-places c = noted_none c.args.gate.file c.args.gate.at c.args.offset c.args.row.now c.args.index.now.places c.remove.new.self.places c.if-row-eq0.true c.remove.ensures.places

pub returns-clause-places : goal.returns-clause-places
returns-clause-places c = on_ok c.set.result _ _ (λ is. noted_some c.args.gate.file c.args.gate.at c.args.offset c.args.row.now c.args.index.now.places c.set.new.self.places _ c.place_of.ensures c.if-row-eq0.false is) c.set.ensures.ok
