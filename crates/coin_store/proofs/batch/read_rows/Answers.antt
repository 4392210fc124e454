use Rattle.std.specs.Prelude.{ℕ, ◌+◌, ◌<◌, ◌≤◌, List, length, drop}
use Rattle.std.proofs.Common.{refl, arith, ap, subst, ◌∙◌}
use Rattle.coin_store.specs.Rows.{IsRow}
use Rattle.coin_store.proofs.BatchSteps.{read_none, read_more, read_all, row_grows, later_stays, nearer_end, part_is, faulty_rows}
use Rattle.coin_store.proofs.batch.read_rows.Goals as goal

pub loop-at-init : goal.loop-at-init
loop-at-init c = record { behind = refl; read = read_none c.args.gate.file c.args.gate.at c.args.mask.now c.args.payload.now c.args.start c.args.index.now.places; salt = refl }

pub returns-in_default-clause-broken : goal.returns-in_default-clause-broken
returns-in_default-clause-broken c =
    let i = c.loop-at.invariant in
    let within : c.loop-at.at < length c.args.payload.now = omega (arith, c.loop-at-test.true, c.loop-at.auto.payload) in
    faulty_rows c.args.gate.file c.args.gate.at c.args.mask.now c.args.payload.now c.args.start c.args.index.now.places c.loop-at.at c.loop-at.index.places c.loop-at.coins i.read within _
    (part_is c.loop-at.at c.args.payload.now c.loop-at.payload i.behind) c.in_default.ensures.broken

pub loop-at-smaller : goal.loop-at-smaller
loop-at-smaller c = nearer_end c.loop-at.at (c.in-Some.row.from + c.in-Some.row.len) c.loop-at.payload c.read_row.new.bytes c.loop-at-test.true (row_grows c.args.mask.now _ c.in-Some.row c.in-Some.ensures.row) c.read_row.auto.bytes

pub loop-at-preserved : goal.loop-at-preserved
loop-at-preserved c =
    let i = c.loop-at.invariant in
    let row = c.in-Some.row in
    let part = part_is c.loop-at.at c.args.payload.now c.loop-at.payload i.behind in
    let whole = part_is c.loop-at.at c.loop-at.payload c.loop-at.payload refl in
    record {
      behind = later_stays c.loop-at.at (row.from + row.len) c.args.payload.now c.loop-at.payload c.read_row.new.bytes (omega (arith, c.loop-at-test.true)) i.behind (c.read_row.auto.bytes ∙ ap length whole) (c.in-Some.ensures.behind ∙ ap (λ (l : List ℕ). drop (row.from + row.len) l) whole);
      read = read_more c.args.gate.file c.args.gate.at c.args.mask.now c.args.payload.now c.args.start c.args.index.now.places c.loop-at.at c.loop-at.index.places c.note.new.index.places c.loop-at.coins _ row i.read
          (subst (λ (l : List ℕ). IsRow c.args.mask.now l row) part c.in-Some.ensures.row) c.in-Ok.ensures.places refl;
      salt = c.note.ensures.salt ∙ i.salt;
    }

pub returns-clause-ok : goal.returns-clause-ok
returns-clause-ok c =
    let i = c.loop-at.invariant in
    let over : length c.args.payload.now ≤ c.loop-at.at = omega (arith, c.loop-at-test.false, c.loop-at.auto.payload) in
    read_all c.args.gate.file c.args.gate.at c.args.mask.now c.args.payload.now c.args.start c.args.index.now.places c.loop-at.at c.loop-at.index.places c.loop-at.coins i.read over
