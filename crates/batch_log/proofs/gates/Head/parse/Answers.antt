use Rattle.std.proofs.Common.{arith, ◌≡◌, ℕ, drop, get_or, ◌<◌, ap, ◌∷◌, ◌∙◌}
use Rattle.batch_log.proofs.Heads.{gate_is, rest_long, number_is, spelled}
use Rattle.batch_log.proofs.gates.Head.parse.Goals as goal

pub returns-then-count-eq0 : goal.returns-then-count-eq0
returns-then-count-eq0 c X more same count = absurd (omega arith)

pub returns-then-buf-ne1 : goal.returns-then-buf-ne1
returns-then-buf-ne1 c X more same count =
    let buf = c.args.buf.now in
    let some : 0 < c.args.count = omega arith in
    (get_or buf 0 0, drop 1 X, c.if-buf-ne1.true, gate_is buf X _ c.requires same count some)

pub returns-then-count-lt5 : goal.returns-then-count-lt5
returns-then-count-lt5 c X more same count =
    let buf = c.args.buf.now in
    let some : 0 < c.args.count = omega arith in
    let few = c.if-count-lt5.true in
    let long = rest_long buf X _ c.requires same count some in
    (drop 1 X, gate_is buf X _ c.requires same count some ∙ ap (λ (k : ℕ). k ∷ drop 1 X) c.if-buf-ne1.false, omega arith)

pub returns : goal.returns
returns c X more same count =
    let buf = c.args.buf.now in
    let some : 0 < c.args.count = omega arith in
    let many = c.if-count-lt5.false in
    let whole : c.args.count ≡ 5 = omega arith in
    let long = rest_long buf X _ c.requires same count some in
    let value = number_is buf X _ c.requires same count whole c.from_le_bytes.result c.from_le_bytes.ensures in
    (drop 1 X, gate_is buf X _ c.requires same count some ∙ ap (λ (k : ℕ). k ∷ drop 1 X) c.if-buf-ne1.false, omega arith, value, spelled buf X _ c.requires same count whole c.from_le_bytes.result (λ i. let f = c.type_inv.buf i in omega arith) value)
