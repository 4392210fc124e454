use Rattle.std.proofs.Common.{◌≡◌, ◌*◌, ◌∙◌, sym, arith, refl}
use Rattle.base_types.specs.Parameters.{max_money}
use Rattle.coin_codec.specs.Amount.{amount_of}
use Rattle.coin_codec.proofs.Codes.{parts_amount, zero_amount, within, above}
use Rattle.coin_codec.proofs.amount.decompress_amount.Goals as goal

pub returns-then-code-eq0 : goal.returns-then-code-eq0
returns-then-code-eq0 c = within (amount_of c.args.code) 0 max_money (zero_amount c.args.code c.if-code-eq0.true) (omega arith)

pub returns-in_err-value : goal.returns-in_err-value
returns-in_err-value c =
    let is : amount_of c.args.code ≡ c.left_of-left.result * c.pow.result = rw (c.left_of-left.ensures, c.pow.ensures) (parts_amount c.args.code c.if-code-eq0.false) in
    let large = c.in_err-value.ensures in
    above (amount_of c.args.code) (c.left_of-left.result * c.pow.result) max_money c.from_residual.result c.from_residual.ensures is (omega (arith, large))

pub returns-then-value-gt-MAX_MONEY : goal.returns-then-value-gt-MAX_MONEY
returns-then-value-gt-MAX_MONEY c =
    let is : amount_of c.args.code ≡ c.left_of-left.result * c.pow.result = rw (c.left_of-left.ensures, c.pow.ensures) (parts_amount c.args.code c.if-code-eq0.false) in
    let value = c.in_ok-value.ensures in
    above (amount_of c.args.code) c.in_ok-value.value max_money _ refl (is ∙ sym value.1) c.if-value-gt-MAX_MONEY.true

pub returns : goal.returns
returns c =
    let is : amount_of c.args.code ≡ c.left_of-left.result * c.pow.result = rw (c.left_of-left.ensures, c.pow.ensures) (parts_amount c.args.code c.if-code-eq0.false) in
    let value = c.in_ok-value.ensures in
    within (amount_of c.args.code) c.in_ok-value.value max_money (is ∙ sym value.1) c.if-value-gt-MAX_MONEY.false
