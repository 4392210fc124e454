use Rattle.std.proofs.Common.{◌≡◌, true, false, refl, sym, ◌∙◌}
use Rattle.block_codec.specs.Text.{some_witness}
use Rattle.block_codec.specs.Reading.{stacks_at, full_at, ended_at}
use Rattle.block_codec.proofs.Skips.{lists_len, fails_first, failed}
use Rattle.block_codec.proofs.checking.skip_full.Goals as goal

pub returns-in_err-skip_stacks : goal.returns-in_err-skip_stacks
unfolding full_at
returns-in_err-skip_stacks c = λ version flag.
    let lists = c.in_ok-skip_lists.ensures in
    let fails = c.in_err-skip_stacks.ensures lists.0.0 (lists_len _ _ _ _ lists.1) in
    failed c.from_residual-in_err-skip_stacks.result c.skip_stacks.new.cursor (full_at version flag c.args.cursor.now) c.from_residual-in_err-skip_stacks.ensures.0
    (rw (c.in_ok-count.ensures.value, lists.1) (fails_first (stacks_at lists.0.0 c.skip_lists.new.cursor) _ fails))

pub returns-then-not-branch : goal.returns-then-not-branch
unfolding full_at
returns-then-not-branch c = λ version flag.
    let lists = c.in_ok-skip_lists.ensures in
    let stacks = c.in_ok-skip_stacks.ensures lists.0.0 (lists_len _ _ _ _ lists.1) in
    let none : some_witness stacks.0 ≡ false = sym stacks.1 ∙ c.if-not-branch.true in
    rw (c.in_ok-count.ensures.value, lists.1, stacks.2, none) refl

pub returns-in_err-u32 : goal.returns-in_err-u32
unfolding full_at ended_at
returns-in_err-u32 c = λ version flag.
    let lists = c.in_ok-skip_lists.ensures in
    let stacks = c.in_ok-skip_stacks.ensures lists.0.0 (lists_len _ _ _ _ lists.1) in
    let some : some_witness stacks.0 ≡ true = sym stacks.1 ∙ c.if-not-branch.false in
    failed c.from_residual-in_err-u32.result c.u32.new.self (full_at version flag c.args.cursor.now) c.from_residual-in_err-u32.ensures.0
    (rw (c.in_ok-count.ensures.value, lists.1, stacks.2, some, c.in_err-u32.ensures.value.0) refl)

pub returns : goal.returns
unfolding full_at ended_at
returns c = λ version flag.
    let lists = c.in_ok-skip_lists.ensures in
    let stacks = c.in_ok-skip_stacks.ensures lists.0.0 (lists_len _ _ _ _ lists.1) in
    let some : some_witness stacks.0 ≡ true = sym stacks.1 ∙ c.if-not-branch.false in
    rw (c.in_ok-count.ensures.value, lists.1, stacks.2, some, c.in_ok-u32.ensures.value) (_, refl)
