use Rattle.std.proofs.Common.{◌≡◌, ◌≤◌, ◌++◌, ◌-◌, ◌∙◌, ℕ, List, length, take, ap, arith}
use Rattle.std.specs.Prelude.{min, vec_len}
use Rattle.command_loop.specs.Asks.{kept_of}
use Rattle.command_loop.proofs.Pieces.{kept-push, pushed}
use Rattle.command_loop.proofs.pending.PendingLine.push.Goals as goal

pub returns : goal.returns
returns c =
    let v = c.self.inside.bytes in
    let bytes = c.args.bytes.now in
    let same : vec_len v ≡ length v.items = omega (arith, v.ok.0) in
    let within : length v.items ≤ 4098 = let few = c.self.invariant in omega (arith, few, same) in
    let count : c.min-count.result ≡ min (length bytes) (4098 - length v.items) = c.min-count.ensures ∙ ap (λ (n : ℕ). min (length bytes) (4098 - n)) (c.len.ensures ∙ same) in
    pushed c.extend_from_slice.result c.extend_from_slice.new.self.items v.items (take c.min-count.result bytes) (kept_of (c.args.self.now ++ bytes)) c.extend_from_slice.ensures.items
    (ap (λ (n : ℕ). v.items ++ take n bytes) count ∙ kept-push v.items bytes within ∙ ap (λ (l : List ℕ). kept_of (l ++ bytes)) c.self.view_is)
