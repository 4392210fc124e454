use Rattle.std.proofs.Common.{arith, ◌≡◌, ◌-◌, ◌∙◌, ◌++◌, ap, drop, length, set, List, ℕ}
use Rattle.std.specs.Int.{to_le_bytes, w32}
use Rattle.batch_log.specs.Records.{payload_in}
use Rattle.batch_log.proofs.OneMore.{framed_is, payload_size}
use Rattle.batch_log.proofs.records.frame.Goals as goal

pub returns : goal.returns
returns c =
    let framed = c.args.framed.now in
    let room = c.requires.room in
    let size : length framed - 1 - 4 ≡ length (payload_in framed) = omega (arith, payload_size framed room) in
    let spelled : c.copy_from_slice.new.self ≡ to_le_bytes w32 (length (payload_in framed)) = c.copy_from_slice.ensures.after ∙ c.to_le_bytes.ensures ∙ ap (to_le_bytes w32) size in
    ap (λ (head : List ℕ). set (head ++ drop 4 framed) (length framed - 1) 0) spelled ∙ framed_is _ _ _ _ framed c.requires.room
