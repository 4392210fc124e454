use Rattle.std.proofs.Common.{ap, ◌∙◌, arith, ◌+◌, ◌-◌, ◌<◌, ◌≤◌, length, take, ◌++◌, replicate}
use Rattle.disk_model.specs.Disk.{written}
use Rattle.disk_model.proofs.Writing.{in_place, overwritten, overwritten_longer, overwritten_within}
use Rattle.disk_model.proofs.bytes.Bytes.write_at.Goals as goal
use Rattle.disk_model.proofs.bytes.Bytes.write_at.Goals.{then-len-end+in_ok-resize, else-len-end}

pub returns-clause-ok : goal.returns-clause-ok
returns-clause-ok c =
    let at = c.args.at in
    let xs = c.args.bytes.now in
    let old = c.self.inside.bytes in
    let grown = c.if-len-end.self-inside.bytes in
    let size = old.ok.0 in
    let grown_size = grown.ok.0 in
    let in_grown = in_place grown.len at xs grown.items c.deref_mut.result.now c.overwrite.new.all grown.ok.0 c.deref_mut.ensures.value c.overwrite.ensures in
    elim c.if-len-end.branch [
      | then-len-end+in_ok-resize w ↦
          let items = ap (λ s. s.bytes.items) w.self-inside-is ∙ w.in_ok-resize.ensures.items in
          let len = ap (λ s. s.bytes.len) w.self-inside-is ∙ w.in_ok-resize.ensures.len in
          let long : at + length xs ≤ length grown.items = omega (arith, len, grown_size) in
          let short : length old.items < at + length xs = omega (arith, size, c.len.ensures, w.if-len-end.true) in
          in_grown long
          ∙ ap (overwritten at xs) items
          ∙ ap (λ n. overwritten at xs (take (at + length xs) old.items ++ replicate (at + length xs - n) 0)) size
          ∙ overwritten_longer at xs old.items short
          ∙ ap (written at xs) c.self.view_is
      | else-len-end w ↦
          let items = ap (λ s. s.bytes.items) w.self-inside-is in
          let fits : at + length xs ≤ length old.items = omega (arith, size, c.len.ensures, w.if-len-end.false) in
          let long : at + length xs ≤ length grown.items = omega (arith, fits, ap length items) in
          in_grown long ∙ ap (overwritten at xs) items ∙ overwritten_within at xs old.items fits ∙ ap (written at xs) c.self.view_is
    ]
