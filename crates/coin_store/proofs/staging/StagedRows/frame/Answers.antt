use Rattle.std.specs.Prelude.{◌≤◌, ◌-◌, List, ℕ, length, drop}
use Rattle.std.proofs.Common.{◌∙◌, ap, arith}
use Rattle.batch_log.specs.Records.{payload_in}
use Rattle.coin_store.proofs.StagedBytes.{framed_text, pushed}
use Rattle.coin_store.proofs.staging.StagedRows.frame.Goals as goal

pub returns-clause-text : goal.returns-clause-text
returns-clause-text c =
    let begins = c.put_marker-begins.result in
    let bytes = c.put_marker-begins.new.staged in
    let long : begins ≤ length bytes.items = omega (arith, c.put_marker-begins.ensures.begins, c.put_marker-begins.ensures.len, c.requires.front, bytes.ok.0, c.args.self.now.bytes.ok.0) in
    let all = pushed c.push.result _ bytes.items c.push.new.self.items 0 c.unwrap.ensures c.push.ensures.items in
    ap (λ (l : List ℕ). payload_in (drop (begins - 4) l)) all ∙ framed_text begins bytes.items _ c.put_marker-begins.ensures.room long c.put_marker-begins.ensures.text
