use Rattle.std.proofs.Common.{◌≡◌, ◌+◌, ◌++◌, ℕ, List, [], length, arith, ap}
use Rattle.std.proofs.lemmas.List.{length-append}
use Rattle.std.specs.Prelude.{Result, Ok, Err, OnOk, is_ok, if◌then◌else◌}
use Rattle.block_codec.specs.Encoding.{Appended}
use Rattle.block_codec.specs.Text.{header_text}
use Rattle.block_codec.proofs.BlockLaws.{length-header}
use Rattle.block_codec.proofs.writing.write_header.Goals as goal

longer : {T E : Type 0} (r : Result T E) (first text bytes : List ℕ) (n : ℕ) → length text ≡ n → bytes ≡ (if is_ok r then first ++ text else first) → OnOk r (length bytes ≡ length first + n)
longer (Ok x) first text bytes n long is = grind (arith, length-append)
longer (Err e) first text bytes n long is = tt

pub returns-clause-len : goal.returns-clause-len
returns-clause-len c =
    longer c.finish-bytes.result.1 c.args.out.now.items (header_text c.args.header.now) c.finish-bytes.result.0.items 80
    (length-header c.args.header.now c.has_32_bytes.ensures c.has_32_bytes-2.ensures)
    (let begun : Appended c.new-appender.result.start c.new-appender.result.failed c.new-appender.result.bytes.items c.args.out.now.items [] = rw (ap (λ v. v.items) c.replace.ensures.value) at c.new-appender.ensures in
    c.finish-bytes.ensures c.args.out.now.items (header_text c.args.header.now) (c.put_header.ensures c.args.out.now.items [] begun))
