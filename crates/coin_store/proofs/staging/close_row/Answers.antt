use Rattle.std.proofs.Common.{refl}
use Rattle.coin_store.proofs.StagedBytes.{row_closed}
use Rattle.coin_store.proofs.staging.close_row.Goals as goal

pub returns : goal.returns
returns c = λ front value size is begins long.
    row_closed c.args.start c.args.len _ c.args.mask.now c.args.bytes.now c.obfuscate.new.bytes c.rotate_left.new.self front value size refl c.obfuscate.ensures _ refl c.rotate_left.ensures.after is begins long
