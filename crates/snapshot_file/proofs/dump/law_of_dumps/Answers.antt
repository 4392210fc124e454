use Rattle.snapshot_file.proofs.DumpLaws.{is_dump}
use Rattle.snapshot_file.proofs.dump.law_of_dumps.Goals as goal

pub returns : goal.returns
returns c = is_dump
