use Rattle.machine.proofs.BlockHistory.{begins_empty, each_is_run, each_goes_on, second_opens}
use Rattle.machine.proofs.StoreLaws.{StoreLaws}
use Rattle.machine.proofs.block_runs.block_runs_open.Goals as goal

pub returns-clause-first : goal.returns-clause-first
returns-clause-first c =
    let laws : StoreLaws = record { header = c.one_header_stands.ensures; block = c.one_block_stands.ensures.stands; stored = c.one_block_stands.ensures.stored } in
    λ limit cache file. begins_empty laws limit cache file

pub returns-clause-runs : goal.returns-clause-runs
returns-clause-runs c =
    let laws : StoreLaws = record { header = c.one_header_stands.ensures; block = c.one_block_stands.ensures.stands; stored = c.one_block_stands.ensures.stored } in
    λ limit cache file n. each_is_run laws limit cache file n

pub returns-clause-next : goal.returns-clause-next
returns-clause-next c =
    let laws : StoreLaws = record { header = c.one_header_stands.ensures; block = c.one_block_stands.ensures.stands; stored = c.one_block_stands.ensures.stored } in
    λ limit cache file n. each_goes_on laws limit cache file n

pub returns-clause-second : goal.returns-clause-second
returns-clause-second c =
    let laws : StoreLaws = record { header = c.one_header_stands.ensures; block = c.one_block_stands.ensures.stands; stored = c.one_block_stands.ensures.stored } in
    λ limit cache file. second_opens laws limit cache file
