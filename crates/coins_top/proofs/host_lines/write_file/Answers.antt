use Rattle.chain_model.specs.Generated.{chain as generated_chain}
use Rattle.io_traits.specs.Causes.{Rose}
use Rattle.coins_top.proofs.FileLines.{written_all}
use Rattle.coins_top.proofs.host_lines.write_file.Goals as goal

pub returns-in-Ok-clause-told : goal.returns-in-Ok-clause-told
returns-in-Ok-clause-told g c =
    written_all (generated_chain c.args.number c.args.count) c.args.count c.in-Ok.tip c.args.name.now (Rose (g.H.Host.faults c.args.host.now) (g.H.Host.faults c.generate.new.host)) (g.H.Host.held c.args.host.now) (g.H.Host.held c.generate.new.host)
    c.in-Ok.ensures.ok.0 c.in-Ok.ensures.ok.1 c.in-Ok.ensures.file
