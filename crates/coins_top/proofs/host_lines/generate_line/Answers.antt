use Rattle.std.specs.declared.alloc.AllocError.{AllocError}
use Rattle.base_types.specs.declared.fault.StoreFault.TheVariants as fault
use Rattle.coins_top.proofs.FileLines.{generate_failed, generate_said}
use Rattle.coins_top.proofs.host_lines.generate_line.Goals as goal

pub returns-in-Ok-clause-told : goal.returns-in-Ok-clause-told
returns-in-Ok-clause-told g c =
    generate_said AllocError c.args.number c.args.count c.args.name.now (g.H.Host.faults c.args.host.now) (g.H.Host.faults c.write_file.new.host) c.in-Ok.reply c.args.out.now.items c.say.new.out.items c.say.result
    (g.H.Host.held c.args.host.now) (g.H.Host.held c.write_file.new.host) c.in-Ok.ensures.later c.in-Ok.ensures.told c.say.ensures.ok

pub returns-in-Err-clause-told : goal.returns-in-Err-clause-told
returns-in-Err-clause-told g c =
    generate_failed c.args.number c.args.count c.args.name.now (g.H.Host.faults c.args.host.now) (g.H.Host.faults c.write_file.new.host) c.in-Err.field-0 c.args.out.now.items c.args.out.now.items fault.NoMemory
    (g.H.Host.held c.args.host.now) (g.H.Host.held c.write_file.new.host) (c.in-Err.ensures.steady (λ is. absurd cc)) c.in-Err.ensures.told
