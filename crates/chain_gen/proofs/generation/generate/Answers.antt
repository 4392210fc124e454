use Rattle.std.proofs.Common.{sym, ◌∙◌}
use Rattle.chain_model.specs.Generated.{chain, file_text, blocks_of}
use Rattle.chain_gen.proofs.Ending.{written_others, written_idle, written_file, written_in_part}
use Rattle.chain_gen.proofs.generation.generate.Goals as goal

pub returns-then-is_err-2-clause-file : goal.returns-then-is_err-2-clause-file
returns-then-is_err-2-clause-file g c =
    written_in_part (g.H.Host.held c.args.host.now) (g.H.Host.held c.create.new.self) (g.H.Host.held c.write_blocks-made.new.host) (g.H.Host.held c.finish.new.self)
    c.create.result c.write_blocks-made.result c.finish.result c.args.name.now (file_text (blocks_of (chain c.args.number c.args.count)))
    (sym c.is_err.ensures.value ∙ c.if-is_err.false) c.create.ensures.held (c.write_blocks-made.ensures.file c.args.name.now) c.finish.ensures.held

pub returns-then-is_err-2-clause-others : goal.returns-then-is_err-2-clause-others
returns-then-is_err-2-clause-others g c =
    written_others (g.H.Host.held c.args.host.now) (g.H.Host.held c.create.new.self) (g.H.Host.held c.write_blocks-made.new.host) (g.H.Host.held c.finish.new.self)
    c.create.result c.write_blocks-made.result c.finish.result c.args.name.now (file_text (blocks_of (chain c.args.number c.args.count)))
    (sym c.is_err.ensures.value ∙ c.if-is_err.false) c.create.ensures.held (c.write_blocks-made.ensures.file c.args.name.now) c.finish.ensures.held

pub returns-then-is_err-2-clause-idle : goal.returns-then-is_err-2-clause-idle
returns-then-is_err-2-clause-idle g c =
    written_idle (g.H.Host.held c.args.host.now) (g.H.Host.held c.create.new.self) (g.H.Host.held c.write_blocks-made.new.host) (g.H.Host.held c.finish.new.self)
    c.create.result c.write_blocks-made.result c.finish.result c.args.name.now (file_text (blocks_of (chain c.args.number c.args.count)))
    (sym c.is_err.ensures.value ∙ c.if-is_err.false) c.create.ensures.held (c.write_blocks-made.ensures.file c.args.name.now) c.finish.ensures.held

pub returns-clause-file : goal.returns-clause-file
returns-clause-file g c =
    written_file (g.H.Host.held c.args.host.now) (g.H.Host.held c.create.new.self) (g.H.Host.held c.write_blocks-made.new.host) (g.H.Host.held c.finish.new.self)
    c.create.result c.write_blocks-made.result c.finish.result c.args.name.now (file_text (blocks_of (chain c.args.number c.args.count)))
    (sym c.is_err.ensures.value ∙ c.if-is_err.false) c.create.ensures.held (c.write_blocks-made.ensures.file c.args.name.now) c.finish.ensures.held (sym c.is_err-2.ensures.value ∙ c.if-is_err-2.false)

pub returns-clause-others : goal.returns-clause-others
returns-clause-others g c =
    written_others (g.H.Host.held c.args.host.now) (g.H.Host.held c.create.new.self) (g.H.Host.held c.write_blocks-made.new.host) (g.H.Host.held c.finish.new.self)
    c.create.result c.write_blocks-made.result c.finish.result c.args.name.now (file_text (blocks_of (chain c.args.number c.args.count)))
    (sym c.is_err.ensures.value ∙ c.if-is_err.false) c.create.ensures.held (c.write_blocks-made.ensures.file c.args.name.now) c.finish.ensures.held

pub returns-clause-idle : goal.returns-clause-idle
returns-clause-idle g c =
    written_idle (g.H.Host.held c.args.host.now) (g.H.Host.held c.create.new.self) (g.H.Host.held c.write_blocks-made.new.host) (g.H.Host.held c.finish.new.self)
    c.create.result c.write_blocks-made.result c.finish.result c.args.name.now (file_text (blocks_of (chain c.args.number c.args.count)))
    (sym c.is_err.ensures.value ∙ c.if-is_err.false) c.create.ensures.held (c.write_blocks-made.ensures.file c.args.name.now) c.finish.ensures.held
