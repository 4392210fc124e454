use Rattle.std.proofs.Common.{ap, sym, ◌∙◌}
use Rattle.std.specs.FinMap.{insert}
use Rattle.std.specs.Option.{option_copied_mut}
use Rattle.disk_model.specs.Disk.{written}
use Rattle.disk_model.proofs.Moments.{on_ok, on_err}
use Rattle.disk_model.proofs.Lookups.{files, files-updates, bytes-found, written_through, put_back, bytes-absent}
use Rattle.disk_model.proofs.image.Image.write_at.Goals as goal

pub returns-in-Some-clause-ok : goal.returns-in-Some-clause-ok
returns-in-Some-clause-ok c =
    let here = sym c.get_mut.ensures.value ∙ ap option_copied_mut c.in-Some.is in
    let found = bytes-found c.self.inside.files c.args.self.now c.self.view_is c.args.file c.in-Some.old.now here in
    on_ok _ _ _ (λ is.
    written_through c.self.inside.files c.args.self.now c.self.view_is c.args.file c.in-Some.old.now here (c.get_mut.follows.lender c.write_at.new.self) c.write_at.new.self (c.get_mut.follows.holds c.write_at.new.self)
    ∙ ap (insert c.args.self.now c.args.file) (is ∙ ap (written c.args.at c.args.bytes.now) (sym found)))
    c.write_at.ensures.ok

pub returns-in-Some-clause-err : goal.returns-in-Some-clause-err
returns-in-Some-clause-err c =
    let here = sym c.get_mut.ensures.value ∙ ap option_copied_mut c.in-Some.is in
    on_err _ _ _ (λ is.
    written_through c.self.inside.files c.args.self.now c.self.view_is c.args.file c.in-Some.old.now here (c.get_mut.follows.lender c.write_at.new.self) c.write_at.new.self (c.get_mut.follows.holds c.write_at.new.self)
    ∙ ap (insert c.args.self.now c.args.file) is
    ∙ put_back c.self.inside.files c.args.self.now c.self.view_is c.args.file c.in-Some.old.now here)
    c.write_at.ensures.err

pub returns-in_ok-insert-in-None-clause-ok : goal.returns-in_ok-insert-in-None-clause-ok
returns-in_ok-insert-in-None-clause-ok c =
    let here = sym c.get_mut.ensures.value ∙ ap option_copied_mut c.in-None.is in
    let blank = bytes-absent c.self.inside.files c.args.self.now c.self.view_is c.args.file here in
    files-updates c.get_mut.follows.lender-at-none c.insert.new.self c.args.file c.write_at-in-None.new.self c.in_ok-insert-in-None.ensures.updates
    ∙ ap (λ m. insert m c.args.file c.write_at-in-None.new.self) (ap files c.get_mut.follows.holds-at-none ∙ c.self.view_is)
    ∙ ap (insert c.args.self.now c.args.file) (c.in_ok-write_at-in-None.ensures.ok ∙ ap (written c.args.at c.args.bytes.now) (c.new-new.ensures ∙ blank))
