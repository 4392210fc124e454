use Rattle.std.proofs.Common.{◌∷◌, [], ◌++◌, true, false, cond, ap, ◌∙◌}
use Rattle.file_disk.specs.Deeds.{creates}
use Rattle.file_disk.proofs.Unsynced.{kept}
use Rattle.file_disk.proofs.open_files.OpenFiles.make.Goals as goal

pub invariant_of-self-in-Ok : goal.invariant_of-self-in-Ok
invariant_of-self-in-Ok g c =
    let now = c.args.self.now in
    let deeds = g.F.RawFolder.deeds in
    record {
      made_is = c.push.ensures.items ∙ ap (λ b. cond b (now.made.items ++ c.args.file ∷ []) now.made.items) c.if-is_err.ensures.negation
          ∙ kept now.made.items (deeds now.folder) (deeds c.create.new.self) (creates c.args.file true) now.made_is c.in-Ok.ensures.call;
    }

pub invariant_of-self-in-Err : goal.invariant_of-self-in-Err
invariant_of-self-in-Err g c =
    let now = c.args.self.now in
    let deeds = g.F.RawFolder.deeds in
    record {
      made_is = c.push.ensures.items ∙ ap (λ b. cond b (now.made.items ++ c.args.file ∷ []) now.made.items) c.if-is_err.ensures.negation
          ∙ kept now.made.items (deeds now.folder) (deeds c.create.new.self) (creates c.args.file false) now.made_is c.in-Err.ensures.call;
    }
