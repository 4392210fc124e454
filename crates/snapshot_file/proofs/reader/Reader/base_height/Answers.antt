use Rattle.std.proofs.Common.{◌∙◌, sym, refl}
use Rattle.snapshot_file.proofs.Taking.{stands_as}
use Rattle.snapshot_file.proofs.Answering.{height_set, stands_behind}
use Rattle.snapshot_file.specs.declared.reader.Stage.TheVariants.{Coins}
use Rattle.snapshot_file.proofs.reader.Reader.base_height.Goals as goal

pub returns-in-Coins-clause-set : goal.returns-in-Coins-clause-set
returns-in-Coins-clause-set c = λ before fed h.
    let s = c.in-Coins.progress in
    let old = c.args.self.now in
    record {
      bytes = h.bytes;
      count = h.count;
      stands = height_set s c.args.height old.at old.held.items before fed (sym h.count ∙ c.requires) (stands_as old (Coins s) before fed c.in-Coins.is h);
    }

pub returns-in_default : goal.returns-in_default
returns-in_default c = record {
  set = λ before fed h. absurd (stands_behind c.args.self.now before fed c.requires h c.in_default.not-Coins);
  count = refl;
  failed = refl;
}
