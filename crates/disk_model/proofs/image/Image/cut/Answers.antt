use Rattle.std.proofs.Common.{ap, sym, ◌∙◌, subst}
use Rattle.std.specs.Option.{option_copied_mut}
use Rattle.std.specs.BTreeMap as tree
use Rattle.std.specs.Ordering.{nat_cmp}
use Rattle.std.specs.Prelude.{List, ℕ}
use Rattle.disk_model.proofs.Lookups.{files, cut_through, cut_absent}
use Rattle.disk_model.proofs.image.Image.cut.Goals as goal
use Rattle.disk_model.proofs.image.Image.cut.Goals.{in-Some, in-None}

pub returns : goal.returns
returns c =
    elim c.match-get_mut.branch [
      | in-Some w ↦
          let here = sym c.get_mut.ensures.value ∙ ap option_copied_mut w.in-Some.is in
          ap (λ i. files i.files) w.self-inside-is
          ∙ cut_through c.self.inside.files c.args.self.now c.self.view_is c.args.file w.in-Some.bytes.now here (c.get_mut.follows.lender w.cut.new.self) c.args.length
          (subst (λ (v : List ℕ). tree.WritesThrough nat_cmp (nat_cmp c.args.file) c.self.inside.files v (c.get_mut.follows.lender w.cut.new.self)) w.cut.ensures (c.get_mut.follows.holds w.cut.new.self))
      | in-None w ↦
          let here = sym c.get_mut.ensures.value ∙ ap option_copied_mut w.in-None.is in
          ap (λ i. files i.files) w.self-inside-is
          ∙ ap files c.get_mut.follows.holds-at-none
          ∙ cut_absent c.self.inside.files c.args.self.now c.self.view_is c.args.file here c.args.length
    ]
