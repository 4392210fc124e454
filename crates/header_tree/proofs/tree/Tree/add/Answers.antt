use Rattle.std.proofs.Common.{ℕ, ◌<◌, ◌^◌, List, [], ◌∷◌, ◌++◌, sym, ap, subst, ◌∙◌, arith}
use Rattle.chain_model.specs.Tree.{ancestor}
use Rattle.header_tree.specs.declared.entry.Entry.{Entry}
use Rattle.header_tree.specs.Kept.{Numbers, IsKept, state_of}
use Rattle.header_tree.specs.State.{State, hash_at}
use Rattle.header_tree.proofs.Adding.{entry_of, sees_added}
use Rattle.header_tree.proofs.Keeping.{is_tree}
use Rattle.header_tree.proofs.tree.Tree.add.Goals as goal

pub invariant_of-self-2 : goal.invariant_of-self-2
invariant_of-self-2 c =
    let height = c.skip_height.ensures.value in
    let lower = c.skip_height.ensures.lower (omega arith) in
    let limit = ap (λ (s : State). s.limit) c.self.view_is in
    let entries = c.push_reserved.ensures.items ∙ ap (λ (es : List Entry). es ++ entry_of c.args.header c.args.hash c.args.parent c.ancestor_at-skip.result c.height_at-height.result ∷ []) c.in_ok-make_room.ensures.items in
    let kept = sees_added c.self.inside.entries.items c.self.inside.numbers c.self.inside.limit c.self.inside.rules c.self.invariant c.args.header c.args.hash c.args.parent c.ancestor_at-skip.result c.height_at-height.result c.size-number.result c.args.self.now c.self.view_is (record {
      its_hash = c.requires.named;
      fine = c.requires.fine;
      under = c.requires.below;
      tall = c.height_at-height.ensures.value;
      lower = omega arith;
      there = c.ancestor_at-skip.ensures.there;
      way = c.ancestor_at-skip.ensures.ancestor ∙ ap (ancestor c.args.self.now.tree.headers (hash_at c.args.self.now c.args.parent)) height;
      last = c.size-number.ensures.listed;
      small = subst (λ (n : ℕ). n < 2 ^ 32) limit (omega arith);
    }) in
    subst (λ (es : List Entry). IsKept es c.insert.new.self c.self.inside.limit c.self.inside.rules) (sym entries)
    (subst (λ (ns : Numbers). IsKept (c.self.inside.entries.items ++ entry_of c.args.header c.args.hash c.args.parent c.ancestor_at-skip.result c.height_at-height.result ∷ []) ns c.self.inside.limit c.self.inside.rules) (sym c.in_ok-insert.ensures.ok) kept)

pub returns-clause-tree : goal.returns-clause-tree
returns-clause-tree c = is_tree (state_of _ _ _) (invariant_of-self-2 c).in_order
