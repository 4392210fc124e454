use Rattle.std.proofs.Common.{◌≡◌, ◌++◌, ◌∷◌, [], Some, None, ◌∙◌, subst, sym, arith}
use Rattle.std.specs.BTreeMap as tree
use Rattle.base_types.specs.Keys.{hash_cmp}
use Rattle.block_store.proofs.Undoing.{Places, taken_back, has_place, surely, popped}
use Rattle.block_store.proofs.body_index.BodyIndex.take_back.Goals as goal

pub invariant_of-self : goal.invariant_of-self
invariant_of-self c =
    let hashes = c.requires.0 in
    let is : c.self.inside.hashes.items ≡ hashes ++ c.args.hash ∷ [] = c.self.view_is ∙ c.requires.1 in
    let old = subst (Places (tree.get hash_cmp c.self.inside.last)) is c.self.invariant in
    let updates = surely c.insert.result c.insert.ensures.updates c.insert.ensures.absent (has_place (tree.get hash_cmp c.self.inside.last) hashes c.args.hash old) in
    subst (Places (tree.get hash_cmp c.insert.new.self)) (sym (popped c.self.inside.hashes.items c.pop.new.self.items hashes c.args.hash _ is c.pop.ensures.rest (omega arith)))
    (taken_back (tree.get hash_cmp c.self.inside.last) (tree.get hash_cmp c.insert.new.self) hashes c.args.hash (Some c.in-Some.place) old (sym c.in-Some.is ∙ c.requires.2) updates.0)

pub invariant_of-self-in-None : goal.invariant_of-self-in-None
invariant_of-self-in-None c =
    let hashes = c.requires.0 in
    let is : c.self.inside.hashes.items ≡ hashes ++ c.args.hash ∷ [] = c.self.view_is ∙ c.requires.1 in
    let old = subst (Places (tree.get hash_cmp c.self.inside.last)) is c.self.invariant in
    subst (Places (tree.get hash_cmp c.remove.new.self)) (sym (popped c.self.inside.hashes.items c.pop.new.self.items hashes c.args.hash _ is c.pop.ensures.rest (omega arith)))
    (taken_back (tree.get hash_cmp c.self.inside.last) (tree.get hash_cmp c.remove.new.self) hashes c.args.hash None old (sym c.in-None.is ∙ c.requires.2) c.remove.ensures.updates.0)
