use Rattle.std.proofs.Common.{List, [], ◌∷◌, ◌++◌, ap, ◌∙◌}
use Rattle.std.specs.FinMap as finite
use Rattle.block_codec.specs.Genesis.{genesis_hash}
use Rattle.header_tree.specs.declared.entry.Entry.{Entry}
use Rattle.header_tree.specs.Kept.{Numbers, state_of}
use Rattle.header_tree.proofs.Keeping.{first_entry, starts, starts_as, is_tree}
use Rattle.header_tree.proofs.tree.Tree.new.Goals as goal

pub invariant_of-result : goal.invariant_of-result
unfolding genesis_hash
invariant_of-result c =
    starts c.args.limits.now.headers c.args.rules.now c.genesis_hash-hash.result c.push.new.self.items c.insert.new.self c.genesis_hash-hash.ensures
    (c.in_ok-push.ensures.items ∙ ap (λ (es : List Entry). es ++ first_entry c.genesis_hash-hash.result ∷ []) c.new-entries.ensures.items)
    (c.in_ok-insert.ensures.ok ∙ ap (λ (m : Numbers). finite.insert m c.genesis_hash-hash.result 0) c.new-numbers.ensures)

pub returns-clause-first : goal.returns-clause-first
unfolding genesis_hash
returns-clause-first c =
    ap (λ (es : List Entry). state_of es c.args.limits.now.headers c.args.rules.now)
    (starts_as c.genesis_hash-hash.result c.push.new.self.items c.genesis_hash-hash.ensures
    (c.in_ok-push.ensures.items ∙ ap (λ (es : List Entry). es ++ first_entry c.genesis_hash-hash.result ∷ []) c.new-entries.ensures.items))

pub returns-clause-tree : goal.returns-clause-tree
returns-clause-tree c = is_tree (state_of _ _ _) (invariant_of-result c).in_order
