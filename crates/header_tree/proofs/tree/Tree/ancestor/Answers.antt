use Rattle.std.proofs.lemmas.Bool.Decides.{nat_tests}
use Rattle.std.proofs.Common.{◌≡◌, ℕ, ◌<◌, Bool, false, leb, ◌&&◌, None, List, reverse, sym, ap, subst, ◌∙◌, arith, le-leb}
use Rattle.std.specs.Prelude.{slice_get, is_some, nat_le}
use Rattle.std.proofs.lemmas.Option.{slice_get_within, slice_get-get_or, get_or_from_slice_get}
use Rattle.base_types.specs.declared.hash.Hash32.{Hash32}
use Rattle.block_codec.specs.Genesis.{genesis_hash}
use Rattle.chain_model.specs.Tree.{ancestor, height}
use Rattle.header_tree.proofs.Down.{sees_past, sees_stranger}
use Rattle.header_tree.proofs.tree.Tree.ancestor.Goals as goal

leb_no : (a b : ℕ) → b < a → leb a b ≡ false
leb_no a b less = grind (arith, nat_tests)

pub returns-in_default-clause-block : goal.returns-in_default-clause-block
returns-in_default-clause-block c = sym (ap (λ (l : List Hash32). slice_get (reverse l) c.args.height) (sees_stranger c.self.inside.entries.items c.self.inside.numbers c.self.inside.limit c.self.inside.rules c.self.invariant c.args.self.now c.self.view_is c.args.hash.now (sym c.in_default.ensures.known)))

pub returns-in_default-clause-there : goal.returns-in_default-clause-there
returns-in_default-clause-there c =
    ap (λ (t : Bool). t && nat_le c.args.height (height c.args.self.now.tree.headers c.args.hash.now)) c.in_default.ensures.known

pub height_at-requires : goal.height_at-requires
height_at-requires c = slice_get_within c.args.self.now.order c.in-Some.number c.args.hash.now c.in-Some.ensures.there

pub returns-then-height-height_at-clause-block : goal.returns-then-height-height_at-clause-block
returns-then-height-height_at-clause-block c =
    let less = slice_get_within c.args.self.now.order c.in-Some.number c.args.hash.now c.in-Some.ensures.there in
    let at = get_or_from_slice_get c.args.self.now.order c.in-Some.number c.args.hash.now genesis_hash c.in-Some.ensures.there in
    let tall = c.height_at.ensures.value in
    let above = c.if-height-height_at.true in
    let past = sees_past c.self.inside.entries.items c.self.inside.numbers c.self.inside.limit c.self.inside.rules c.self.invariant c.args.self.now c.self.view_is c.in-Some.number c.args.height less (omega arith) in
    sym (subst (λ (h : Hash32). ancestor c.args.self.now.tree.headers h c.args.height ≡ None) at past)

pub returns-then-height-height_at-clause-there : goal.returns-then-height-height_at-clause-there
returns-then-height-height_at-clause-there c =
    let at = get_or_from_slice_get c.args.self.now.order c.in-Some.number c.args.hash.now genesis_hash c.in-Some.ensures.there in
    let tall : c.height_at.result ≡ height c.args.self.now.tree.headers c.args.hash.now = c.height_at.ensures.value ∙ ap (height c.args.self.now.tree.headers) at in
    sym (ap (λ (t : Bool). t && nat_le c.args.height (height c.args.self.now.tree.headers c.args.hash.now)) (sym c.in-Some.ensures.known)
    ∙ leb_no _ _ (omega (arith, c.if-height-height_at.true)))

pub ancestor_at-requires-clause-there : goal.ancestor_at-requires-clause-there
ancestor_at-requires-clause-there c = slice_get_within c.args.self.now.order c.in-Some.number c.args.hash.now c.in-Some.ensures.there

pub returns-clause-block : goal.returns-clause-block
returns-clause-block c =
    let at = get_or_from_slice_get c.args.self.now.order c.in-Some.number c.args.hash.now genesis_hash c.in-Some.ensures.there in
    c.at.ensures.hash
    ∙ slice_get-get_or c.args.self.now.order c.ancestor_at.result genesis_hash c.ancestor_at.ensures.there
    ∙ c.ancestor_at.ensures.ancestor
    ∙ ap (λ (h : Hash32). ancestor c.args.self.now.tree.headers h c.args.height) at

pub returns-clause-there : goal.returns-clause-there
returns-clause-there c =
    let at = get_or_from_slice_get c.args.self.now.order c.in-Some.number c.args.hash.now genesis_hash c.in-Some.ensures.there in
    let tall : c.height_at.result ≡ height c.args.self.now.tree.headers c.args.hash.now = c.height_at.ensures.value ∙ ap (height c.args.self.now.tree.headers) at in
    ap is_some (c.at.ensures.hash ∙ slice_get-get_or c.args.self.now.order c.ancestor_at.result genesis_hash c.ancestor_at.ensures.there)
    ∙ sym (ap (λ (t : Bool). t && nat_le c.args.height (height c.args.self.now.tree.headers c.args.hash.now)) (sym c.in-Some.ensures.known)
    ∙ le-leb _ _ (omega (arith, c.if-height-height_at.false)))
