use Rattle.std.proofs.Common.{Bool, ◌&&◌, List, sym, ap, ◌∙◌, arith}
use Rattle.std.specs.Prelude.{is_some}
use Rattle.std.specs.FinMap.{contains_key}
use Rattle.std.specs.List.{find, list_any}
use Rattle.std.proofs.lemmas.Option.{slice_get_within, slice_get-get_or, get_or_from_slice_get}
use Rattle.base_types.specs.declared.hash.Hash32.{Hash32}
use Rattle.block_codec.specs.Text.{same_hash}
use Rattle.block_codec.specs.Genesis.{genesis_hash}
use Rattle.chain_model.specs.Tree.{chain, fork}
use Rattle.header_tree.specs.State.{hash_at}
use Rattle.header_tree.proofs.Down.{never, sees_stranger, sees_level}
use Rattle.header_tree.proofs.tree.Tree.fork.Goals as goal

pub returns-in_default-clause-block : goal.returns-in_default-clause-block
returns-in_default-clause-block c =
    sym (ap (λ (l : List Hash32). find (λ hash. list_any (same_hash hash) (chain c.args.self.now.tree.headers c.args.b.now)) l) (sees_stranger c.self.inside.entries.items c.self.inside.numbers c.self.inside.limit c.self.inside.rules c.self.invariant c.args.self.now c.self.view_is c.args.a.now (sym c.in_default.ensures.known)))

pub returns-in_default-number-clause-block : goal.returns-in_default-number-clause-block
returns-in_default-number-clause-block c =
    sym (ap (λ (l : List Hash32). find (λ hash. list_any (same_hash hash) l) (chain c.args.self.now.tree.headers c.args.a.now)) (sees_stranger c.self.inside.entries.items c.self.inside.numbers c.self.inside.limit c.self.inside.rules c.self.invariant c.args.self.now c.self.view_is c.args.b.now (sym c.in_default-number.ensures.known))
    ∙ never (chain c.args.self.now.tree.headers c.args.a.now))

pub height_at-requires : goal.height_at-requires
height_at-requires c = (slice_get_within c.args.self.now.order c.in-Some.a c.args.a.now c.in-Some.ensures.there)

pub height_at-requires-2 : goal.height_at-requires-2
height_at-requires-2 c = (slice_get_within c.args.self.now.order c.in-Some-number.b c.args.b.now c.in-Some-number.ensures.there)

pub ancestor_at-left-requires-clause-there : goal.ancestor_at-left-requires-clause-there
ancestor_at-left-requires-clause-there c = (slice_get_within c.args.self.now.order c.in-Some.a c.args.a.now c.in-Some.ensures.there)

pub ancestor_at-right-requires-clause-there : goal.ancestor_at-right-requires-clause-there
ancestor_at-right-requires-clause-there c = (slice_get_within c.args.self.now.order c.in-Some-number.b c.args.b.now c.in-Some-number.ensures.there)

pub meeting-requires-clause-level : goal.meeting-requires-clause-level
meeting-requires-clause-level c =
    let lower = c.min-height.ensures in
    let tall_a = c.height_at.ensures.value in
    let tall_b = c.height_at-2.ensures.value in
    let level = sees_level c.self.inside.entries.items c.self.inside.numbers c.self.inside.limit c.self.inside.rules c.self.invariant c.args.self.now c.self.view_is c.in-Some.a c.in-Some-number.b c.ancestor_at-left.result c.ancestor_at-right.result c.min-height.result
    (slice_get_within c.args.self.now.order c.in-Some.a c.args.a.now c.in-Some.ensures.there)
    (slice_get_within c.args.self.now.order c.in-Some-number.b c.args.b.now c.in-Some-number.ensures.there)
    c.ancestor_at-left.ensures.there c.ancestor_at-right.ensures.there (omega arith) c.ancestor_at-left.ensures.ancestor c.ancestor_at-right.ensures.ancestor in
    level.left ∙ sym level.right

pub returns-clause-block : goal.returns-clause-block
returns-clause-block c =
    let at_a = get_or_from_slice_get c.args.self.now.order c.in-Some.a c.args.a.now genesis_hash c.in-Some.ensures.there in
    let at_b = get_or_from_slice_get c.args.self.now.order c.in-Some-number.b c.args.b.now genesis_hash c.in-Some-number.ensures.there in
    let lower = c.min-height.ensures in
    let tall_a = c.height_at.ensures.value in
    let tall_b = c.height_at-2.ensures.value in
    let level = sees_level c.self.inside.entries.items c.self.inside.numbers c.self.inside.limit c.self.inside.rules c.self.invariant c.args.self.now c.self.view_is c.in-Some.a c.in-Some-number.b c.ancestor_at-left.result c.ancestor_at-right.result c.min-height.result
    (slice_get_within c.args.self.now.order c.in-Some.a c.args.a.now c.in-Some.ensures.there)
    (slice_get_within c.args.self.now.order c.in-Some-number.b c.args.b.now c.in-Some-number.ensures.there)
    c.ancestor_at-left.ensures.there c.ancestor_at-right.ensures.there (omega arith) c.ancestor_at-left.ensures.ancestor c.ancestor_at-right.ensures.ancestor in
    c.at.ensures.hash
    ∙ slice_get-get_or c.args.self.now.order c.meeting.result genesis_hash c.meeting.ensures.there
    ∙ c.meeting.ensures.fork
    ∙ level.fork
    ∙ ap (λ (h : Hash32). fork c.args.self.now.tree.headers h (hash_at c.args.self.now c.in-Some-number.b)) at_a
    ∙ ap (λ (h : Hash32). fork c.args.self.now.tree.headers c.args.a.now h) at_b

pub returns-in_default-clause-there : goal.returns-in_default-clause-there
returns-in_default-clause-there c = ap (λ (t : Bool). t && contains_key c.args.self.now.tree.headers c.args.b.now) c.in_default.ensures.known

pub returns-in_default-number-clause-there : goal.returns-in_default-number-clause-there
returns-in_default-number-clause-there c =
    c.in_default-number.ensures.known
    ∙ ap (λ (t : Bool). t && contains_key c.args.self.now.tree.headers c.args.b.now) c.in-Some.ensures.known

pub returns-clause-there : goal.returns-clause-there
returns-clause-there c =
    ap is_some (c.at.ensures.hash ∙ slice_get-get_or c.args.self.now.order c.meeting.result genesis_hash c.meeting.ensures.there)
    ∙ c.in-Some-number.ensures.known
    ∙ ap (λ (t : Bool). t && contains_key c.args.self.now.tree.headers c.args.b.now) c.in-Some.ensures.known
