use Rattle.std.proofs.Common.{◌≡◌, ◌-◌, true, Some, ap, sym, subst, ◌∙◌, arith}
use Rattle.std.specs.Prelude.{is_some, slice_get}
use Rattle.std.specs.FinMap as finite
use Rattle.base_types.specs.declared.hash.Hash32.{Hash32}
use Rattle.header_tree.specs.Kept.{headers_of}
use Rattle.header_tree.specs.State.{State}
use Rattle.chain_model.proofs.Hashes.{same_true}
use Rattle.header_tree.proofs.Keeping.{read_at}
use Rattle.header_tree.proofs.Members.{known, known_at, order_at, sees_ordered}
use Rattle.header_tree.proofs.tree.Tree.number.Goals as goal

pub returns-then-eq-clause-there : goal.returns-then-eq-clause-there
returns-then-eq-clause-there c =
    let some = c.self.invariant.some in
    let n = c.len-last.result - 1 in
    let at = read_at c.self.inside.entries.items c.self.inside.numbers c.self.inside.limit c.self.inside.rules c.self.invariant n c.index.result.now (omega arith) c.index.ensures in
    let is = same_true c.index.result.now.hash c.args.hash.now (sym c.eq.ensures ∙ c.if-eq.true) in
    subst (λ (s : State). slice_get s.order n ≡ Some c.args.hash.now) c.self.view_is
    (order_at c.self.inside.entries.items c.self.inside.numbers c.self.inside.limit c.self.inside.rules c.self.invariant n c.index.result.now at ∙ ap (λ (h : Hash32). Some h) is)

pub returns-then-eq-clause-known : goal.returns-then-eq-clause-known
returns-then-eq-clause-known c =
    let some = c.self.invariant.some in
    let n = c.len-last.result - 1 in
    let at = read_at c.self.inside.entries.items c.self.inside.numbers c.self.inside.limit c.self.inside.rules c.self.invariant n c.index.result.now (omega arith) c.index.ensures in
    let is = same_true c.index.result.now.hash c.args.hash.now (sym c.eq.ensures ∙ c.if-eq.true) in
    subst (λ (s : State). true ≡ finite.contains_key s.tree.headers c.args.hash.now) c.self.view_is
    (known_at c.self.inside.entries.items c.self.inside.numbers c.self.inside.limit c.self.inside.rules c.self.invariant n c.index.result.now at ∙ ap (finite.contains_key (headers_of c.self.inside.entries.items)) is)

pub returns-then-eq-2-clause-there : goal.returns-then-eq-2-clause-there
returns-then-eq-2-clause-there c =
    let some = c.self.invariant.some in
    let n = c.saturating_sub-before.result in
    let at = read_at c.self.inside.entries.items c.self.inside.numbers c.self.inside.limit c.self.inside.rules c.self.invariant n c.index-2.result.now (omega arith) c.index-2.ensures in
    let is = same_true c.index-2.result.now.hash c.args.hash.now (sym c.eq-2.ensures ∙ c.if-eq-2.true) in
    subst (λ (s : State). slice_get s.order n ≡ Some c.args.hash.now) c.self.view_is
    (order_at c.self.inside.entries.items c.self.inside.numbers c.self.inside.limit c.self.inside.rules c.self.invariant n c.index-2.result.now at ∙ ap (λ (h : Hash32). Some h) is)

pub returns-then-eq-2-clause-known : goal.returns-then-eq-2-clause-known
returns-then-eq-2-clause-known c =
    let some = c.self.invariant.some in
    let n = c.saturating_sub-before.result in
    let at = read_at c.self.inside.entries.items c.self.inside.numbers c.self.inside.limit c.self.inside.rules c.self.invariant n c.index-2.result.now (omega arith) c.index-2.ensures in
    let is = same_true c.index-2.result.now.hash c.args.hash.now (sym c.eq-2.ensures ∙ c.if-eq-2.true) in
    subst (λ (s : State). true ≡ finite.contains_key s.tree.headers c.args.hash.now) c.self.view_is
    (known_at c.self.inside.entries.items c.self.inside.numbers c.self.inside.limit c.self.inside.rules c.self.invariant n c.index-2.result.now at ∙ ap (finite.contains_key (headers_of c.self.inside.entries.items)) is)

pub returns-clause-there : goal.returns-clause-there
returns-clause-there c =
    sees_ordered c.self.inside.entries.items c.self.inside.numbers c.self.inside.limit c.self.inside.rules c.self.invariant c.args.self.now c.self.view_is c.args.hash.now c.get.result c.get.ensures

pub returns-clause-known : goal.returns-clause-known
returns-clause-known c =
    subst (λ (s : State). is_some c.get.result ≡ finite.contains_key s.tree.headers c.args.hash.now) c.self.view_is
    (ap is_some c.get.ensures ∙ known c.self.inside.entries.items c.self.inside.numbers c.self.inside.limit c.self.inside.rules c.self.invariant c.args.hash.now)
