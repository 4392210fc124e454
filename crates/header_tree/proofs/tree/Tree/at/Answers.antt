use Rattle.std.proofs.Common.{◌≡◌, None, sym, subst, arith}
use Rattle.std.specs.Prelude.{slice_get}
use borrow.Author.Tests.{ltb-false}
use Rattle.std.proofs.lemmas.Option.{slice_get_past}
use Rattle.std.proofs.lemmas.List.{length-map}
use Rattle.header_tree.specs.declared.entry.Entry.{Entry}
use Rattle.header_tree.specs.Kept.{order_of}
use Rattle.header_tree.specs.State.{State}
use Rattle.header_tree.proofs.Listing.{sees_listing}
use Rattle.header_tree.proofs.tree.Tree.at.Goals as goal

pub returns-in-None-clause-hash : goal.returns-in-None-clause-hash
returns-in-None-clause-hash c =
    let size = length-map c.self.inside.entries.items (λ (e : Entry). e.hash) in
    let past = ltb-false _ _ (sym c.in-None.ensures.lookup.0) in
    subst (λ (s : State). None ≡ slice_get s.order c.args.number) c.self.view_is (sym (slice_get_past (order_of c.self.inside.entries.items) c.args.number (omega arith)))

pub returns-in-Some-clause-listing : goal.returns-in-Some-clause-listing
returns-in-Some-clause-listing c = sees_listing c.self.inside.entries.items c.self.inside.numbers c.self.inside.limit c.self.inside.rules c.self.invariant c.args.self.now c.self.view_is

pub returns-in-None-clause-listing : goal.returns-in-None-clause-listing
returns-in-None-clause-listing c = sees_listing c.self.inside.entries.items c.self.inside.numbers c.self.inside.limit c.self.inside.rules c.self.invariant c.args.self.now c.self.view_is
