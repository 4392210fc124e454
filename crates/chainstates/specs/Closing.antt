-- A tree that is closed under headers.
use Rattle.chain_model.specs.HeaderRules.{Closed}
use Rattle.chainstates.specs.declared.closing.Closing.{Closing}
use Rattle.header_tree.specs.State.{State}

-- the tree as it is now, with what was added to it
abbrev pub closed_of : State → Closing → Closed
closed_of tree closing = record { tree = tree.tree; added = closing.added; full = closing.full }
