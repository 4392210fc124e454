-- The blocks so far wait.
use Rattle.std.proofs.Common.{◌≡◌, take}
use Rattle.base_types.specs.declared.hash.Hash32.{Hash32}
use Rattle.chain_state.specs.Waiting.{waits}
use Rattle.chainstates.specs.Waits.{is_stored_child}
use Rattle.chainstates.proofs.waiting.find_stored.Given as goal

abbrev pub invariant-loop-number : goal.invariant-loop-number
invariant-loop-number l = (parent hash : Hash32) → waits l.waiting parent hash ≡ is_stored_child l.fn.tree.tree.headers (take l.number l.fn.blocks.hashes) parent hash
