-- Worked examples of the definitions.
use Rattle.std.proofs.Common.{◌≡◌, ℕ, List, [], ◌∷◌, Option, Some, None, Ok, Err, refl, ap, ◌∙◌}
use Rattle.std.specs.FinMap.{get, empty, insert}
use Rattle.batch_log.specs.Records.{log}
use Rattle.base_types.specs.Coins.{Coins}
use Rattle.base_types.specs.declared.hash.Hash32.{Hash32}
use Rattle.block_codec.specs.declared.block.Block.{Block}
use Rattle.block_store.specs.Bodies.{body_of}
use Rattle.coin_store.specs.Batches.{Batch, Row}
use Rattle.coin_store.specs.Places.{coins_after_rows}
use Rattle.coin_store.specs.declared.marker.Marker.TheVariants.{Between}
use Rattle.store_state.specs.State.{gated, with_body, blocks_in, settled_batch, chainstate_of}
use Rattle.chain_model.proofs.Hashes.{get_same}

-- ---- logs

-- a file of one byte is an empty log, also where that byte is an open gate
pub one_open_byte : log (1 ∷ []) ≡ Ok []
one_open_byte = refl

-- with one more byte there is no whole record behind that gate
pub two_bytes : log (1 ∷ 0 ∷ []) ≡ Err 0
two_bytes = refl

-- a whole record needs a next gate
pub no_next_gate : log (1 ∷ 1 ∷ 0 ∷ 0 ∷ 0 ∷ 7 ∷ []) ≡ Err 0
no_next_gate = refl

-- and then it is a payload, here of one byte
pub next_gate : log (1 ∷ 1 ∷ 0 ∷ 0 ∷ 0 ∷ 7 ∷ 0 ∷ []) ≡ Ok ((7 ∷ []) ∷ [])
next_gate = refl

-- ---- places of records

-- a record's place is the offset of its gate
pub gates : gated 0 ((7 ∷ []) ∷ (8 ∷ 9 ∷ []) ∷ [] ∷ []) ≡ (0, 7 ∷ []) ∷ (6, 8 ∷ 9 ∷ []) ∷ (13, []) ∷ []
unfolding gated
gates = refl

-- ---- several records

-- of two bodies of one hash the later counts
pub later_body : (hash : Hash32) (first second : List ℕ) (a b : Block) → body_of first ≡ Some a → body_of second ≡ Some b
    → get (blocks_in empty (record { hash = hash; payload = first } ∷ record { hash = hash; payload = second } ∷ [])) hash ≡ Some b
unfolding blocks_in
later_body hash first second a b one two =
    ap (λ (o : Option Block). get (with_body hash (body_of second) (with_body hash o empty)) hash) one
    ∙ ap (λ (o : Option Block). get (with_body hash o (insert empty hash a)) hash) two
    ∙ get_same (insert empty hash a) hash b

-- of two batches the later has the marker, and its rows come after those of the first
pub later_marker : (start : Hash32) (coins : Coins) (first second : Batch) → (chainstate_of start coins (first ∷ second ∷ [])).marker ≡ second.marker
later_marker start coins first second = refl

pub later_rows : (start : Hash32) (coins : Coins) (first second : Batch) → (chainstate_of start coins (first ∷ second ∷ [])).coins ≡ coins_after_rows (coins_after_rows coins first.rows) second.rows
later_rows start coins first second = refl

-- a batch between two tips is none, for as long as none is settled
pub between_is_none : (new_tip old_tip : Hash32) (rows : List Row) → settled_batch (Some (record { marker = Between new_tip old_tip; rows = rows })) ≡ None
between_is_none new_tip old_tip rows = refl
