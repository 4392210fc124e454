-- Offers of bodies as the machine does them: some can always be made, and one list of blocks after another is as both.
use Rattle.std.proofs.Common.{◌≡◌, ℕ, ◌+◌, Bool, true, false, List, [], ◌∷◌, ◌++◌, append_assoc, append-nil, Option, Some, None, refl, sym, ap, subst, ◌∙◌, arith}
use Rattle.std.specs.FinMap.{insert}
use Rattle.base_types.specs.declared.hash.Hash32.{Hash32}
use Rattle.base_types.specs.declared.refused.BodyRefused.{BodyRefused}
use Rattle.block_codec.specs.Text.{hash_of_header}
use Rattle.block_codec.specs.declared.block.Block.{Block}
use Rattle.chain_model.specs.BodyRules.{body_broken, place_below}
use Rattle.command_text.specs.declared.reply.Reply.TheVariants as says
use Rattle.machine.specs.Moves.{move_with}
use Rattle.machine.specs.State.{BodyStored, Moved, Setting, State, and_then, still}
use Rattle.machine.specs.Steps.{Offers, OffersAll, OffersBody, StoresUnless, is_known, is_stored}

-- ---- one piece of work after another

zero_first : (n : ℕ) → 0 + n ≡ n
zero_first n = omega arith

zero_last : (n : ℕ) → n + 0 ≡ n
zero_last n = omega arith

sum_assoc : (a b c : ℕ) → a + b + c ≡ a + (b + c)
sum_assoc a b c = omega arith

pub nothing_first : (state : State) (m : Moved) → and_then (still state) m ≡ m
nothing_first state m = λ i. record { state = m.state; replies = m.replies; events = m.events; reads = zero_first m.reads i }

pub nothing_last : (m : Moved) → and_then m (still m.state) ≡ m
nothing_last m = λ i. record { state = m.state; replies = append-nil m.replies i; events = append-nil m.events i; reads = zero_last m.reads i }

then_assoc : (a b c : Moved) → and_then (and_then a b) c ≡ and_then a (and_then b c)
then_assoc a b c = λ i. record {
  state = c.state;
  replies = append_assoc a.replies b.replies c.replies i;
  events = append_assoc a.events b.events c.events i;
  reads = sum_assoc a.reads b.reads c.reads i;
}

pub one_offer : (setting : Setting) (state : State) (block : Block) (moved : Moved) → Offers setting state block moved → OffersAll setting state (block ∷ []) moved
one_offer setting state block moved offers = (moved, offers, still moved.state, refl, sym (nothing_last moved))

pub offers_then : (setting : Setting) (state : State) (xs ys : List Block) (a b : Moved) → OffersAll setting state xs a → OffersAll setting a.state ys b → OffersAll setting state (xs ++ ys) (and_then a b)
offers_then setting state [] ys a b first second =
    subst (λ (m : Moved). OffersAll setting m.state ys b → OffersAll setting state ys (and_then m b)) (sym first)
    (λ then. subst (λ (m : Moved). OffersAll setting state ys m) (sym (nothing_first state b)) then) second
offers_then setting state (x ∷ xs) ys a b first second =
    (first.0, first.1, and_then first.2 b, offers_then setting first.0.state xs ys first.2 b first.3 (subst (λ (m : Moved). OffersAll setting m.state ys b) first.4 second), ap (λ (m : Moved). and_then m b) first.4 ∙ then_assoc first.0 first.2 b)

-- ---- some can be made, without a limit flush

pub record CanStore (why : Option BodyRefused) (state : State) (hash : Hash32) (block : Block) : Type 0 where
  pub moved : Moved
  pub does : (setting : Setting) → StoresUnless why setting state hash block moved

can_store : (why : Option BodyRefused) (state : State) (hash : Hash32) (block : Block) → CanStore why state hash block
can_store None state hash block =
    let rest = move_with (record state { bodies = insert state.bodies hash block }) [] in
    record { moved = record rest { events = BodyStored hash block ∷ rest.events }; does = λ setting. (rest, ([], tt, refl), refl) }
can_store (Some why) state hash block = record { moved = record (still state) { replies = says.Body hash why ∷ [] }; does = λ setting. refl }

pub record CanOffer (stored known : Bool) (state : State) (hash : Hash32) (block : Block) : Type 0 where
  pub moved : Moved
  pub does : (setting : Setting) → OffersBody stored known setting state hash block moved

can_offer : (stored known : Bool) (state : State) (hash : Hash32) (block : Block) → CanOffer stored known state hash block
can_offer true known state hash block = record { moved = still state; does = λ setting. refl }
can_offer false false state hash block = record { moved = still state; does = λ setting. refl }
can_offer false true state hash block =
    let can = can_store (body_broken (place_below state.tree block.header.prev) block) state hash block in
    record { moved = can.moved; does = can.does }

pub record CanOfferAll (state : State) (blocks : List Block) : Type 0 where
  pub moved : Moved
  pub does : (setting : Setting) → OffersAll setting state blocks moved

pub can_offer_all : (state : State) (blocks : List Block) → CanOfferAll state blocks
can_offer_all state [] = record { moved = still state; does = λ setting. refl }
can_offer_all state (block ∷ blocks) =
    let hash = hash_of_header block.header in
    let first = can_offer (is_stored state hash) (is_known state hash block.header) state hash block in
    let rest = can_offer_all first.moved.state blocks in
    record { moved = and_then first.moved rest.moved; does = λ setting. (first.moved, first.does setting, rest.moved, rest.does setting, refl) }
