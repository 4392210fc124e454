-- The offer of one body, with the lines of its replies.
use Rattle.std.proofs.Common.{◌≡◌, inl, inr, ℕ, ◌+◌, ◌≤◌, ◌||◌, Bool, true, false, List, [], ◌∷◌, ◌++◌, map, Option, Some, None, refl, sym, ap, subst, ◌∙◌, arith, is_some}
use Rattle.std.specs.FinMap.{get, insert, contains_key}
use Rattle.std.specs.FinMap as finite
use Rattle.std.specs.List.{flat_map}
use Rattle.disk_model.specs.Disk.{Image}
use Rattle.base_types.specs.declared.fault.StoreFault.{StoreFault}
use Rattle.base_types.specs.declared.fault.StoreFault.TheVariants.{NoMemory, DiskFailed, Damaged, Full, CacheFull}
use Rattle.base_types.specs.declared.hash.Hash32.{Hash32}
use Rattle.block_codec.specs.Genesis.{genesis_hash}
use Rattle.block_codec.specs.Text.{hash_of_header, same_hash}
use Rattle.block_codec.specs.declared.block.Block.{Block}
use Rattle.chain_model.specs.Choice.{Bodies}
use Rattle.chain_model.proofs.Hashes.{len_new}
use Rattle.chainstates.specs.Offers.{HasOffered, HasOfferedPart, OfferFails, Stands, events_of, replies_of}
use Rattle.chainstates.specs.Standing.{KeepsFiles}
use Rattle.chainstates.specs.declared.offers.Offered.{Offered}
use Rattle.chainstates.specs.declared.offers.Offered.TheVariants.{Stored, Known, NoHeader, Refused}
use Rattle.chainstates.specs.declared.session.Session.{Session}
use Rattle.command_text.specs.Replies.{reply_text}
use Rattle.command_text.specs.declared.reply.Reply.{Reply}
use Rattle.machine.specs.Answers.{flushes_told_by}
use Rattle.machine.specs.State.{BodyStored, Event, Moved, Setting, State, still}
use Rattle.machine.specs.Steps.{Offers, OffersBody, is_known, is_stored}
use Rattle.machine.specs.Tips.{stored_after, stored_in}
use Rattle.machine.specs.Tips as tips
use Rattle.machine.proofs.Joining.{all_stored}
use Rattle.reorg.specs.Advancing.{refusal_reply}
use Rattle.reorg.specs.declared.refusals.RefusedBlock.{RefusedBlock}
use Rattle.store_lines.specs.Passing.{HasPassed, HasPassedPart, stored_by}
use Rattle.store_lines.specs.Serving.{LineFails}
use Rattle.store_lines.proofs.Courses.{one_offer}
use Rattle.store_state.specs.State.{StoreState, first_rules}
use Rattle.store_writes.specs.Written.{events_call}

-- ---- its replies

none_refused_flushes : (refusals : List RefusedBlock) → flushes_told_by (map refusal_reply refusals) ≡ []
none_refused_flushes [] = refl
none_refused_flushes (refused ∷ refusals) = none_refused_flushes refusals

no_flush_told : (hash : Hash32) (offered : Offered) → flushes_told_by (replies_of hash offered) ≡ []
no_flush_told hash (Stored refusals) = none_refused_flushes refusals
no_flush_told hash Known = refl
no_flush_told hash NoHeader = refl
no_flush_told hash (Refused why) = refl

-- ---- how many bodies it stored

nothing_there : {V : Type 0} (found : Option V) → is_some found ≡ false → found ≡ None
nothing_there None e = refl
nothing_there (Some v) e = absurd cc

second_false : (a b : Bool) → (a || b) ≡ false → b ≡ false
second_false true b e = absurd cc
second_false false b e = e

-- the body that was stored wasn't there before
is_new : (setting : Setting) (state : State) (block : Block) (moved : Moved) → Offers setting state block moved → moved.events ≡ BodyStored (hash_of_header block.header) block ∷ []
    → get state.bodies (hash_of_header block.header) ≡ None
is_new setting state block moved offers events = go (is_stored state (hash_of_header block.header)) refl
  where
    hash : Hash32
    hash = hash_of_header block.header

    nothing_stored : moved ≡ still state → get state.bodies hash ≡ None
    nothing_stored same = let none : [] ≡ BodyStored hash block ∷ [] = ap (λ (m : Moved). m.events) (sym same) ∙ events in absurd cc

    go : (b : Bool) → is_stored state hash ≡ b → get state.bodies hash ≡ None
    go true is = nothing_stored (subst (λ (b : Bool). OffersBody b (is_known state hash block.header) setting state hash block moved) is offers)
    go false is = nothing_there (get state.bodies hash) (second_false (same_hash hash genesis_hash) (contains_key state.bodies hash) is)

module _ (limit : ℕ) (past left : ℕ → Image → Type 0) (entered ended : ℕ) (before now : Option Image) (was is : Session) (state : State) (store : StoreState) (block : Block) where
  counted : (offered : Offered) → Stands limit before (past entered) was state store → (o : HasOffered limit past left entered ended before now is state store block offered)
      → finite.len o.moved.state.bodies ≡ finite.len state.bodies + stored_by offered
  counted offered stands o = by_answer offered o.events
    where
      -- where the machine's bodies stand after these events
      after : (events : List Event) → o.moved.events ≡ events → o.moved.state.bodies ≡ (stored_after events (stored_in store)).bodies
      after events are =
          o.stands.bodies
          ∙ ap (λ (s : tips.Stored). s.bodies) (all_stored limit first_rules past left (events_call entered ended o.writes.contents o.writes.after [] o.moved.events) store o.on o.writes.whole)
          ∙ ap (λ (es : List Event). (stored_after es (stored_in store)).bodies) are

      unchanged : o.moved.events ≡ [] → finite.len o.moved.state.bodies ≡ finite.len state.bodies + 0
      unchanged none = let same : finite.len o.moved.state.bodies ≡ finite.len state.bodies = ap (λ (b : Bodies). finite.len b) (after [] none ∙ sym stands.bodies) in omega (arith, same)

      by_answer : (answer : Offered) → o.moved.events ≡ events_of block answer → finite.len o.moved.state.bodies ≡ finite.len state.bodies + stored_by answer
      by_answer (Stored refusals) events =
          ap (λ (b : Bodies). finite.len b) (after (BodyStored (hash_of_header block.header) block ∷ []) events ∙ ap (λ (b : Bodies). insert b (hash_of_header block.header) block) (sym stands.bodies))
          ∙ len_new state.bodies (hash_of_header block.header) block (is_new any state block o.moved (o.does any) events)
        where
          any : Setting
          any = record { limit = limit; cache = 0; given = first_rules }
      by_answer Known events = unchanged events
      by_answer NoHeader events = unchanged events
      by_answer (Refused why) events = unchanged events

  pub passed_one : (offered : Offered) (hash : Hash32) (text_before text_after : List ℕ) → Stands limit before (past entered) was state store → hash ≡ hash_of_header block.header
      → text_after ≡ text_before ++ flat_map reply_text (replies_of hash offered)
      → HasOffered limit past left entered ended before now is state store block offered → HasPassed limit past left entered ended before now is state store text_before text_after (block ∷ []) (stored_by offered)
  passed_one offered hash text_before text_after stands named text o = record {
    moved = o.moved;
    does = λ setting. one_offer setting state block o.moved (o.does setting);
    count = counted offered stands o;
    text =
        text ∙ ap (λ (h : Hash32). text_before ++ flat_map reply_text (replies_of h offered)) named
        ∙ ap (λ (replies : List Reply). text_before ++ flat_map reply_text replies) (sym o.replies);
    untold = ap flushes_told_by o.replies ∙ no_flush_told (hash_of_header block.header) offered;
    on = o.on;
    writes = o.writes;
    settled = o.settled;
    stands = o.stands;
  }

  pub passed_one_part : HasOfferedPart limit past left entered ended before now state store block → HasPassedPart limit past left entered ended before now state store (block ∷ [])
  passed_one_part o = record { moved = o.moved; does = λ setting. one_offer setting state block o.moved (o.does setting); writes = o.writes }

  -- all was done, but not said
  pub unsaid_one : (offered : Offered) → HasOffered limit past left entered ended before now is state store block offered → HasPassedPart limit past left entered ended before now state store (block ∷ [])
  unsaid_one offered o = record {
    moved = o.moved;
    does = λ setting. one_offer setting state block o.moved (o.does setting);
    writes = record { contents = o.writes.contents; was = o.writes.was; after = o.writes.after; told = o.writes.told; meets = o.writes.whole.meets };
  }

pub one_at_most : (offered : Offered) → stored_by offered ≤ 1
one_at_most (Stored refusals) = omega arith
one_at_most Known = omega arith
one_at_most NoHeader = omega arith
one_at_most (Refused why) = omega arith

-- ---- why it wasn't served

pub offer_fails : (session : Session) (block : Block) (before now : ℕ) (fault : StoreFault) → OfferFails session.shared.blocks.bodies block before now fault → LineFails session before now fault
offer_fails session block before now NoMemory cause = tt
offer_fails session block before now DiskFailed cause = cause
offer_fails session block before now (Damaged file at) cause = cause
offer_fails session block before now (Full file) cause = inr (inl cause.0)
offer_fails session block before now CacheFull cause = cause

-- of a session whose files stay, since before
pub fails_since : (was is : Session) (before mid now : ℕ) (fault : StoreFault) → KeepsFiles was is → before ≤ mid → LineFails is mid now fault → LineFails was before now fault
fails_since was is before mid now NoMemory keeps later cause = tt
fails_since was is before mid now DiskFailed keeps later cause = omega (arith, later, cause)
fails_since was is before mid now (Damaged file at) keeps later cause = cause
fails_since was is before mid now (Full file) keeps later (inl of_headers) = inl (of_headers ∙ keeps.headers)
fails_since was is before mid now (Full file) keeps later (inr (inl of_bodies)) = inr (inl (of_bodies ∙ keeps.bodies))
fails_since was is before mid now (Full file) keeps later (inr (inr of_coins)) = inr (inr (of_coins ∙ keeps.coins))
fails_since was is before mid now CacheFull keeps later cause = cause

pub memory_fails : (session : Session) (before now : ℕ) (fault : StoreFault) → fault ≡ NoMemory → LineFails session before now fault
memory_fails session before now fault is = subst (λ (f : StoreFault). LineFails session before now f) (sym is) tt
