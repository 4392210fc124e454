-- Each line can be done, without a fault.
use Rattle.std.proofs.Common.{◌≡◌, ◌<◌, ◌≤◌, ℕ, Bool, true, false, List, [], ◌∷◌, length, refl, inl, inr}
use Rattle.std.specs.Prelude.{◌⊎◌, Option, Some, None, Result, Ok, Err}
use Rattle.std.specs.FinMap.{get, insert}
use Rattle.std.proofs.lemmas.Bool.{cases_lt}
use Rattle.base_types.specs.declared.flushes.Why.TheVariants.{Command}
use Rattle.base_types.specs.declared.hash.Hash32.{Hash32}
use Rattle.base_types.specs.declared.refused.BodyRefused.{BodyRefused}
use Rattle.block_codec.specs.declared.block.Block.{Block}
use Rattle.block_codec.specs.Frames.{frames}
use Rattle.block_codec.specs.Text.{hash_of_header}
use Rattle.chain_model.specs.BodyRules.{body_broken, place_below}
use Rattle.chain_model.specs.Folding.{Folded, FoldRefused, fold_of}
use Rattle.chain_model.specs.Generated.{chain as generated_chain}
use Rattle.chain_model.specs.HeaderRules.{Closed}
use Rattle.command_text.specs.declared.line.Line.{Line}
use Rattle.command_text.specs.declared.line.Line.TheVariants as line
use Rattle.command_text.specs.declared.line.LineRefused.{LineRefused}
use Rattle.command_text.specs.declared.reply.Reply.{Reply}
use Rattle.command_text.specs.declared.reply.Reply.TheVariants as says
use Rattle.machine.specs.State.{Setting, State, Moved, BodyStored, still, and_then, and_reply}
use Rattle.machine.specs.Moves.{Advances, move_with, flush}
use Rattle.machine.specs.Steps.{Now, Did, WithBytes, Folds, IsFoldReply, folded_reply, refusal_of, longest_file, generated_reply, generated_bytes, answered, moved_on, with_headers, unless_full, tree_size, StoresUnless, OffersBody, OffersAll, is_stored, is_known, HeadersDo, import_reply, OffersUnless, ImportDoes, closure_of, UnlessTooLong, TakesHeaders, Imports, OrFault, asked, info_reply}
use Rattle.machine.specs.Ways.{HasWay}

-- ---- moves

advances : (setting : Setting) (state : State) → (moved : Moved) × Advances setting state moved
advances setting state = (move_with state [], ([], tt, refl))

stores_unless : (why : Option BodyRefused) (setting : Setting) (state : State) (hash : Hash32) (block : Block) → (moved : Moved) × StoresUnless why setting state hash block moved
stores_unless None setting state hash block =
    let rest = advances setting (record state { bodies = insert state.bodies hash block }) in
    (record rest.0 { events = BodyStored hash block ∷ rest.0.events }, (rest.0, rest.1, refl))
stores_unless (Some why) setting state hash block = (record (still state) { replies = says.Body hash why ∷ [] }, refl)

offers_body : (stored known : Bool) (setting : Setting) (state : State) (hash : Hash32) (block : Block) → (moved : Moved) × OffersBody stored known setting state hash block moved
offers_body true known setting state hash block = (still state, refl)
offers_body false false setting state hash block = (still state, refl)
offers_body false true setting state hash block = stores_unless (body_broken (place_below state.tree block.header.prev) block) setting state hash block

offers_all : (setting : Setting) (state : State) (blocks : List Block) → (moved : Moved) × OffersAll setting state blocks moved
offers_all setting state [] = (still state, refl)
offers_all setting state (block ∷ blocks) =
    let hash = hash_of_header block.header in
    let first = offers_body (is_stored state hash) (is_known state hash block.header) setting state hash block in
    let rest = offers_all setting first.0.state blocks in
    (and_then first.0 rest.0, (first.0, first.1, rest.0, rest.1, refl))

-- ---- lines

reply_for : (n : ℕ) (meant : Result Folded FoldRefused) → (reply : Reply) × IsFoldReply n meant reply
reply_for n (Err why) = (refusal_of why, inl refl)
reply_for n (Ok folded) = split (cases_lt longest_file n)
  where
    split : (longest_file < n) ⊎ (n ≤ longest_file) → (reply : Reply) × IsFoldReply n (Ok folded) reply
    split (inl long) = (says.FileTooLong, inr (refl, long))
    split (inr short) = (folded_reply folded, inl (refl, short))

fold_way : (setting : Setting) (now : Now) (found : Option (List ℕ)) → (reply : Reply) × WithBytes found now (Folds setting now) (answered now (reply ∷ []))
fold_way setting now None = (says.HostFault, refl)
fold_way setting now (Some bytes) =
    let some = reply_for (length bytes) (fold_of setting.limit setting.given (frames bytes None)) in
    (some.0, inl (some.0, some.1, refl))

-- what a command can do with its bytes, it can do with a file
file_way : (now : Now) (found : Option (List ℕ)) (Does : List ℕ → Did → Type 0) → ((bytes : List ℕ) → (did : Did) × Does bytes did × (did.faults ≡ 0))
    → (did : Did) × WithBytes found now (λ bytes. OrFault now (UnlessTooLong now Does bytes)) did × (did.faults ≡ 0)
file_way now None Does some = (answered now (says.HostFault ∷ []), refl, refl)
file_way now (Some bytes) Does some = split (cases_lt longest_file (length bytes))
  where
    split : (longest_file < length bytes) ⊎ (length bytes ≤ longest_file) → (did : Did) × OrFault now (UnlessTooLong now Does bytes) did × (did.faults ≡ 0)
    split (inl long) = (answered now (says.FileTooLong ∷ []), inl (inr (long, refl)), refl)
    split (inr short) = let one = some bytes in (one.0, inl (inl (short, one.1)), one.2)

headers_do : (setting : Setting) (now : Now) (blocks : List Block) (closed : Closed) → (did : Did) × HeadersDo setting now blocks closed did × (did.faults ≡ 0)
headers_do setting now blocks closed =
    (moved_on now (and_reply (unless_full closed.full (says.Headers (length blocks) (length closed.added) (tree_size (with_headers now.state closed.added).state))) (with_headers now.state closed.added)), inl refl, refl)

offers_unless : (full : Bool) (setting : Setting) (now : Now) (blocks : List Block) (closed : Closed) → (did : Did) × OffersUnless full setting now blocks closed did × (did.faults ≡ 0)
offers_unless true setting now blocks closed = (moved_on now (and_reply says.TreeFull (with_headers now.state closed.added)), refl, refl)
offers_unless false setting now blocks closed =
    let offered = offers_all setting (with_headers now.state closed.added).state blocks in
    (moved_on now (and_reply (import_reply now.state blocks closed.added offered.0.state) (and_then (with_headers now.state closed.added) offered.0)), (offered.0, offered.1, refl), refl)

imports : (setting : Setting) (now : Now) (blocks : List Block) (closed : Closed) → (did : Did) × ImportDoes setting now blocks closed did × (did.faults ≡ 0)
imports setting now blocks closed = let one = offers_unless closed.full setting now blocks closed in (one.0, inl one.1, one.2)

pub way : (setting : Setting) (now : Now) (parsed : Result Line LineRefused) → HasWay setting now parsed
way setting now (Err why) = record { did = answered now (says.Refused why ∷ []); step = refl; faults = refl }
way setting now (Ok line.Empty) = record { did = answered now []; step = refl; faults = refl }
way setting now (Ok (line.Fold file)) = let some = fold_way setting now (get now.files file) in record { did = answered now (some.0 ∷ []); step = some.1; faults = refl }
way setting now (Ok (line.Headers file key)) =
    let one = file_way now (get now.files file) (TakesHeaders setting now key) (λ bytes. headers_do setting now (frames bytes key) (closure_of setting now.state (frames bytes key))) in
    record { did = one.0; step = one.1; faults = one.2 }
way setting now (Ok (line.Import file key)) =
    let one = file_way now (get now.files file) (Imports setting now key) (λ bytes. imports setting now (frames bytes key) (closure_of setting now.state (frames bytes key))) in
    record { did = one.0; step = one.1; faults = one.2 }
way setting now (Ok (line.Generate number count file)) =
    let made = generated_chain number count in
    record { did = record (answered now (generated_reply count made ∷ [])) { now = record now { files = insert now.files file (generated_bytes made) } }; step = inl refl; faults = refl }
way setting now (Ok line.Flush) = record { did = moved_on now (flush Command now.state); step = refl; faults = refl }
way setting now (Ok (line.GetTxOut key)) = record { did = moved_on now (asked now.state key); step = refl; faults = refl }
way setting now (Ok line.Info) = record { did = answered now (info_reply now.state ∷ []); step = refl; faults = refl }
