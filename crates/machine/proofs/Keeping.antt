-- The machine's events say all that it keeps: what is kept after a line is what its events leave of what was kept before.
use Rattle.std.proofs.lemmas.List.{length-drop, take-append-drop}
use Rattle.std.proofs.Common.{◌≡◌, ⊎_elim, inl, inr, ℕ, ◌≤◌, zero, suc, arith, le_refl, append-nil, append_assoc, true, false, Bool, List, [], ◌∷◌, ◌++◌, length, take, drop, Option, Some, None, refl, sym, ap, subst, ◌∙◌}
use Rattle.std.specs.Prelude.{ℤ, fold, Result, Ok, Err}
use Rattle.std.specs.FinMap.{get, insert}
use Rattle.std.specs.Bool.{Decides}
use Rattle.std.specs.Option.{option_map_or}
use Rattle.std.proofs.lemmas.Bool.{and_from, and_parts}
use Rattle.std.proofs.lemmas.Bool.Decides.{Decides-int_eq, Decides-eqb}
use Rattle.base_types.specs.Coins.{Coins}
use Rattle.base_types.specs.declared.flushes.Why.{Why}
use Rattle.base_types.specs.declared.flushes.Why.TheVariants.{Command, End}
use Rattle.base_types.specs.declared.hash.Hash32.{Hash32}
use Rattle.base_types.specs.declared.hash.OutPoint.{OutPoint}
use Rattle.base_types.specs.declared.refused.BodyRefused.{BodyRefused}
use Rattle.base_types.specs.declared.refused.CoinRefused.{CoinRefused}
use Rattle.block_codec.specs.declared.block.Block.{Block}
use Rattle.block_codec.specs.declared.block.Header.{Header}
use Rattle.block_codec.specs.Frames.{frames}
use Rattle.chain_model.specs.Generated.{chain as generated_chain}
use Rattle.chain_model.specs.Tree.{Tree}
use Rattle.chain_model.specs.HeaderRules.{with_header, Closed}
use Rattle.command_text.specs.Lines.{line_of}
use Rattle.command_text.specs.declared.line.Line.{Line}
use Rattle.command_text.specs.declared.line.Line.TheVariants as line
use Rattle.command_text.specs.declared.line.LineRefused.{LineRefused}
use Rattle.command_text.specs.declared.reply.Reply.{Reply}
use Rattle.store_state.specs.Roles.{Role, Alone}
use Rattle.chain_model.proofs.Hashes.{same_self, same_true}
use Rattle.store_state.specs.State.{StoreState, Chainstate}
use Rattle.machine.specs.Courses.{Course, DoesAll, lines_in, whole, events_of}
use Rattle.machine.specs.Kept.{kept_in, HasKept}
use Rattle.machine.specs.Moves.{flush, tried, trial, trial_of, next_child, forward_from, touched_on_way, limit_events, kept_after, move_with, Advances}
use Rattle.machine.specs.State.{Setting, Standing, State, Moved, Event, stored_by, still, and_then, begins}
use Rattle.machine.specs.Steps.{same_header, is_known, Now, Did, Step, Does, answered, moved_on, faulted, with_headers, HeadersDo, OffersUnless, ImportDoes, WithBytes, OrFault, UnlessTooLong, Generation, Generates, TakesHeaders, Imports, closure_of, at_end, Stores, StoresUnless, OffersBody, OffersAll}
use Rattle.machine.specs.Tips.{Stored, stored_after}
use Rattle.machine.proofs.Joining.{stored-append}

-- a piece of work keeps what its events say
abbrev Keeps : State → Moved → Type 0
Keeps state moved = kept_in moved.state ≡ stored_after moved.events (kept_in state)

then_keeps : (state : State) (first second : Moved) → Keeps state first → Keeps first.state second → Keeps state (and_then first second)
then_keeps state first second a b = b ∙ ap (stored_after second.events) a ∙ sym (stored-append first.events second.events (kept_in state))

-- a machine that begins with a store keeps what it has
pub begins_with : (store : StoreState) → HasKept store (begins store)
begins_with store = by_role store.role
  where
    by_role : (role : Role Chainstate) → HasKept (record store { role = role }) (begins (record store { role = role }))
    by_role Alone = refl

-- ---- headers

joined_fold : (tree : Tree) (xs ys : List Header) → fold with_header (fold with_header tree xs) ys ≡ fold with_header tree (xs ++ ys)
joined_fold tree [] ys = refl
joined_fold tree (x ∷ xs) ys = joined_fold (with_header tree x) xs ys

headers_by : (most : ℕ) (headers : List Header) (s : Stored) → length headers ≤ most → stored_after (stored_by most headers) s ≡ record s { tree = fold with_header s.tree headers }
unfolding stored_by
headers_by zero [] s bound = refl
headers_by zero (header ∷ headers) s bound = absurd (omega arith)
headers_by (suc most) [] s bound = refl
headers_by (suc most) (header ∷ headers) s bound =
    let all = header ∷ headers in
    headers_by most (drop 1000 all) (record s { tree = fold with_header s.tree (take 1000 all) }) (omega (arith, length-drop 1000 all))
    ∙ ap (λ (t : Tree). record s { tree = t }) (joined_fold s.tree (take 1000 all) (drop 1000 all) ∙ ap (λ (hs : List Header). fold with_header s.tree hs) (take-append-drop 1000 all))

headers_keep : (state : State) (headers : List Header) → Keeps state (with_headers state headers)
headers_keep state headers = sym (headers_by (length headers) headers (kept_in state) (le_refl (length headers)))

-- ---- flushes

flushes_keep : (why : Why) (state : State) (role : Role Standing) → Keeps (record state { role = role }) (flush why (record state { role = role }))
flushes_keep why state Alone = refl

-- ---- moves

tried_keeps : (state : State) (hash : Hash32) (result : Result Coins CoinRefused) → kept_in (tried state hash result).state ≡ kept_in state
tried_keeps state hash (Ok coins) = refl
tried_keeps state hash (Err why) = refl

trial_keeps : (state : State) (hash : Hash32) (block : Option Block) → kept_in (trial state hash block).state ≡ kept_in state
trial_keeps state hash None = refl
trial_keeps state hash (Some block) = tried_keeps state hash _

-- a move alone keeps what was kept
forward_keeps : (most : ℕ) (state : State) (child : Option Hash32) → kept_in (forward_from most state child).state ≡ kept_in state
forward_keeps zero state child = refl
forward_keeps (suc most) state None = refl
forward_keeps (suc most) state (Some hash) =
    forward_keeps most (trial_of state hash).state (next_child (trial_of state hash).state) ∙ trial_keeps state hash (get state.bodies hash)

-- and each limit flush in it keeps its tip
limits_keep : (state : State) (stored : Stored) (touched : List OutPoint) (tips : List Hash32)
    → stored_after (limit_events (record state { role = Alone }) touched tips) (record stored { role = Alone })
    ≡ record stored { role = Alone; active = record stored.active { tip = kept_after stored.active.tip tips } }
limits_keep state stored touched [] = refl
limits_keep state stored touched (tip ∷ tips) =
    limits_keep state (record stored { active = record stored.active { tip = tip } }) (touched_on_way (record state { role = Alone })) tips

move_keeps : (state : State) (role : Role Standing) (limits : List Hash32) → Keeps (record state { role = role }) (move_with (record state { role = role }) limits)
move_keeps state Alone limits =
    let here : State = record state { role = Alone } in
    ap (λ (s : Stored). record s { active = record s.active { tip = kept_after here.active.kept limits } }) (forward_keeps _ here (next_child here))
    ∙ sym (limits_keep state (kept_in here) (touched_on_way here ++ here.active.touched) limits)

advance_keeps : (setting : Setting) (state : State) (moved : Moved) → Advances setting state moved → Keeps state moved
advance_keeps setting state moved a = subst (λ (x : Moved). Keeps state x) (sym a.2) (move_keeps state state.role a.0)

-- ---- bodies

abbrev header_with : ℤ → Hash32 → Hash32 → ℕ → ℕ → ℕ → Header
header_with version prev root time bits nonce = record { version = version; prev = prev; root = root; time = time; bits = bits; nonce = nonce }

all_same : (v1 v2 : ℤ) (p1 p2 r1 r2 : Hash32) (t1 t2 b1 b2 n1 n2 : ℕ) → v1 ≡ v2 → p1 ≡ p2 → r1 ≡ r2 → t1 ≡ t2 → b1 ≡ b2 → n1 ≡ n2
    → header_with v1 p1 r1 t1 b1 n1 ≡ header_with v2 p2 r2 t2 b2 n2
all_same v1 v2 p1 p2 r1 r2 t1 t2 b1 b2 n1 n2 v p r t b n = cc

same_headers : (a b : Header) → Decides (same_header a b) (a ≡ b)
same_headers a b = (
  λ same.
      let one = and_parts _ _ same in
      let two = and_parts _ _ one.1 in
      let three = and_parts _ _ two.1 in
      let four = and_parts _ _ three.1 in
      let five = and_parts _ _ four.1 in
      let six = and_parts _ _ five.1 in
      let version = (Decides-int_eq a.version b.version).0 one.0 in
      let prev = same_true a.prev b.prev two.0 in
      let root = same_true a.root b.root three.0 in
      let time = (Decides-eqb a.time b.time).0 four.0 in
      let bits = (Decides-eqb a.bits b.bits).0 five.0 in
      let nonce = (Decides-eqb a.nonce b.nonce).0 six.0 in
      all_same a.version b.version a.prev b.prev a.root b.root a.time b.time a.bits b.bits a.nonce b.nonce version prev root time bits nonce,
  λ is. subst (λ (h : Header). same_header a h ≡ true) is
      (and_from _ _ ((Decides-int_eq a.version a.version).1 refl)
      (and_from _ _ (same_self a.prev)
      (and_from _ _ (same_self a.root)
      (and_from _ _ ((Decides-eqb a.time a.time).1 refl)
      (and_from _ _ ((Decides-eqb a.bits a.bits).1 refl)
      (and_from _ _ ((Decides-eqb a.nonce a.nonce).1 refl) refl)))))),
)

known_in : (found : Option Header) (header : Header) → Decides (option_map_or (same_header header) found false) (found ≡ Some header)
known_in None header = (λ same. absurd cc, λ is. absurd cc)
known_in (Some other) header = (
  λ same. ap Some (sym ((same_headers header other).0 same)),
  λ is. (same_headers header other).1 (let e : other ≡ header = cc in sym e),
)

-- a body's header is known exactly where it is the tree's under its hash
pub known : (state : State) (hash : Hash32) (header : Header) → Decides (is_known state hash header) (get state.tree.headers hash ≡ Some header)
known state hash header = known_in (get state.tree.headers hash) header

stores_keep : (setting : Setting) (state : State) (hash : Hash32) (block : Block) (moved : Moved) → Stores setting state hash block moved → Keeps state moved
stores_keep setting state hash block moved s =
    subst (λ (x : Moved). Keeps state x) (sym s.2) (advance_keeps setting (record state { bodies = insert state.bodies hash block }) s.0 s.1)

unless_keep : (setting : Setting) (state : State) (hash : Hash32) (block : Block) (broken : Option BodyRefused) (moved : Moved) → StoresUnless broken setting state hash block moved → Keeps state moved
unless_keep setting state hash block None moved s = stores_keep setting state hash block moved s
unless_keep setting state hash block (Some why) moved s = subst (λ (x : Moved). Keeps state x) (sym s) refl

offers_keep : (stored known : Bool) (setting : Setting) (state : State) (hash : Hash32) (block : Block) (moved : Moved) → OffersBody stored known setting state hash block moved → Keeps state moved
offers_keep true known setting state hash block moved o = subst (λ (x : Moved). Keeps state x) (sym o) refl
offers_keep false false setting state hash block moved o = subst (λ (x : Moved). Keeps state x) (sym o) refl
offers_keep false true setting state hash block moved o = unless_keep setting state hash block _ moved o

all_offers_keep : (setting : Setting) (state : State) (blocks : List Block) (moved : Moved) → OffersAll setting state blocks moved → Keeps state moved
all_offers_keep setting state [] moved o = subst (λ (x : Moved). Keeps state x) (sym o) refl
all_offers_keep setting state (block ∷ blocks) moved o =
    subst (λ (x : Moved). Keeps state x) (sym o.4)
    (then_keeps state o.0 o.2 (offers_keep _ _ setting state _ block o.0 o.1) (all_offers_keep setting o.0.state blocks o.2 o.3))

-- ---- lines

-- a line keeps what its events say
abbrev DidKeep : Now → Did → Type 0
DidKeep now did = kept_in did.now.state ≡ stored_after did.events (kept_in now.state)

on_moved : (now other : Now) (moved : Moved) (did : Did) → other.state ≡ now.state → did ≡ moved_on other moved → Keeps now.state moved → DidKeep now did
on_moved now other moved did same is k = subst (λ (d : Did). DidKeep now d) (sym is) k

on_faulted : (now other : Now) (moved : Moved) (did : Did) → did ≡ faulted other moved → Keeps now.state moved → DidKeep now did
on_faulted now other moved did is k = subst (λ (d : Did). DidKeep now d) (sym is) k

on_answered : (now : Now) (replies : List Reply) (did : Did) → did ≡ answered now replies → DidKeep now did
on_answered now replies did is = subst (λ (d : Did). DidKeep now d) (sym is) refl

headers_do : (setting : Setting) (now : Now) (blocks : List Block) (closed : Closed) (did : Did) → HeadersDo setting now blocks closed did → DidKeep now did
headers_do setting now blocks closed did (inl is) = on_moved now now _ did refl is (headers_keep now.state closed.added)
headers_do setting now blocks closed did (inr fault) = on_faulted now now (with_headers now.state (take fault.0 closed.added)) did fault.1 (headers_keep now.state (take fault.0 closed.added))

offers_unless : (full : Bool) (setting : Setting) (now : Now) (blocks : List Block) (closed : Closed) (did : Did) → OffersUnless full setting now blocks closed did → DidKeep now did
offers_unless true setting now blocks closed did is = on_moved now now _ did refl is (headers_keep now.state closed.added)
offers_unless false setting now blocks closed did o =
    on_moved now now _ did refl o.2
    (then_keeps now.state (with_headers now.state closed.added) o.0 (headers_keep now.state closed.added) (all_offers_keep setting (with_headers now.state closed.added).state blocks o.0 o.1))

imports_do : (setting : Setting) (now : Now) (blocks : List Block) (closed : Closed) (did : Did) → ImportDoes setting now blocks closed did → DidKeep now did
imports_do setting now blocks closed did (inl whole) = offers_unless closed.full setting now blocks closed did whole
imports_do setting now blocks closed did (inr (inl fault)) = on_faulted now now (with_headers now.state (take fault.0 closed.added)) did fault.1 (headers_keep now.state (take fault.0 closed.added))
imports_do setting now blocks closed did (inr (inr fault)) =
    on_faulted now now (and_then (with_headers now.state closed.added) fault.1) did fault.4
    (then_keeps now.state (with_headers now.state closed.added) fault.1 (headers_keep now.state closed.added)
    (all_offers_keep setting (with_headers now.state closed.added).state (take fault.0 blocks) fault.1 fault.3))

with_bytes : (bytes : Option (List ℕ)) (now : Now) (Then : List ℕ → Did → Type 0) (did : Did) → ((b : List ℕ) → Then b did → DidKeep now did) → WithBytes bytes now Then did → DidKeep now did
with_bytes None now Then did k w = on_answered now _ did w
with_bytes (Some bytes) now Then did k w = k bytes w

or_fault : (now : Now) (Then : Did → Type 0) (did : Did) → (Then did → DidKeep now did) → OrFault now Then did → DidKeep now did
or_fault now Then did k (inl is) = k is
or_fault now Then did k (inr is) = on_faulted now now (still now.state) did is refl

unless_long : (now : Now) (Then : List ℕ → Did → Type 0) (bytes : List ℕ) (did : Did) → (Then bytes did → DidKeep now did) → UnlessTooLong now Then bytes did → DidKeep now did
unless_long now Then bytes did k (inl is) = k is.1
unless_long now Then bytes did k (inr is) = on_answered now _ did is.1

generates_keep : (now : Now) (name : List ℕ) (count : ℕ) (made : Generation) (did : Did) → Generates now name count made did → DidKeep now did
generates_keep now name count made did (inl is) = subst (λ (d : Did). DidKeep now d) (sym is) refl
generates_keep now name count made did (inr fault) = subst (λ (d : Did). DidKeep now d) (sym fault.2) refl

does_keep : (setting : Setting) (now : Now) (one : Line) (did : Did) → Does setting now one did → DidKeep now did
does_keep setting now line.Empty did d = on_answered now _ did d
does_keep setting now (line.Fold file) did d =
    with_bytes (get now.files file) now _ did (λ bytes f. ⊎_elim (λ a. on_answered now _ did a.2) (λ is. on_faulted now now (still now.state) did is refl) f) d
does_keep setting now (line.Headers file key) did d =
    with_bytes (get now.files file) now (λ bytes. OrFault now (UnlessTooLong now (TakesHeaders setting now key) bytes)) did
    (λ bytes o. or_fault now (UnlessTooLong now (TakesHeaders setting now key) bytes) did
    (λ u. unless_long now (TakesHeaders setting now key) bytes did (λ h. headers_do setting now (frames bytes key) (closure_of setting now.state (frames bytes key)) did h) u) o) d
does_keep setting now (line.Import file key) did d =
    with_bytes (get now.files file) now (λ bytes. OrFault now (UnlessTooLong now (Imports setting now key) bytes)) did
    (λ bytes o. or_fault now (UnlessTooLong now (Imports setting now key) bytes) did
    (λ u. unless_long now (Imports setting now key) bytes did (λ h. imports_do setting now (frames bytes key) (closure_of setting now.state (frames bytes key)) did h) u) o) d
does_keep setting now (line.Generate number count file) did d = generates_keep now file count (generated_chain number count) did d
does_keep setting now line.Flush did d = on_moved now now _ did refl d (flushes_keep Command now.state now.state.role)
does_keep setting now (line.GetTxOut key) did d = on_moved now now _ did refl d refl
does_keep setting now line.Info did d = on_answered now _ did d

step_keeps : (setting : Setting) (now : Now) (parsed : Result Line LineRefused) (did : Did) → Step setting now parsed did → DidKeep now did
step_keeps setting now (Ok one) did d = does_keep setting now one did d
step_keeps setting now (Err why) did d = on_answered now _ did d

-- ---- a course

lines_keep : (setting : Setting) (now : Now) (lines : List (List ℕ)) (dids : List Did) (end : Now) → DoesAll setting now lines dids end
    → kept_in end.state ≡ stored_after (events_of dids) (kept_in now.state)
lines_keep setting now [] [] end d = ap (λ (n : Now). kept_in n.state) d
lines_keep setting now [] (did ∷ dids) end d = absurd d
lines_keep setting now (one ∷ lines) [] end d = absurd d
lines_keep setting now (one ∷ lines) (did ∷ dids) end d =
    lines_keep setting did.now lines dids end d.1
    ∙ ap (stored_after (events_of dids)) (step_keeps setting now (line_of one) did d.0)
    ∙ sym (stored-append did.events (events_of dids) (kept_in now.state))

-- after all lines and the last flush each chainstate is kept at its tip, and what is kept is what all events leave
pub course_keeps : {setting : Setting} {from : Now} {bytes : List ℕ} (course : Course setting from bytes)
    → kept_in (at_end course.last).now.state ≡ stored_after (events_of (whole course)) (kept_in from.state)
course_keeps {setting} {from} {bytes} course =
    flushes_keep End course.last.state course.last.state.role
    ∙ ap (stored_after (flush End course.last.state).events) (lines_keep setting from (lines_in bytes) course.dids course.last course.does)
    ∙ sym (stored-append (events_of course.dids) (flush End course.last.state).events (kept_in from.state))
    ∙ ap (λ (es : List Event). stored_after es (kept_in from.state)) (sym (events-append course.dids (at_end course.last)))
  where
    events-append : (dids : List Did) (last : Did) → events_of (dids ++ last ∷ []) ≡ events_of dids ++ last.events
    events-append [] last = append-nil last.events
    events-append (did ∷ dids) last = ap (λ (es : List Event). did.events ++ es) (events-append dids last) ∙ sym (append_assoc did.events (events_of dids) last.events)
