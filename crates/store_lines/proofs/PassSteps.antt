-- Offers of blocks one after the other.
use Rattle.std.proofs.Common.{◌≡◌, ℕ, ◌+◌, ◌≤◌, List, [], ◌∷◌, ◌++◌, append_assoc, append-nil, Option, Some, None, Ok, Err, refl, sym, ap, subst, ◌∙◌, arith}
use Rattle.std.specs.Prelude.{Result}
use Rattle.std.specs.FinMap.{get}
use Rattle.std.specs.List.{flat_map}
use Rattle.std.proofs.lemmas.List.Concat.{flat_map-append}
use Rattle.disk_model.specs.Disk.{Image}
use Rattle.base_types.specs.declared.fault.StoreFault.{StoreFault}
use Rattle.block_codec.specs.declared.block.Block.{Block}
use Rattle.block_codec.specs.Frames.{frames}
use Rattle.block_files.specs.Passes.{Goes, NextBlock, OpenedIs, OpensFile, StandsBefore, StopsPass, size}
use Rattle.chainstates.specs.Offers.{Stands}
use Rattle.chainstates.specs.Standing.{KeepsFiles, KeepsSettings}
use Rattle.chainstates.specs.declared.session.Session.{Session}
use Rattle.command_text.specs.Replies.{reply_text}
use Rattle.frame_scan.specs.Scan.{Scan, frames_left}
use Rattle.frame_scan.specs.declared.fault.FrameFault.{FrameFault}
use Rattle.frame_scan.specs.declared.fault.FrameFault.TheVariants.{NoMemory, HostFailed, FileTooLong}
use Rattle.io_traits.specs.Causes.{Rose}
use Rattle.io_traits.specs.Host.{Held}
use Rattle.io_traits.specs.Told.{OnTold}
use Rattle.io_traits.proofs.Causes.{Rose-earlier}
use Rattle.io_traits.proofs.Told.{OnTold-same, OnTold-then, OnTold-weaker}
use Rattle.machine.specs.Answers.{flushes_told_by}
use Rattle.machine.specs.State.{State, and_then, still}
use Rattle.machine.proofs.FlushLists.{told_by-append}
use Rattle.machine.proofs.Joining.{nothing_done}
use Rattle.store_lines.specs.Passing.{HasPassed, HasPassedFirst, HasPassedPart, Passes, StopsAt, StopsIn}
use Rattle.store_lines.specs.declared.passes.PassEnd.{PassEnd}
use Rattle.store_lines.specs.declared.passes.PassEnd.TheVariants.{Whole, Broken}
use Rattle.store_lines.proofs.Courses.{can_offer_all, offers_then}
use Rattle.store_lines.proofs.Works.{writes_more, writes_then, writes_then_some}
use Rattle.store_state.specs.Settled.{IsSettled}
use Rattle.store_state.specs.State.{StoreState, first_rules}

-- ---- what an object tells

pub told_from : {S : Type 0} (P : S → S → Type 0) (a b : Option S) (s : S) → a ≡ Some s → OnTold a b P → (t : S) × (b ≡ Some t) × P s t
told_from P None None s is told = absurd cc
told_from P None (Some t) s is told = absurd told
told_from P (Some r) None s is told = absurd told
told_from {S} P (Some r) (Some t) s is told = let same : r ≡ s = cc in (t, refl, subst (λ (x : S). P x t) same told)

-- ---- a session that stays what it was

pub same_settings : (session : Session) → KeepsSettings session session
same_settings session = record { headers = refl; header_bytes = refl; body_bytes = refl; coin_bytes = refl; spread = refl }

pub settings_then : (a b c : Session) → KeepsSettings a b → KeepsSettings b c → KeepsSettings a c
settings_then a b c first second = record {
  headers = second.headers ∙ first.headers;
  header_bytes = second.header_bytes ∙ first.header_bytes;
  body_bytes = second.body_bytes ∙ first.body_bytes;
  coin_bytes = second.coin_bytes ∙ first.coin_bytes;
  spread = second.spread ∙ first.spread;
}

pub same_files : (session : Session) → KeepsFiles session session
same_files session = record { headers = refl; bodies = refl; coins = refl }

pub files_then : (a b c : Session) → KeepsFiles a b → KeepsFiles b c → KeepsFiles a c
files_then a b c first second = record { headers = second.headers ∙ first.headers; bodies = second.bodies ∙ first.bodies; coins = second.coins ∙ first.coins }

-- ---- no block, and more of them

pub passed_none : (limit : ℕ) (past : ℕ → Image → Type 0) (t : ℕ) (contents : Option Image) (session : Session) (state : State) (store : StoreState) (text : List ℕ)
    → ((u v : ℕ) (c : Image) → u ≤ v → v ≤ t → past v c → past u c) → Stands limit contents (past t) session state store → IsSettled store
    → HasPassed limit past past t t contents contents session state store text text [] 0
passed_none limit past t contents session state store text earlier stands settled = record {
  moved = still state;
  does = λ setting. refl;
  count = omega arith;
  text = sym (append-nil text);
  untold = refl;
  on = store;
  writes = record {
    contents = stands.files.image;
    was = stands.files.told;
    after = stands.files.image;
    told = stands.files.told;
    whole = nothing_done limit first_rules past t stands.files.image store earlier stands.files.is_open;
  };
  settled = settled;
  stands = stands;
}

module _ (limit : ℕ) (past mid left : ℕ → Image → Type 0) (entered between ended : ℕ) (before inter now : Option Image) (was is : Session) (state : State) (store : StoreState) (t u v : List ℕ) (xs ys : List Block) (m n : ℕ)
    (first : HasPassed limit past mid entered between before inter was state store t u xs m) where
  pub passed_then : HasPassed limit mid left between ended inter now is first.moved.state first.on u v ys n → HasPassed limit past left entered ended before now is state store t v (xs ++ ys) (m + n)
  passed_then second = record {
    moved = and_then first.moved second.moved;
    does = λ setting. offers_then setting state xs ys first.moved second.moved (first.does setting) (second.does setting);
    count = let one = first.count in let two = second.count in omega (arith, one, two);
    text =
        second.text
        ∙ ap (λ (l : List ℕ). l ++ flat_map reply_text second.moved.replies) first.text
        ∙ append_assoc t (flat_map reply_text first.moved.replies) (flat_map reply_text second.moved.replies)
        ∙ ap (λ (l : List ℕ). t ++ l) (sym (flat_map-append reply_text first.moved.replies second.moved.replies));
    untold =
        told_by-append first.moved.replies second.moved.replies
        ∙ ap (λ l. l ++ flushes_told_by second.moved.replies) first.untold
        ∙ second.untold;
    on = second.on;
    writes = writes_then limit past mid left entered between ended before inter now first.moved.events second.moved.events store first.on first.writes second.on second.writes;
    settled = second.settled;
    stands = second.stands;
  }

  pub passed_then_part : HasPassedPart limit mid left between ended inter now first.moved.state first.on ys → HasPassedPart limit past left entered ended before now state store (xs ++ ys)
  passed_then_part second = record {
    moved = and_then first.moved second.moved;
    does = λ setting. offers_then setting state xs ys first.moved second.moved (first.does setting) (second.does setting);
    writes = writes_then_some limit past mid left entered between ended before inter now first.moved.events second.moved.events store first.on first.writes second.writes;
  }

module _ (limit : ℕ) (past left : ℕ → Image → Type 0) (entered ended : ℕ) (before now : Option Image) (state : State) (store : StoreState) where
  -- the machine can go on with further blocks, which weren't offered
  pub part_more : (xs ys : List Block) → HasPassedPart limit past left entered ended before now state store xs → HasPassedPart limit past left entered ended before now state store (xs ++ ys)
  part_more xs ys part =
      let rest = can_offer_all part.moved.state ys in
      record {
        moved = and_then part.moved rest.moved;
        does = λ setting. offers_then setting state xs ys part.moved rest.moved (part.does setting) (rest.does setting);
        writes = writes_more limit past left entered ended before now part.moved.events rest.moved.events store part.writes;
      }

  module _ (session : Session) (t u : List ℕ) where
    pub passed_in_part : (xs : List Block) (bodies : ℕ) → HasPassed limit past left entered ended before now session state store t u xs bodies → HasPassedPart limit past left entered ended before now state store xs
    passed_in_part xs bodies all = record {
      moved = all.moved;
      does = all.does;
      writes = record { contents = all.writes.contents; was = all.writes.was; after = all.writes.after; told = all.writes.told; meets = all.writes.whole.meets };
    }

    pub ended_in_part : (blocks : List Block) (end : PassEnd) → Passes limit past left entered ended before now session state store t u blocks end → HasPassedPart limit past left entered ended before now state store blocks
    ended_in_part blocks (Whole bodies) all = passed_in_part blocks bodies all
    ended_in_part blocks (Broken fault) some =
        subst (λ (bs : List Block). HasPassedPart limit past left entered ended before now state store bs) (sym some.parts)
        (part_more some.first some.rest (passed_in_part some.first some.bodies some.passed))

-- nothing was done, and the machine can do the rest
pub none_in_part : (limit : ℕ) (past : ℕ → Image → Type 0) (t : ℕ) (contents : Option Image) (session : Session) (state : State) (store : StoreState) (text : List ℕ) (blocks : List Block)
    → ((u v : ℕ) (c : Image) → u ≤ v → v ≤ t → past v c → past u c) → Stands limit contents (past t) session state store → IsSettled store
    → HasPassedPart limit past past t t contents contents state store blocks
none_in_part limit past t contents session state store text blocks earlier stands settled =
    part_more limit past past t t contents contents state store [] blocks
    (passed_in_part limit past past t t contents contents state store session text text [] 0 (passed_none limit past t contents session state store text earlier stands settled))

-- ---- so far

-- the host tells its files, and the blocks that were left are those that were offered and those that are left now
pub record Passing (limit : ℕ) (past left : ℕ → Image → Type 0) (entered ended : ℕ) (before now : Option Image) (session : Session) (state : State) (store : StoreState) (text_before text_after : List ℕ) (blocks : List Block) (told : Option Held) (scan : Scan) (bodies : ℕ) : Type 0 where
  pub held : Held
  pub tells : told ≡ Some held
  pub first : List Block
  pub parts : blocks ≡ first ++ frames_left scan held
  pub passed : HasPassed limit past left entered ended before now session state store text_before text_after first bodies

pub passing_none : (limit : ℕ) (past : ℕ → Image → Type 0) (t : ℕ) (contents : Option Image) (session : Session) (state : State) (store : StoreState) (text : List ℕ) (told : Option Held) (scan : Scan) (held : Held)
    → ((u v : ℕ) (c : Image) → u ≤ v → v ≤ t → past v c → past u c) → told ≡ Some held → Stands limit contents (past t) session state store → IsSettled store
    → Passing limit past past t t contents contents session state store text text (frames_left scan held) told scan 0
passing_none limit past t contents session state store text told scan held earlier tells stands settled =
    record { held = held; tells = tells; first = []; parts = refl; passed = passed_none limit past t contents session state store text earlier stands settled }

module _ (limit : ℕ) (past mid left : ℕ → Image → Type 0) (entered between ended : ℕ) (before inter now : Option Image) (was is : Session) (state : State) (store : StoreState) (t u v : List ℕ) (blocks : List Block) (told then : Option Held) (old new : Scan) (bodies : ℕ)
    (so_far : Passing limit past mid entered between before inter was state store t u blocks told old bodies) (rose rose_by : ℕ) where
  -- the next block was found
  module _ (block : Block) (found : OnTold told then (NextBlock old new rose rose_by (Ok (Some block)))) where
    next : (held : Held) × (then ≡ Some held) × NextBlock old new rose rose_by (Ok (Some block)) so_far.held held
    next = told_from (NextBlock old new rose rose_by (Ok (Some block))) told then so_far.held so_far.tells found

    parts_on : blocks ≡ so_far.first ++ (block ∷ frames_left new next.0)
    parts_on = so_far.parts ∙ ap (λ (bs : List Block). so_far.first ++ bs) next.2.next

    -- and offered
    pub passing_more : (stored : ℕ) → HasPassed limit mid left between ended inter now is so_far.passed.moved.state so_far.passed.on u v (block ∷ []) stored
        → Passing limit past left entered ended before now is state store t v blocks then new (bodies + stored)
    passing_more stored one = record {
      held = next.0;
      tells = next.1;
      first = so_far.first ++ block ∷ [];
      parts = parts_on ∙ sym (append_assoc so_far.first (block ∷ []) (frames_left new next.0));
      passed = passed_then limit past mid left entered between ended before inter now was is state store t u v so_far.first (block ∷ []) bodies stored so_far.passed one;
    }

    pub passing_cut : HasPassedPart limit mid left between ended inter now so_far.passed.moved.state so_far.passed.on (block ∷ []) → HasPassedPart limit past left entered ended before now state store blocks
    passing_cut one =
        subst (λ (bs : List Block). HasPassedPart limit past left entered ended before now state store bs) (sym (parts_on ∙ sym (append_assoc so_far.first (block ∷ []) (frames_left new next.0))))
        (part_more limit past left entered ended before now state store (so_far.first ++ block ∷ []) (frames_left new next.0)
        (passed_then_part limit past mid left entered between ended before inter now was is state store t u v so_far.first (block ∷ []) bodies 0 so_far.passed one))

  -- there is none
  pub passed_all : OnTold told then (NextBlock old new rose rose_by (Ok None)) → HasPassed limit past mid entered between before inter was state store t u blocks bodies
  passed_all ended =
      let none = told_from (NextBlock old new rose rose_by (Ok None)) told then so_far.held so_far.tells ended in
      subst (λ (bs : List Block). HasPassed limit past mid entered between before inter was state store t u bs bodies)
      (sym (so_far.parts ∙ ap (λ (bs : List Block). so_far.first ++ bs) none.2.next.0 ∙ append-nil so_far.first)) so_far.passed

  -- the file can't be read on
  pub passed_some : HasPassedFirst limit past mid entered between before inter was state store t u blocks
  passed_some = record { first = so_far.first; rest = frames_left old so_far.held; parts = so_far.parts; bodies = bodies; passed = so_far.passed }

  pub passed_cut : HasPassedPart limit past mid entered between before inter state store blocks
  passed_cut = ended_in_part limit past mid entered between before inter state store was t u blocks (Broken NoMemory) passed_some

-- ---- the file

goes_then : (old mid new : Scan) (s t u : Held) → Goes old mid s t → Goes mid new t u → Goes old new s u
goes_then old mid new s t u first second = record { files = second.files ∙ first.files; size = second.size ∙ first.size }

pub going_none : (a : Option Held) (scan : Scan) → OnTold a a (Goes scan scan)
going_none a scan = OnTold-same (Goes scan scan) a (λ s. record { files = refl; size = refl })

pub going_more : (a b c : Option Held) (old mid new : Scan) (rose rose_by : ℕ) (result : Result (Option Block) FrameFault) → OnTold a b (Goes old mid) → OnTold b c (NextBlock mid new rose rose_by result) → OnTold a c (Goes old new)
going_more a b c old mid new rose rose_by result going found =
    OnTold-then (Goes old mid) (NextBlock mid new rose rose_by result) (Goes old new) a b c (λ s t u first second. goes_then old mid new s t u first second.goes) going found

stops_since : (n from before now : ℕ) (fault : FrameFault) → from ≤ before → StopsPass n (Rose before now) fault → StopsPass n (Rose from now) fault
stops_since n from before now NoMemory later stop = tt
stops_since n from before now HostFailed later stop = Rose-earlier from before now later stop
stops_since n from before now FileTooLong later stop = stop

pub stops_with : (a b c : Option Held) (old mid new : Scan) (from before now : ℕ) (fault : FrameFault) → from ≤ before → OnTold a b (Goes old mid) → OnTold b c (NextBlock mid new before now (Err fault))
    → OnTold a c (λ s t. (t.files ≡ s.files) × StopsPass (size old s) (Rose from now) fault)
stops_with a b c old mid new from before now fault later going stop =
    OnTold-then (Goes old mid) (NextBlock mid new before now (Err fault)) (λ s t. (t.files ≡ s.files) × StopsPass (size old s) (Rose from now) fault) a b c (λ s t u first second. (
      second.goes.files ∙ first.files,
      subst (λ (n : ℕ). StopsPass n (Rose from now) fault) first.size (stops_since (size mid t) from before now fault later second.next),
    )) going stop

-- ---- a file by its name

opened_stops : (key : Option (List ℕ)) (found : Option (List ℕ)) (scan : Scan) (held : Held) (from before now : ℕ) (result : Result PassEnd StoreFault) → from ≤ before
    → OpenedIs key found (Rose from before) (Ok scan) held → StopsAt (size scan held) (Rose before now) result → StopsIn found (Rose from now) result
opened_stops key None scan held from before now result later stands stop = absurd stands
opened_stops key (Some bytes) scan held from before now (Ok (Whole bodies)) later stands stop = tt
opened_stops key (Some bytes) scan held from before now (Ok (Broken fault)) later stands stop =
    subst (λ (n : ℕ). StopsPass n (Rose from now) fault) stands.size (stops_since (size scan held) from before now fault later stop)
opened_stops key (Some bytes) scan held from before now (Err fault) later stands stop = tt

pub file_stops : (a b c : Option Held) (name : List ℕ) (key : Option (List ℕ)) (scan : Scan) (from before now : ℕ) (result : Result PassEnd StoreFault) → from ≤ before → OnTold a b (OpensFile name key from before (Ok scan))
    → OnTold b c (λ s t. (t.files ≡ s.files) × StopsAt (size scan s) (Rose before now) result) → OnTold a c (λ s t. (t.files ≡ s.files) × StopsIn (get s.files name) (Rose from now) result)
file_stops a b c name key scan from before now result later opens rest =
    OnTold-then (OpensFile name key from before (Ok scan)) (λ s t. (t.files ≡ s.files) × StopsAt (size scan s) (Rose before now) result) (λ s t. (t.files ≡ s.files) × StopsIn (get s.files name) (Rose from now) result) a b c
    (λ s t u first second. (second.0 ∙ first.files, opened_stops key (get s.files name) scan t from before now result later first.opened second.1)) opens rest

unopened_stops : (key : Option (List ℕ)) (found : Option (List ℕ)) (held : Held) (before now : ℕ) (fault : FrameFault) → OpenedIs key found (Rose before now) (Err fault) held → StopsIn found (Rose before now) (Ok (Broken fault))
unopened_stops key None held before now fault is = tt
unopened_stops key (Some bytes) held before now NoMemory is = tt
unopened_stops key (Some bytes) held before now HostFailed is = is
unopened_stops key (Some bytes) held before now FileTooLong is = absurd is

pub file_unopened : (a b : Option Held) (name : List ℕ) (key : Option (List ℕ)) (before now : ℕ) (fault : FrameFault) → OnTold a b (OpensFile name key before now (Err fault))
    → OnTold a b (λ s t. (t.files ≡ s.files) × StopsIn (get s.files name) (Rose before now) (Ok (Broken fault)))
file_unopened a b name key before now fault stop =
    OnTold-weaker (OpensFile name key before now (Err fault)) (λ s t. (t.files ≡ s.files) × StopsIn (get s.files name) (Rose before now) (Ok (Broken fault))) a b
    (λ s t opens. (opens.files, unopened_stops key (get s.files name) t before now fault opens.opened)) stop

-- nothing was read
unread_stops : (found : Option (List ℕ)) (rose : Type 0) (fault : StoreFault) → StopsIn found rose (Err fault)
unread_stops None rose fault = tt
unread_stops (Some bytes) rose fault = tt

pub file_unread : (a b : Option Held) (name : List ℕ) (key : Option (List ℕ)) (before now : ℕ) (result : Result Scan FrameFault) (fault : StoreFault) → OnTold a b (OpensFile name key before now result)
    → OnTold a b (λ s t. (t.files ≡ s.files) × StopsIn (get s.files name) (Rose before now) (Err fault))
file_unread a b name key before now result fault opens =
    OnTold-weaker (OpensFile name key before now result) (λ s t. (t.files ≡ s.files) × StopsIn (get s.files name) (Rose before now) (Err fault)) a b
    (λ s t opened. (opened.files, unread_stops (get s.files name) (Rose before now) fault)) opens

-- the blocks of an opened file are all of its frames
pub opened_blocks : (a b : Option Held) (name : List ℕ) (key : Option (List ℕ)) (bytes : List ℕ) (scan : Scan) (before now : ℕ) (held : Held) → a ≡ Some held → get held.files name ≡ Some bytes → OnTold a b (OpensFile name key before now (Ok scan))
    → (opened : Held) × (b ≡ Some opened) × (frames_left scan opened ≡ frames bytes key)
opened_blocks a b name key bytes scan before now held is file opens =
    let at = told_from (OpensFile name key before now (Ok scan)) a b held is opens in
    let stands : StandsBefore key bytes scan at.0 = subst (λ (found : Option (List ℕ)). OpenedIs key found (Rose before now) (Ok scan) at.0) file at.2.opened in
    (at.0, at.1, stands.blocks)
