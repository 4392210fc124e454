-- What lists of lines do, and what a run that stops leaves of the host's files.
use Rattle.std.proofs.Common.{◌≡◌, ◌<◌, ◌≤◌, ◌+◌, ◌-◌, ℕ, zero, suc, Bool, true, false, cond, List, [], ◌∷◌, ◌++◌, length, map, take, drop, refl, sym, ap, subst, ◌∙◌, inl, inr, arith, append_assoc, length-append}
use Rattle.std.specs.Prelude.{◌⊎◌, Option, Some, None, Ok, Err, unwrap_or, slice_get}
use Rattle.std.specs.List.{flat_map}
use Rattle.std.specs.FinMap.{get}
use Rattle.std.proofs.lemmas.Bool.{cases_lt, false≢true}
use Rattle.std.proofs.lemmas.List.Sums.{sum_by-cons, sum_by-append}
use Rattle.std.proofs.lemmas.Grind.{flat_map-append}
use Rattle.std.proofs.Math.Seq.{take-append-add}
use Rattle.block_codec.specs.declared.block.Block.{Block}
use Rattle.block_codec.specs.Frames.{frames}
use Rattle.chain_model.specs.Generated.{chain as generated_chain}
use Rattle.chain_model.specs.HeaderRules.{Closed}
use Rattle.io_traits.specs.Host.{Files}
use Rattle.command_text.specs.Lines.{line_of, without_return}
use Rattle.command_text.specs.Replies.{reply_text, words_of}
use Rattle.command_text.specs.declared.line.Line.TheVariants as line
use Rattle.command_text.specs.declared.reply.Reply.{Reply}
use Rattle.command_text.specs.declared.reply.Reply.TheVariants as says
use Rattle.store_state.specs.Roles.{Role, Alone, each_chain}
use Rattle.machine.specs.Moves.{flush_reply}
use Rattle.machine.specs.State.{Setting, Standing, State, Moved, still, and_then, and_reply}
use Rattle.machine.specs.Steps.{Now, Did, Step, WithBytes, Folds, generated_reply, answered, faulted, moved_on, with_headers, unless_full, tree_size, HeadersDo, import_reply, OffersUnless, ImportDoes, closure_of, UnlessTooLong, TakesHeaders, Imports, OrFault, info_reply}
use Rattle.machine.specs.Courses.{lines_in, DoesAll, replies_of, events_of, text_of, host_faults}
use Rattle.machine.specs.Answers.{IsPrefix, file_begun, SameBut, after_some, next_begun, FilesAfter}
use Rattle.command_loop.specs.ServerCalls.{Asked}
use Rattle.machine.proofs.LineFiles.{same_but}
use Rattle.machine.proofs.LineWays.{way}
use Rattle.command_loop.specs.Asks.{asked as asked_of, first_begun}
use Rattle.command_loop.specs.Service.{DoesAsks}

pub record Ways (setting : Setting) (now : Now) (asks : List Asked) : Type 0 where
  pub dids : List Did
  pub last : Now
  pub does : DoesAsks setting now asks dids last
  pub faults : host_faults dids ≡ 0

pub ways : (setting : Setting) (now : Now) (asks : List Asked) → Ways setting now asks
ways setting now [] = record { dids = []; last = now; does = refl; faults = refl }
ways setting now (ask ∷ asks) =
    let one = way setting now ask in
    let rest = ways setting one.did.now asks in
    record {
      dids = one.did ∷ rest.dids;
      last = rest.last;
      does = (one.step, rest.does);
      faults = let a = one.faults in let b = rest.faults in let sum : host_faults (one.did ∷ rest.dids) ≡ one.did.faults + host_faults rest.dids = sum_by-cons (λ (did : Did). did.faults) one.did rest.dids in omega (arith, a, b, sum);
    }

-- ---- lines by what they ask for

pub same_asks : (setting : Setting) (now last : Now) (lines : List (List ℕ)) (dids : List Did) → DoesAsks setting now (map line_of lines) dids last → DoesAll setting now lines dids last
same_asks setting now last [] [] does = does
same_asks setting now last [] (did ∷ dids) does = absurd does
same_asks setting now last (line ∷ lines) [] does = absurd does
same_asks setting now last (line ∷ lines) (did ∷ dids) does = (does.0, same_asks setting did.now last lines dids does.1)

pub asked_lines : (pieces : List (List ℕ)) → map line_of (map without_return pieces) ≡ map asked_of pieces
asked_lines [] = refl
asked_lines (p ∷ ps) = ap (λ (l : List Asked). asked_of p ∷ l) (asked_lines ps)

pub count_of : (setting : Setting) (now last : Now) (asks : List Asked) (dids : List Did) → DoesAsks setting now asks dids last → length dids ≡ length asks
count_of setting now last [] [] does = refl
count_of setting now last [] (did ∷ dids) does = absurd does
count_of setting now last (ask ∷ asks) [] does = absurd does
count_of setting now last (ask ∷ asks) (did ∷ dids) does = ap suc (count_of setting did.now last asks dids does.1)

pub does_then : (setting : Setting) (a b c : Now) (xs ys : List Asked) (first second : List Did) → DoesAsks setting a xs first b → DoesAsks setting b ys second c → DoesAsks setting a (xs ++ ys) (first ++ second) c
does_then setting a b c [] ys [] second one two = subst (λ (now : Now). DoesAsks setting now ys second c) one two
does_then setting a b c [] ys (did ∷ first) second one two = absurd one
does_then setting a b c (x ∷ xs) ys [] second one two = absurd one
does_then setting a b c (x ∷ xs) ys (did ∷ first) second one two = (one.0, does_then setting did.now b c xs ys first second one.1 two)

-- ---- what lists of work have

pub text_of-append : (xs ys : List Did) → text_of (xs ++ ys) ≡ text_of xs ++ text_of ys
text_of-append xs ys = ap (flat_map reply_text) (flat_map-append (λ (did : Did). did.replies) xs ys) ∙ flat_map-append reply_text (replies_of xs) (replies_of ys)

pub replies_of-append : (xs ys : List Did) → replies_of (xs ++ ys) ≡ replies_of xs ++ replies_of ys
replies_of-append xs ys = flat_map-append (λ (did : Did). did.replies) xs ys

pub events_of-append : (xs ys : List Did) → events_of (xs ++ ys) ≡ events_of xs ++ events_of ys
events_of-append xs ys = flat_map-append (λ (did : Did). did.events) xs ys

pub host_faults-append : (xs ys : List Did) → host_faults (xs ++ ys) ≡ host_faults xs + host_faults ys
host_faults-append xs ys = sum_by-append (λ (did : Did). did.faults) xs ys

-- ---- lines without a reply

abbrev pub is_silent : Asked → Bool
is_silent (Ok line.Empty) = true
is_silent other = false

abbrev pub silent : List Asked → ℕ
silent [] = 0
silent (ask ∷ asks) = cond (is_silent ask) (suc (silent asks)) 0

-- a line that isn't empty has replies, one of them at the end
record Speaks (did : Did) : Type 0 where
  first : List Reply
  reply : Reply
  is : did.replies ≡ first ++ reply ∷ []

one_reply : (did : Did) (reply : Reply) → did.replies ≡ reply ∷ [] → Speaks did
one_reply did reply is = record { first = []; reply = reply; is = is }

ends_in : (now : Now) (moved : Moved) (reply : Reply) (did : Did) → did ≡ moved_on now (and_reply reply moved) → Speaks did
ends_in now moved reply did is = record { first = moved.replies; reply = reply; is = ap (λ (d : Did). d.replies) is }

faults_speak : (now : Now) (moved : Moved) (did : Did) → did ≡ faulted now moved → Speaks did
faults_speak now moved did is = record { first = moved.replies; reply = says.HostFault; is = ap (λ (d : Did). d.replies) is }

folds_speaks : (setting : Setting) (now : Now) (found : Option (List ℕ)) (did : Did) → WithBytes found now (Folds setting now) did → Speaks did
folds_speaks setting now None did is = one_reply did says.HostFault (ap (λ (d : Did). d.replies) is)
folds_speaks setting now (Some bytes) did (inl is) = one_reply did is.0 (ap (λ (d : Did). d.replies) is.2)
folds_speaks setting now (Some bytes) did (inr is) = faults_speak now (still now.state) did is

file_speaks : (now : Now) (found : Option (List ℕ)) (Does : List ℕ → Did → Type 0) (did : Did) → ((bytes : List ℕ) → Does bytes did → Speaks did)
    → WithBytes found now (λ bytes. OrFault now (UnlessTooLong now Does bytes)) did → Speaks did
file_speaks now None Does did some is = one_reply did says.HostFault (ap (λ (d : Did). d.replies) is)
file_speaks now (Some bytes) Does did some (inl (inl is)) = some bytes is.1
file_speaks now (Some bytes) Does did some (inl (inr is)) = one_reply did says.FileTooLong (ap (λ (d : Did). d.replies) is.1)
file_speaks now (Some bytes) Does did some (inr is) = faults_speak now (still now.state) did is

headers_speak : (setting : Setting) (now : Now) (blocks : List Block) (closed : Closed) (did : Did) → HeadersDo setting now blocks closed did → Speaks did
headers_speak setting now blocks closed did (inl is) = ends_in now (with_headers now.state closed.added) (unless_full closed.full (says.Headers (length blocks) (length closed.added) (tree_size (with_headers now.state closed.added).state))) did is
headers_speak setting now blocks closed did (inr is) = faults_speak now (with_headers now.state (take is.0 closed.added)) did is.1

offers_speak : (full : Bool) (setting : Setting) (now : Now) (blocks : List Block) (closed : Closed) (did : Did) → OffersUnless full setting now blocks closed did → Speaks did
offers_speak true setting now blocks closed did is = ends_in now (with_headers now.state closed.added) says.TreeFull did is
offers_speak false setting now blocks closed did is = ends_in now (and_then (with_headers now.state closed.added) is.0) (import_reply now.state blocks closed.added is.0.state) did is.2

imports_speak : (setting : Setting) (now : Now) (blocks : List Block) (closed : Closed) (did : Did) → ImportDoes setting now blocks closed did → Speaks did
imports_speak setting now blocks closed did (inl is) = offers_speak closed.full setting now blocks closed did is
imports_speak setting now blocks closed did (inr (inl is)) = faults_speak now (with_headers now.state (take is.0 closed.added)) did is.1
imports_speak setting now blocks closed did (inr (inr is)) = faults_speak now (and_then (with_headers now.state closed.added) is.1) did is.4

flush_speaks : (state : State) (role : Role Standing) (did : Did) → did.replies ≡ map (flush_reply state) (each_chain state.active role) → Speaks did
flush_speaks state Alone did is = one_reply did _ is

speaks : (setting : Setting) (now : Now) (ask : Asked) (did : Did) → is_silent ask ≡ false → Step setting now ask did → Speaks did
speaks setting now (Err why) did loud step = one_reply did (says.Refused why) (ap (λ (d : Did). d.replies) step)
speaks setting now (Ok line.Empty) did loud step = absurd (false≢true (sym loud))
speaks setting now (Ok (line.Fold file)) did loud step = folds_speaks setting now (get now.files file) did step
speaks setting now (Ok (line.Generate number count file)) did loud (inl is) = one_reply did (generated_reply count (generated_chain number count)) (ap (λ (d : Did). d.replies) is)
speaks setting now (Ok (line.Generate number count file)) did loud (inr is) = one_reply did says.HostFault (ap (λ (d : Did). d.replies) is.2)
speaks setting now (Ok (line.Headers file key)) did loud step = file_speaks now (get now.files file) (TakesHeaders setting now key) did (λ bytes is. headers_speak setting now (frames bytes key) (closure_of setting now.state (frames bytes key)) did is) step
speaks setting now (Ok (line.Import file key)) did loud step = file_speaks now (get now.files file) (Imports setting now key) did (λ bytes is. imports_speak setting now (frames bytes key) (closure_of setting now.state (frames bytes key)) did is) step
speaks setting now (Ok line.Flush) did loud step = flush_speaks now.state now.state.role did (ap (λ (d : Did). d.replies) step)
speaks setting now (Ok (line.GetTxOut key)) did loud step = one_reply did _ (ap (λ (d : Did). d.replies) step)
speaks setting now (Ok line.Info) did loud step = one_reply did (info_reply now.state) (ap (λ (d : Did). d.replies) step)

-- an empty one has none, and leaves all as it is
quiet : (setting : Setting) (now : Now) (ask : Asked) (did : Did) → is_silent ask ≡ true → Step setting now ask did → did ≡ answered now []
quiet setting now (Err why) did still step = absurd (false≢true still)
quiet setting now (Ok line.Empty) did still step = step
quiet setting now (Ok (line.Fold file)) did still step = absurd (false≢true still)
quiet setting now (Ok (line.Generate number count file)) did still step = absurd (false≢true still)
quiet setting now (Ok (line.Headers file key)) did still step = absurd (false≢true still)
quiet setting now (Ok (line.Import file key)) did still step = absurd (false≢true still)
quiet setting now (Ok line.Flush) did still step = absurd (false≢true still)
quiet setting now (Ok (line.GetTxOut key)) did still step = absurd (false≢true still)
quiet setting now (Ok line.Info) did still step = absurd (false≢true still)

-- each reply has bytes
pub reply_long : (reply : Reply) → 0 < length (reply_text reply)
reply_long reply = let end = length-append (words_of reply) (10 ∷ []) in omega (arith, end)

spoken : (did : Did) (dids : List Did) → Speaks did → 0 < length (text_of (did ∷ dids))
spoken did dids talk =
    let text = ap (λ (replies : List Reply). length (flat_map reply_text (replies ++ replies_of dids))) talk.is in
    let split : flat_map reply_text ((talk.first ++ talk.reply ∷ []) ++ replies_of dids) ≡ flat_map reply_text talk.first ++ (reply_text talk.reply ++ flat_map reply_text (replies_of dids)) =
    ap (flat_map reply_text) (append_assoc talk.first (talk.reply ∷ []) (replies_of dids)) ∙ flat_map-append reply_text talk.first (talk.reply ∷ replies_of dids) in
    let size = ap length split in
    let outer = length-append (flat_map reply_text talk.first) (reply_text talk.reply ++ flat_map reply_text (replies_of dids)) in
    let some = length-append (reply_text talk.reply) (flat_map reply_text (replies_of dids)) in
    let one = reply_long talk.reply in
    omega (arith, text, size, outer, some, one)

unspoken : (now : Now) (did : Did) (dids : List Did) → did ≡ answered now [] → text_of (did ∷ dids) ≡ text_of dids
unspoken now did dids is = ap (λ (d : Did). flat_map reply_text (d.replies ++ replies_of dids)) is

-- past the lines without a reply there is text
past_silent : (setting : Setting) (now last : Now) (asks : List Asked) (dids : List Did) (k : ℕ) → DoesAsks setting now asks dids last → silent asks < k → k ≤ length dids → 0 < length (text_of (take k dids))
past_silent setting now last [] [] k does past within = absurd (omega (arith, past, within))
past_silent setting now last [] (did ∷ dids) k does past within = absurd does
past_silent setting now last (ask ∷ asks) [] k does past within = absurd does
past_silent setting now last (ask ∷ asks) (did ∷ dids) zero does past within = absurd (omega (arith, past))
past_silent setting now last (ask ∷ asks) (did ∷ dids) (suc k) does past within =
    split (is_silent ask) refl (λ less. past_silent setting did.now last asks dids k does.1 less (omega (arith, within)))
  where
    split : (b : Bool) → is_silent ask ≡ b → (silent asks < k → 0 < length (text_of (take k dids))) → 0 < length (text_of (did ∷ take k dids))
    split false loud rest = spoken did (take k dids) (speaks setting now ask did loud does.0)
    split true none rest =
        let less : silent asks < k = let e = ap (λ (b : Bool). cond b (suc (silent asks)) 0) none in omega (arith, past, e) in
        subst (λ (l : List ℕ). 0 < length l) (sym (unspoken now did (take k dids) (quiet setting now ask did none does.0))) (rest less)

-- and so far all is as it was
still_there : (setting : Setting) (now last : Now) (asks : List Asked) (dids : List Did) → DoesAsks setting now asks dids last → after_some now (silent asks) dids ≡ now
still_there setting now last [] dids does = refl
still_there setting now last (ask ∷ asks) [] does = absurd does
still_there setting now last (ask ∷ asks) (did ∷ dids) does = split (is_silent ask) refl (still_there setting did.now last asks dids does.1)
  where
    split : (b : Bool) → is_silent ask ≡ b → after_some did.now (silent asks) dids ≡ did.now → after_some now (cond b (suc (silent asks)) 0) (did ∷ dids) ≡ now
    split false loud rest = refl
    split true none rest = rest ∙ ap (λ (d : Did). d.now) (quiet setting now ask did none does.0)

-- ---- what stands after a first part

pub after_front : (setting : Setting) (from middle : Now) (asks : List Asked) (front back : List Did) (n : ℕ) → DoesAsks setting from asks front middle → after_some from (length asks + n) (front ++ back) ≡ after_some middle n back
after_front setting from middle [] [] back n does = let e : zero + n ≡ n = omega arith in ap (λ (m : ℕ). after_some from m back) e ∙ ap (λ (now : Now). after_some now n back) (sym does)
after_front setting from middle [] (did ∷ front) back n does = absurd does
after_front setting from middle (ask ∷ asks) [] back n does = absurd does
after_front setting from middle (ask ∷ asks) (did ∷ front) back n does =
    let more : length (ask ∷ asks) + n ≡ suc (length asks + n) = omega arith in
    ap (λ (m : ℕ). after_some from m (did ∷ front ++ back)) more ∙ after_front setting did.now middle asks front back n does.1

begun_at : (lines : List (List ℕ)) (front back : List Asked) → map line_of lines ≡ front ++ back → next_begun lines (length front) ≡ first_begun back
begun_at [] [] [] is = refl
begun_at [] [] (ask ∷ back) is = absurd (no_more is)
  where
    no_more : {x : Asked} {xs : List Asked} → [] ≡ x ∷ xs → ⊥
    no_more e = false≢true (ap (λ (l : List Asked). some_of l) e)
      where
        some_of : List Asked → Bool
        some_of [] = false
        some_of (x ∷ xs) = true
begun_at [] (ask ∷ front) back is = absurd (omega (arith, ap length is))
begun_at (line ∷ lines) [] [] is = absurd (omega (arith, ap length is))
begun_at (line ∷ lines) [] (ask ∷ back) is = ap file_begun (ap (λ (l : List Asked). unwrap_or (slice_get l 0) ask) is)
begun_at (line ∷ lines) (ask ∷ front) back is = begun_at lines front back (ap (drop 1) is)

-- ---- files after a run that stopped

-- the files as they are after the lines of a first part, and maybe after further ones that are empty
same_after : (setting : Setting) (taken : List ℕ) (from middle last : Now) (front back : List Asked) (dids more : List Did) (after : Files) → map line_of (lines_in taken) ≡ front ++ back
    → DoesAsks setting from front dids middle → DoesAsks setting middle back more last
    → SameBut (first_begun back) middle.files after
    → SameBut (next_begun (lines_in taken) (length front + silent back)) (after_some from (length front + silent back) (dids ++ more)).files after
same_after setting taken from middle last front back dids more after split does rest same =
    subst (λ (files : Files). SameBut (next_begun (lines_in taken) (length front + silent back)) files after) (sym stands) (begun back same split)
  where
    stands : (after_some from (length front + silent back) (dids ++ more)).files ≡ middle.files
    stands = ap (λ (now : Now). now.files) (after_front setting from middle front dids more (silent back) does ∙ still_there setting middle last back more rest)

    begun : (back : List Asked) → SameBut (first_begun back) middle.files after → map line_of (lines_in taken) ≡ front ++ back → SameBut (next_begun (lines_in taken) (length front + silent back)) middle.files after
    begun [] same is = same_but (next_begun (lines_in taken) (length front + silent [])) middle.files after same
    begun (ask ∷ back) same is = choose (is_silent ask) refl
      where
        loud_case : is_silent ask ≡ false → silent (ask ∷ back) ≡ 0
        loud_case loud = ap (λ (b : Bool). cond b (suc (silent back)) 0) loud

        silent_begun : (one : Asked) → is_silent one ≡ true → first_begun (one ∷ back) ≡ None
        silent_begun (Err why) still = absurd (false≢true still)
        silent_begun (Ok line.Empty) still = refl
        silent_begun (Ok (line.Fold file)) still = absurd (false≢true still)
        silent_begun (Ok (line.Generate number count file)) still = absurd (false≢true still)
        silent_begun (Ok (line.Headers file key)) still = absurd (false≢true still)
        silent_begun (Ok (line.Import file key)) still = absurd (false≢true still)
        silent_begun (Ok line.Flush) still = absurd (false≢true still)
        silent_begun (Ok (line.GetTxOut key)) still = absurd (false≢true still)
        silent_begun (Ok line.Info) still = absurd (false≢true still)

        choose : (b : Bool) → is_silent ask ≡ b → SameBut (next_begun (lines_in taken) (length front + silent (ask ∷ back))) middle.files after
        choose false loud =
            let none : length front ≡ length front + silent (ask ∷ back) = let z = loud_case loud in omega (arith, z) in
            subst (λ (n : ℕ). SameBut (next_begun (lines_in taken) n) middle.files after) none
            (subst (λ (o : Option (List ℕ)). SameBut o middle.files after) (sym (begun_at (lines_in taken) front (ask ∷ back) is)) same)
        choose true still = same_but (next_begun (lines_in taken) (length front + silent (ask ∷ back))) middle.files after (subst (λ (o : Option (List ℕ)). SameBut o middle.files after) (silent_begun ask still) same)

-- each line of which the last reply was written is in that part
all_answered : (setting : Setting) (middle last : Now) (back : List Asked) (front : List Asked) (dids more : List Did) (wrote : List ℕ) → length dids ≡ length front → DoesAsks setting middle back more last → IsPrefix wrote (text_of dids)
    → (n : ℕ) → n ≤ length (dids ++ more) → length (text_of (take n (dids ++ more))) ≤ length wrote → n ≤ length front + silent back
all_answered setting middle last back front dids more wrote same rest part n within written = split (cases_lt (length front + silent back) n)
  where
    split : (length front + silent back < n) ⊎ (n ≤ length front + silent back) → n ≤ length front + silent back
    split (inr less) = less
    split (inl past) =
        let k = n - length dids in
        let sum : length dids + k ≡ n = omega (arith, past, same) in
        let text : text_of (take n (dids ++ more)) ≡ text_of dids ++ text_of (take k more) = ap (λ (m : ℕ). text_of (take m (dids ++ more))) (sym sum) ∙ ap text_of (take-append-add dids more k) ∙ text_of-append dids (take k more) in
        let all = length-append dids more in
        let some : 0 < length (text_of (take k more)) = past_silent setting middle last back more k rest (omega (arith, past, sum, same)) (omega (arith, within, all, sum)) in
        let size = ap length text ∙ length-append (text_of dids) (text_of (take k more)) in
        let whole = ap length part.1 ∙ length-append wrote part.0 in
        absurd (omega (arith, some, size, whole, written))

pub files_after : (setting : Setting) (taken wrote : List ℕ) (from middle last : Now) (front back : List Asked) (dids more : List Did) (after : Files) → map line_of (lines_in taken) ≡ front ++ back
    → DoesAsks setting from front dids middle → DoesAsks setting middle back more last → IsPrefix wrote (text_of dids)
    → SameBut (first_begun back) middle.files after → FilesAfter taken wrote from (dids ++ more) after
files_after setting taken wrote from middle last front back dids more after split does rest part same = record {
  lines = length front + silent back;
  same = same_after setting taken from middle last front back dids more after split does rest same;
  answered = all_answered setting middle last back front dids more wrote (count_of setting from middle front dids does) rest part;
}
