-- Lines that fold a file of the host, or make one.
use Rattle.std.proofs.Common.{◌≡◌, ◌≤◌, ℕ, Bool, true, List, [], ◌∷◌, ◌++◌, append-nil, refl, sym, ap, subst, ◌∙◌, inl, inr, arith}
use Rattle.std.specs.Prelude.{length, Option, Some, None, Result, Ok, Err, IsOk, IsErr, OnOk}
use Rattle.std.specs.FinMap.{get, insert}
use Rattle.std.specs.List.{flat_map}
use Rattle.std.proofs.lemmas.Bool.{false≢true}
use Rattle.base_types.specs.declared.fault.StoreFault.{StoreFault}
use Rattle.base_types.specs.declared.hash.Hash32.{Hash32}
use Rattle.block_codec.specs.Frames.{frames}
use Rattle.chain_model.specs.Folding.{BreaksBody, BreaksCoins, BreaksHeader, FoldRefused, Folded, NotNext, fold_of}
use Rattle.chain_model.specs.Generated.{chain as generated_chain, blocks_of, file_text, tip_of}
use Rattle.command_loop.specs.ServerCalls.{Asked}
use Rattle.command_text.specs.Replies.{reply_text}
use Rattle.command_text.specs.declared.line.Line.TheVariants as line
use Rattle.command_text.specs.declared.reply.Reply.{Reply}
use Rattle.command_text.specs.declared.reply.Reply.TheVariants as says
use Rattle.io_traits.specs.Causes.{Rose, RoseBy}
use Rattle.io_traits.specs.Host.{ChangesOnly, Files, Held}
use Rattle.io_traits.specs.HostRuns.{IsDone}
use Rattle.io_traits.specs.Told.{OnTold}
use Rattle.io_traits.proofs.Causes.{RoseBy-none, RoseBy-once}
use Rattle.io_traits.proofs.Told.{OnTold-weaker}
use Rattle.machine.specs.Answers.{SameBut, file_begun, flushes_told_by}
use Rattle.machine.specs.State.{Setting, State, still}
use Rattle.machine.specs.Steps.{Did, Folds, Generation, IsFoldReply, Now, OthersStay, Step, WithBytes, answered, faulted, generated_bytes, generated_reply, refusal_of}
use Rattle.machine.proofs.LineFiles.{same_but, step_keeps}
use Rattle.machine.proofs.LineWays.{way}
use Rattle.coins_top.specs.FileFolds.{FileIs, FoldsFile}
use Rattle.coins_top.specs.HostLines.{HostCut, HostDone, HostLine, LineWritten, WritesIs}

abbrev now_in : State → Files → Now
now_in state files = record { state = state; files = files }

-- ---- a line with one reply

-- it was done so, with no fault or one
record Replies (setting : Setting) (ask : Asked) (before now : ℕ) (reply : Reply) (s t : Files) (state : State) : Type 0 where
  did : Did
  step : Step setting (now_in state s) ask did
  stays : did.now ≡ now_in state t
  events : did.events ≡ []
  replies : did.replies ≡ reply ∷ []
  untold : flushes_told_by (reply ∷ []) ≡ []
  host : RoseBy did.faults before now

-- the reply is said, or no memory is left for it
said : {A E : Type 0} (setting : Setting) (ask : Asked) (before now : ℕ) (reply : Reply) (tb ta : List ℕ) (result : Result A E) (s t : Files)
    → ((state : State) → Replies setting ask before now reply s t state) → OnOk result (ta ≡ tb ++ reply_text reply) → HostLine setting ask before now tb ta result s t
said setting ask before now reply tb ta (Ok a) s t does text = λ state.
    let one = does state in
    record {
      did = one.did;
      step = one.step;
      stays = one.stays;
      events = one.events;
      untold = ap flushes_told_by one.replies ∙ one.untold;
      text = text ∙ ap (λ (l : List ℕ). tb ++ l) (sym (append-nil (reply_text reply)) ∙ sym (ap (flat_map reply_text) one.replies));
      host = one.host;
    }
said setting ask before now reply tb ta (Err e) s t does text = λ state.
    let one = does state in
    record {
      did = one.did;
      step = one.step;
      files = subst (λ (files : Files). SameBut (file_begun ask) s files) (ap (λ (n : Now). n.files) one.stays) (step_keeps setting (now_in state s) ask one.did one.step);
      host = one.host;
    }

no_fault : (faults before now : ℕ) → faults ≡ 0 → now ≡ before → RoseBy faults before now
no_fault faults before now none same = subst (λ (n : ℕ). RoseBy n before now) (sym none) (RoseBy-none before now (omega (arith, same)))

-- ---- fold

does_fold : (setting : Setting) (name : List ℕ) (s : Files) (state : State) (found : Option (List ℕ)) → get s name ≡ found → (did : Did)
    → WithBytes found (now_in state s) (Folds setting (now_in state s)) did → Step setting (now_in state s) (Ok (line.Fold name)) did
does_fold setting name s state found is did does = subst (λ (f : Option (List ℕ)). WithBytes f (now_in state s) (Folds setting (now_in state s)) did) (sym is) does

refused_untold : (why : FoldRefused) → flushes_told_by (refusal_of why ∷ []) ≡ []
refused_untold (NotNext hash) = refl
refused_untold (BreaksHeader hash why) = refl
refused_untold (BreaksBody hash why) = refl
refused_untold (BreaksCoins hash why) = refl

fold_untold : (n : ℕ) (meant : Result Folded FoldRefused) (reply : Reply) → IsFoldReply n meant reply → flushes_told_by (reply ∷ []) ≡ []
fold_untold n (Ok folded) reply (inl is) = ap (λ (r : Reply). flushes_told_by (r ∷ [])) is.0
fold_untold n (Ok folded) reply (inr is) = ap (λ (r : Reply). flushes_told_by (r ∷ [])) is.0
fold_untold n (Err why) reply (inl is) = ap (λ (r : Reply). flushes_told_by (r ∷ [])) is ∙ refused_untold why
fold_untold n (Err why) reply (inr is) = ap (λ (r : Reply). flushes_told_by (r ∷ [])) is.0

made_untold : (count : ℕ) (made : Generation) → flushes_told_by (generated_reply count made ∷ []) ≡ []
made_untold count (Ok blocks) = refl
made_untold count (Err blocks) = refl

folds : (setting : Setting) (name : List ℕ) (before now : ℕ) (reply : Reply) (s : Files) (found : Option (List ℕ)) (state : State) → get s name ≡ found → before ≤ now
    → FileIs setting.limit setting.given found (Rose before now) reply → Replies setting (Ok (line.Fold name)) before now reply s s state
folds setting name before now reply s None state found later is = record {
  did = answered (now_in state s) (says.HostFault ∷ []);
  step = does_fold setting name s state None found (answered (now_in state s) (says.HostFault ∷ [])) refl;
  stays = refl;
  events = refl;
  replies = ap (λ (r : Reply). r ∷ []) (sym is);
  untold = ap (λ (r : Reply). flushes_told_by (r ∷ [])) is;
  host = RoseBy-none before now later;
}
folds setting name before now reply s (Some bytes) state found later (inl is) = record {
  did = answered (now_in state s) (reply ∷ []);
  step = does_fold setting name s state (Some bytes) found (answered (now_in state s) (reply ∷ [])) (inl (reply, is, refl));
  stays = refl;
  events = refl;
  replies = refl;
  untold = fold_untold (length bytes) (fold_of setting.limit setting.given (frames bytes None)) reply is;
  host = RoseBy-none before now later;
}
folds setting name before now reply s (Some bytes) state found later (inr failed) = record {
  did = faulted (now_in state s) (still state);
  step = does_fold setting name s state (Some bytes) found (faulted (now_in state s) (still state)) (inr refl);
  stays = refl;
  events = refl;
  replies = ap (λ (r : Reply). r ∷ []) (sym failed.0);
  untold = ap (λ (r : Reply). flushes_told_by (r ∷ [])) failed.0;
  host = RoseBy-once before now failed.1;
}

-- the reply of a fold is said, or no memory was left
pub fold_said : {A E : Type 0} (F : Type 0) (setting : Setting) (name : List ℕ) (before now : ℕ) (reply : Reply) (tb ta : List ℕ) (result : Result A E) (a b : Option Held) → before ≤ now
    → OnTold a b (FoldsFile {E = F} setting.limit setting.given name before now (Ok reply)) → OnOk result (ta ≡ tb ++ reply_text reply)
    → OnTold a b (λ s t. HostLine setting (Ok (line.Fold name)) before now tb ta result s.files t.files)
fold_said F setting name before now reply tb ta result a b later told text =
    OnTold-weaker (FoldsFile {E = F} setting.limit setting.given name before now (Ok reply)) (λ s t. HostLine setting (Ok (line.Fold name)) before now tb ta result s.files t.files) a b
    (λ s t folded.
    subst (λ (files : Files). HostLine setting (Ok (line.Fold name)) before now tb ta result s.files files) (sym folded.files)
    (said setting (Ok (line.Fold name)) before now reply tb ta result s.files s.files (λ state. folds setting name before now reply s.files (get s.files name) state refl later folded.reply) text)) told

pub fold_failed : {F : Type 0} (setting : Setting) (name : List ℕ) (before now : ℕ) (error : F) (tb ta : List ℕ) (fault : StoreFault) (a b : Option Held) → now ≡ before
    → OnTold a b (FoldsFile setting.limit setting.given name before now (Err error)) → OnTold a b (λ s t. HostLine {A = Unit {0}} setting (Ok (line.Fold name)) before now tb ta (Err fault) s.files t.files)
fold_failed setting name before now error tb ta fault a b same told =
    OnTold-weaker (FoldsFile setting.limit setting.given name before now (Err error)) (λ s t. HostLine {A = Unit {0}} setting (Ok (line.Fold name)) before now tb ta (Err fault) s.files t.files) a b
    (λ s t folded state.
    let one = way setting (now_in state s.files) (Ok (line.Fold name)) in
    record { did = one.did; step = one.step; files = folded.files; host = no_fault one.did.faults before now one.faults same }) told

-- ---- generate

generates : (setting : Setting) (number count : ℕ) (name : List ℕ) (before now : ℕ) (reply : Reply) (s t : Files) (state : State) → before ≤ now
    → WritesIs count (generated_chain number count) (Rose before now) reply name s t → Replies setting (Ok (line.Generate number count name)) before now reply s t state
generates setting number count name before now reply s t state later (inl is) =
    let made = generated_chain number count in
    record {
      did = record (answered (now_in state s) (generated_reply count made ∷ [])) { now = now_in state (insert s name (generated_bytes made)) };
      step = inl refl;
      stays = ap (now_in state) (sym is.1);
      events = refl;
      replies = ap (λ (r : Reply). r ∷ []) (sym is.0);
      untold = ap (λ (r : Reply). flushes_told_by (r ∷ [])) is.0 ∙ made_untold count made;
      host = RoseBy-none before now later;
    }
generates setting number count name before now reply s t state later (inr failed) = record {
  did = record (faulted (now_in state s) (still state)) { now = now_in state t };
  step = inr (t, failed.2, refl);
  stays = refl;
  events = refl;
  replies = ap (λ (r : Reply). r ∷ []) (sym failed.0);
  untold = ap (λ (r : Reply). flushes_told_by (r ∷ [])) failed.0;
  host = RoseBy-once before now failed.1;
}

pub generate_said : {A E : Type 0} (F : Type 0) (number count : ℕ) (name : List ℕ) (before now : ℕ) (reply : Reply) (tb ta : List ℕ) (result : Result A E) (a b : Option Held) → before ≤ now
    → OnTold a b (λ s t. LineWritten {E = F} number count name before now (Ok reply) s.files t.files) → OnOk result (ta ≡ tb ++ reply_text reply)
    → OnTold a b (λ s t. (setting : Setting) → HostLine setting (Ok (line.Generate number count name)) before now tb ta result s.files t.files)
generate_said F number count name before now reply tb ta result a b later told text =
    OnTold-weaker (λ s t. LineWritten {E = F} number count name before now (Ok reply) s.files t.files) (λ s t. (setting : Setting) → HostLine setting (Ok (line.Generate number count name)) before now tb ta result s.files t.files) a b
    (λ s t written setting.
    said setting (Ok (line.Generate number count name)) before now reply tb ta result s.files t.files (λ state. generates setting number count name before now reply s.files t.files state later written) text) told

pub generate_failed : {F : Type 0} (number count : ℕ) (name : List ℕ) (before now : ℕ) (error : F) (tb ta : List ℕ) (fault : StoreFault) (a b : Option Held) → now ≡ before
    → OnTold a b (λ s t. LineWritten number count name before now (Err error) s.files t.files)
    → OnTold a b (λ s t. (setting : Setting) → HostLine {A = Unit {0}} setting (Ok (line.Generate number count name)) before now tb ta (Err fault) s.files t.files)
generate_failed number count name before now error tb ta fault a b same told =
    OnTold-weaker (λ s t. LineWritten number count name before now (Err error) s.files t.files)
    (λ s t. (setting : Setting) → HostLine {A = Unit {0}} setting (Ok (line.Generate number count name)) before now tb ta (Err fault) s.files t.files) a b
    (λ s t written setting state.
    let one = way setting (now_in state s.files) (Ok (line.Generate number count name)) in
    record { did = one.did; step = one.step; files = written; host = no_fault one.did.faults before now one.faults same }) told

-- the file of all blocks
pub written_all : (made : Generation) (count : ℕ) (tip : Hash32) (name : List ℕ) (rose : Type 0) (a b : Option Held) → IsOk made → tip ≡ tip_of (blocks_of made) → OnTold a b (IsDone name (file_text (blocks_of made)))
    → OnTold a b (λ s t. WritesIs count made rose (says.Generated count tip) name s.files t.files)
written_all (Ok blocks) count tip name rose a b ok is = OnTold-weaker (IsDone name (file_text blocks)) (λ s t. WritesIs count (Ok blocks) rose (says.Generated count tip) name s.files t.files) a b
    (λ s t done. inl (ap (says.Generated count) is, ap (λ (h : Held). h.files) done))
written_all (Err blocks) count tip name rose a b ok is = absurd (false≢true ok)

-- of those before the first without a nonce
pub written_some : (made : Generation) (count : ℕ) (name : List ℕ) (rose : Type 0) (a b : Option Held) → IsErr made → OnTold a b (IsDone name (file_text (blocks_of made))) → OnTold a b (λ s t. WritesIs count made rose says.NoNonce name s.files t.files)
written_some (Ok blocks) count name rose a b err = absurd (false≢true err)
written_some (Err blocks) count name rose a b err = OnTold-weaker (IsDone name (file_text blocks)) (λ s t. WritesIs count (Err blocks) rose says.NoNonce name s.files t.files) a b (λ s t done. inl (refl, ap (λ (h : Held). h.files) done))

-- the host failed
pub written_not : (made : Generation) (count : ℕ) (name : List ℕ) (rose : Type 0) (a b : Option Held) → rose → OnTold a b (ChangesOnly name) → OnTold a b (λ s t. WritesIs count made rose says.HostFault name s.files t.files)
written_not made count name rose a b rose_now = OnTold-weaker (ChangesOnly name) (λ s t. WritesIs count made rose says.HostFault name s.files t.files) a b (λ s t changes. inr (refl, rose_now, changes.others))

pub others_stay : (name : List ℕ) (a b : Option Held) → OnTold a b (ChangesOnly name) → OnTold a b (λ s t. OthersStay name s.files t.files)
others_stay name a b = OnTold-weaker (ChangesOnly name) (λ s t. OthersStay name s.files t.files) a b (λ s t changes. changes.others)
