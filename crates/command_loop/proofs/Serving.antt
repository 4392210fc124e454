-- Lines that are served one after another.
use Rattle.std.proofs.Common.{◌≡◌, ℕ, ◌+◌, ◌≤◌, List, [], ◌∷◌, ◌++◌, length, map, take, drop, refl, sym, ap, subst, ◌∙◌, arith, le_refl, append_assoc, append-nil, length-append}
use Rattle.std.specs.Prelude.{Option, Some}
use Rattle.std.specs.List.{flat_map}
use Rattle.std.specs.Io.KnownBytes.{Appends}
use Rattle.std.proofs.lemmas.List.{map-append, take-append-drop}
use Rattle.std.proofs.lemmas.List.Sums.{sum_by-cons}
use Rattle.std.proofs.Math.Seq.{take-append_seam, drop-append_seam}
use Rattle.disk_model.specs.Disk.{Image}
use Rattle.base_types.specs.declared.flushes.Flushed.{Flushed}
use Rattle.io_traits.specs.Causes.{RoseBy}
use Rattle.io_traits.specs.Host.{Files}
use Rattle.io_traits.specs.Streams.{AppendsPart}
use Rattle.io_traits.proofs.Causes.{RoseBy-none, RoseBy-then}
use Rattle.io_traits.proofs.Streams.{Appends-told}
use Rattle.command_text.specs.Replies.{reply_text}
use Rattle.store_state.specs.State.{StoreState}
use Rattle.machine.specs.State.{Setting, State, Event}
use Rattle.machine.specs.Steps.{Did, Step}
use Rattle.machine.specs.Courses.{replies_of, text_of, events_of, host_faults}
use Rattle.machine.specs.Calls.{IsCall, IsWhole, IsOpen}
use Rattle.machine.specs.Answers.{IsPrefix, SameBut, file_begun, FlushName, name_of, flushes_of, told_flushes, flushes_with_lines, flushes_told_by, whole_replies}
use Rattle.machine.specs.Work.{Moment, call_between}
use Rattle.machine.proofs.FlushLists.{prefix_all, prefix_none, prefix_more, prefix_behind, told_flushes-append, with_lines-append, told_by-append, flushes_of-append, done-append, done_but_last, unfinished-append}
use Rattle.machine.proofs.Joining.{nothing_done, whole_then, whole_both}
use Rattle.machine.proofs.LineFiles.{same_but}
use Rattle.machine.proofs.Telling.{more_events}
use Rattle.command_loop.specs.Asks.{first_begun}
use Rattle.command_loop.specs.Points.{Outer, Point, now_of}
use Rattle.command_loop.specs.ServerCalls.{Asked, WorkServed, WorkStopped}
use Rattle.command_loop.specs.Service.{DoneAll, CutShort, Serves, Stopped}
use Rattle.command_loop.specs.Telling.{told_now}
use Rattle.command_loop.proofs.ReplyLists.{whole_behind, whole_all, whole_prefix, told_by_prefix, none_whole}
use Rattle.command_loop.proofs.Told.{whole_told, names_told, done_told, told_lines, lines_told, none_told}
use Rattle.command_loop.proofs.Ways.{ways, does_then, text_of-append, replies_of-append, events_of-append, host_faults-append}

-- ---- one piece of work after another

lists_then : {A : Type 0} (xs ys zs fs gs : List A) → ys ≡ xs ++ fs → zs ≡ ys ++ gs → zs ≡ xs ++ (fs ++ gs)
lists_then xs ys zs fs gs one two = two ∙ ap (λ l. l ++ gs) one ∙ append_assoc xs fs gs

module _ (setting : Setting) (past mid left : ℕ → Image → Type 0) (p q : Point) (o : Outer) where
  calls_then : (fs gs : List Flushed) (es hs all : List Event) → all ≡ es ++ hs → IsWhole setting.limit setting.given past mid (call_between p.outer.moment q.outer.moment fs es) p.store q.store
      → IsCall setting.limit setting.given mid left (call_between q.outer.moment o.moment gs hs) q.store → IsCall setting.limit setting.given past left (call_between p.outer.moment o.moment (fs ++ gs) all) p.store
  calls_then fs gs es hs all is one two =
      subst (λ (events : List Event). IsCall setting.limit setting.given past left (call_between p.outer.moment o.moment (fs ++ gs) events) p.store) (sym is)
      (whole_then setting.limit setting.given past mid left (call_between p.outer.moment q.outer.moment fs es) (call_between q.outer.moment o.moment gs hs) p.store q.store one two (record { time = refl; contents = refl }))

  wholes_then : (end : StoreState) (fs gs : List Flushed) (es hs all : List Event) → all ≡ es ++ hs → IsWhole setting.limit setting.given past mid (call_between p.outer.moment q.outer.moment fs es) p.store q.store
      → IsWhole setting.limit setting.given mid left (call_between q.outer.moment o.moment gs hs) q.store end → IsWhole setting.limit setting.given past left (call_between p.outer.moment o.moment (fs ++ gs) all) p.store end
  wholes_then end fs gs es hs all is one two =
      subst (λ (events : List Event). IsWhole setting.limit setting.given past left (call_between p.outer.moment o.moment (fs ++ gs) events) p.store end) (sym is)
      (whole_both setting.limit setting.given past mid left (call_between p.outer.moment q.outer.moment fs es) (call_between q.outer.moment o.moment gs hs) p.store q.store end one two (record { time = refl; contents = refl }))

  names_then : (fs gs : List Flushed) (es hs all : List Event) → all ≡ es ++ hs → map name_of fs ≡ flushes_of es → map name_of gs ≡ flushes_of hs → map name_of (fs ++ gs) ≡ flushes_of all
  names_then fs gs es hs all is one two =
      map-append name_of fs gs ∙ ap (λ (l : List FlushName). l ++ map name_of gs) one ∙ ap (λ (l : List FlushName). flushes_of es ++ l) two ∙ sym (ap flushes_of is ∙ flushes_of-append es hs)

  faults_then : (xs ys : List Did) → RoseBy (host_faults xs) p.outer.moment.faults q.outer.moment.faults → RoseBy (host_faults ys) q.outer.moment.faults o.moment.faults → RoseBy (host_faults (xs ++ ys)) p.outer.moment.faults o.moment.faults
  faults_then xs ys one two =
      subst (λ (n : ℕ). RoseBy n p.outer.moment.faults o.moment.faults) (sym (host_faults-append xs ys))
      (RoseBy-then (host_faults xs) (host_faults ys) p.outer.moment.faults q.outer.moment.faults o.moment.faults one two)

  pub CutShort-then : (IsOut : Type 0) (xs said others : List Did) → DoneAll setting past mid p q xs → CutShort setting mid left q o IsOut said others → CutShort setting past left p o IsOut (xs ++ said) others
  CutShort-then IsOut xs said others a b =
      let events : events_of ((xs ++ said) ++ others) ≡ events_of xs ++ events_of (said ++ others) = ap events_of (append_assoc xs said others) ∙ events_of-append xs (said ++ others) in
      let size : length (text_of xs ++ b.wrote) ≡ length (text_of xs) + length b.wrote = length-append (text_of xs) b.wrote in
      let whole : whole_replies (length (text_of xs ++ b.wrote)) (replies_of (xs ++ said)) ≡ replies_of xs ++ whole_replies (length b.wrote) (replies_of said) =
      ap (whole_replies (length (text_of xs ++ b.wrote))) (replies_of-append xs said) ∙ whole_behind (replies_of xs) (replies_of said) (length (text_of xs ++ b.wrote)) (length b.wrote) size in
      let told_by : flushes_told_by (whole_replies (length (text_of xs ++ b.wrote)) (replies_of (xs ++ said))) ≡ flushes_told_by (replies_of xs) ++ flushes_told_by (whole_replies (length b.wrote) (replies_of said)) =
      ap flushes_told_by whole ∙ told_by-append (replies_of xs) (whole_replies (length b.wrote) (replies_of said)) in
      let told : told_flushes (a.flushes ++ b.flushes) ≡ flushes_told_by (replies_of xs) ++ told_flushes b.flushes = told_flushes-append a.flushes b.flushes ∙ ap (λ l. l ++ told_flushes b.flushes) a.told in
      let lines : flushes_with_lines (a.flushes ++ b.flushes) ≡ flushes_told_by (replies_of xs) ++ flushes_with_lines b.flushes = with_lines-append a.flushes b.flushes ∙ ap (λ l. l ++ flushes_with_lines b.flushes) a.lines in
      record {
        flushes = a.flushes ++ b.flushes;
        added = lists_then p.outer.flushes q.outer.flushes o.flushes a.flushes b.flushes a.added b.added;
        is_call = calls_then a.flushes b.flushes (events_of xs) (events_of (said ++ others)) (events_of ((xs ++ said) ++ others)) events a.is_whole b.is_call;
        wrote = text_of xs ++ b.wrote;
        text = lists_then p.outer.written q.outer.written o.written (text_of xs) b.wrote a.text b.text;
        part = subst (λ (l : List ℕ). IsPrefix (text_of xs ++ b.wrote) l) (sym (text_of-append xs said)) (prefix_behind (text_of xs) b.wrote (text_of said) b.part);
        names =
            subst (λ l. IsPrefix l (flushes_of (events_of ((xs ++ said) ++ others)))) (sym (map-append name_of a.flushes b.flushes ∙ ap (λ l. l ++ map name_of b.flushes) a.names))
            (subst (λ l. IsPrefix (flushes_of (events_of xs) ++ map name_of b.flushes) l) (sym (ap flushes_of events ∙ flushes_of-append (events_of xs) (events_of (said ++ others))))
            (prefix_behind (flushes_of (events_of xs)) (map name_of b.flushes) (flushes_of (events_of (said ++ others))) b.names));
        unfinished = unfinished-append a.flushes b.flushes a.done b.unfinished;
        told =
            subst (λ l. IsPrefix l (flushes_told_by (whole_replies (length (text_of xs ++ b.wrote)) (replies_of (xs ++ said))))) (sym told)
            (subst (λ l. IsPrefix (flushes_told_by (replies_of xs) ++ told_flushes b.flushes) l) (sym told_by)
            (prefix_behind (flushes_told_by (replies_of xs)) (told_flushes b.flushes) (flushes_told_by (whole_replies (length b.wrote) (replies_of said))) b.told));
        told_only = λ other. told_by ∙ ap (λ l. flushes_told_by (replies_of xs) ++ l) (b.told_only other) ∙ sym told;
        told_done =
            subst (λ l. IsPrefix l (flushes_with_lines (a.flushes ++ b.flushes))) (sym told_by)
            (subst (λ l. IsPrefix (flushes_told_by (replies_of xs) ++ flushes_told_by (whole_replies (length b.wrote) (replies_of said))) l) (sym lines)
            (prefix_behind (flushes_told_by (replies_of xs)) (flushes_told_by (whole_replies (length b.wrote) (replies_of said))) (flushes_with_lines b.flushes) b.told_done));
        host = subst (λ (l : List Did). RoseBy (host_faults l) p.outer.moment.faults o.moment.faults) (sym (append_assoc xs said others)) (faults_then xs (said ++ others) a.host b.host);
      }

module _ (setting : Setting) (past mid left : ℕ → Image → Type 0) (p q r : Point) where
  pub DoneAll-then : (xs ys : List Did) → DoneAll setting past mid p q xs → DoneAll setting mid left q r ys → DoneAll setting past left p r (xs ++ ys)
  DoneAll-then xs ys a b = record {
    flushes = a.flushes ++ b.flushes;
    added = lists_then p.outer.flushes q.outer.flushes r.outer.flushes a.flushes b.flushes a.added b.added;
    is_whole = wholes_then setting past mid left p q r.outer r.store a.flushes b.flushes (events_of xs) (events_of ys) (events_of (xs ++ ys)) (events_of-append xs ys) a.is_whole b.is_whole;
    text = lists_then p.outer.written q.outer.written r.outer.written (text_of xs) (text_of ys) a.text b.text ∙ ap (λ (l : List ℕ). p.outer.written ++ l) (sym (text_of-append xs ys));
    names = names_then setting past mid left p q r.outer a.flushes b.flushes (events_of xs) (events_of ys) (events_of (xs ++ ys)) (events_of-append xs ys) a.names b.names;
    done = done-append a.flushes b.flushes a.done b.done;
    told =
        told_flushes-append a.flushes b.flushes ∙ ap (λ l. l ++ told_flushes b.flushes) a.told ∙ ap (λ l. flushes_told_by (replies_of xs) ++ l) b.told
        ∙ sym (ap flushes_told_by (replies_of-append xs ys) ∙ told_by-append (replies_of xs) (replies_of ys));
    lines =
        with_lines-append a.flushes b.flushes ∙ ap (λ l. l ++ flushes_with_lines b.flushes) a.lines ∙ ap (λ l. flushes_told_by (replies_of xs) ++ l) b.lines
        ∙ sym (ap flushes_told_by (replies_of-append xs ys) ∙ told_by-append (replies_of xs) (replies_of ys));
    host = faults_then setting past mid left p q r.outer xs ys a.host b.host;
  }

module _ (setting : Setting) (past left : ℕ → Image → Type 0) (p : Point) (o : Outer) (IsOut : Type 0) where
  -- further work that wasn't begun
  unfoldable pub CutShort-more : (said others more : List Did) → host_faults more ≡ 0 → CutShort setting past left p o IsOut said others → CutShort setting past left p o IsOut said (others ++ more)
  CutShort-more said others more none b =
      let all : said ++ (others ++ more) ≡ (said ++ others) ++ more = sym (append_assoc said others more) in
      let events : events_of (said ++ (others ++ more)) ≡ events_of (said ++ others) ++ events_of more = ap events_of all ∙ events_of-append (said ++ others) more in
      record {
        flushes = b.flushes;
        added = b.added;
        is_call = subst (λ (l : List Event). IsCall setting.limit setting.given past left (call_between p.outer.moment o.moment b.flushes l) p.store) (sym events)
            (more_events setting.limit setting.given past left (call_between p.outer.moment o.moment b.flushes (events_of (said ++ others))) (events_of more) p.store b.is_call);
        wrote = b.wrote;
        text = b.text;
        part = b.part;
        names = subst (λ l. IsPrefix (map name_of b.flushes) l) (sym (ap flushes_of events ∙ flushes_of-append (events_of (said ++ others)) (events_of more))) (prefix_more (map name_of b.flushes) (flushes_of (events_of (said ++ others))) (flushes_of (events_of more)) b.names);
        unfinished = b.unfinished;
        told = b.told;
        told_only = b.told_only;
        told_done = b.told_done;
        host =
            let sum = host_faults-append (said ++ others) more in
            let same : host_faults (said ++ others) ≡ host_faults (said ++ (others ++ more)) = (let e : host_faults (said ++ others) ≡ host_faults ((said ++ others) ++ more) = omega (arith, none, sum) in e ∙ ap host_faults (sym all)) in
            subst (λ (n : ℕ). RoseBy n p.outer.moment.faults o.moment.faults) same b.host;
      }

-- all was done, and no more
unfoldable pub DoneAll-cut : (setting : Setting) (past left : ℕ → Image → Type 0) (p q : Point) (IsOut : Type 0) (dids : List Did) → DoneAll setting past left p q dids → CutShort setting past left p q.outer IsOut dids []
DoneAll-cut setting past left p q IsOut dids a =
    let all : dids ++ [] ≡ dids = append-nil dids in
    let whole : whole_replies (length (text_of dids)) (replies_of dids) ≡ replies_of dids = whole_all (replies_of dids) (length (text_of dids)) refl in
    record {
      flushes = a.flushes;
      added = a.added;
      is_call = subst (λ (l : List Did). IsCall setting.limit setting.given past left (call_between p.outer.moment q.outer.moment a.flushes (events_of l)) p.store) (sym all) a.is_whole.meets;
      wrote = text_of dids;
      text = a.text;
      part = prefix_all (text_of dids);
      names = subst (λ l. IsPrefix (map name_of a.flushes) l) (a.names ∙ ap (λ (l : List Did). flushes_of (events_of l)) (sym all)) (prefix_all (map name_of a.flushes));
      unfinished = done_but_last a.flushes a.done;
      told = subst (λ l. IsPrefix (told_flushes a.flushes) l) (a.told ∙ sym (ap flushes_told_by whole)) (prefix_all (told_flushes a.flushes));
      told_only = λ other. ap flushes_told_by whole ∙ sym a.told;
      told_done = subst (λ l. IsPrefix (flushes_told_by (whole_replies (length (text_of dids)) (replies_of dids))) l) (ap flushes_told_by whole ∙ sym a.lines)
          (prefix_all (flushes_told_by (whole_replies (length (text_of dids)) (replies_of dids))));
      host = subst (λ (l : List Did). RoseBy (host_faults l) p.outer.moment.faults q.outer.moment.faults) (sym all) a.host;
    }

-- ---- no work

module _ (setting : Setting) (left : ℕ → Image → Type 0) (p : Point) (earlier : (t u : ℕ) (c : Image) → t ≤ u → u ≤ p.outer.moment.time → left u c → left t c)
    (is_open : IsOpen setting.limit setting.given (left p.outer.moment.time) p.outer.moment.contents p.store) where
  DoneAll-none : DoneAll setting left left p p []
  DoneAll-none = record {
    flushes = [];
    added = sym (append-nil p.outer.flushes);
    is_whole = nothing_done setting.limit setting.given left p.outer.moment.time p.outer.moment.contents p.store earlier is_open;
    text = sym (append-nil p.outer.written);
    names = refl;
    done = tt;
    told = refl;
    lines = refl;
    host = RoseBy-none p.outer.moment.faults p.outer.moment.faults (le_refl _);
  }

  pub Serves-none : Serves setting left left [] p p
  Serves-none = record { dids = []; does = refl; all = DoneAll-none }

-- ---- lists of lines

module _ (setting : Setting) (past mid left : ℕ → Image → Type 0) (xs ys : List Asked) (p q : Point) where
  pub Serves-then : (r : Point) → Serves setting past mid xs p q → Serves setting mid left ys q r → Serves setting past left (xs ++ ys) p r
  Serves-then r a b = record {
    dids = a.dids ++ b.dids;
    does = does_then setting (now_of p) (now_of q) (now_of r) xs ys a.dids b.dids a.does b.does;
    all = DoneAll-then setting past mid left p q r a.dids b.dids a.all b.all;
  }

  pub Stopped-then : (IsOut : Type 0) (o : Outer) → Serves setting past mid xs p q → Stopped setting mid left IsOut ys q o → Stopped setting past left IsOut (xs ++ ys) p o
  Stopped-then IsOut o a b = record {
    front = xs ++ b.front;
    back = b.back;
    split = ap (λ (l : List Asked). xs ++ l) b.split ∙ sym (append_assoc xs b.front b.back);
    dids = a.dids ++ b.dids;
    middle = b.middle;
    does = does_then setting (now_of p) (now_of q) b.middle xs b.front a.dids b.dids a.does b.does;
    more = b.more;
    last = b.last;
    rest = b.rest;
    short = CutShort-then setting past mid left p q o IsOut a.dids b.dids b.more a.all b.short;
    same = b.same;
  }

longer_back : (back more : List Asked) (s t : Files) → SameBut (first_begun back) s t → SameBut (first_begun (back ++ more)) s t
longer_back [] more s t same = same_but (first_begun more) s t same
longer_back (ask ∷ back) more s t same = same

module _ (setting : Setting) (past left : ℕ → Image → Type 0) (IsOut : Type 0) (xs ys : List Asked) (p : Point) (o : Outer) where
  -- the lines behind those that stopped
  pub Stopped-longer : Stopped setting past left IsOut xs p o → Stopped setting past left IsOut (xs ++ ys) p o
  Stopped-longer a =
      let w = ways setting a.last ys in
      record {
        front = a.front;
        back = a.back ++ ys;
        split = ap (λ (l : List Asked). l ++ ys) a.split ∙ append_assoc a.front a.back ys;
        dids = a.dids;
        middle = a.middle;
        does = a.does;
        more = a.more ++ w.dids;
        last = w.last;
        rest = does_then setting a.middle a.last w.last a.back ys a.more w.dids a.rest w.does;
        short = CutShort-more setting past left p o IsOut a.dids a.more w.dids w.faults a.short;
        same = longer_back a.back ys a.middle.files o.moment.files a.same;
      }

-- a stop before the next line is served
pub Stopped-halted : (setting : Setting) (past left : ℕ → Image → Type 0) (IsOut : Type 0) (xs ys : List Asked) (p q : Point) → Serves setting past left xs p q → Stopped setting past left IsOut (xs ++ ys) p q.outer
Stopped-halted setting past left IsOut xs ys p q a =
    Stopped-longer setting past left IsOut xs ys p q.outer record {
      front = xs;
      back = [];
      split = sym (append-nil xs);
      dids = a.dids;
      middle = now_of q;
      does = a.does;
      more = [];
      last = now_of q;
      rest = refl;
      short = DoneAll-cut setting past left p q IsOut a.dids a.all;
      same = refl;
    }

-- ---- one piece of work

take_front : (fb fa more : List Flushed) → fa ≡ fb ++ more → take (length fb) fa ++ map told_now (drop (length fb) fa) ≡ fb ++ map told_now more
take_front fb fa more is =
    ap (λ (l : List Flushed). take (length fb) l ++ map told_now (drop (length fb) l)) is
    ∙ ap (λ (l : List Flushed). l ++ map told_now (drop (length fb) (fb ++ more))) (take-append_seam fb more)
    ∙ ap (λ (l : List Flushed). fb ++ map told_now l) (drop-append_seam fb more)

one_did : (did : Did) → events_of (did ∷ []) ≡ did.events
one_did did = append-nil did.events

one_text : (did : Did) → flat_map reply_text did.replies ≡ text_of (did ∷ [])
one_text did = ap (flat_map reply_text) (sym (append-nil did.replies))

one_fault : (did : Did) (before now : ℕ) → RoseBy did.faults before now → RoseBy (host_faults (did ∷ [])) before now
one_fault did before now rose = let sum : host_faults (did ∷ []) ≡ did.faults + host_faults [] = sum_by-cons (λ (d : Did). d.faults) did [] in omega (arith, rose, sum)

module _ (setting : Setting) (past left : ℕ → Image → Type 0) (p : Point) (Does : Did → Type 0) (IsNow : Moment → State → StoreState → Type 0)
    (fb fa : List Flushed) (lines : List ℕ) (same : p.outer.flushes ≡ fb) (w : WorkServed setting past left p.outer.moment p.store Does IsNow fb fa [] lines) where
  -- where all is once its lines were written
  abbrev pub served_point : Point
  served_point = record {
    outer = record { moment = w.after; written = p.outer.written ++ text_of (w.did ∷ []); flushes = p.outer.flushes ++ map told_now w.flushes };
    state = w.did.now.state;
    store = w.on;
  }

  events_one : w.did.events ≡ events_of (w.did ∷ [])
  events_one = sym (one_did w.did)

  pub work_done : DoneAll setting past left p served_point (w.did ∷ [])
  work_done =
      let fs = map told_now w.flushes in
      record {
        flushes = fs;
        added = refl;
        is_whole = subst (λ (l : List Event). IsWhole setting.limit setting.given past left (call_between p.outer.moment w.after fs l) p.store w.on) events_one
            (whole_told setting.limit setting.given past left (call_between p.outer.moment w.after w.flushes w.did.events) p.store w.on w.work.whole);
        text = refl;
        names = names_told w.flushes ∙ w.work.names ∙ ap flushes_of events_one;
        done = done_told w.flushes w.work.done;
        told = told_lines w.flushes w.work.untold ∙ w.work.lines ∙ ap flushes_told_by (sym (append-nil w.did.replies));
        lines = lines_told w.flushes ∙ w.work.lines ∙ ap flushes_told_by (sym (append-nil w.did.replies));
        host = one_fault w.did p.outer.moment.faults w.after.faults w.work.host;
      }

  pub served_output : (written : Option (List ℕ)) → Appends (Some p.outer.written) written lines → written ≡ Some served_point.outer.written
  served_output written wrote = Appends-told p.outer.written written lines wrote ∙ ap (λ (l : List ℕ). Some (p.outer.written ++ l)) (w.text ∙ one_text w.did)

  pub served_members : (fc : List Flushed) → fc ≡ take (length fb) fa ++ map told_now (drop (length fb) fa) → served_point.outer.flushes ≡ fc
  served_members fc tell = ap (λ (l : List Flushed). l ++ map told_now w.flushes) same ∙ sym (tell ∙ take_front fb fa w.flushes w.added)

  -- a first part of its lines was written
  abbrev pub cut_outer : ℕ → Outer
  cut_outer n = record { moment = w.after; written = p.outer.written ++ take n (text_of (w.did ∷ [])); flushes = p.outer.flushes ++ w.flushes }

  pub work_unwritten : (n : ℕ) (IsOut : Type 0) → IsOut → CutShort setting past left p (cut_outer n) IsOut (w.did ∷ []) []
  work_unwritten n IsOut is_out =
      let text = text_of (w.did ∷ []) in
      record {
        flushes = w.flushes;
        added = refl;
        is_call = subst (λ (l : List Event). IsCall setting.limit setting.given past left (call_between p.outer.moment w.after w.flushes l) p.store) events_one w.work.whole.meets;
        wrote = take n text;
        text = refl;
        part = (drop n text, sym (take-append-drop n text));
        names = subst (λ l. IsPrefix (map name_of w.flushes) l) (w.work.names ∙ ap flushes_of events_one) (prefix_all (map name_of w.flushes));
        unfinished = done_but_last w.flushes w.work.done;
        told = subst (λ l. IsPrefix l (flushes_told_by (whole_replies (length (take n text)) (replies_of (w.did ∷ []))))) (sym (none_told w.flushes w.work.untold)) (prefix_none (flushes_told_by (whole_replies (length (take n text)) (replies_of (w.did ∷ [])))));
        told_only = λ other. absurd (other is_out);
        told_done = subst (λ l. IsPrefix (flushes_told_by (whole_replies (length (take n text)) (replies_of (w.did ∷ [])))) l) (ap flushes_told_by (append-nil w.did.replies) ∙ sym w.work.lines)
            (told_by_prefix (whole_replies (length (take n text)) (replies_of (w.did ∷ []))) (replies_of (w.did ∷ [])) (whole_prefix (replies_of (w.did ∷ [])) (length (take n text))));
        host = one_fault w.did p.outer.moment.faults w.after.faults w.work.host;
      }

  pub cut_output : (written : Option (List ℕ)) (part : AppendsPart (Some p.outer.written) written lines) → written ≡ Some (cut_outer part.0).written
  cut_output written part = Appends-told p.outer.written written (take part.0 lines) part.1 ∙ ap (λ (l : List ℕ). Some (p.outer.written ++ take part.0 l)) (w.text ∙ one_text w.did)

  pub cut_members : (fc : List Flushed) → fc ≡ fa → p.outer.flushes ++ w.flushes ≡ fc
  cut_members fc kept = ap (λ (l : List Flushed). l ++ w.flushes) same ∙ sym (kept ∙ w.added)

-- work that was stopped
module _ (setting : Setting) (past left : ℕ → Image → Type 0) (p : Point) (Does : Did → Type 0) (IsThere : Moment → Type 0) (begun : Option (List ℕ))
    (fb fa : List Flushed) (same : p.outer.flushes ≡ fb) (w : WorkStopped setting past left p.outer.moment p.store Does IsThere begun fb fa) where
  abbrev pub stopped_outer : Outer
  stopped_outer = record { moment = w.after; written = p.outer.written; flushes = p.outer.flushes ++ w.flushes }

  pub work_stopped : (IsOut : Type 0) → CutShort setting past left p stopped_outer IsOut [] (w.did ∷ [])
  work_stopped IsOut =
      let none = none_told w.flushes w.work.untold in
      record {
        flushes = w.flushes;
        added = refl;
        is_call = subst (λ (l : List Event). IsCall setting.limit setting.given past left (call_between p.outer.moment w.after w.flushes l) p.store) (sym (one_did w.did)) w.work.meets;
        wrote = [];
        text = sym (append-nil p.outer.written);
        part = ([], refl);
        names = subst (λ l. IsPrefix (map name_of w.flushes) l) (ap flushes_of (sym (one_did w.did))) w.work.names;
        unfinished = w.work.unfinished;
        told = subst (λ l. IsPrefix l (flushes_told_by (whole_replies 0 []))) (sym none) (prefix_none (flushes_told_by (whole_replies 0 [])));
        told_only = λ other. ap flushes_told_by (none_whole []) ∙ sym none;
        told_done = subst (λ l. IsPrefix l (flushes_with_lines w.flushes)) (sym (ap flushes_told_by (none_whole []))) (prefix_none (flushes_with_lines w.flushes));
        host = one_fault w.did p.outer.moment.faults w.after.faults w.work.host;
      }

  pub stopped_members : p.outer.flushes ++ w.flushes ≡ fa
  stopped_members = ap (λ (l : List Flushed). l ++ w.flushes) same ∙ sym w.added

-- ---- one line

module _ (setting : Setting) (past left : ℕ → Image → Type 0) (p : Point) (ask : Asked) (did : Did) (step : Step setting (now_of p) ask did) where
  pub line_cut : (IsOut : Type 0) (o : Outer) → o.moment.files ≡ did.now.files → CutShort setting past left p o IsOut (did ∷ []) [] → Stopped setting past left IsOut (ask ∷ []) p o
  line_cut IsOut o files short = record {
    front = ask ∷ [];
    back = [];
    split = refl;
    dids = did ∷ [];
    middle = did.now;
    does = (step, refl);
    more = [];
    last = did.now;
    rest = refl;
    short = short;
    same = files;
  }

  pub line_stopped : (IsOut : Type 0) (o : Outer) → SameBut (file_begun ask) p.outer.moment.files o.moment.files → CutShort setting past left p o IsOut [] (did ∷ []) → Stopped setting past left IsOut (ask ∷ []) p o
  line_stopped IsOut o files short = record {
    front = [];
    back = ask ∷ [];
    split = refl;
    dids = [];
    middle = now_of p;
    does = refl;
    more = did ∷ [];
    last = did.now;
    rest = (step, refl);
    short = short;
    same = files;
  }
