-- What a line answers, and the end of the input.
use Rattle.std.proofs.Common.{◌≡◌, ◌≤◌, arith, ℕ, List, [], ◌∷◌, ◌++◌, length, map, take, drop, refl, sym, ap, subst, ◌∙◌, inr}
use Rattle.std.specs.Prelude.{⊤, Option, Some, None, Result, Ok, Err, OnOk, OnErr, IfErr}
use Rattle.std.specs.Io.KnownBytes.{Appends}
use Rattle.std.proofs.Math.Seq.{take-append_seam, drop-append_seam}
use Rattle.disk_model.specs.Disk.{Image}
use Rattle.base_types.specs.declared.flushes.Flushed.{Flushed}
use Rattle.io_traits.specs.Host.{Held}
use Rattle.io_traits.specs.Streams.{AppendsPart}
use Rattle.store_state.specs.State.{StoreState}
use Rattle.machine.specs.State.{Setting, State}
use Rattle.machine.specs.Steps.{Now, Did, Step, at_end}
use Rattle.machine.specs.Answers.{file_begun}
use Rattle.machine.specs.Calls.{IsOpen}
use Rattle.machine.specs.Work.{AddsFlushes, Moment, IsMoment}
use Rattle.command_loop.specs.Points.{Standing, Outer, Point, now_of, IsOuter, IsOpenAt, At}
use Rattle.command_loop.specs.ServerCalls.{Asked, WorkServed, WorkStopped, LineDoes, EndDoes}
use Rattle.command_loop.specs.Telling.{told_now}
use Rattle.command_loop.specs.Service.{DoesAsks, DoneAll, CutShort, Serves, Answers, AnswersEnd, AnswersLast}
use Rattle.command_loop.specs.declared.stop.Stop.{Stop}
use Rattle.command_loop.specs.declared.stop.Stop.TheVariants.{OutFault}
use Rattle.command_loop.proofs.Told.{order_told}
use Rattle.command_loop.proofs.Serving.{DoneAll-then, CutShort-then, work_done, served_output, served_members, served_point, work_unwritten, cut_output, cut_members, cut_outer, work_stopped, stopped_members, stopped_outer, line_cut, line_stopped, Serves-none}

-- what became of the writing of lines
abbrev pub WritesLines : Result ⊤ Stop → Option (List ℕ) → Option (List ℕ) → List ℕ → List Flushed → List Flushed → List Flushed → Type 0
WritesLines result before after lines fb fa fc =
    OnOk result ((fc ≡ take (length fb) fa ++ map told_now (drop (length fb) fa)) × Appends before after lines)
    × OnErr result ((fc ≡ fa) × AppendsPart before after lines)
    × IfErr result (λ stop. stop ≡ OutFault)

-- what was added stays added, whether the lines were written or not
pub adds_written : (result : Result ⊤ Stop) (before after : Option (List ℕ)) (lines : List ℕ) (a b : ℕ) (fb fa fc : List Flushed) → AddsFlushes a b fb fa → WritesLines result before after lines fb fa fc → AddsFlushes a b fb fc
adds_written (Ok done) before after lines a b fb fa fc adds writes = record {
  later = adds.later;
  flushes = map told_now adds.flushes;
  added =
      writes.0.0
      ∙ ap (λ (l : List Flushed). take (length fb) l ++ map told_now (drop (length fb) l)) adds.added
      ∙ ap (λ (l : List Flushed). l ++ map told_now (drop (length fb) (fb ++ adds.flushes))) (take-append_seam fb adds.flushes)
      ∙ ap (λ (l : List Flushed). fb ++ map told_now l) (drop-append_seam fb adds.flushes);
  in_order = order_told a b adds.flushes adds.in_order;
}
adds_written (Err stop) before after lines a b fb fa fc adds writes = record { later = adds.later; flushes = adds.flushes; added = writes.1.0 ∙ adds.added; in_order = adds.in_order }

module _ (setting : Setting) (past left : ℕ → Image → Type 0) (p : Point) (stands : Standing) (time : ℕ) (contents : Option Image) (held : Option Held) (faults : ℕ)
    (fb fa fc : List Flushed) (lines : List ℕ) (before after : Option (List ℕ)) (same : p.outer.flushes ≡ fb) (had : before ≡ Some p.outer.written) where
  abbrev IsNow : Moment → State → StoreState → Type 0
  IsNow moment state store = IsOpenAt setting stands time contents left held faults moment state store

  abbrev IsThere : Outer → Type 0
  IsThere o = IsOuter time contents held faults after fc o

  module _ (ask : Asked) (w : WorkServed setting past left p.outer.moment p.store (LineDoes setting p.outer.moment p.state ask) IsNow fb fa [] lines) where
    abbrev LineWork : Did → Type 0
    LineWork did = LineDoes setting p.outer.moment p.state ask did

    pub line_written : (result : Result ⊤ Stop) → WritesLines result before after lines fb fa fc
        → Answers setting past left (ask ∷ []) p (At setting stands time contents left held faults after fc) IsThere result
    line_written (Ok done) writes = (
      served_point setting past left p LineWork IsNow fb fa lines same w,
      record {
        outer = record {
          moment = w.now.told;
          output = served_output setting past left p LineWork IsNow fb fa lines same w after (subst (λ b. Appends b after lines) had writes.0.1);
          members = served_members setting past left p LineWork IsNow fb fa lines same w fc writes.0.0;
        };
        is_open = w.now.is_open;
        settled = w.now.settled;
        stood = w.now.stood;
      },
      record { dids = w.did ∷ []; does = (w.does, λ i. record { state = w.did.now.state; files = w.work.files i }); all = work_done setting past left p LineWork IsNow fb fa lines same w },
    )
    line_written (Err stop) writes =
        let part = subst (λ b. AppendsPart b after lines) had writes.1.1 in
        let o = cut_outer setting past left p LineWork IsNow fb fa lines same w part.0 in (
          o,
          record {
            moment = w.now.told;
            output = cut_output setting past left p LineWork IsNow fb fa lines same w after part;
            members = cut_members setting past left p LineWork IsNow fb fa lines same w fc writes.1.0;
          },
          line_cut setting past left p ask w.did w.does (stop ≡ OutFault) o w.work.files (work_unwritten setting past left p LineWork IsNow fb fa lines same w part.0 (stop ≡ OutFault) writes.2),
        )

  module _ (w : WorkServed setting past left p.outer.moment p.store (EndDoes p.outer.moment p.state) IsNow fb fa [] lines) where
    abbrev EndWork : Did → Type 0
    EndWork did = EndDoes p.outer.moment p.state did

    pub end_written : (result : Result ⊤ Stop) → WritesLines result before after lines fb fa fc → AnswersEnd setting past left p IsThere result
    end_written (Ok done) writes =
        let q = served_point setting past left p EndWork IsNow fb fa lines same w in (
          q,
          record {
            moment = w.now.told;
            output = served_output setting past left p EndWork IsNow fb fa lines same w after (subst (λ b. Appends b after lines) had writes.0.1);
            members = served_members setting past left p EndWork IsNow fb fa lines same w fc writes.0.0;
          },
          record {
            all = subst (λ (did : Did). DoneAll setting past left p q (did ∷ [])) w.does (work_done setting past left p EndWork IsNow fb fa lines same w);
            files = w.work.files ∙ ap (λ (did : Did). did.now.files) w.does;
          },
        )
    end_written (Err stop) writes =
        let part = subst (λ b. AppendsPart b after lines) had writes.1.1 in
        let o = cut_outer setting past left p EndWork IsNow fb fa lines same w part.0 in (
          o,
          record {
            moment = w.now.told;
            output = cut_output setting past left p EndWork IsNow fb fa lines same w after part;
            members = cut_members setting past left p EndWork IsNow fb fa lines same w fc writes.1.0;
          },
          record {
            said = w.did ∷ [];
            others = [];
            is = ap (λ (did : Did). did ∷ []) w.does;
            short = work_unwritten setting past left p EndWork IsNow fb fa lines same w part.0 (stop ≡ OutFault) writes.2;
            files = w.work.files ∙ ap (λ (did : Did). did.now.files) w.does;
          },
        )

module _ (setting : Setting) (past left : ℕ → Image → Type 0) (p : Point) (time : ℕ) (contents : Option Image) (held : Option Held) (faults : ℕ)
    (fb fa : List Flushed) (before : Option (List ℕ)) (same : p.outer.flushes ≡ fb) (had : before ≡ Some p.outer.written) where
  abbrev IsMomentThere : Moment → Type 0
  IsMomentThere moment = IsMoment time contents held faults moment

  pub line_failed : (ask : Asked) (IsNow : Point → Type 0) (stop : Stop)
      → WorkStopped setting past left p.outer.moment p.store (LineDoes setting p.outer.moment p.state ask) IsMomentThere (file_begun ask) fb fa
      → Answers {A = ⊤} setting past left (ask ∷ []) p IsNow (IsOuter time contents held faults before fa) (Err stop)
  line_failed ask IsNow stop w =
      let Work : Did → Type 0 = λ did. LineDoes setting p.outer.moment p.state ask did in
      let o = stopped_outer setting past left p Work IsMomentThere (file_begun ask) fb fa same w in (
        o,
        record { moment = w.there; output = had; members = stopped_members setting past left p Work IsMomentThere (file_begun ask) fb fa same w },
        line_stopped setting past left p ask w.did w.does (stop ≡ OutFault) o w.work.files (work_stopped setting past left p Work IsMomentThere (file_begun ask) fb fa same w (stop ≡ OutFault)),
      )

  pub end_failed : (stop : Stop) → WorkStopped setting past left p.outer.moment p.store (EndDoes p.outer.moment p.state) IsMomentThere None fb fa
      → AnswersEnd {A = ⊤} setting past left p (IsOuter time contents held faults before fa) (Err stop)
  end_failed stop w =
      let Work : Did → Type 0 = λ did. EndDoes p.outer.moment p.state did in
      let o = stopped_outer setting past left p Work IsMomentThere None fb fa same w in (
        o,
        record { moment = w.there; output = had; members = stopped_members setting past left p Work IsMomentThere None fb fa same w },
        record {
          said = [];
          others = w.did ∷ [];
          is = ap (λ (did : Did). did ∷ []) w.does;
          short = work_stopped setting past left p Work IsMomentThere None fb fa same w (stop ≡ OutFault);
          files = w.work.files;
        },
      )

-- ---- the last line, and the end

-- the one line that was served
record IsOne (setting : Setting) (p q : Point) (ask : Asked) (dids : List Did) : Type 0 where
  did : Did
  is : dids ≡ did ∷ []
  step : Step setting (now_of p) ask did
  now : did.now ≡ now_of q

one_did : (setting : Setting) (p q : Point) (ask : Asked) (dids : List Did) → DoesAsks setting (now_of p) (ask ∷ []) dids (now_of q) → IsOne setting p q ask dids
one_did setting p q ask [] does = absurd does
one_did setting p q ask (did ∷ []) does = record { did = did; is = refl; step = does.0; now = sym does.1 }
one_did setting p q ask (did ∷ more ∷ dids) does = absurd does.1

module _ (setting : Setting) (past mid left : ℕ → Image → Type 0) (ask : Asked) (p q : Point) (served : Serves setting past mid (ask ∷ []) p q) (IsThere : Outer → Type 0) where
  pub last_answered : {A : Type 0} (result : Result A Stop) → AnswersEnd setting mid left q IsThere result → AnswersLast setting past left ask p IsThere result
  last_answered (Ok done) ends =
      let one = one_did setting p q ask served.dids served.does in
      let end : at_end (now_of q) ≡ at_end one.did.now = ap at_end (sym one.now) in (
        ends.0,
        ends.1,
        record {
          did = one.did;
          step = one.step;
          all = subst (λ (l : List Did). DoneAll setting past left p ends.0 l) (ap (λ (l : List Did). l ++ at_end (now_of q) ∷ []) one.is ∙ ap (λ (d : Did). one.did ∷ d ∷ []) end)
              (DoneAll-then setting past mid left p q ends.0 served.dids (at_end (now_of q) ∷ []) served.all ends.2.all);
          files = ends.2.files ∙ ap (λ (n : Now). n.files) (sym one.now);
        },
      )
  last_answered (Err stop) ends =
      let one = one_did setting p q ask served.dids served.does in
      let end : at_end (now_of q) ≡ at_end one.did.now = ap at_end (sym one.now) in (
        ends.0,
        ends.1,
        inr record {
          did = one.did;
          step = one.step;
          said = ends.2.said;
          others = ends.2.others;
          is = ends.2.is ∙ ap (λ (d : Did). d ∷ []) end;
          short = subst (λ (l : List Did). CutShort setting past left p ends.0 (stop ≡ OutFault) l ends.2.others) (ap (λ (l : List Did). l ++ ends.2.said) one.is)
              (CutShort-then setting past mid left p q ends.0 (stop ≡ OutFault) served.dids ends.2.said ends.2.others served.all ends.2.short);
          files = ends.2.files ∙ ap (λ (n : Now). n.files) (sym one.now);
        },
      )

-- ---- nothing is done

module _ {D : Type 0} (time : D → ℕ) (contents : D → Option Image) (left : D → ℕ → Image → Type 0)
    (since_earlier : (disk : D) (t u : ℕ) (c : Image) → t ≤ u → u ≤ time disk → left disk u c → left disk t c)
    (disk : D) (setting : Setting) (stands : Standing) (held : Option Held) (faults : ℕ) (written : Option (List ℕ)) (flushes : List Flushed) (p : Point)
    (at : At setting stands (time disk) (contents disk) (left disk) held faults written flushes p) where
  pub nothing_served : Serves setting (left disk) (left disk) [] p p
  nothing_served =
      let e = at.outer.moment.time in
      Serves-none setting (left disk) p
      (λ t u c h k l. since_earlier disk t u c h (let z : u ≤ time disk = omega (arith, k, e) in z) l)
      (subst (λ (t : ℕ). IsOpen setting.limit setting.given (left disk t) p.outer.moment.contents p.store) (sym e) at.is_open)

-- ---- what is told

-- what a call of a server is told
pub store_at : (setting : Setting) (stands : Standing) (time : ℕ) (contents : Option Image) (left : ℕ → Image → Type 0) (held : Option Held) (faults : ℕ) (written : Option (List ℕ)) (flushes : List Flushed) (p : Point)
    → At setting stands time contents left held faults written flushes p → IsOpenAt setting stands time contents left held faults p.outer.moment p.state p.store
store_at setting stands time contents left held faults written flushes p at = record { told = at.outer.moment; is_open = at.is_open; settled = at.settled; stood = at.stood }

-- a host that isn't called holds what it held
pub held_at : (setting : Setting) (stands : Standing) (time : ℕ) (contents : Option Image) (left : ℕ → Image → Type 0) (held : Option Held) (faults : ℕ) (written : Option (List ℕ)) (flushes : List Flushed) (p : Point)
    (at : At setting stands time contents left held faults written flushes p) → At setting stands time contents left (Some at.outer.moment.host) faults written flushes p
held_at setting stands time contents left held faults written flushes p at =
    subst (λ (h : Option Held). At setting stands time contents left h faults written flushes p) at.outer.moment.held at
