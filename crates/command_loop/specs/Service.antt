-- Lines that are answered one after another over an open store.
use Rattle.std.specs.Prelude.{◌≡◌, ◌⊎◌, ℕ, List, [], ◌∷◌, ◌++◌, length, map, Result, Ok, Err}
use Rattle.disk_model.specs.Disk.{Image}
use Rattle.base_types.specs.declared.flushes.Flushed.{Flushed}
use Rattle.io_traits.specs.Causes.{RoseBy}
use Rattle.machine.specs.State.{Setting}
use Rattle.machine.specs.Steps.{Now, Did, Step, at_end}
use Rattle.machine.specs.Courses.{text_of, replies_of, events_of, host_faults}
use Rattle.machine.specs.Calls.{IsCall, IsWhole}
use Rattle.machine.specs.Answers.{IsPrefix, SameBut, name_of, flushes_of, AllDone, AllDoneButLast, told_flushes, flushes_told_by, flushes_with_lines, whole_replies}
use Rattle.machine.specs.Work.{call_between}
use Rattle.command_loop.specs.Points.{Outer, Point, now_of}
use Rattle.command_loop.specs.ServerCalls.{Asked}
use Rattle.command_loop.specs.Asks.{first_begun}
use Rattle.command_loop.specs.declared.stop.Stop.{Stop}
use Rattle.command_loop.specs.declared.stop.Stop.TheVariants.{OutFault}

-- these lines may be done so, one after the other
abbrev pub DoesAsks : Setting → Now → List Asked → List Did → Now → Type 0
DoesAsks setting now [] [] last = last ≡ now
DoesAsks setting now [] (did ∷ dids) last = ⊥
DoesAsks setting now (ask ∷ asks) [] last = ⊥
DoesAsks setting now (ask ∷ asks) (did ∷ dids) last = Step setting now ask did × DoesAsks setting did.now asks dids last

-- all of this was done, and all its replies were written
pub record DoneAll (setting : Setting) (past left : ℕ → Image → Type 0) (p q : Point) (dids : List Did) : Type 0 where
  pub flushes : List Flushed
  pub added : q.outer.flushes ≡ p.outer.flushes ++ flushes
  pub is_whole : IsWhole setting.limit setting.given past left (call_between p.outer.moment q.outer.moment flushes (events_of dids)) p.store q.store
  pub text : q.outer.written ≡ p.outer.written ++ text_of dids
  pub names : map name_of flushes ≡ flushes_of (events_of dids)
  pub done : AllDone flushes
  pub told : told_flushes flushes ≡ flushes_told_by (replies_of dids)
  pub lines : flushes_with_lines flushes ≡ flushes_told_by (replies_of dids)
  pub host : RoseBy (host_faults dids) p.outer.moment.faults q.outer.moment.faults

-- A first part of this was done, and of what `said` answers a first part was written. If no write failed, the lines of flushes
-- that stand there whole are those of the told ones.
pub record CutShort (setting : Setting) (past left : ℕ → Image → Type 0) (p : Point) (o : Outer) (IsOut : Type 0) (said others : List Did) : Type 0 where
  pub flushes : List Flushed
  pub added : o.flushes ≡ p.outer.flushes ++ flushes
  pub is_call : IsCall setting.limit setting.given past left (call_between p.outer.moment o.moment flushes (events_of (said ++ others))) p.store
  pub wrote : List ℕ
  pub text : o.written ≡ p.outer.written ++ wrote
  pub part : IsPrefix wrote (text_of said)
  pub names : IsPrefix (map name_of flushes) (flushes_of (events_of (said ++ others)))
  pub unfinished : AllDoneButLast flushes
  pub told : IsPrefix (told_flushes flushes) (flushes_told_by (whole_replies (length wrote) (replies_of said)))
  pub told_only : (IsOut → ⊥) → flushes_told_by (whole_replies (length wrote) (replies_of said)) ≡ told_flushes flushes
  pub told_done : IsPrefix (flushes_told_by (whole_replies (length wrote) (replies_of said))) (flushes_with_lines flushes)
  pub host : RoseBy (host_faults (said ++ others)) p.outer.moment.faults o.moment.faults

-- lines were served
pub record Serves (setting : Setting) (past left : ℕ → Image → Type 0) (asks : List Asked) (p q : Point) : Type 0 where
  pub dids : List Did
  pub does : DoesAsks setting (now_of p) asks dids (now_of q)
  pub all : DoneAll setting past left p q dids

-- a first part of them was served; of the next one a part was done, and it may have begun a file
pub record Stopped (setting : Setting) (past left : ℕ → Image → Type 0) (IsOut : Type 0) (asks : List Asked) (p : Point) (o : Outer) : Type 0 where
  pub front : List Asked
  pub back : List Asked
  pub split : asks ≡ front ++ back
  pub dids : List Did
  pub middle : Now
  pub does : DoesAsks setting (now_of p) front dids middle
  pub more : List Did
  pub last : Now
  pub rest : DoesAsks setting middle back more last
  pub short : CutShort setting past left p o IsOut dids more
  pub same : SameBut (first_begun back) middle.files o.moment.files

abbrev pub Answers : {A : Type 0} → Setting → (ℕ → Image → Type 0) → (ℕ → Image → Type 0) → List Asked → Point → (Point → Type 0) → (Outer → Type 0) → Result A Stop → Type 0
Answers setting past left asks p IsNow IsThere (Ok done) = (q : Point) × IsNow q × Serves setting past left asks p q
Answers setting past left asks p IsNow IsThere (Err stop) = (o : Outer) × IsThere o × Stopped setting past left (stop ≡ OutFault) asks p o

-- ---- the end of the input

pub record EndServed (setting : Setting) (past left : ℕ → Image → Type 0) (p q : Point) : Type 0 where
  pub all : DoneAll setting past left p q (at_end (now_of p) ∷ [])
  pub files : q.outer.moment.files ≡ p.outer.moment.files

pub record EndStopped (setting : Setting) (past left : ℕ → Image → Type 0) (IsOut : Type 0) (p : Point) (o : Outer) : Type 0 where
  pub said : List Did
  pub others : List Did
  pub is : said ++ others ≡ at_end (now_of p) ∷ []
  pub short : CutShort setting past left p o IsOut said others
  pub files : o.moment.files ≡ p.outer.moment.files

abbrev pub AnswersEnd : {A : Type 0} → Setting → (ℕ → Image → Type 0) → (ℕ → Image → Type 0) → Point → (Outer → Type 0) → Result A Stop → Type 0
AnswersEnd setting past left p IsThere (Ok done) = (q : Point) × IsThere q.outer × EndServed setting past left p q
AnswersEnd setting past left p IsThere (Err stop) = (o : Outer) × IsThere o × EndStopped setting past left (stop ≡ OutFault) p o

-- the last line, and then the end
pub record LastServed (setting : Setting) (past left : ℕ → Image → Type 0) (ask : Asked) (p q : Point) : Type 0 where
  pub did : Did
  pub step : Step setting (now_of p) ask did
  pub all : DoneAll setting past left p q (did ∷ at_end did.now ∷ [])
  pub files : q.outer.moment.files ≡ did.now.files

-- the run stopped in the end
pub record LastCut (setting : Setting) (past left : ℕ → Image → Type 0) (IsOut : Type 0) (ask : Asked) (p : Point) (o : Outer) : Type 0 where
  pub did : Did
  pub step : Step setting (now_of p) ask did
  pub said : List Did
  pub others : List Did
  pub is : said ++ others ≡ at_end did.now ∷ []
  pub short : CutShort setting past left p o IsOut (did ∷ said) others
  pub files : o.moment.files ≡ did.now.files

abbrev pub AnswersLast : {A : Type 0} → Setting → (ℕ → Image → Type 0) → (ℕ → Image → Type 0) → Asked → Point → (Outer → Type 0) → Result A Stop → Type 0
AnswersLast setting past left ask p IsThere (Ok done) = (q : Point) × IsThere q.outer × LastServed setting past left ask p q
AnswersLast setting past left ask p IsThere (Err stop) = (o : Outer) × IsThere o × (Stopped setting past left (stop ≡ OutFault) (ask ∷ []) p o ⊎ LastCut setting past left (stop ≡ OutFault) ask p o)
