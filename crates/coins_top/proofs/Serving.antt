-- An opened session as a server, and why its work may end.
use Rattle.std.proofs.Common.{◌≡◌, ℕ, List, [], refl, sym, ap, subst, ◌∙◌, inl, inr}
use Rattle.std.specs.Prelude.{Option, Some, None, Result, Ok, Err, IfErr, OnOk, OnErr}
use Rattle.std.specs.Option.{option_map}
use Rattle.disk_model.specs.Disk.{Image}
use Rattle.base_types.specs.declared.fault.StoreFault.{StoreFault}
use Rattle.base_types.specs.declared.fault.StoreFault.TheVariants.{NoMemory, DiskFailed, Damaged, Full, CacheFull}
use Rattle.base_types.specs.declared.flushes.Flushed.{Flushed}
use Rattle.base_types.specs.declared.program.Rules.{Rules}
use Rattle.chainstates.specs.Standing.{HasStoreFiles, OpensSession, found_in}
use Rattle.chainstates.specs.declared.session.Session.{Session}
use Rattle.command_loop.specs.Points.{IsOpenAt}
use Rattle.command_loop.specs.ServerCalls.{Asked, EndDoes, IsCaused, LineDoes, OpensStore, WorkServed, WorkStopped, setting_of, status_of_fault}
use Rattle.command_loop.specs.declared.settings.RunSettings.{RunSettings}
use Rattle.io_traits.specs.Host.{Held}
use Rattle.machine.specs.Answers.{file_begun, found_of}
use Rattle.machine.specs.Calls.{IsOpen, IsOpening}
use Rattle.machine.specs.State.{Setting, State}
use Rattle.machine.specs.Steps.{Did}
use Rattle.machine.specs.Work.{IsMoment, Moment}
use Rattle.machine.specs.declared.report.Found.{Found}
use Rattle.store_lines.specs.Serving.{IsFileOf, LineFails, standing_of}
use Rattle.store_state.specs.Roles.{Alone, Role, full_of, snapshot_of}
use Rattle.store_state.specs.State.{Chainstate, StoreState, first_rules}
use Rattle.coins_top.specs.ServerState.{IsStoreFile, ServerFails, ServerState, store_causes}

-- ---- opening

full_is : (active : Chainstate) (role : Role Chainstate) → full_of active role ≡ Some active
full_is active Alone = refl

snapshot_is : (active : Chainstate) (role : Role Chainstate) → snapshot_of active role ≡ None
snapshot_is active Alone = refl

pub opens_store : (settings : RunSettings) (rules : settings.rules ≡ first_rules) (past left : ℕ → Image → Type 0) (entered ended : ℕ) (contents : Image) (now : Option Image) (session : Session) (found : Found)
    → OpensSession settings.limits.headers past left entered ended contents now session → found ≡ found_in session
    → OpensStore (setting_of settings) past left entered ended contents now (standing_of settings.limits.headers session) (record { full = Some found; snapshot = None })
opens_store settings rules past left entered ended contents now session found opens is = record {
  after = opens.after;
  told = opens.told;
  from = opens.store;
  on = opens.store;
  opening =
      subst (λ (given : Rules). IsOpening settings.limits.headers given past left (record { entered = entered; ended = ended; contents = contents; after = opens.after; flushes = []; events = [] }) opens.store opens.store) (sym rules) opens.opening;
  full = ap (λ (f : Found). Some f) (is ∙ opens.found) ∙ sym (ap (option_map found_of) (full_is opens.store.active opens.store.role));
  snapshot = sym (ap (option_map found_of) (snapshot_is opens.store.active opens.store.role));
  is_open = subst (λ (given : Rules). IsOpen settings.limits.headers given (left ended) opens.after opens.store) (sym rules) opens.is_open;
  stood = opens.stands;
}

-- ---- causes

a_store_file : (session : Session) (file : ℕ) → HasStoreFiles session → IsFileOf session file → IsStoreFile file
a_store_file session file has (inl is) = inl (is ∙ has.headers)
a_store_file session file has (inr (inl is)) = inr (inl (is ∙ has.bodies))
a_store_file session file has (inr (inr is)) = inr (inr (is ∙ has.coins))

line_fault : (session : Session) (before now : ℕ) (fault : StoreFault) → HasStoreFiles session → LineFails session before now fault → ServerFails before now fault
line_fault session before now NoMemory has fails = tt
line_fault session before now DiskFailed has fails = fails
line_fault session before now (Damaged file at) has fails = inr fails
line_fault session before now (Full file) has fails = a_store_file session file has fails
line_fault session before now CacheFull has fails = absurd fails

pub line_fails : {A : Type 0} (session : Session) (before now : ℕ) (result : Result A StoreFault) → HasStoreFiles session → IfErr result (LineFails session before now) → IfErr result (ServerFails before now)
line_fails session before now (Ok done) has fails = tt
line_fails session before now (Err fault) has fails = line_fault session before now fault has fails

pub memory_fails : {A : Type 0} (before now : ℕ) (result : Result A StoreFault) → IfErr result (λ fault. fault ≡ NoMemory) → IfErr result (ServerFails before now)
memory_fails before now (Ok done) is = tt
memory_fails before now (Err fault) is = subst (ServerFails before now) (sym is) tt

a_cause : (settings : RunSettings) (before now : ℕ) (fault : StoreFault) (contents : Image) → ServerFails before now fault → IsCaused (store_causes settings) (status_of_fault fault) contents
a_cause settings before now NoMemory contents fails = tt
a_cause settings before now DiskFailed contents fails = tt
a_cause settings before now (Damaged file at) contents fails = fails
a_cause settings before now (Full file) contents fails = fails
a_cause settings before now CacheFull contents fails = absurd fails

pub ends_caused : {A : Type 0} (settings : RunSettings) (before now : ℕ) (result : Result A StoreFault) (contents : Image) → IfErr result (ServerFails before now)
    → IfErr result (λ fault. IsCaused (store_causes settings) (status_of_fault fault) contents)
ends_caused settings before now (Ok done) contents fails = tt
ends_caused settings before now (Err fault) contents fails = a_cause settings before now fault contents fails

-- ---- work, seen on the value of a server

abbrev pub line_does : Asked → Setting → Moment → State → Did → Type 0
line_does ask setting before state did = LineDoes setting before state ask did

abbrev pub end_does : Setting → Moment → State → Did → Type 0
end_does setting before state did = EndDoes before state did

module _ (past left : ℕ → Image → Type 0) (entered ended : ℕ) (was now : Option Image) (held held_after : Option Held) (faults faults_after : ℕ) {A : Type 0} (result : Result A StoreFault) (had has : List Flushed) where
  abbrev pub Serves : (Setting → Moment → State → Did → Type 0) → ServerState → List ℕ → List ℕ → ServerState → Type 0
  Serves Does after tb ta server = (before : Moment) (state : State) (from : StoreState)
      → IsOpenAt (setting_of server.settings) (standing_of server.settings.limits.headers server.session) entered was past held faults before state from
      → OnOk result (WorkServed (setting_of server.settings) past left before from (Does (setting_of server.settings) before state)
      (IsOpenAt (setting_of server.settings) (standing_of after.settings.limits.headers after.session) ended now left held_after faults_after) had has tb ta)

  abbrev pub Stops : (Setting → Moment → State → Did → Type 0) → Option (List ℕ) → ServerState → Type 0
  Stops Does begun server = (before : Moment) (state : State) (from : StoreState)
      → IsOpenAt (setting_of server.settings) (standing_of server.settings.limits.headers server.session) entered was past held faults before state from
      → OnErr result (WorkStopped (setting_of server.settings) past left before from (Does (setting_of server.settings) before state) (IsMoment ended now held_after faults_after) begun had has)

  pub serves_seen : (Does : Setting → Moment → State → Did → Type 0) (after : ServerState) (tb ta : List ℕ) (inside server : ServerState) → inside ≡ server
      → Serves Does after tb ta inside → Serves Does after tb ta server
  serves_seen Does after tb ta inside server view = subst (Serves Does after tb ta) view

  pub stops_seen : (Does : Setting → Moment → State → Did → Type 0) (begun : Option (List ℕ)) (inside server : ServerState) → inside ≡ server → Stops Does begun inside → Stops Does begun server
  stops_seen Does begun inside server view = subst (Stops Does begun) view

  -- what a line says is what it was parsed as
  pub serves_line : (ask meant : Asked) (after : ServerState) (tb ta : List ℕ) (inside server : ServerState) → ask ≡ meant → inside ≡ server
      → Serves (line_does meant) after tb ta inside → Serves (line_does ask) after tb ta server
  serves_line ask meant after tb ta inside server is view served =
      serves_seen (line_does ask) after tb ta inside server view (subst (λ (a : Asked). Serves (line_does a) after tb ta inside) (sym is) served)

  -- the session wasn't touched
  pub serves_still : (ask meant : Asked) (tb ta : List ℕ) (inside server : ServerState) → ask ≡ meant → inside ≡ server
      → Serves (line_does meant) inside tb ta inside → Serves (line_does ask) server tb ta server
  serves_still ask meant tb ta inside server is view served =
      subst (λ (s : ServerState). Serves (line_does ask) s tb ta s) view (subst (λ (a : Asked). Serves (line_does a) inside tb ta inside) (sym is) served)

  pub stops_line : (ask meant : Asked) (inside server : ServerState) → ask ≡ meant → inside ≡ server → Stops (line_does meant) (file_begun meant) inside → Stops (line_does ask) (file_begun ask) server
  stops_line ask meant inside server is view stopped =
      stops_seen (line_does ask) (file_begun ask) inside server view (subst (λ (a : Asked). Stops (line_does a) (file_begun a) inside) (sym is) stopped)
