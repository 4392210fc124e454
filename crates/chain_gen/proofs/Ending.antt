-- Beginning and ending the created file.
use Rattle.std.proofs.Common.{◌≡◌, ℕ, List, [], ap, subst, ◌∙◌}
use Rattle.std.specs.Prelude.{Option, Some, None, Result, Ok, Err, is_err, ⊤, false}
use Rattle.std.specs.FinMap.{get}
use Rattle.base_types.specs.declared.hash.Hash32.{Hash32}
use Rattle.io_traits.specs.Host.{Held, Creates, Finishes, Spoils, ChangesOnly}
use Rattle.io_traits.specs.HostRuns.{IsMade}
use Rattle.io_traits.proofs.HostRuns.{IsMade-changes, IsMade-finished, ChangesOnly-then}
use Rattle.io_traits.specs.Told.{OnTold}
use Rattle.io_traits.proofs.Told.{OnTold-then, OnTold-weaker}
use Rattle.chain_gen.specs.declared.fault.GenFault.{GenFault}
use Rattle.chain_gen.specs.declared.fault.GenFault.TheVariants.{NoMemory, HostFailed, NoNonce}
use Rattle.chain_gen.specs.Made.{Leaves, Ends}

create_done : {E : Type 0} (a b : Option Held) (result : Result ⊤ E) (name : List ℕ) → is_err result ≡ false → OnTold a b (Creates name result) → OnTold a b (IsMade name [])
create_done a b (Ok _) name fine told = told
create_done a b (Err e) name fine told = cc

-- only the file has changed, and it is the created one
leaves_created : (made : Result Hash32 GenFault) (name bytes : List ℕ) (s t : Held) → Leaves made name bytes s t → ChangesOnly name s t × (t.created ≡ Some name)
leaves_created (Ok tip) name bytes s t is = (IsMade-changes name bytes s t is, ap (λ (h : Held). h.created) is)
leaves_created (Err NoNonce) name bytes s t is = (IsMade-changes name bytes s t is, ap (λ (h : Held). h.created) is)
leaves_created (Err NoMemory) name bytes s t is = is
leaves_created (Err HostFailed) name bytes s t is = is

-- it is ended, or that failed
finish_leaves : {E : Type 0} (result : Result ⊤ E) (name : List ℕ) (s t u : Held) → ChangesOnly name s t → t.created ≡ Some name → Finishes result t u → ChangesOnly name s u × (u.created ≡ None)
finish_leaves (Ok _) name s t u changes created ended = (
  record {
    others = λ other apart. ap (λ (h : Held). get h.files other) ended ∙ changes.others other apart;
    input = ap (λ (h : Held). h.input) ended ∙ changes.input;
  },
  ap (λ (h : Held). h.created) ended,
)
finish_leaves (Err e) name s t u changes created ended = (ChangesOnly-then name s t u changes (subst (λ (c : Option (List ℕ)). Spoils c t u) created ended.0), ended.1)

finished : (made : Result Hash32 GenFault) (name bytes : List ℕ) (s t u : Held) → Leaves made name bytes s t → u ≡ record t { created = None } → Ends made name bytes s u
finished (Ok tip) name bytes s t u is ended = IsMade-finished name bytes s t u is ended
finished (Err NoNonce) name bytes s t u is ended = IsMade-finished name bytes s t u is ended
finished (Err NoMemory) name bytes s t u is ended = tt
finished (Err HostFailed) name bytes s t u is ended = tt

-- ---- of a host, which may tell nothing

finish_others : {E : Type 0} (a b c : Option Held) (made : Result Hash32 GenFault) (result : Result ⊤ E) (name bytes : List ℕ) → OnTold a b (Leaves made name bytes) → OnTold b c (Finishes result) → OnTold a c (ChangesOnly name)
finish_others a b c made result name bytes = OnTold-then (Leaves made name bytes) (Finishes result) (ChangesOnly name) a b c (λ s t u is ended.
    let left = leaves_created made name bytes s t is in (finish_leaves result name s t u left.0 left.1 ended).0)

finish_idle : {E : Type 0} (a b c : Option Held) (made : Result Hash32 GenFault) (result : Result ⊤ E) (name bytes : List ℕ) → OnTold a b (Leaves made name bytes) → OnTold b c (Finishes result) → OnTold a c (λ s t. t.created ≡ None)
finish_idle a b c made result name bytes = OnTold-then (Leaves made name bytes) (Finishes result) (λ s t. t.created ≡ None) a b c (λ s t u is ended.
    let left = leaves_created made name bytes s t is in (finish_leaves result name s t u left.0 left.1 ended).1)

finish_file : {E : Type 0} (a b c : Option Held) (made : Result Hash32 GenFault) (result : Result ⊤ E) (name bytes : List ℕ) → is_err result ≡ false → OnTold a b (Leaves made name bytes) → OnTold b c (Finishes result) → OnTold a c (Ends made name bytes)
finish_file a b c made (Ok _) name bytes fine = OnTold-then (Leaves made name bytes) (λ t u. u ≡ record t { created = None }) (Ends made name bytes) a b c (λ s t u is ended. finished made name bytes s t u is ended)
finish_file a b c made (Err e) name bytes fine = cc

-- nothing is said of the file
finish_failed : (a c : Option Held) (name bytes : List ℕ) → OnTold a c (ChangesOnly name) → OnTold a c (Ends (Err HostFailed) name bytes)
finish_failed a c name bytes changes = OnTold-weaker (ChangesOnly name) (Ends (Err HostFailed) name bytes) a c (λ s t is. tt) changes

-- ---- from the creation to the end

module _ {E F : Type 0} (a m b d : Option Held) (created : Result ⊤ E) (made : Result Hash32 GenFault) (result : Result ⊤ F) (name bytes : List ℕ)
    (begins : is_err created ≡ false) (creates : OnTold a m (Creates name created)) (leaves : (first : Option Held) → OnTold first m (IsMade name []) → OnTold first b (Leaves made name bytes)) (finishes : OnTold b d (Finishes result)) where
  left : OnTold a b (Leaves made name bytes)
  left = leaves a (create_done a m created name begins creates)

  pub written_others : OnTold a d (ChangesOnly name)
  written_others = finish_others a b d made result name bytes left finishes

  pub written_idle : OnTold a d (λ s t. t.created ≡ None)
  written_idle = finish_idle a b d made result name bytes left finishes

  pub written_file : is_err result ≡ false → OnTold a d (Ends made name bytes)
  written_file fine = finish_file a b d made result name bytes fine left finishes

  pub written_in_part : OnTold a d (Ends (Err HostFailed) name bytes)
  written_in_part = finish_failed a d name bytes written_others
