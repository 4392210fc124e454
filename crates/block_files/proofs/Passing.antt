-- Passing over the blocks of a file.
use Rattle.std.proofs.Common.{◌≡◌, ◌<◌, ◌≤◌, ◌+◌, ◌-◌, ℕ, true, false, List, [], ◌∷◌, ◌++◌, length, refl, sym, ap, subst, ◌∙◌, inl, inr, arith, append_assoc, append-nil}
use Rattle.std.specs.Prelude.{◌⊎◌, Option, Some, None, Result, Ok, Err, IfSome, IfNone, is_some, unwrap_or, map}
use Rattle.std.specs.FinMap.{get, contains_key}
use Rattle.std.proofs.lemmas.Bool.{false≢true}
use Rattle.std.proofs.lemmas.List.{length-drop}
use Rattle.block_codec.specs.Frames.{frames}
use Rattle.block_codec.specs.declared.block.Block.{Block}
use Rattle.block_codec.specs.declared.block.Header.{Header}
use Rattle.frame_scan.specs.Scan.{Scan, bytes_taken, frames_left, max_file_bytes, Moves}
use Rattle.frame_scan.specs.declared.fault.FrameFault.{FrameFault}
use Rattle.frame_scan.specs.declared.fault.FrameFault.TheVariants.{NoMemory, HostFailed, FileTooLong}
use Rattle.io_traits.specs.Causes.{Rose}
use Rattle.io_traits.proofs.Causes.{Rose-earlier}
use Rattle.io_traits.specs.Host.{Held, unread_bytes, Opens, IsMissing}
use Rattle.io_traits.proofs.HostRuns.{unread_bytes-after}
use Rattle.io_traits.specs.Told.{OnTold}
use Rattle.io_traits.proofs.Told.{OnTold-same, OnTold-then, OnTold-weaker}
use Rattle.block_files.specs.Passes.{header_of, size, Goes, StopsPass, NextBlock, StandsBefore, OpenedIs, OpensFile, ReadsRest, RestIs, HeadersAre, ReadsHeaders}

both : {S : Type 0} (P Q : S → S → Type 0) (a b : Option S) → OnTold a b P → OnTold a b Q → OnTold a b (λ s t. P s t × Q s t)
both P Q None None first second = tt
both P Q None (Some t) first second = absurd first
both P Q (Some s) None first second = absurd first
both P Q (Some s) (Some t) first second = (first, second)

-- ---- one call of the scan

goes : (old new : Scan) (s t : Held) → bytes_taken old ≤ bytes_taken new → Moves old new s t → bytes_taken new ≤ bytes_taken old + length (unread_bytes s) → Goes old new s t
goes old new s t forward moves read =
    let len : length (unread_bytes t) ≡ length (unread_bytes s) - (bytes_taken new - bytes_taken old) = ap (λ (h : Held). length (unread_bytes h)) moves ∙ ap length (unread_bytes-after (bytes_taken new - bytes_taken old) s) ∙ length-drop (bytes_taken new - bytes_taken old) (unread_bytes s) in
    record { files = ap (λ (h : Held). h.files) moves; size = omega (arith, len, forward, read) }

pub told_goes : (a b : Option Held) (old new : Scan) → bytes_taken old ≤ bytes_taken new → OnTold a b (Moves old new) → OnTold a b (λ s t. bytes_taken new ≤ bytes_taken old + length (unread_bytes s)) → OnTold a b (Goes old new)
told_goes a b old new forward moves read =
    OnTold-weaker (λ s t. Moves old new s t × (bytes_taken new ≤ bytes_taken old + length (unread_bytes s))) (Goes old new) a b (λ s t two. goes old new s t forward two.0 two.1)
    (both (Moves old new) (λ s t. bytes_taken new ≤ bytes_taken old + length (unread_bytes s)) a b moves read)

ended_size : (old new : Scan) (s t : Held) → Goes old new s t → unread_bytes t ≡ [] → bytes_taken new ≤ max_file_bytes → size old s ≤ max_file_bytes
ended_size old new s t goes ended within = let none : length (unread_bytes t) ≡ 0 = ap length ended in omega (arith, goes.size, none, within)

pub found_block : (a b : Option Held) (old new : Scan) (before now : ℕ) (found : Option Block) → OnTold a b (Goes old new) → bytes_taken new ≤ max_file_bytes
    → IfSome found (λ block. OnTold a b (λ s t. frames_left old s ≡ block ∷ frames_left new t))
    → IfNone found (OnTold a b (λ s t. (frames_left old s ≡ []) × (unread_bytes t ≡ [])))
    → OnTold a b (NextBlock old new before now (Ok found))
found_block a b old new before now (Some block) goes within some none =
    OnTold-weaker (λ s t. Goes old new s t × (frames_left old s ≡ block ∷ frames_left new t)) (NextBlock old new before now (Ok (Some block))) a b
    (λ s t two. record { goes = two.0; next = two.1 })
    (both (Goes old new) (λ s t. frames_left old s ≡ block ∷ frames_left new t) a b goes some)
found_block a b old new before now None goes within some none =
    OnTold-weaker (λ s t. Goes old new s t × ((frames_left old s ≡ []) × (unread_bytes t ≡ []))) (NextBlock old new before now (Ok None)) a b
    (λ s t two. record { goes = two.0; next = (two.1.0, ended_size old new s t two.0 two.1.1 within) })
    (both (Goes old new) (λ s t. (frames_left old s ≡ []) × (unread_bytes t ≡ [])) a b goes none)

-- what an error of the scan says
abbrev pub Stopped : Option Held → Option Held → Scan → ℕ → ℕ → FrameFault → Type 0
Stopped a b old before now NoMemory = Unit {0}
Stopped a b old before now HostFailed = Rose before now
Stopped a b old before now FileTooLong = OnTold a b (λ s t. max_file_bytes < bytes_taken old + length (unread_bytes s))

pub stops : (a b : Option Held) (old new : Scan) (before now : ℕ) (fault : FrameFault) → OnTold a b (Goes old new) → Stopped a b old before now fault
    → OnTold a b (λ s t. Goes old new s t × StopsPass (size old s) (Rose before now) fault)
stops a b old new before now NoMemory goes cause = OnTold-weaker (Goes old new) (λ s t. Goes old new s t × StopsPass (size old s) (Rose before now) NoMemory) a b (λ s t g. (g, tt)) goes
stops a b old new before now HostFailed goes cause = OnTold-weaker (Goes old new) (λ s t. Goes old new s t × StopsPass (size old s) (Rose before now) HostFailed) a b (λ s t g. (g, cause)) goes
stops a b old new before now FileTooLong goes cause = both (Goes old new) (λ s t. max_file_bytes < bytes_taken old + length (unread_bytes s)) a b goes cause

pub no_block : (a b : Option Held) (old new : Scan) (before now : ℕ) (fault : FrameFault) → OnTold a b (Goes old new) → Stopped a b old before now fault
    → OnTold a b (NextBlock old new before now (Err fault))
no_block a b old new before now fault goes cause =
    OnTold-weaker (λ s t. Goes old new s t × StopsPass (size old s) (Rose before now) fault) (NextBlock old new before now (Err fault)) a b
    (λ s t two. record { goes = two.0; next = two.1 }) (stops a b old new before now fault goes cause)

-- ---- a file by its name

held_bytes : (found : Option (List ℕ)) → is_some found ≡ true → found ≡ Some (unwrap_or found [])
held_bytes None is = absurd (false≢true is)
held_bytes (Some bytes) is = refl

opened_get : (name : List ℕ) (s t : Held) → Opens {E = Unit {0}} name (Ok tt) s t → get s.files name ≡ Some (unread_bytes t)
opened_get name s t opened = held_bytes (get s.files name) opened.0 ∙ ap (λ (h : Held). Some (unread_bytes h)) (sym opened.1)

-- a scan that stands before the first byte
pub record IsStart (key : Option (List ℕ)) (scan : Scan) : Type 0 where
  pub frames : (held : Held) → frames_left scan held ≡ frames (unread_bytes held) key
  pub bytes_taken : bytes_taken scan ≡ 0

pub opened : (a b : Option Held) (name : List ℕ) (key : Option (List ℕ)) (scan : Scan) (before now : ℕ) → IsStart key scan → OnTold a b (Opens {E = Unit {0}} name (Ok tt))
    → OnTold a b (OpensFile name key before now (Ok scan))
opened a b name key scan before now start =
    OnTold-weaker (Opens {E = Unit {0}} name (Ok tt)) (OpensFile name key before now (Ok scan)) a b (λ s t opens. record {
      files = ap (λ (h : Held). h.files) opens.1;
      opened = whole s t (get s.files name) (opened_get name s t opens);
    })
  where
    whole : (s t : Held) (file : Option (List ℕ)) → file ≡ Some (unread_bytes t) → OpenedIs key file (Rose before now) (Ok scan) t
    whole s t None is = absurd (false≢true (ap is_some is))
    whole s t (Some bytes) is = let same : bytes ≡ unread_bytes t = ap (λ (f : Option (List ℕ)). unwrap_or f []) is in record {
      blocks = start.frames t ∙ ap (λ (bs : List ℕ). frames bs key) (sym same);
      size = let none = start.bytes_taken in let len : length bytes ≡ length (unread_bytes t) = ap length same in omega (arith, none, len);
    }

pub not_opened : (a b : Option Held) (name : List ℕ) (key : Option (List ℕ)) (before now : ℕ) → IsMissing a name ⊎ Rose before now → OnTold a b (Opens {E = Unit {0}} name (Err tt))
    → OnTold a b (OpensFile name key before now (Err HostFailed))
not_opened None None name key before now cause opens = tt
not_opened None (Some t) name key before now cause opens = absurd opens
not_opened (Some s) None name key before now cause opens = absurd opens
not_opened (Some s) (Some t) name key before now cause opens = record {
  files = ap (λ (h : Held). h.files) opens;
  opened = failed (get s.files name) cause;
}
  where
    failed : (file : Option (List ℕ)) → (is_some file ≡ false) ⊎ Rose before now → OpenedIs key file (Rose before now) (Err HostFailed) t
    failed None cause = tt
    failed (Some bytes) (inl none) = absurd (false≢true (sym none))
    failed (Some bytes) (inr rose) = rose

-- ---- the headers that are left

-- so far: the files stay, and these headers stood before those that are left
pub record Going (old new : Scan) (so_far : List Header) (s t : Held) : Type 0 where
  pub goes : Goes old new s t
  pub headers : map header_of (frames_left old s) ≡ so_far ++ map header_of (frames_left new t)

pub going_first : (a : Option Held) (scan : Scan) → OnTold a a (Going scan scan [])
going_first a scan = OnTold-same (Going scan scan []) a (λ s. record { goes = record { files = refl; size = refl }; headers = refl })

goes_then : (old mid new : Scan) (s t u : Held) → Goes old mid s t → Goes mid new t u → Goes old new s u
goes_then old mid new s t u first second = record { files = second.files ∙ first.files; size = second.size ∙ first.size }

-- one header more
abbrev pub HasNext : Scan → Scan → Header → Held → Held → Type 0
HasNext old new header s t = (block : Block) × (header ≡ header_of block) × (frames_left old s ≡ block ∷ frames_left new t)

pub going_more : (a b c : Option Held) (old mid new : Scan) (headers : List Header) (header : Header) → OnTold a b (Going old mid headers) → OnTold b c (Goes mid new) → OnTold b c (HasNext mid new header)
    → OnTold a c (Going old new (headers ++ header ∷ []))
going_more a b c old mid new headers header going goes next =
    OnTold-then (Going old mid headers) (λ s t. Goes mid new s t × HasNext mid new header s t) (Going old new (headers ++ header ∷ [])) a b c (λ s t u going_on two. record {
      goes = goes_then old mid new s t u going_on.goes two.0;
      headers = going_on.headers ∙ ap (λ (blocks : List Block). headers ++ map header_of blocks) two.1.2
          ∙ ap (λ (h : Header). headers ++ h ∷ map header_of (frames_left new u)) (sym two.1.1)
          ∙ sym (append_assoc headers (header ∷ []) (map header_of (frames_left new u)));
    }) going (both (Goes mid new) (HasNext mid new header) b c goes next)

pub all_read : (a b c : Option Held) (old mid new : Scan) (headers : List Header) (from before now : ℕ) → bytes_taken new ≤ max_file_bytes → OnTold a b (Going old mid headers) → OnTold b c (Goes mid new)
    → OnTold b c (λ s t. (frames_left mid s ≡ []) × (unread_bytes t ≡ [])) → OnTold a c (ReadsRest old from now (Ok headers))
all_read a b c old mid new headers from before now within going goes ended =
    OnTold-then (Going old mid headers) (λ s t. Goes mid new s t × ((frames_left mid s ≡ []) × (unread_bytes t ≡ []))) (ReadsRest old from now (Ok headers)) a b c (λ s t u going_on two. record {
      files = two.0.files ∙ going_on.goes.files;
      rest = (
        sym (going_on.headers ∙ ap (λ (blocks : List Block). headers ++ map header_of blocks) two.1.0 ∙ append-nil headers),
        let small = ended_size mid new t u two.0 two.1.1 within in omega (arith, going_on.goes.size, small),
      );
    }) going (both (Goes mid new) (λ s t. (frames_left mid s ≡ []) × (unread_bytes t ≡ [])) b c goes ended)

earlier : (n from before now : ℕ) (fault : FrameFault) → from ≤ before → StopsPass n (Rose before now) fault → StopsPass n (Rose from now) fault
earlier n from before now NoMemory later stop = tt
earlier n from before now HostFailed later stop = Rose-earlier from before now later stop
earlier n from before now FileTooLong later stop = stop

pub rest_stopped : (a b c : Option Held) (old mid new : Scan) (headers : List Header) (from before now : ℕ) (fault : FrameFault) → from ≤ before → OnTold a b (Going old mid headers)
    → OnTold b c (λ s t. Goes mid new s t × StopsPass (size mid s) (Rose before now) fault) → OnTold a c (ReadsRest old from now (Err fault))
rest_stopped a b c old mid new headers from before now fault later =
    OnTold-then (Going old mid headers) (λ s t. Goes mid new s t × StopsPass (size mid s) (Rose before now) fault) (ReadsRest old from now (Err fault)) a b c (λ s t u going_on stop. record {
      files = stop.0.files ∙ going_on.goes.files;
      rest = subst (λ (n : ℕ). StopsPass n (Rose from now) fault) going_on.goes.size (earlier (size mid t) from before now fault later stop.1);
    })

-- where memory runs out as a header is kept
pub rest_unkept : (a b c : Option Held) (old mid new : Scan) (headers : List Header) (from now : ℕ) → OnTold a b (Going old mid headers) → OnTold b c (Goes mid new) → OnTold a c (ReadsRest old from now (Err NoMemory))
rest_unkept a b c old mid new headers from now =
    OnTold-then (Going old mid headers) (Goes mid new) (ReadsRest old from now (Err NoMemory)) a b c (λ s t u going_on goes. record { files = goes.files ∙ going_on.goes.files; rest = tt })

-- ---- the headers of a whole file

read_is : (key : Option (List ℕ)) (name : List ℕ) (scan : Scan) (t : Held) (from before now : ℕ) (file : Option (List ℕ)) (result : Result (List Header) FrameFault) → from ≤ before
    → OpenedIs key file (Rose from before) (Ok scan) t → RestIs (size scan t) (frames_left scan t) (Rose before now) result → HeadersAre key file (Rose from now) result
read_is key name scan t from before now None result later stands rest = absurd stands
read_is key name scan t from before now (Some bytes) (Ok headers) later stands rest =
    (rest.0 ∙ ap (map header_of) stands.blocks, let small = rest.1 in omega (arith, small, stands.size))
read_is key name scan t from before now (Some bytes) (Err NoMemory) later stands rest = tt
read_is key name scan t from before now (Some bytes) (Err HostFailed) later stands rest = Rose-earlier from before now later rest
read_is key name scan t from before now (Some bytes) (Err FileTooLong) later stands rest = omega (arith, rest, stands.size)

pub read_whole : (a b c : Option Held) (name : List ℕ) (key : Option (List ℕ)) (scan : Scan) (from before now : ℕ) (result : Result (List Header) FrameFault) → from ≤ before
    → OnTold a b (OpensFile name key from before (Ok scan)) → OnTold b c (ReadsRest scan before now result) → OnTold a c (ReadsHeaders name key from now result)
read_whole a b c name key scan from before now result later =
    OnTold-then (OpensFile name key from before (Ok scan)) (ReadsRest scan before now result) (ReadsHeaders name key from now result) a b c (λ s t u opens rest. record {
      files = rest.files ∙ opens.files;
      headers = read_is key name scan t from before now (get s.files name) result later opens.opened rest.rest;
    })

unopened_is : (key : Option (List ℕ)) (t : Held) (before now : ℕ) (file : Option (List ℕ)) (fault : FrameFault) → OpenedIs key file (Rose before now) (Err fault) t → HeadersAre key file (Rose before now) (Err fault)
unopened_is key t before now None NoMemory is = tt
unopened_is key t before now (Some bytes) NoMemory is = tt
unopened_is key t before now None HostFailed is = tt
unopened_is key t before now (Some bytes) HostFailed is = is
unopened_is key t before now None FileTooLong is = absurd is
unopened_is key t before now (Some bytes) FileTooLong is = absurd is

pub unopened : (a b : Option Held) (name : List ℕ) (key : Option (List ℕ)) (before now : ℕ) (fault : FrameFault) → OnTold a b (OpensFile name key before now (Err fault)) → OnTold a b (ReadsHeaders name key before now (Err fault))
unopened a b name key before now fault =
    OnTold-weaker (OpensFile name key before now (Err fault)) (ReadsHeaders name key before now (Err fault)) a b (λ s t stop. record { files = stop.files; headers = unopened_is key t before now (get s.files name) fault stop.opened })

-- an error of the scan has its cause
pub stopped : (a b : Option Held) (old : Scan) (before now : ℕ) (fault : FrameFault) → (fault ≡ HostFailed → Rose before now)
    → (fault ≡ FileTooLong → OnTold a b (λ s t. max_file_bytes < bytes_taken old + length (unread_bytes s))) → Stopped a b old before now fault
stopped a b old before now NoMemory host long = tt
stopped a b old before now HostFailed host long = host refl
stopped a b old before now FileTooLong host long = long refl
