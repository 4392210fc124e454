-- What a line does that takes the headers of a file.
use Rattle.std.proofs.Common.{◌≡◌, inl, inr, ℕ, ◌≤◌, Bool, true, false, List, [], ◌∷◌, ◌++◌, append-nil, length, refl, sym, ap, subst, ◌∙◌, arith}
use Rattle.std.specs.Prelude.{Option, Some, None, Ok, Err}
use Rattle.std.specs.FinMap.{get}
use Rattle.std.specs.List.{flat_map}
use Rattle.block_codec.specs.Frames.{frames}
use Rattle.block_codec.specs.declared.block.Block.{Block}
use Rattle.block_files.specs.Passes.{HeadersAre}
use Rattle.chain_model.specs.HeaderRules.{Closed}
use Rattle.command_text.specs.Replies.{reply_text}
use Rattle.command_text.specs.declared.line.Line.{Line}
use Rattle.command_text.specs.declared.line.Line.TheVariants as line
use Rattle.command_text.specs.declared.reply.Reply.{Reply}
use Rattle.command_text.specs.declared.reply.Reply.TheVariants as says
use Rattle.frame_scan.specs.declared.fault.FrameFault.{FrameFault}
use Rattle.frame_scan.specs.declared.fault.FrameFault.TheVariants.{NoMemory, HostFailed, FileTooLong}
use Rattle.io_traits.specs.Causes.{Rose, RoseBy}
use Rattle.io_traits.proofs.Causes.{RoseBy-none}
use Rattle.machine.specs.Answers.{flushes_told_by}
use Rattle.machine.specs.State.{Setting, Event, and_reply, header_events, still}
use Rattle.machine.specs.Steps.{Now, Did, Does, WithBytes, OrFault, UnlessTooLong, HeadersDo, ImportDoes, Imports, OffersUnless, TakesHeaders as Taking, answered, closure_of, faulted, longest_file, moved_on, tree_size, unless_full, with_headers}
use Rattle.machine.proofs.LineWays.{way}
use Rattle.store_lines.specs.Taking.{SaysFault, TakesFile}

-- ---- with a file's bytes

-- what is done with the bytes of a file of which there are not too many
pub with_bytes : (now : Now) (name bytes : List ℕ) (Does : List ℕ → Did → Type 0) (did : Did) → get now.files name ≡ Some bytes → length bytes ≤ longest_file → Does bytes did
    → WithBytes (get now.files name) now (λ all. OrFault now (UnlessTooLong now Does all)) did
with_bytes now name bytes Does did file fits does =
    subst (λ (o : Option (List ℕ)). WithBytes o now (λ all. OrFault now (UnlessTooLong now Does all)) did) (sym file) (inl (inl (fits, does)))

-- ---- with no file, or one that can't be read on

-- how a line ends then, whatever it does with a file's bytes
pub record EndsUnread (now : Now) (file : Option (List ℕ)) (before after : ℕ) (tb ta : List ℕ) : Type 1 where
  pub did : Did
  pub does : (Does : List ℕ → Did → Type 0) → WithBytes file now (λ all. OrFault now (UnlessTooLong now Does all)) did
  pub stays : did.now ≡ now
  pub events : did.events ≡ []
  pub silent : flushes_told_by did.replies ≡ []
  pub faults : RoseBy did.faults before after
  pub text : ta ≡ tb ++ flat_map reply_text did.replies

one_line : (tb ta : List ℕ) (reply : Reply) → ta ≡ tb ++ reply_text reply → ta ≡ tb ++ flat_map reply_text (reply ∷ [])
one_line tb ta reply said = said ∙ ap (λ (l : List ℕ). tb ++ l) (sym (append-nil (reply_text reply)))

pub unread : (now : Now) (key file : Option (List ℕ)) (before after : ℕ) (tb ta : List ℕ) (fault : FrameFault) → before ≤ after → HeadersAre key file (Rose before after) (Err fault) → SaysFault fault tb ta
    → EndsUnread now file before after tb ta
unread now key file before after tb ta NoMemory later read said = absurd said
unread now key None before after tb ta HostFailed later read said = record {
  did = answered now (says.HostFault ∷ []);
  does = λ Does. refl;
  stays = refl;
  events = refl;
  silent = refl;
  faults = RoseBy-none before after later;
  text = one_line tb ta says.HostFault said;
}
unread now key (Some bytes) before after tb ta HostFailed later read said = record {
  did = faulted now (still now.state);
  does = λ Does. inr refl;
  stays = refl;
  events = refl;
  silent = refl;
  faults = read;
  text = one_line tb ta says.HostFault said;
}
unread now key None before after tb ta FileTooLong later read said = absurd read
unread now key (Some bytes) before after tb ta FileTooLong later read said = record {
  did = answered now (says.FileTooLong ∷ []);
  does = λ Does. inl (inr (read, refl));
  stays = refl;
  events = refl;
  silent = refl;
  faults = RoseBy-none before after later;
  text = one_line tb ta says.FileTooLong said;
}

-- either line does so
pub either_unread : (setting : Setting) (now : Now) (name : List ℕ) (key : Option (List ℕ)) (asked : Line) (did : Did) → TakesFile name key asked
    → ((Does : List ℕ → Did → Type 0) → WithBytes (get now.files name) now (λ all. OrFault now (UnlessTooLong now Does all)) did) → Does setting now asked did
either_unread setting now name key asked did (inl is) does = subst (λ (l : Line). Does setting now l did) (sym is) (does (Taking setting now key))
either_unread setting now name key asked did (inr is) does = subst (λ (l : Line). Does setting now l did) (sym is) (does (Imports setting now key))

-- ---- with headers

module _ (setting : Setting) (now : Now) (name : List ℕ) (key : Option (List ℕ)) (bytes : List ℕ) (file : get now.files name ≡ Some bytes) (fits : length bytes ≤ longest_file) where
  abbrev blocks : List Block
  blocks = frames bytes key

  abbrev closed : Closed
  closed = closure_of setting now.state blocks

  abbrev did_full : Did
  did_full = moved_on now (and_reply says.TreeFull (with_headers now.state closed.added))

  abbrev other_reply : Reply
  other_reply = says.Headers (length blocks) (length closed.added) (tree_size (with_headers now.state closed.added).state)

  abbrev did_headers : Reply → Did
  did_headers reply = moved_on now (and_reply reply (with_headers now.state closed.added))

  takes : (did : Did) → HeadersDo setting now blocks closed did → Does setting now (line.Headers name key) did
  takes did does = with_bytes now name bytes (Taking setting now key) did file fits does

  imports : (did : Did) → ImportDoes setting now blocks closed did → Does setting now (line.Import name key) did
  imports did does = with_bytes now name bytes (Imports setting now key) did file fits does

  -- either line, where the tree is full
  pub either_full : (asked : Line) → TakesFile name key asked → closed.full ≡ true → Does setting now asked did_full
  either_full asked (inl is) full =
      subst (λ (l : Line). Does setting now l did_full) (sym is)
      (takes did_full (inl (ap (λ (b : Bool). did_headers (unless_full b other_reply)) (sym full))))
  either_full asked (inr is) full =
      subst (λ (l : Line). Does setting now l did_full) (sym is)
      (imports did_full (inl (subst (λ (b : Bool). OffersUnless b setting now blocks closed did_full) (sym full) refl)))

  -- the line `headers`, where it isn't
  pub headers_taken : closed.full ≡ false → Does setting now (line.Headers name key) (did_headers other_reply)
  headers_taken room = takes (did_headers other_reply) (inl (ap (λ (b : Bool). did_headers (unless_full b other_reply)) (sym room)))

  -- ---- some way to do a line, without a fault of the host: its events begin with the headers

  pub record HasLonger (asked : Line) : Type 0 where
    pub did : Did
    pub does : Does setting now asked did
    pub faults : did.faults ≡ 0
    pub more : List Event
    pub events : did.events ≡ header_events closed.added ++ more

  not_faulty : (did : Did) → did.faults ≡ 0 → did.faults ≡ 1 → ⊥
  not_faulty did none one = omega (arith, none, one)

  offers_longer : (full : Bool) (did : Did) → OffersUnless full setting now blocks closed did → (more : List Event) × (did.events ≡ header_events closed.added ++ more)
  offers_longer true did does = ([], ap (λ (d : Did). d.events) does ∙ sym (append-nil (header_events closed.added)))
  offers_longer false did does = (does.0.events, ap (λ (d : Did). d.events) does.2)

  import_longer : (did : Did) → ImportDoes setting now blocks closed did → did.faults ≡ 0 → (more : List Event) × (did.events ≡ header_events closed.added ++ more)
  import_longer did (inl does) none = offers_longer closed.full did does
  import_longer did (inr (inl does)) none = absurd (not_faulty did none (ap (λ (d : Did). d.faults) does.1))
  import_longer did (inr (inr does)) none = absurd (not_faulty did none (ap (λ (d : Did). d.faults) does.4))

  bytes_longer : (did : Did) → OrFault now (UnlessTooLong now (Imports setting now key) bytes) did → did.faults ≡ 0 → (more : List Event) × (did.events ≡ header_events closed.added ++ more)
  bytes_longer did (inl (inl does)) none = import_longer did does.1 none
  bytes_longer did (inl (inr does)) none = absurd (omega (arith, fits, does.0))
  bytes_longer did (inr does) none = absurd (not_faulty did none (ap (λ (d : Did). d.faults) does))

  import_way : HasLonger (line.Import name key)
  import_way =
      let one = way setting now (Ok (line.Import name key)) in
      let more = bytes_longer one.did (subst (λ (o : Option (List ℕ)). WithBytes o now (λ all. OrFault now (UnlessTooLong now (Imports setting now key) all)) one.did) file one.step) one.faults in
      record { did = one.did; does = one.step; faults = one.faults; more = more.0; events = more.1 }

  headers_way : HasLonger (line.Headers name key)
  headers_way = record {
    did = did_headers (unless_full closed.full other_reply);
    does = takes (did_headers (unless_full closed.full other_reply)) (inl refl);
    faults = refl;
    more = [];
    events = sym (append-nil (header_events closed.added));
  }

  pub longer_way : (asked : Line) → TakesFile name key asked → HasLonger asked
  longer_way asked (inl is) = subst (λ (l : Line). HasLonger l) (sym is) headers_way
  longer_way asked (inr is) = subst (λ (l : Line). HasLonger l) (sym is) import_way
