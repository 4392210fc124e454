-- What the machine makes of an input.
use Rattle.std.specs.Prelude.{◌≡◌, ℕ, ◌-◌, List, [], ◌∷◌, ◌++◌, length, map, take, sum_by}
use Rattle.std.specs.List.{flat_map}
use Rattle.command_text.specs.Lines.{line_of, pieces_between, without_return}
use Rattle.command_text.specs.Replies.{reply_text}
use Rattle.command_text.specs.declared.reply.Reply.{Reply}
use Rattle.machine.specs.State.{Setting, Event}
use Rattle.machine.specs.Steps.{Now, Did, Step, at_end}

-- the lines of an input; the last one, which may be empty, hasn't ended
abbrev pub lines_in : List ℕ → List (List ℕ)
lines_in bytes = map without_return (pieces_between 10 bytes)

-- how many lines have ended
abbrev pub ended_in : List ℕ → ℕ
ended_in bytes = length (lines_in bytes) - 1

-- the machine may do these lines so, one after the other
abbrev pub DoesAll : Setting → Now → List (List ℕ) → List Did → Now → Type 0
DoesAll setting now [] [] end = end ≡ now
DoesAll setting now [] (did ∷ dids) end = ⊥
DoesAll setting now (line ∷ lines) [] end = ⊥
DoesAll setting now (line ∷ lines) (did ∷ dids) end = Step setting now (line_of line) did × DoesAll setting did.now lines dids end

-- one way, of those that the machine has, to do an input
pub record Course (setting : Setting) (from : Now) (bytes : List ℕ) : Type 0 where
  pub dids : List Did
  pub last : Now
  pub does : DoesAll setting from (lines_in bytes) dids last

abbrev pub replies_of : List Did → List Reply
replies_of dids = flat_map (λ did. did.replies) dids

abbrev pub events_of : List Did → List Event
events_of dids = flat_map (λ did. did.events) dids

abbrev pub text_of : List Did → List ℕ
text_of dids = flat_map reply_text (replies_of dids)

-- the bytes of bodies that may have been read
abbrev pub reads_of : List Did → ℕ
reads_of dids = sum_by (λ did. did.reads) dids

-- the faults of the host that the machine met
abbrev pub host_faults : List Did → ℕ
host_faults dids = sum_by (λ did. did.faults) dids

module _ {setting : Setting} {from : Now} {bytes : List ℕ} where
  -- all lines, and the end of the input
  abbrev pub whole : Course setting from bytes → List Did
  whole course = course.dids ++ at_end course.last ∷ []

  -- the lines that ended
  abbrev pub ended : Course setting from bytes → List Did
  ended course = take (ended_in bytes) course.dids
