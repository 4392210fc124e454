-- The files that were made since the folder was last synced, through calls one after another.
use Rattle.std.proofs.Common.{◌≡◌, ℕ, ◌+◌, ◌-◌, Bool, true, false, cond, ltb, List, [], ◌∷◌, ◌++◌, length, drop, Some, None, inl, inr, refl, sym, ap, ◌∙◌}
use Rattle.std.specs.Prelude.{Result, Ok, Err, ⊤}
use Rattle.file_disk.specs.declared.trouble.Trouble.{Trouble}
use Rattle.file_disk.specs.Deeds.{Deed, measures, cuts, syncs_data, unsynced_after, unsynced_from, unsynced}
use Rattle.file_disk.specs.Courses.{with_deed, ReadAnswer, WriteAnswer, bytes_of, count_of, read_deeds, write_deeds, MeasuresOpen, ReadsAll, WritesAll, ShortensOpen, SyncsOpen}

unsynced_from-append : (made : List ℕ) (a b : List Deed) → unsynced_from made (a ++ b) ≡ unsynced_from (unsynced_from made a) b
unsynced_from-append made [] b = refl
unsynced_from-append made (deed ∷ a) b = unsynced_from-append (unsynced_after made deed) a b

-- one more deed
pub unsynced-with : (deeds : List Deed) (deed : Deed) → unsynced (deeds ++ deed ∷ []) ≡ unsynced_after (unsynced deeds) deed
unfolding unsynced
unsynced-with deeds deed = unsynced_from-append [] deeds (deed ∷ [])

through_reads : (made : List ℕ) (file at room : ℕ) (answers : List ReadAnswer) → unsynced_from made (read_deeds file at room answers) ≡ made
through_reads made file at room [] = refl
through_reads made file at room (answer ∷ later) = through_reads made file (at + length (bytes_of answer)) (room - length (bytes_of answer)) later

through_writes : (made : List ℕ) (file at : ℕ) (bytes : List ℕ) (answers : List WriteAnswer) → unsynced_from made (write_deeds file at bytes answers) ≡ made
through_writes made file at bytes [] = refl
through_writes made file at bytes (answer ∷ later) = through_writes made file (at + count_of answer) (drop (count_of answer) bytes) later

-- reads make no file
pub unsynced-reads : (deeds : List Deed) (file at room : ℕ) (answers : List ReadAnswer) → unsynced (deeds ++ read_deeds file at room answers) ≡ unsynced deeds
unfolding unsynced
unsynced-reads deeds file at room answers = unsynced_from-append [] deeds (read_deeds file at room answers) ∙ through_reads (unsynced_from [] deeds) file at room answers

-- writes make no file
pub unsynced-writes : (deeds : List Deed) (file at : ℕ) (bytes : List ℕ) (answers : List WriteAnswer) → unsynced (deeds ++ write_deeds file at bytes answers) ≡ unsynced deeds
unfolding unsynced
unsynced-writes deeds file at bytes answers = unsynced_from-append [] deeds (write_deeds file at bytes answers) ∙ through_writes (unsynced_from [] deeds) file at bytes answers

-- ---- the list of the files that were made is kept through calls

pub kept : (made : List ℕ) (old new : List Deed) (deed : Deed) → made ≡ unsynced old → new ≡ old ++ deed ∷ [] → unsynced_after made deed ≡ unsynced new
kept made old new deed is call = ap (λ m. unsynced_after m deed) is ∙ sym (unsynced-with old deed) ∙ ap unsynced (sym call)

pub kept_measuring : (file : ℕ) (result : Result ℕ Trouble) (made : List ℕ) (old new : List Deed) → made ≡ unsynced old → MeasuresOpen file result old new → made ≡ unsynced new
kept_measuring file (Ok bytes) made old new is calls = kept made old new (measures file (Some bytes)) is calls
kept_measuring file (Err trouble) made old new is calls = kept made old new (measures file None) is calls.0

pub kept_reading : (file at : ℕ) (buf : List ℕ) (result : Result ℕ Trouble) (made : List ℕ) (old new : List Deed) → made ≡ unsynced old → ReadsAll file at buf result old new → made ≡ unsynced new
kept_reading file at buf result made old new is all = is ∙ sym (unsynced-reads old file at (length buf) all.answers) ∙ ap unsynced (sym all.calls)

pub kept_writing : (file at : ℕ) (bytes : List ℕ) (result : Result ⊤ Trouble) (made : List ℕ) (old new : List Deed) → made ≡ unsynced old → WritesAll file at bytes result old new → made ≡ unsynced new
kept_writing file at bytes result made old new is all = is ∙ sym (unsynced-writes old file at bytes all.answers) ∙ ap unsynced (sym all.calls)

kept_twice : (made : List ℕ) (old new : List Deed) (first next : Deed) → made ≡ unsynced old → new ≡ (old ++ first ∷ []) ++ next ∷ [] → unsynced_after (unsynced_after made first) next ≡ unsynced new
kept_twice made old new first next is calls = kept (unsynced_after made first) (old ++ first ∷ []) new next (kept made old (old ++ first ∷ []) first is refl) calls

cut_or_not : (b : Bool) (file count bytes : ℕ) (made : List ℕ) (old new : List Deed) → made ≡ unsynced old
    → new ≡ cond b (with_deed (with_deed old (measures file (Some bytes))) (cuts file count true)) (with_deed old (measures file (Some bytes))) → made ≡ unsynced new
cut_or_not true file count bytes made old new is calls = kept_twice made old new (measures file (Some bytes)) (cuts file count true) is calls
cut_or_not false file count bytes made old new is calls = kept made old new (measures file (Some bytes)) is calls

pub kept_shortening : (file count : ℕ) (result : Result ⊤ Trouble) (made : List ℕ) (old new : List Deed) → made ≡ unsynced old → ShortensOpen file count result old new → made ≡ unsynced new
kept_shortening file count (Ok done) made old new is calls = cut_or_not (ltb count calls.0) file count calls.0 made old new is calls.1
kept_shortening file count (Err trouble) made old new is (inl calls) = kept made old new (measures file None) is calls.0
kept_shortening file count (Err trouble) made old new is (inr calls) = kept_twice made old new (measures file (Some calls.0)) (cuts file count false) is calls.2.0

pub kept_syncing : (file : ℕ) (result : Result ⊤ Trouble) (made : List ℕ) (old new : List Deed) → made ≡ unsynced old → SyncsOpen file result old new → made ≡ unsynced new
kept_syncing file (Ok done) made old new is calls = kept made old new (syncs_data file true) is calls
kept_syncing file (Err trouble) made old new is calls = kept made old new (syncs_data file false) is calls.0
