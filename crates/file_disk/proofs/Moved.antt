-- Reads and writes one after another.
use Rattle.std.proofs.Common.{◌≡◌, ℕ, ◌+◌, ◌-◌, ◌≤◌, List, [], ◌∷◌, ◌++◌, length, take, drop, refl, sym, ap, subst, inl, inr, ◌∙◌, arith, append_assoc, append-nil, length-append, length-drop}
use Rattle.std.specs.Prelude.{Ok, Err}
use Rattle.std.proofs.Math.Seq.{take-append-add, take-length}
use Rattle.std.proofs.lemmas.List.{drop-drop, take-append-le, length-take-le}
use borrow.Rule.Slice.PartMut.{mid_of, post_of, put_mid, mid_len, same_len_mid, take_put}
use Rattle.file_disk.specs.declared.raw.RawError.{RawError}
use Rattle.file_disk.specs.declared.raw.RawError.TheVariants.{Failed}
use Rattle.file_disk.specs.declared.trouble.Trouble.{Trouble}
use Rattle.file_disk.specs.declared.trouble.Operation.TheVariants.{Read, Write}
use Rattle.file_disk.specs.Deeds.{Deed, reads, writes}
use Rattle.file_disk.specs.Troubles.{trouble_at}
use Rattle.file_disk.specs.Courses.{EndsWith, ReadAnswer, WriteAnswer, bytes_of, count_of, given, taken, read_deeds, write_deeds, ReadsAll, WritesAll}

-- ---- reads

given-append : (answers : List ReadAnswer) (answer : ReadAnswer) → given (answers ++ answer ∷ []) ≡ given answers ++ bytes_of answer
given-append [] answer = append-nil (bytes_of answer)
given-append (first ∷ later) answer = ap (λ l. bytes_of first ++ l) (given-append later answer) ∙ sym (append_assoc (bytes_of first) (given later) (bytes_of answer))

read_deeds-append : (file at room : ℕ) (answers : List ReadAnswer) (answer : ReadAnswer)
    → read_deeds file at room (answers ++ answer ∷ []) ≡ read_deeds file at room answers ++ reads file (at + length (given answers)) (room - length (given answers)) answer ∷ []
read_deeds-append file at room [] answer =
    let place : at ≡ at + 0 = omega arith in
    let left : room ≡ room - 0 = omega arith in
    ap (λ n. reads file n room answer ∷ []) place ∙ ap (λ n. reads file (at + 0) n answer ∷ []) left
read_deeds-append file at room (first ∷ later) answer =
    let n = length (bytes_of first) in
    let rest = length (given later) in
    let total : length (given (first ∷ later)) ≡ n + rest = length-append (bytes_of first) (given later) in
    let place : at + n + rest ≡ at + length (given (first ∷ later)) = omega arith in
    let room' : room - n - rest ≡ room - length (given (first ∷ later)) = omega arith in
    ap (λ l. reads file at room first ∷ l) (read_deeds-append file (at + n) (room - n) later answer
    ∙ ap (λ m. read_deeds file (at + n) (room - n) later ++ reads file m (room - n - rest) answer ∷ []) place
    ∙ ap (λ m. read_deeds file (at + n) (room - n) later ++ reads file (at + length (given (first ∷ later))) m answer ∷ []) room')

-- so many reads have given these bytes
pub record HasRead (turns file at room : ℕ) (bytes : List ℕ) (old new : List Deed) : Type 0 where
  pub answers : List ReadAnswer
  pub calls : new ≡ old ++ read_deeds file at room answers
  pub gives : bytes ≡ given answers
  pub turned : length answers ≡ turns

pub HasRead-none : (file at room : ℕ) (old : List Deed) → HasRead 0 file at room [] old old
HasRead-none file at room old = record { answers = []; calls = sym (append-nil old); gives = refl; turned = refl }

-- reads of which the last answered so
abbrev pub HasJustRead : ℕ → ℕ → ℕ → ℕ → List ℕ → ReadAnswer → List Deed → List Deed → Type 0
HasJustRead turns file at room bytes answer old new = (read : HasRead turns file at room bytes old new) × EndsWith answer read.answers

-- one more read
pub HasRead-more : (turns file at room : ℕ) (bytes : List ℕ) (answer : ReadAnswer) (old now next : List Deed) → HasRead turns file at room bytes old now
    → next ≡ now ++ reads file (at + length bytes) (room - length bytes) answer ∷ [] → HasJustRead (turns + 1) file at room (bytes ++ bytes_of answer) answer old next
HasRead-more turns file at room bytes answer old now next so_far call =
    let so_many : length bytes ≡ length (given so_far.answers) = ap length so_far.gives in (
      record {
        answers = so_far.answers ++ answer ∷ [];
        calls = call ∙ ap (λ l. l ++ reads file (at + length bytes) (room - length bytes) answer ∷ []) so_far.calls
            ∙ append_assoc old (read_deeds file at room so_far.answers) (reads file (at + length bytes) (room - length bytes) answer ∷ [])
            ∙ ap (λ n. old ++ (read_deeds file at room so_far.answers ++ reads file (at + n) (room - n) answer ∷ [])) so_many
            ∙ ap (λ l. old ++ l) (sym (read_deeds-append file at room so_far.answers answer));
        gives = ap (λ l. l ++ bytes_of answer) so_far.gives ∙ sym (given-append so_far.answers answer);
        turned = length-append so_far.answers (answer ∷ []) ∙ ap (λ n. n + 1) so_far.turned;
      },
      (so_far.answers, refl),
    )

-- a part of a buffer has given way to these bytes, of which the first n are looked at
front_put : (buf ys : List ℕ) (count k n : ℕ) → count ≤ length buf → n ≤ length ys → take (count + n) (put_mid count k buf ys) ≡ take count buf ++ take n ys
front_put buf ys count k n within few =
    ap (λ m. take (m + n) (put_mid count k buf ys)) (sym (length-take-le count buf within))
    ∙ take-append-add (take count buf) (ys ++ post_of count k buf) n ∙ ap (λ l. take count buf ++ l) (take-append-le n ys (post_of count k buf) few)

-- where the next read begins, and its room
next_call : (file at count : ℕ) (buf ys : List ℕ) (answer : ReadAnswer) (now next : List Deed) → count ≤ length buf → length ys ≡ length (mid_of count (length buf - count) buf)
    → next ≡ now ++ reads file (at + count) (length ys) answer ∷ [] → next ≡ now ++ reads file (at + length (take count buf)) (length buf - length (take count buf)) answer ∷ []
next_call file at count buf ys answer now next within part call =
    let so_many : count ≡ length (take count buf) = sym (length-take-le count buf within) in
    let left : length ys ≡ length buf - count = part ∙ mid_len count (length buf) buf (omega arith) in
    call ∙ ap (λ n. now ++ reads file (at + count) n answer ∷ []) left ∙ ap (λ n. now ++ reads file (at + n) (length buf - n) answer ∷ []) so_many

-- one more read, into the rest of a buffer
pub HasRead-part : (turns file at count n : ℕ) (buf ys : List ℕ) (old now next : List Deed) → count ≤ length buf → length ys ≡ length (mid_of count (length buf - count) buf) → n ≤ length ys
    → HasRead turns file at (length buf) (take count buf) old now → next ≡ now ++ reads file (at + count) (length ys) (Ok (take n ys)) ∷ []
    → HasJustRead (turns + 1) file at (length buf) (take (count + n) (put_mid count (length buf - count) buf ys)) (Ok (take n ys)) old next
HasRead-part turns file at count n buf ys old now next within part few so_far call =
    subst (λ bytes. HasJustRead (turns + 1) file at (length buf) bytes (Ok (take n ys)) old next) (sym (front_put buf ys count (length buf - count) n within few))
    (HasRead-more turns file at (length buf) (take count buf) (Ok (take n ys)) old now next so_far (next_call file at count buf ys (Ok (take n ys)) now next within part call))

-- one more read, that failed
pub HasRead-not : (turns file at count : ℕ) (error : RawError) (buf ys : List ℕ) (old now next : List Deed) → count ≤ length buf → length ys ≡ length (mid_of count (length buf - count) buf)
    → HasRead turns file at (length buf) (take count buf) old now → next ≡ now ++ reads file (at + count) (length ys) (Err error) ∷ []
    → HasJustRead (turns + 1) file at (length buf) (take count (put_mid count (length buf - count) buf ys)) (Err error) old next
HasRead-not turns file at count error buf ys old now next within part so_far call =
    subst (λ bytes. HasJustRead (turns + 1) file at (length buf) bytes (Err error) old next) (append-nil (take count buf) ∙ sym (take_put count (length buf - count) buf ys within))
    (HasRead-more turns file at (length buf) (take count buf) (Err error) old now next so_far (next_call file at count buf ys (Err error) now next within part call))

-- a read gave none
pub ReadsAll-ended : (turns file at count n : ℕ) (buf ys : List ℕ) (old now next : List Deed) → count ≤ length buf → length ys ≡ length (mid_of count (length buf - count) buf) → n ≡ 0
    → HasRead turns file at (length buf) (take count buf) old now → next ≡ now ++ reads file (at + count) (length ys) (Ok (take n ys)) ∷ []
    → ReadsAll file at (put_mid count (length buf - count) buf ys) (Ok count) old next
ReadsAll-ended turns file at count n buf ys old now next within part none so_far call =
    let last = HasRead-part turns file at count n buf ys old now next within part (omega arith) so_far call in
    let same = same_len_mid count (length buf - count) buf ys part in
    let place : count ≡ count + n = omega arith in
    record {
      answers = last.0.answers;
      calls = last.0.calls ∙ ap (λ m. old ++ read_deeds file at m last.0.answers) (sym same);
      bytes = ap (λ m. take m (put_mid count (length buf - count) buf ys)) place ∙ last.0.gives;
      bound = omega (arith, same);
      end = inr (subst (λ m. EndsWith (Ok (take m ys)) last.0.answers) none last.1);
      cause = tt;
    }

-- a read failed
pub ReadsAll-failed : (turns file at count : ℕ) (error : RawError) (trouble : Trouble) (buf ys : List ℕ) (old now next : List Deed) → count ≤ length buf → length ys ≡ length (mid_of count (length buf - count) buf)
    → error ≡ Failed → trouble ≡ trouble_at file Read
    → HasRead turns file at (length buf) (take count buf) old now → next ≡ now ++ reads file (at + count) (length ys) (Err error) ∷ []
    → ReadsAll file at (put_mid count (length buf - count) buf ys) (Err trouble) old next
ReadsAll-failed turns file at count error trouble buf ys old now next within part failed cause so_far call =
    let last = HasRead-not turns file at count error buf ys old now next within part so_far call in
    record {
      answers = last.0.answers;
      calls = last.0.calls ∙ ap (λ m. old ++ read_deeds file at m last.0.answers) (sym (same_len_mid count (length buf - count) buf ys part));
      bytes = tt;
      bound = tt;
      end = tt;
      cause = (cause, inl (subst (λ e. EndsWith (Err e) last.0.answers) failed last.1));
    }

-- ---- writes

taken-append : (answers : List WriteAnswer) (answer : WriteAnswer) → taken (answers ++ answer ∷ []) ≡ taken answers + count_of answer
taken-append [] answer = omega arith
taken-append (first ∷ later) answer = let rest = taken-append later answer in omega arith

write_deeds-append : (file at : ℕ) (bytes : List ℕ) (answers : List WriteAnswer) (answer : WriteAnswer)
    → write_deeds file at bytes (answers ++ answer ∷ []) ≡ write_deeds file at bytes answers ++ writes file (at + taken answers) (drop (taken answers) bytes) answer ∷ []
write_deeds-append file at bytes [] answer = let place : at ≡ at + 0 = omega arith in ap (λ n. writes file n bytes answer ∷ []) place
write_deeds-append file at bytes (first ∷ later) answer =
    let n = count_of first in
    let place : at + n + taken later ≡ at + (n + taken later) = omega arith in
    ap (λ l. writes file at bytes first ∷ l) (write_deeds-append file (at + n) (drop n bytes) later answer
    ∙ ap (λ m. write_deeds file (at + n) (drop n bytes) later ++ writes file m (drop (taken later) (drop n bytes)) answer ∷ []) place
    ∙ ap (λ l. write_deeds file (at + n) (drop n bytes) later ++ writes file (at + (n + taken later)) l answer ∷ []) (drop-drop (taken later) n bytes))

-- so many writes have taken so many of these bytes
pub record HasWritten (turns file at : ℕ) (bytes : List ℕ) (count : ℕ) (old new : List Deed) : Type 0 where
  pub answers : List WriteAnswer
  pub calls : new ≡ old ++ write_deeds file at bytes answers
  pub takes : taken answers ≡ count
  pub turned : length answers ≡ turns

pub HasWritten-none : (file at : ℕ) (bytes : List ℕ) (old : List Deed) → HasWritten 0 file at bytes 0 old old
HasWritten-none file at bytes old = record { answers = []; calls = sym (append-nil old); takes = refl; turned = refl }

-- writes of which the last answered so
abbrev pub HasJustWritten : ℕ → ℕ → ℕ → List ℕ → ℕ → WriteAnswer → List Deed → List Deed → Type 0
HasJustWritten turns file at bytes count answer old new = (written : HasWritten turns file at bytes count old new) × EndsWith answer written.answers

-- one more write
pub HasWritten-more : (turns file at : ℕ) (bytes : List ℕ) (count : ℕ) (answer : WriteAnswer) (old now next : List Deed) → HasWritten turns file at bytes count old now
    → next ≡ now ++ writes file (at + count) (drop count bytes) answer ∷ [] → HasJustWritten (turns + 1) file at bytes (count + count_of answer) answer old next
HasWritten-more turns file at bytes count answer old now next so_far call = (
  record {
    answers = so_far.answers ++ answer ∷ [];
    calls = call ∙ ap (λ l. l ++ writes file (at + count) (drop count bytes) answer ∷ []) so_far.calls
        ∙ append_assoc old (write_deeds file at bytes so_far.answers) (writes file (at + count) (drop count bytes) answer ∷ [])
        ∙ ap (λ n. old ++ (write_deeds file at bytes so_far.answers ++ writes file (at + n) (drop n bytes) answer ∷ [])) (sym so_far.takes)
        ∙ ap (λ l. old ++ l) (sym (write_deeds-append file at bytes so_far.answers answer));
    takes = taken-append so_far.answers answer ∙ ap (λ n. n + count_of answer) so_far.takes;
    turned = length-append so_far.answers (answer ∷ []) ∙ ap (λ n. n + 1) so_far.turned;
  },
  (so_far.answers, refl),
)

-- what is left to write is all that comes after
pub rest_whole : (bytes : List ℕ) (count : ℕ) → take (length bytes - count) (drop count bytes) ≡ drop count bytes
rest_whole bytes count = ap (λ n. take n (drop count bytes)) (sym (length-drop count bytes)) ∙ take-length (drop count bytes)

pub WritesAll-stopped : (turns file at count n : ℕ) (trouble : Trouble) (bytes : List ℕ) (old now next : List Deed) → count ≤ length bytes → n ≡ 0 → trouble ≡ trouble_at file Write
    → HasWritten turns file at bytes count old now → next ≡ now ++ writes file (at + count) (drop count bytes) (Ok n) ∷ [] → WritesAll file at bytes (Err trouble) old next
WritesAll-stopped turns file at count n trouble bytes old now next within none cause so_far call =
    let last = HasWritten-more turns file at bytes count (Ok n) old now next so_far call in
    record {
      answers = last.0.answers;
      calls = last.0.calls;
      whole = tt;
      part = omega (arith, last.0.takes);
      cause = (cause, inr (inl (subst (λ m. EndsWith {A = WriteAnswer} (Ok m) last.0.answers) none last.1)));
    }

pub WritesAll-failed : (turns file at count : ℕ) (error : RawError) (trouble : Trouble) (bytes : List ℕ) (old now next : List Deed) → count ≤ length bytes → error ≡ Failed → trouble ≡ trouble_at file Write
    → HasWritten turns file at bytes count old now → next ≡ now ++ writes file (at + count) (drop count bytes) (Err error) ∷ [] → WritesAll file at bytes (Err trouble) old next
WritesAll-failed turns file at count error trouble bytes old now next within failed cause so_far call =
    let last = HasWritten-more turns file at bytes count (Err error) old now next so_far call in
    record {
      answers = last.0.answers;
      calls = last.0.calls;
      whole = tt;
      part = omega (arith, last.0.takes);
      cause = (cause, inl (subst (λ e. EndsWith {A = WriteAnswer} (Err e) last.0.answers) failed last.1));
    }
