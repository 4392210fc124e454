-- The runs of the example meet the clauses.
use Rattle.std.proofs.Common.{◌≡◌, inr, ℕ, ◌≤◌, true, false, Bool, List, [], ◌∷◌, ◌++◌, append-nil, length, cond, Some, refl, sym, ap, subst, ◌∙◌, arith, le_refl, nat_le}
use Rattle.std.proofs.lemmas.Bool.Decides.{nat_tests}
use Rattle.disk_model.specs.Disk.{Image}
use Rattle.block_codec.specs.Genesis.{genesis_hash}
use Rattle.command_text.specs.Lines.{pieces_between, without_return}
use Rattle.command_text.specs.Replies.{reply_text}
use Rattle.command_text.specs.declared.reply.Reply.{Reply}
use Rattle.command_text.specs.declared.reply.Reply.TheVariants.{Flushed}
use Rattle.base_types.specs.declared.flushes.Chain.TheVariants.{Full}
use Rattle.base_types.specs.declared.flushes.Why.TheVariants.{End}
use Rattle.machine.specs.State.{Event, Flush, height_of}
use Rattle.store_state.specs.State.{StoreState, state_of}
use Rattle.machine.specs.Tips.{IsAfterSome, stored_in, kept_count, with_later}
use Rattle.machine.specs.Courses.{Course, replies_of, whole}
use Rattle.machine.specs.Answers.{Answers, whole_replies, flushes_told_by}
use Rattle.machine.specs.Clauses.{IsRun, AfterOpening}
use Rattle.machine.specs.CutRuns.{no_bytes, IsEmptyDisk, from_the_start, no_blocks, first_now, empty_line, the_flush, the_run}
use Rattle.machine.proofs.Empty.{at_empty}
use Rattle.machine.proofs.Induction.{same_some}

stands_for : (c : Image) → IsEmptyDisk c → state_of 1 from_the_start c ≡ Some no_blocks
stands_for c e = at_empty 1 from_the_start c (λ file. ap (λ (i : Image). i file) e)

only : (c : Image) (store : StoreState) → IsEmptyDisk c → state_of 1 from_the_start c ≡ Some store → store ≡ no_blocks
only c store e is = same_some store no_blocks (sym is ∙ stands_for c e)

pub the_course : Course the_run.setting first_now []
unfolding pieces_between without_return
the_course = record { dids = empty_line ∷ []; last = first_now; does = (refl, refl) }

-- ---- the line that tells of the flush stands whole

fits : (xs : List ℕ) → nat_le (length xs) (length (xs ++ [])) ≡ true
fits xs = let n = ap length (append-nil xs) in grind (arith, nat_tests, n)

whole_reply : (reply : Reply) → whole_replies (length (reply_text reply ++ [])) (reply ∷ []) ≡ reply ∷ []
unfolding whole_replies
whole_reply reply = ap (λ (b : Bool). cond b (reply ∷ []) []) (fits (reply_text reply))

told_lines : flushes_told_by (whole_replies (length the_run.wrote) (replies_of (whole the_course))) ≡ (the_flush.chain, genesis_hash) ∷ []
unfolding the_course
told_lines = ap flushes_told_by (whole_reply (Flushed Full (height_of first_now.state genesis_hash) genesis_hash))

answers : Answers the_run first_now the_course
unfolding the_course
answers = record {
  flushes = ([], refl);
  unfinished = tt;
  all_flushes = λ done. (refl, (refl, tt));
  ended_flushes = λ stops. absurd cc;
  text = ([], sym (append-nil _));
  all_text = λ done. (refl, refl);
  ended_text = λ stops. absurd cc;
  host = omega arith;
  told = ([], told_lines);
  told_only = λ other. told_lines;
  told_done = ([], sym told_lines ∙ sym (append-nil (flushes_told_by (whole_replies (length the_run.wrote) (replies_of (whole the_course))))));
  all_files = λ done. refl;
  files = record { lines = 1; same = refl; answered = λ n within text. within };
}

few : (t : ℕ) → kept_count t the_run.flushes ≤ 1
few t = at_most (nat_le 3 t)
  where
    at_most : (b : Bool) → with_later b 0 ≤ 1
    at_most true = le_refl 1
    at_most false = omega arith

the_events : List Event
the_events = Flush Full genesis_hash End [] ∷ []

since : (t : ℕ) (store : StoreState) → store ≡ no_blocks → IsAfterSome the_events t the_run.flushes no_blocks store
unfolding the_events
since t store e = record {
  first = the_events;
  rest = [];
  parts = refl;
  enough = few t;
  made = omega arith;
  stored = ap stored_in e;
}

after_opening : AfterOpening 1 from_the_start IsEmptyDisk (λ t. IsEmptyDisk) the_run no_blocks
unfolding the_course the_events
after_opening = record {
  course = the_course;
  leaves = λ t c store low high l is. inr (since t store (only c store l is));
  leaves_all = λ done c store l is. ap stored_in (only c store l is);
  answers = answers;
}

done_at_three : (d : ℕ) → Some 3 ≡ Some d → (2 ≤ d) × (d ≤ 4)
done_at_three d is = let e : 3 ≡ d = cc in (omega arith, omega arith)

pub is_run : IsRun 1 from_the_start IsEmptyDisk (λ t. IsEmptyDisk) the_run
is_run = record {
  limits = refl;
  rules = refl;
  disk = record { later = omega arith; reads = refl; reads_after = refl; earlier = λ t u c h k l. l };
  settled = λ all c l. all c l;
  opens = record {
    found = (no_blocks, stands_for no_bytes refl, refl, refl);
    not_only = λ not. absurd cc;
    not_with = λ before. absurd cc;
    silent = λ not. absurd cc;
    idle = λ not. absurd cc;
    untaken = λ not. absurd cc;
    unchanged = λ not. absurd cc;
  };
  in_order = (omega arith, omega arith, ((omega arith, omega arith, λ d is. done_at_three d is, λ told. (refl, refl)), tt));
  not_opened = λ all not. absurd cc;
  after_opening = λ all store is opened. subst (λ (s : StoreState). AfterOpening 1 from_the_start IsEmptyDisk (λ t. IsEmptyDisk) the_run s) (sym (only no_bytes store refl is)) after_opening;
}
