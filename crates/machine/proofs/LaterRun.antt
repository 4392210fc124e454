-- The later runs of the example above genesis meet the clauses: they open at the block.
use Rattle.std.proofs.Common.{◌≡◌, inr, ℕ, ◌≤◌, true, false, Bool, List, [], ◌∷◌, append-nil, length, Some, refl, sym, ap, subst, ◌∙◌, arith, le_refl, nat_le}
use Rattle.disk_model.specs.Disk.{Image}
use Rattle.base_types.specs.declared.flushes.Chain.TheVariants.{Full}
use Rattle.base_types.specs.declared.flushes.Why.TheVariants.{End}
use Rattle.command_text.specs.Lines.{pieces_between, without_return}
use Rattle.store_state.specs.State.{StoreState, state_of, first_rules}
use Rattle.machine.specs.State.{Event, Flush}
use Rattle.machine.specs.Tips.{IsAfterSome, stored_in, kept_count, with_later}
use Rattle.machine.specs.Courses.{Course, replies_of, whole}
use Rattle.machine.specs.Answers.{Answers, whole_replies, flushes_told_by}
use Rattle.machine.specs.Clauses.{IsRun, AfterOpening, now_at}
use Rattle.machine.specs.BlockRuns.{BlockFile, block_hash, block_store, block_image, IsBlockImage, later_now, later_line, later_run, setting_of}
use Rattle.machine.proofs.FirstRun.{block_stands}
use Rattle.machine.proofs.Induction.{same_some}
use Rattle.machine.proofs.WholeReplies.{whole_all}
use Rattle.machine.proofs.StoreLaws.{StoreLaws}

module _ (laws : StoreLaws) (limit cache : ℕ) (file : BlockFile limit cache) where
  later_course : Course (setting_of limit cache) (now_at (later_run limit cache file) (block_store limit cache file)) (later_run limit cache file).taken
  unfolding pieces_between without_return
  later_course = record { dids = later_line limit cache file ∷ []; last = later_now limit cache file; does = (refl, refl) }

  told_lines : flushes_told_by (whole_replies (length (later_run limit cache file).wrote) (replies_of (whole later_course))) ≡ (Full, block_hash limit cache file) ∷ []
  unfolding later_course
  told_lines = ap flushes_told_by (whole_all (replies_of (whole later_course)) (length (later_run limit cache file).wrote) refl)

  answers : Answers (later_run limit cache file) (now_at (later_run limit cache file) (block_store limit cache file)) later_course
  unfolding later_course
  answers = record {
    flushes = ([], refl);
    unfinished = tt;
    all_flushes = λ done. (refl, (refl, tt));
    ended_flushes = λ stops. absurd cc;
    text = ([], sym (append-nil _));
    all_text = λ done. (refl, refl);
    ended_text = λ stops. absurd cc;
    host = omega arith;
    told = ([], told_lines);
    told_only = λ other. told_lines;
    told_done = ([], sym told_lines ∙ sym (append-nil (flushes_told_by (whole_replies (length (later_run limit cache file).wrote) (replies_of (whole later_course))))));
    all_files = λ done. refl;
    files = record { lines = 1; same = refl; answered = λ n within text. within };
  }

  few : (t : ℕ) → kept_count t (later_run limit cache file).flushes ≤ 1
  few t = at_most (nat_le 3 t)
    where
      at_most : (b : Bool) → with_later b 0 ≤ 1
      at_most true = le_refl 1
      at_most false = omega arith

  events : List Event
  events = Flush Full (block_hash limit cache file) End [] ∷ []

  only : (c : Image) (store : StoreState) → IsBlockImage limit cache file c → state_of limit first_rules c ≡ Some store → block_store limit cache file ≡ store
  only c store same is = same_some (block_store limit cache file) store (sym (block_stands laws limit cache file).stands_for ∙ ap (state_of limit first_rules) (sym same) ∙ is)

  abbrev Since : ℕ → StoreState → Type 0
  Since t store = IsAfterSome events t (later_run limit cache file).flushes (block_store limit cache file) store

  since_block : (t : ℕ) → Since t (block_store limit cache file)
  unfolding events
  since_block t = record { first = events; rest = []; parts = refl; enough = few t; made = omega arith; stored = refl }

  since : (t : ℕ) (c : Image) (store : StoreState) → IsBlockImage limit cache file c → state_of limit first_rules c ≡ Some store → Since t store
  since t c store same is = subst (Since t) (only c store same is) (since_block t)

  after_opening : AfterOpening limit first_rules (IsBlockImage limit cache file) (λ t. IsBlockImage limit cache file) (later_run limit cache file) (block_store limit cache file)
  unfolding later_course events
  after_opening = record {
    course = later_course;
    leaves = λ t c store low high l is. inr (since t c store l is);
    leaves_all = λ done c store l is. ap stored_in (sym (only c store l is));
    answers = answers;
  }

  done_at_three : (d : ℕ) → Some 3 ≡ Some d → (2 ≤ d) × (d ≤ 4)
  done_at_three d is = let e : 3 ≡ d = cc in (omega arith, omega arith)

  pub later_is_run : IsRun limit first_rules (IsBlockImage limit cache file) (λ t. IsBlockImage limit cache file) (later_run limit cache file)
  later_is_run = record {
    limits = refl;
    rules = refl;
    disk = record { later = omega arith; reads = refl; reads_after = refl; earlier = λ t u c h k l. l };
    settled = λ all c l. all c l;
    opens = record {
      found = (block_store limit cache file, (block_stands laws limit cache file).stands_for, refl, refl);
      not_only = λ not. absurd cc;
      not_with = λ before. absurd cc;
      silent = λ not. absurd cc;
      idle = λ not. absurd cc;
      untaken = λ not. absurd cc;
      unchanged = λ not. absurd cc;
    };
    in_order = (omega arith, omega arith, ((omega arith, omega arith, λ d is. done_at_three d is, λ told. (refl, refl)), tt));
    not_opened = λ all not. absurd cc;
    after_opening = λ all store is opened.
        subst (λ (s : StoreState). AfterOpening limit first_rules (IsBlockImage limit cache file) (λ t. IsBlockImage limit cache file) (later_run limit cache file) s)
        (only (block_image limit cache file) store refl is) after_opening;
  }
