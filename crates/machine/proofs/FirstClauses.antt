-- The first run of the example above genesis meets the clauses.
use Rattle.std.proofs.Common.{◌≡◌, ⊎_elim, inl, inr, ℕ, ◌<◌, ◌≤◌, true, false, Bool, List, [], ◌∷◌, append-nil, length, Some, refl, sym, ap, subst, ◌∙◌, arith, le_refl, nat_le, ◌++◌}
use Rattle.std.proofs.lemmas.Bool.Decides.{nat_tests}
use Rattle.disk_model.specs.Disk.{Image}
use Rattle.base_types.specs.declared.flushes.Chain.TheVariants.{Full}
use Rattle.base_types.specs.declared.flushes.Why.TheVariants.{End}
use Rattle.chain_model.specs.Choice.{Bodies}
use Rattle.command_text.specs.Lines.{pieces_between, without_return}
use Rattle.store_state.specs.State.{StoreState, blocks_in, state_of, first_rules}
use Rattle.machine.specs.State.{Event, HeadersStored, BodyStored, Flush}
use Rattle.machine.specs.Tips.{IsAfterSome, stored_in, stored_after, kept_count, with_later}
use Rattle.machine.specs.Courses.{Course, replies_of, whole}
use Rattle.machine.specs.Answers.{Answers, whole_replies, flushes_told_by}
use Rattle.machine.specs.Clauses.{IsRun, AfterOpening, now_at}
use Rattle.machine.specs.CutRuns.{no_bytes}
use Rattle.machine.specs.SmallStates.{genesis_store}
use Rattle.machine.specs.BlockRuns.{BlockFile, block_hash, block_store, header_image, block_image, LeftByFirst, import_did, first_run, setting_of}
use Rattle.machine.proofs.FirstRun.{header_store, header_stands, block_stands, empty_stands, all_settled, import_step}
use Rattle.machine.proofs.Induction.{same_some}
use Rattle.machine.proofs.WholeReplies.{whole_all}
use Rattle.machine.proofs.StoreLaws.{StoreLaws}
use Rattle.machine.specs.Moves.{touched_by}

module _ (laws : StoreLaws) (limit cache : ℕ) (file : BlockFile limit cache) where
  -- ---- what is answered

  first_course : Course (setting_of limit cache) (now_at (first_run limit cache file) (genesis_store first_rules)) (first_run limit cache file).taken
  unfolding pieces_between without_return
  first_course = record { dids = import_did limit cache file ∷ []; last = (import_did limit cache file).now; does = (import_step laws limit cache file, refl) }

  told_lines : flushes_told_by (whole_replies (length (first_run limit cache file).wrote) (replies_of (whole first_course))) ≡ (Full, block_hash limit cache file) ∷ []
  unfolding first_course
  told_lines = ap flushes_told_by (whole_all (replies_of (whole first_course)) (length (first_run limit cache file).wrote) refl)

  answers : Answers (first_run limit cache file) (now_at (first_run limit cache file) (genesis_store first_rules)) first_course
  unfolding first_course pieces_between without_return
  answers = record {
    flushes = ([], refl);
    unfinished = tt;
    all_flushes = λ done. (refl, (refl, tt));
    ended_flushes = λ stops. absurd cc;
    text = ([], sym (append-nil _));
    all_text = λ done. (refl, refl);
    ended_text = λ stops. absurd cc;
    host = omega arith;
    told = ([], told_lines);
    told_only = λ other. told_lines;
    told_done = ([], sym told_lines ∙ sym (append-nil (flushes_told_by (whole_replies (length (first_run limit cache file).wrote) (replies_of (whole first_course))))));
    all_files = λ done. refl;
    files = record { lines = 1; same = refl; answered = λ n within text. within };
  }

  -- ---- what a crash leaves

  events : List Event
  events = HeadersStored (file.first.block.header ∷ []) ∷ BodyStored (block_hash limit cache file) file.first.block ∷ Flush Full (block_hash limit cache file) End (touched_by file.first.block ++ []) ∷ []

  few : (t : ℕ) → kept_count t (first_run limit cache file).flushes ≤ 1
  few t = at_most (nat_le 9 t)
    where
      at_most : (b : Bool) → with_later b 0 ≤ 1
      at_most true = le_refl 1
      at_most false = omega arith

  not_kept : (t : ℕ) → t < 9 → nat_le 9 t ≡ false
  not_kept t early = grind (arith, nat_tests)

  none_kept : (t : ℕ) → t < 9 → kept_count t (first_run limit cache file).flushes ≤ 0
  none_kept t early = subst (λ (b : Bool). with_later b 0 ≤ 0) (sym (not_kept t early)) (le_refl 0)

  -- the body of the block's record is the stored one
  all_stored : stored_in (block_store limit cache file) ≡ stored_after events (stored_in (genesis_store first_rules))
  unfolding events blocks_in
  all_stored = ap (λ (bodies : Bodies). record (stored_in (block_store limit cache file)) { bodies = bodies }) (laws.stored limit file.first)

  abbrev Since : ℕ → StoreState → Type 0
  Since t store = IsAfterSome events t (first_run limit cache file).flushes (genesis_store first_rules) store

  since_block : (t : ℕ) → Since t (block_store limit cache file)
  unfolding events
  since_block t = record { first = events; rest = []; parts = refl; enough = few t; made = omega arith; stored = all_stored }

  since_empty : (t : ℕ) → t < 9 → Since t (genesis_store first_rules)
  since_empty t early = record { first = []; rest = events; parts = refl; enough = none_kept t early; made = omega arith; stored = refl }

  since_header : (t : ℕ) → t < 9 → Since t (header_store laws limit cache file)
  unfolding events
  since_header t early = record {
    first = HeadersStored (file.first.block.header ∷ []) ∷ [];
    rest = BodyStored (block_hash limit cache file) file.first.block ∷ Flush Full (block_hash limit cache file) End (touched_by file.first.block ++ []) ∷ [];
    parts = refl;
    enough = none_kept t early;
    made = omega arith;
    stored = refl;
  }

  -- what an image stands for is one store
  only : (c image : Image) (store known : StoreState) → c ≡ image → state_of limit first_rules image ≡ Some known → state_of limit first_rules c ≡ Some store → known ≡ store
  only c image store known same stands is = same_some known store (sym stands ∙ ap (state_of limit first_rules) (sym same) ∙ is)

  since : (t : ℕ) (c : Image) (store : StoreState) → LeftByFirst limit cache file t c → state_of limit first_rules c ≡ Some store → Since t store
  since t c store l is = ⊎_elim
      (λ same. subst (Since t) (only c (block_image limit cache file) store (block_store limit cache file) same (block_stands laws limit cache file).stands_for is) (since_block t))
      (λ early. ⊎_elim
      (λ same. subst (Since t) (only c no_bytes store (genesis_store first_rules) same (empty_stands laws limit cache file) is) (since_empty t early.0))
      (λ same. subst (Since t) (only c (header_image limit cache file) store (header_store laws limit cache file) same (header_stands laws limit cache file).stands_for is) (since_header t early.0))
      early.1)
      l

  at_last : (c : Image) (store : StoreState) → LeftByFirst limit cache file 10 c → state_of limit first_rules c ≡ Some store → stored_in store ≡ stored_after events (stored_in (genesis_store first_rules))
  at_last c store l is = ⊎_elim
      (λ same. ap stored_in (sym (only c (block_image limit cache file) store (block_store limit cache file) same (block_stands laws limit cache file).stands_for is)) ∙ all_stored)
      (λ early. absurd (omega (arith, early.0)))
      l

  after_opening : AfterOpening limit first_rules (λ c. c ≡ no_bytes) (LeftByFirst limit cache file) (first_run limit cache file) (genesis_store first_rules)
  unfolding first_course events
  after_opening = record {
    course = first_course;
    leaves = λ t c store low high l is. inr (since t c store l is);
    leaves_all = λ done c store l is. at_last c store l is;
    answers = answers;
  }

  done_at_nine : (d : ℕ) → Some 9 ≡ Some d → (5 ≤ d) × (d ≤ 10)
  done_at_nine d is = let e : 9 ≡ d = cc in (omega arith, omega arith)

  earlier : (t u : ℕ) (c : Image) → t ≤ u → LeftByFirst limit cache file u c → LeftByFirst limit cache file t c
  earlier t u c h l = ⊎_elim (λ same. inl same) (λ early. inr (omega (arith, h, early.0), early.1)) l

  pub first_is_run : IsRun limit first_rules (λ c. c ≡ no_bytes) (LeftByFirst limit cache file) (first_run limit cache file)
  first_is_run = record {
    limits = refl;
    rules = refl;
    disk = record { later = omega arith; reads = refl; reads_after = inl refl; earlier = λ t u c h k l. earlier t u c h l };
    settled = λ all c l. all_settled laws limit cache file 0 c l;
    opens = record {
      found = (genesis_store first_rules, empty_stands laws limit cache file, refl, refl);
      not_only = λ not. absurd cc;
      not_with = λ before. absurd cc;
      silent = λ not. absurd cc;
      idle = λ not. absurd cc;
      untaken = λ not. absurd cc;
      unchanged = λ not. absurd cc;
    };
    in_order = (omega arith, omega arith, ((omega arith, omega arith, λ d is. done_at_nine d is, λ told. (refl, refl)), tt));
    not_opened = λ all not. absurd cc;
    after_opening = λ all store is opened.
        subst (λ (s : StoreState). AfterOpening limit first_rules (λ c. c ≡ no_bytes) (LeftByFirst limit cache file) (first_run limit cache file) s)
        (same_some (genesis_store first_rules) store (sym (empty_stands laws limit cache file) ∙ is)) after_opening;
  }
