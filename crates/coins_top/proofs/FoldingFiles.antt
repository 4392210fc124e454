-- Folding the blocks of a file, one after another.
use Rattle.std.proofs.Common.{◌≡◌, ◌<◌, ◌≤◌, ◌+◌, ◌-◌, ℕ, Bool, true, false, cond, List, [], ◌∷◌, length, refl, sym, ap, subst, ◌∙◌, inl, inr, arith}
use Rattle.std.specs.Prelude.{◌⊎◌, Option, Some, None, Result, Ok, Err, IfSome, IfNone, is_some, unwrap_or}
use Rattle.std.proofs.lemmas.List.{length-drop}
use Rattle.std.specs.FinMap.{get}
use Rattle.std.proofs.lemmas.Bool.{false≢true}
use Rattle.base_types.specs.declared.program.Rules.{Rules}
use Rattle.block_codec.specs.declared.block.Block.{Block}
use Rattle.block_codec.specs.Frames.{frames}
use Rattle.block_codec.specs.Text.{hash_of_header, same_hash}
use Rattle.chain_model.specs.Folding.{Folded, FoldRefused, nothing_folded, with_block, with_blocks, and_on, fold_of}
use Rattle.block_codec.specs.Genesis.{genesis_hash}
use Rattle.command_text.specs.declared.reply.Reply.{Reply}
use Rattle.command_text.specs.declared.reply.Reply.TheVariants as says
use Rattle.frame_scan.specs.Scan.{Scan, bytes_taken, max_file_bytes, frames_left, Moves}
use Rattle.io_traits.specs.Causes.{Rose}
use Rattle.io_traits.proofs.Causes.{Rose-earlier}
use Rattle.io_traits.specs.Host.{Held, unread_bytes, Opens}
use Rattle.io_traits.proofs.HostRuns.{unread_bytes-after}
use Rattle.io_traits.specs.Told.{OnTold}
use Rattle.io_traits.proofs.Told.{OnTold-same, OnTold-then, OnTold-weaker}
use Rattle.machine.specs.Steps.{folded_reply, longest_file}
use Rattle.coins_top.specs.declared.fold_end.FoldEnd.{FoldEnd}
use Rattle.coins_top.specs.declared.fold_end.FoldEnd.TheVariants.{NoMemory, Replied}
use Rattle.coins_top.specs.Folds.{with_first, EndsFold}
use Rattle.coins_top.specs.FileFolds.{size, Goes, IsReply, StopsScan, NextBlock, Replies, FoldsRest, folding_of, FoldsInput, FileIs}

pub OnTold-both : {S : Type 0} (P Q : S → S → Type 0) (a b : Option S) → OnTold a b P → OnTold a b Q → OnTold a b (λ s t. P s t × Q s t)
OnTold-both P Q None None first second = tt
OnTold-both P Q None (Some t) first second = absurd first
OnTold-both P Q (Some s) None first second = absurd first
OnTold-both P Q (Some s) (Some t) first second = (first, second)

-- ---- one call of the scan

goes : (old new : Scan) (s t : Held) → bytes_taken old ≤ bytes_taken new → Moves old new s t → bytes_taken new ≤ bytes_taken old + length (unread_bytes s) → Goes old new s t
goes old new s t forward moves read =
    let len : length (unread_bytes t) ≡ length (unread_bytes s) - (bytes_taken new - bytes_taken old) = ap (λ (h : Held). length (unread_bytes h)) moves ∙ ap length (unread_bytes-after (bytes_taken new - bytes_taken old) s) ∙ length-drop (bytes_taken new - bytes_taken old) (unread_bytes s) in
    record { files = ap (λ (h : Held). h.files) moves; size = omega (arith, len, forward, read) }

pub told_goes : (a b : Option Held) (old new : Scan) → bytes_taken old ≤ bytes_taken new → OnTold a b (Moves old new) → OnTold a b (λ s t. bytes_taken new ≤ bytes_taken old + length (unread_bytes s)) → OnTold a b (Goes old new)
told_goes a b old new forward moves read =
    OnTold-weaker (λ s t. Moves old new s t × (bytes_taken new ≤ bytes_taken old + length (unread_bytes s))) (Goes old new) a b (λ s t both. goes old new s t forward both.0 both.1)
    (OnTold-both (Moves old new) (λ s t. bytes_taken new ≤ bytes_taken old + length (unread_bytes s)) a b moves read)

ended_size : (old new : Scan) (s t : Held) → Goes old new s t → unread_bytes t ≡ [] → bytes_taken new ≤ max_file_bytes → size old s ≤ longest_file
ended_size old new s t goes ended within = let none : length (unread_bytes t) ≡ 0 = ap length ended in omega (arith, goes.size, none, within)

pub found_block : (a b : Option Held) (old new : Scan) (before now : ℕ) (found : Option Block) → OnTold a b (Goes old new) → bytes_taken new ≤ max_file_bytes
    → IfSome found (λ block. OnTold a b (λ s t. frames_left old s ≡ block ∷ frames_left new t))
    → IfNone found (OnTold a b (λ s t. (frames_left old s ≡ []) × (unread_bytes t ≡ [])))
    → OnTold a b (NextBlock old new before now (Ok found))
found_block a b old new before now (Some block) goes within some none =
    OnTold-weaker (λ s t. Goes old new s t × (frames_left old s ≡ block ∷ frames_left new t)) (NextBlock old new before now (Ok (Some block))) a b
    (λ s t both. record { goes = both.0; next = both.1 })
    (OnTold-both (Goes old new) (λ s t. frames_left old s ≡ block ∷ frames_left new t) a b goes some)
found_block a b old new before now None goes within some none =
    OnTold-weaker (λ s t. Goes old new s t × ((frames_left old s ≡ []) × (unread_bytes t ≡ []))) (NextBlock old new before now (Ok None)) a b
    (λ s t both. record { goes = both.0; next = (both.1.0, ended_size old new s t both.0 both.1.1 within) })
    (OnTold-both (Goes old new) (λ s t. (frames_left old s ≡ []) × (unread_bytes t ≡ [])) a b goes none)

pub no_block : (a b : Option Held) (old new : Scan) (before now : ℕ) → OnTold a b (Goes old new) → OnTold a b (NextBlock old new before now (Err NoMemory))
no_block a b old new before now = OnTold-weaker (Goes old new) (NextBlock old new before now (Err NoMemory)) a b (λ s t goes. record { goes = goes; next = tt })

pub failed_block : (a b : Option Held) (old new : Scan) (before now : ℕ) → Rose before now → OnTold a b (Goes old new) → OnTold a b (NextBlock old new before now (Err (Replied says.HostFault)))
failed_block a b old new before now rose = OnTold-weaker (Goes old new) (NextBlock old new before now (Err (Replied says.HostFault))) a b (λ s t goes. record { goes = goes; next = inr (refl, rose) })

pub long_block : (a b : Option Held) (old new : Scan) (before now : ℕ) → OnTold a b (Goes old new) → OnTold a b (λ s t. max_file_bytes < bytes_taken old + length (unread_bytes s)) → OnTold a b (NextBlock old new before now (Err (Replied says.FileTooLong)))
long_block a b old new before now goes long =
    OnTold-weaker (λ s t. Goes old new s t × (max_file_bytes < bytes_taken old + length (unread_bytes s))) (NextBlock old new before now (Err (Replied says.FileTooLong))) a b
    (λ s t both. record { goes = both.0; next = inl (refl, both.1) })
    (OnTold-both (Goes old new) (λ s t. max_file_bytes < bytes_taken old + length (unread_bytes s)) a b goes long)

-- ---- what a reply answers

too_long : (n : ℕ) (meant : Result Folded FoldRefused) (rose : Type 0) → longest_file < n → IsReply n meant rose says.FileTooLong
too_long n (Ok folded) rose long = inl (inr (refl, long))
too_long n (Err why) rose long = inl (inr (refl, long))

stopped_scan : (n : ℕ) (meant : Result Folded FoldRefused) (rose : Type 0) (ending : FoldEnd) → StopsScan n rose ending → Replies ending (IsReply n meant rose)
stopped_scan n meant rose NoMemory stops = tt
stopped_scan n meant rose (Replied reply) (inl long) = subst (IsReply n meant rose) (sym long.0) (too_long n meant rose long.1)
stopped_scan n meant rose (Replied reply) (inr failed) = inr failed

refused : (n : ℕ) (meant : Result Folded FoldRefused) (rose : Type 0) (ending : FoldEnd) → EndsFold meant ending → Replies ending (IsReply n meant rose)
refused n meant rose NoMemory ends = tt
refused n meant rose (Replied reply) ends = subst (λ (m : Result Folded FoldRefused). IsReply n m rose reply) (sym ends.1) (inl (inl ends.2))

-- ---- one more block

with_none : (limit : ℕ) (folded : Folded) → with_blocks limit folded [] ≡ Ok folded
unfolding with_blocks
with_none limit folded = refl

with_more : (limit : ℕ) (folded : Folded) (block : Block) (blocks : List Block) → with_blocks limit folded (block ∷ blocks) ≡ and_on (with_block limit folded block) (λ next. with_blocks limit next blocks)
unfolding with_blocks
with_more limit folded block blocks = refl

-- so far: the host's files are the same, and what is left to fold gives what is to be given
pub record Going (limit : ℕ) (first now : Folded) (old new : Scan) (s t : Held) : Type 0 where
  pub goes : Goes old new s t
  pub rest : with_blocks limit first (frames_left old s) ≡ with_blocks limit now (frames_left new t)

pub Going-none : (a : Option Held) (limit : ℕ) (first : Folded) (scan : Scan) → OnTold a a (Going limit first first scan scan)
Going-none a limit first scan = OnTold-same (Going limit first first scan scan) a (λ s. record { goes = record { files = refl; size = refl }; rest = refl })

Goes-then : (old mid new : Scan) (s t u : Held) → Goes old mid s t → Goes mid new t u → Goes old new s u
Goes-then old mid new s t u first second = record { files = second.files ∙ first.files; size = second.size ∙ first.size }

-- what the rest is, where the next block is this
next_rest : (limit : ℕ) (first now : Folded) (old mid new : Scan) (block : Block) (s t u : Held) → Going limit first now old mid s t → frames_left mid t ≡ block ∷ frames_left new u
    → with_blocks limit first (frames_left old s) ≡ and_on (with_block limit now block) (λ next. with_blocks limit next (frames_left new u))
next_rest limit first now old mid new block s t u going is = going.rest ∙ ap (with_blocks limit now) is ∙ with_more limit now block (frames_left new u)

pub Going-more : (a b c : Option Held) (limit : ℕ) (first now next : Folded) (old mid new : Scan) (block : Block) (before after : ℕ) → with_block limit now block ≡ Ok next
    → OnTold a b (Going limit first now old mid) → OnTold b c (NextBlock mid new before after (Ok (Some block))) → OnTold a c (Going limit first next old new)
Going-more a b c limit first now next old mid new block before after is =
    OnTold-then (Going limit first now old mid) (NextBlock mid new before after (Ok (Some block))) (Going limit first next old new) a b c (λ s t u going found. record {
      goes = Goes-then old mid new s t u going.goes found.goes;
      rest = next_rest limit first now old mid new block s t u going found.next ∙ ap (λ (r : Result Folded FoldRefused). and_on r (λ f. with_blocks limit f (frames_left new u))) is;
    })

-- ---- ways to end

pub rest_done : (A : Type 0) (a b c : Option Held) (limit : ℕ) (first now : Folded) (old mid new : Scan) (from before after : ℕ) (done : A)
    → OnTold a b (Going limit first now old mid) → OnTold b c (NextBlock mid new before after (Ok None)) → OnTold a c (FoldsRest {A = A} limit first now old from after (Ok done))
rest_done A a b c limit first now old mid new from before after done =
    OnTold-then (Going limit first now old mid) (NextBlock mid new before after (Ok None)) (FoldsRest {A = A} limit first now old from after (Ok done)) a b c (λ s t u going ended. record {
      files = ended.goes.files ∙ going.goes.files;
      rest = (going.rest ∙ ap (with_blocks limit now) ended.next.0 ∙ with_none limit now, omega (arith, going.goes.size, ended.next.1));
    })

Rises : (from before after : ℕ) → from ≤ before → Rose before after → Rose from after
Rises from before after later rose = Rose-earlier from before after later rose

earlier_stop : (n : ℕ) (from before after : ℕ) (ending : FoldEnd) → from ≤ before → StopsScan n (Rose before after) ending → StopsScan n (Rose from after) ending
earlier_stop n from before after NoMemory later stops = tt
earlier_stop n from before after (Replied reply) later (inl long) = inl long
earlier_stop n from before after (Replied reply) later (inr failed) = inr (failed.0, Rises from before after later failed.1)

pub rest_stopped : (A : Type 0) (a b c : Option Held) (limit : ℕ) (first now last : Folded) (old mid new : Scan) (from before after : ℕ) (ending : FoldEnd) → from ≤ before
    → OnTold a b (Going limit first now old mid) → OnTold b c (NextBlock mid new before after (Err ending)) → OnTold a c (FoldsRest {A = A} limit first last old from after (Err ending))
rest_stopped A a b c limit first now last old mid new from before after ending later =
    OnTold-then (Going limit first now old mid) (NextBlock mid new before after (Err ending)) (FoldsRest {A = A} limit first last old from after (Err ending)) a b c (λ s t u going stopped. record {
      files = stopped.goes.files ∙ going.goes.files;
      rest = stopped_scan (size old s) (with_blocks limit first (frames_left old s)) (Rose from after) ending (earlier_stop (size old s) from before after ending later (subst (λ (n : ℕ). StopsScan n (Rose before after) ending) going.goes.size stopped.next));
    })

and_on_ends : (meant : Result Folded FoldRefused) (next : Folded → Result Folded FoldRefused) (ending : FoldEnd) → EndsFold meant ending → EndsFold (and_on meant next) ending
and_on_ends meant next NoMemory ends = tt
and_on_ends meant next (Replied reply) ends = (ends.0, ap (λ (r : Result Folded FoldRefused). and_on r next) ends.1, ends.2)

pub rest_refused : (A : Type 0) (a b c : Option Held) (limit : ℕ) (first now last : Folded) (old mid new : Scan) (block : Block) (from before after : ℕ) (ending : FoldEnd) → EndsFold (with_block limit now block) ending
    → OnTold a b (Going limit first now old mid) → OnTold b c (NextBlock mid new before after (Ok (Some block))) → OnTold a c (FoldsRest {A = A} limit first last old from after (Err ending))
rest_refused A a b c limit first now last old mid new block from before after ending ends =
    OnTold-then (Going limit first now old mid) (NextBlock mid new before after (Ok (Some block))) (FoldsRest {A = A} limit first last old from after (Err ending)) a b c (λ s t u going found. record {
      files = found.goes.files ∙ going.goes.files;
      rest = refused (size old s) (with_blocks limit first (frames_left old s)) (Rose from after) ending
          (subst (λ (m : Result Folded FoldRefused). EndsFold m ending) (sym (next_rest limit first now old mid new block s t u going found.next))
          (and_on_ends (with_block limit now block) (λ f. with_blocks limit f (frames_left new u)) ending ends));
    })

-- ---- the whole input

folding_first : (limit : ℕ) (rules : Rules) (block : Block) (blocks : List Block) → fold_of limit rules (block ∷ blocks) ≡ and_on (with_first limit (nothing_folded rules) block) (λ next. with_blocks limit next blocks)
folding_first limit rules block blocks = split (same_hash (hash_of_header block.header) genesis_hash)
  where
    split : (b : Bool) → cond b (with_blocks limit (record (nothing_folded rules) { frames = 1 }) blocks) (with_blocks limit (nothing_folded rules) (block ∷ blocks))
        ≡ and_on (cond b (Ok (record (nothing_folded rules) { frames = 1 })) (with_block limit (nothing_folded rules) block)) (λ next. with_blocks limit next blocks)
    split true = refl
    split false = with_more limit (nothing_folded rules) block blocks

-- a scan that stands before the first byte
pub record IsStart (scan : Scan) : Type 0 where
  pub frames : (held : Held) → frames_left scan held ≡ frames (unread_bytes held) None
  pub bytes_taken : bytes_taken scan ≡ 0

whole_size : (scan : Scan) (s : Held) → IsStart scan → size scan s ≡ length (unread_bytes s)
whole_size scan s start = let none = start.bytes_taken in omega (arith, none)

pub input_empty : (a b : Option Held) (limit : ℕ) (rules : Rules) (scan new : Scan) (before after : ℕ) (folded : Folded) → folded ≡ nothing_folded rules → IsStart scan
    → OnTold a b (NextBlock scan new before after (Ok None)) → OnTold a b (FoldsInput limit rules before after (Ok (folded_reply folded)))
input_empty a b limit rules scan new before after folded first start =
    OnTold-weaker (NextBlock scan new before after (Ok None)) (FoldsInput limit rules before after (Ok (folded_reply folded))) a b (λ s t ended. record {
      files = ended.goes.files;
      reply = subst (λ (bs : List Block). IsReply (length (unread_bytes s)) (fold_of limit rules bs) (Rose before after) (folded_reply folded)) (sym ended.next.0 ∙ start.frames s)
          (inl (inl (ap folded_reply first, let small = ended.next.1 in let same = whole_size scan s start in omega (arith, small, same))));
    })

pub input_stopped : (a b : Option Held) (limit : ℕ) (rules : Rules) (scan new : Scan) (before after : ℕ) (ending : FoldEnd) → IsStart scan
    → OnTold a b (NextBlock scan new before after (Err ending)) → OnTold a b (FoldsInput limit rules before after (Err ending))
input_stopped a b limit rules scan new before after ending start =
    OnTold-weaker (NextBlock scan new before after (Err ending)) (FoldsInput limit rules before after (Err ending)) a b (λ s t stopped. record {
      files = stopped.goes.files;
      reply = stopped_scan (length (unread_bytes s)) (folding_of limit rules (unread_bytes s)) (Rose before after) ending (subst (λ (n : ℕ). StopsScan n (Rose before after) ending) (whole_size scan s start) stopped.next);
    })

-- what is meant, where the first block is this
meant_first : (limit : ℕ) (rules : Rules) (scan new : Scan) (block : Block) (s t : Held) → IsStart scan → frames_left scan s ≡ block ∷ frames_left new t
    → folding_of limit rules (unread_bytes s) ≡ and_on (with_first limit (nothing_folded rules) block) (λ next. with_blocks limit next (frames_left new t))
meant_first limit rules scan new block s t start is = ap (fold_of limit rules) (sym (start.frames s) ∙ is) ∙ folding_first limit rules block (frames_left new t)

pub input_refused : (a b : Option Held) (limit : ℕ) (rules : Rules) (scan new : Scan) (block : Block) (before after : ℕ) (ending : FoldEnd) → IsStart scan → EndsFold (with_first limit (nothing_folded rules) block) ending
    → OnTold a b (NextBlock scan new before after (Ok (Some block))) → OnTold a b (FoldsInput limit rules before after (Err ending))
input_refused a b limit rules scan new block before after ending start ends =
    OnTold-weaker (NextBlock scan new before after (Ok (Some block))) (FoldsInput limit rules before after (Err ending)) a b (λ s t found. record {
      files = found.goes.files;
      reply = refused (length (unread_bytes s)) (folding_of limit rules (unread_bytes s)) (Rose before after) ending
          (subst (λ (m : Result Folded FoldRefused). EndsFold m ending) (sym (meant_first limit rules scan new block s t start found.next))
          (and_on_ends (with_first limit (nothing_folded rules) block) (λ f. with_blocks limit f (frames_left new t)) ending ends));
    })

-- what the rest gives is what the whole gives
after_first : (limit : ℕ) (rules : Rules) (scan new : Scan) (block : Block) (next : Folded) (s t : Held) → IsStart scan → with_first limit (nothing_folded rules) block ≡ Ok next → frames_left scan s ≡ block ∷ frames_left new t
    → folding_of limit rules (unread_bytes s) ≡ with_blocks limit next (frames_left new t)
after_first limit rules scan new block next s t start added is =
    meant_first limit rules scan new block s t start is ∙ ap (λ (r : Result Folded FoldRefused). and_on r (λ f. with_blocks limit f (frames_left new t))) added

earlier_reply : (n : ℕ) (meant : Result Folded FoldRefused) (from before after : ℕ) (reply : Reply) → from ≤ before → IsReply n meant (Rose before after) reply → IsReply n meant (Rose from after) reply
earlier_reply n meant from before after reply later (inl is) = inl is
earlier_reply n meant from before after reply later (inr failed) = inr (failed.0, Rises from before after later failed.1)

earlier_ending : (n : ℕ) (meant : Result Folded FoldRefused) (from before after : ℕ) (ending : FoldEnd) → from ≤ before → Replies ending (IsReply n meant (Rose before after)) → Replies ending (IsReply n meant (Rose from after))
earlier_ending n meant from before after NoMemory later is = tt
earlier_ending n meant from before after (Replied reply) later is = earlier_reply n meant from before after reply later is

pub input_ended : (A : Type 0) (a b c : Option Held) (limit : ℕ) (rules : Rules) (scan new : Scan) (block : Block) (next last : Folded) (from before after : ℕ) (ending : FoldEnd) → from ≤ before → IsStart scan
    → with_first limit (nothing_folded rules) block ≡ Ok next
    → OnTold a b (NextBlock scan new from before (Ok (Some block))) → OnTold b c (FoldsRest {A = A} limit next last new before after (Err ending)) → OnTold a c (FoldsInput limit rules from after (Err ending))
input_ended A a b c limit rules scan new block next last from before after ending later start added =
    OnTold-then (NextBlock scan new from before (Ok (Some block))) (FoldsRest {A = A} limit next last new before after (Err ending)) (FoldsInput limit rules from after (Err ending)) a b c (λ s t u found rest. record {
      files = rest.files ∙ found.goes.files;
      reply = subst (λ (n : ℕ). Replies ending (IsReply n (folding_of limit rules (unread_bytes s)) (Rose from after))) (found.goes.size ∙ whole_size scan s start)
          (subst (λ (m : Result Folded FoldRefused). Replies ending (IsReply (size new t) m (Rose from after))) (sym (after_first limit rules scan new block next s t start added found.next))
          (earlier_ending (size new t) (with_blocks limit next (frames_left new t)) from before after ending later rest.rest));
    })

pub input_folded : (A : Type 0) (a b c : Option Held) (limit : ℕ) (rules : Rules) (scan new : Scan) (block : Block) (next last : Folded) (from before after : ℕ) (done : A) → IsStart scan
    → with_first limit (nothing_folded rules) block ≡ Ok next
    → OnTold a b (NextBlock scan new from before (Ok (Some block))) → OnTold b c (FoldsRest {A = A} limit next last new before after (Ok done)) → OnTold a c (FoldsInput limit rules from after (Ok (folded_reply last)))
input_folded A a b c limit rules scan new block next last from before after done start added =
    OnTold-then (NextBlock scan new from before (Ok (Some block))) (FoldsRest {A = A} limit next last new before after (Ok done)) (FoldsInput limit rules from after (Ok (folded_reply last))) a b c (λ s t u found rest. record {
      files = rest.files ∙ found.goes.files;
      reply = subst (λ (m : Result Folded FoldRefused). IsReply (length (unread_bytes s)) m (Rose from after) (folded_reply last)) (sym (after_first limit rules scan new block next s t start added found.next ∙ rest.rest.0))
          (inl (inl (refl, let small = rest.rest.1 in let same = found.goes.size in let whole = whole_size scan s start in omega (arith, small, same, whole))));
    })

-- ---- a file by its name

opened_get : (name : List ℕ) (s t : Held) → Opens {E = Unit {0}} name (Ok tt) s t → get s.files name ≡ Some (unread_bytes t)
opened_get name s t opened = held (get s.files name) opened.0 ∙ ap (λ (h : Held). Some (unread_bytes h)) (sym opened.1)
  where
    held : (found : Option (List ℕ)) → is_some found ≡ true → found ≡ Some (unwrap_or found [])
    held None is = absurd (false≢true is)
    held (Some bytes) is = refl

missing : (limit : ℕ) (rules : Rules) (rose : Type 0) (found : Option (List ℕ)) → (is_some found ≡ false) ⊎ rose → FileIs limit rules found rose says.HostFault
missing limit rules rose None cause = refl
missing limit rules rose (Some bytes) (inl none) = absurd (false≢true (sym none))
missing limit rules rose (Some bytes) (inr rose_now) = inr (refl, rose_now)
