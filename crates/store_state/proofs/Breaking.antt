-- An image stands for nothing exactly where some place of it is broken.
use Rattle.std.proofs.Common.{◌≡◌, ◌⊎◌, inl, inr, ⊎_elim, ℕ, Bool, true, false, List, [], ◌∷◌, ◌++◌, Option, Some, None, Ok, Err, refl, sym, ap, subst, ◌∙◌}
use Rattle.std.specs.Prelude.{Result, IsNone}
use Rattle.std.specs.Result.{result_ok}
use Rattle.std.specs.List.{list_all}
use Rattle.disk_model.specs.Disk.{Image}
use Rattle.batch_log.specs.Records.{log}
use Rattle.base_types.specs.Views.{BrokenPlace}
use Rattle.base_types.specs.declared.program.Rules.{Rules}
use Rattle.block_codec.specs.declared.block.Header.{Header}
use Rattle.chain_model.specs.Tree.{Tree}
use Rattle.block_codec.specs.Genesis.{genesis_hash}
use Rattle.chain_model.specs.HeaderRules.{first_tree, tree_with}
use Rattle.coin_store.specs.Batches.{Batch}
use Rattle.coin_store.specs.Reading.{batch_of}
use Rattle.block_store.specs.Headers.{headers_of}
use Rattle.store_state.specs.State.{Record, Read, header_file, body_file, coin_file, first_key, StoreState, StoredBody, stored_body, settled_batch, tips_of, is_in, is_reached, whole_log, records_of, each_of, each_passes, there_or_broken, tree_after, last_reached, read_tree, read_bodies, read_batches, read_store, first_rules, rules_in}
use Rattle.store_state.specs.Breaks.{Records, IsBroken, DamagedLog, NoHeaders, NoBody, NoBatch, RefusedHeader, UnknownBody, UnknownTip, Unreached, BreaksAre}
use Rattle.store_state.proofs.EachRecord.{ok_parts, err_parts, bind_ok, there_ok, there_err, true_ok, true_err, each_err, each_split, each_first, each_stood, passes_err, passes_ok, passes_each}

-- ---- logs

log_err : (file : ℕ) (r : Result (List (List ℕ)) ℕ) (place : BrokenPlace) → whole_log file r ≡ Err place → (gate : ℕ) × (r ≡ Err gate) × (place ≡ record { file = file; at = gate })
log_err file (Ok payloads) place e = absurd cc
log_err file (Err gate) place e = (gate, refl, let s : place ≡ record { file = file; at = gate } = cc in s)

log_stuck : (file gate : ℕ) (r : Result (List (List ℕ)) ℕ) → r ≡ Err gate → whole_log file r ≡ Err (record { file = file; at = gate })
log_stuck file gate r e = ap (whole_log file) e

-- no records say nothing, and nothing is said by no records
none_left : {A : Type 0} (file : ℕ) (read : List ℕ → Option A) (records : Records) → each_of file read records ≡ Ok [] → records ≡ []
none_left file read [] e = refl
none_left file read (r ∷ rs) e = let f = each_first file read r rs [] e in absurd cc

-- ---- trees

-- the header lists so far, and one that the tree refuses
pub record StopsAt (limit : ℕ) (from : Tree) (lists : List (Record (List Header))) (place : BrokenPlace) : Type 0 where
  pub before : List (Record (List Header))
  pub one : Record (List Header)
  pub after : List (Record (List Header))
  pub tree : Tree
  pub is : lists ≡ before ++ one ∷ after
  pub grows : tree_after limit from before ≡ Ok tree
  pub stops : tree_with limit tree one.1 ≡ None
  pub names : place ≡ record { file = header_file; at = one.0 }

tree_err : (limit : ℕ) (from : Tree) (lists : List (Record (List Header))) (place : BrokenPlace) → tree_after limit from lists ≡ Err place → StopsAt limit from lists place
unfolding tree_after
tree_err limit from [] place e = absurd cc
tree_err limit from (one ∷ others) place e = ⊎_elim
    (λ first. let f = there_err header_file one.0 (tree_with limit from one.1) place first in
    record { before = []; one = one; after = others; tree = from; is = refl; grows = refl; stops = f.0; names = f.1 })
    (λ rest. let s = tree_err limit rest.0 others place rest.2 in
    record {
      before = one ∷ s.before;
      one = s.one;
      after = s.after;
      tree = s.tree;
      is = ap (λ (rs : List (Record (List Header))). one ∷ rs) s.is;
      grows = bind_ok (there_or_broken header_file one.0 (tree_with limit from one.1)) _ rest.0 s.tree rest.1 s.grows;
      stops = s.stops;
      names = s.names;
    })
    (err_parts (there_or_broken header_file one.0 (tree_with limit from one.1)) _ place e)

tree_split : (limit : ℕ) (from : Tree) (before : List (Record (List Header))) (one : Record (List Header)) (after : List (Record (List Header))) (mid all : Tree)
    → tree_after limit from before ≡ Ok mid → tree_after limit from (before ++ one ∷ after) ≡ Ok all → (next : Tree) × (tree_with limit mid one.1 ≡ Some next)
unfolding tree_after
tree_split limit from [] one after mid all a b =
    let p = ok_parts (there_or_broken header_file one.0 (tree_with limit from one.1)) _ all b in
    let same : from ≡ mid = cc in
    (p.0, subst (λ (t : Tree). tree_with limit t one.1 ≡ Some p.0) same (there_ok header_file one.0 (tree_with limit from one.1) p.0 p.1))
tree_split limit from (x ∷ xs) one after mid all a b =
    let p = ok_parts (there_or_broken header_file x.0 (tree_with limit from x.1)) _ mid a in
    let q = ok_parts (there_or_broken header_file x.0 (tree_with limit from x.1)) _ all b in
    let same : p.0 ≡ q.0 = same_ok (there_or_broken header_file x.0 (tree_with limit from x.1)) p.0 q.0 p.1 q.1 in
    tree_split limit q.0 xs one after mid all (subst (λ (t : Tree). tree_after limit t xs ≡ Ok mid) same p.2) q.2
  where
    same_ok : {A : Type 0} (r : Read A) (a b : A) → r ≡ Ok a → r ≡ Ok b → a ≡ b
    same_ok (Ok x) a b e f = let s : x ≡ a = cc in let t : x ≡ b = cc in sym s ∙ t
    same_ok (Err p) a b e f = absurd cc

abbrev pub at_batch : List ℕ → Option Batch
at_batch payload = settled_batch (batch_of first_key payload)

-- ---- what is broken where the reading stops

-- where a record of headers stands, the first rules hold
some_stored : (given : Rules) (before : Records) (one : Record (List ℕ)) (after : Records) → rules_in given (before ++ one ∷ after) ≡ first_rules
some_stored given [] one after = refl
some_stored given (x ∷ before) one after = refl

module _ (limit : ℕ) (given : Rules) (image : Image) where
  abbrev Broken : BrokenPlace → Type 0
  Broken place = IsBroken limit given image place

  Here : ℕ → ℕ → BrokenPlace
  Here file at = record { file = file; at = at }

  damaged : (file : ℕ) → (file ≡ header_file) ⊎ (file ≡ body_file) ⊎ (file ≡ coin_file) → (place : BrokenPlace) → records_of image file ≡ Err place → Broken place
  damaged file one_of place e =
      let l = log_err file (log (image file)) place e in
      subst Broken (sym l.2) (DamagedLog file l.0 one_of l.1)

  -- the records before a header list say the lists before it
  tree_breaks : (place : BrokenPlace) → read_tree limit given image ≡ Err place → Broken place
  tree_breaks place e = ⊎_elim
      (λ log. damaged header_file (inl refl) place log)
      (λ rest. ⊎_elim
      (λ stuck. let s = each_err header_file headers_of rest.0 place stuck in
      subst Broken (sym s.holds.1) (NoHeaders s.before s.after s.one.0 s.one.1 (rest.1 ∙ ap (λ (rs : Records). Ok rs) s.is) s.holds.0))
      (λ lists. refused rest.0 rest.1 lists.0 lists.1 place (tree_err limit (first_tree (rules_in given rest.0)) lists.0 place lists.2))
      (err_parts (each_of header_file headers_of rest.0) _ place rest.2))
      (err_parts (records_of image header_file) _ place e)
    where
      refused : (records : Records) → records_of image header_file ≡ Ok records → (lists : List (Record (List Header))) → each_of header_file headers_of records ≡ Ok lists
          → (place : BrokenPlace) → StopsAt limit (first_tree (rules_in given records)) lists place → Broken place
      refused records is lists say place s =
          let t = each_stood header_file headers_of records s.before s.one s.after (say ∙ ap (λ (l : List (Record (List Header))). Ok l) s.is) in
          subst Broken (sym s.names) (RefusedHeader t.0 t.2 s.one.0 t.1 s.before s.tree s.one.1 (is ∙ ap (λ (rs : Records). Ok rs) t.3) t.4
          (subst (λ (rules : Rules). tree_after limit (first_tree rules) s.before ≡ Ok s.tree) (ap (rules_in given) t.3 ∙ some_stored given t.0 (s.one.0, t.1) t.2) s.grows) t.6 s.stops)

  -- the bodies
  bodies_break : (tree : Tree) → read_tree limit given image ≡ Ok tree → (place : BrokenPlace) → read_bodies tree image ≡ Err place → Broken place
  bodies_break tree tree_with place e = ⊎_elim
      (λ log. damaged body_file (inr (inl refl)) place log)
      (λ rest. ⊎_elim
      (λ stuck. let s = each_err body_file stored_body rest.0 place stuck in
      subst Broken (sym s.holds.1) (NoBody s.before s.after s.one.0 s.one.1 (rest.1 ∙ ap (λ (rs : Records). Ok rs) s.is) s.holds.0))
      (λ bodies. ⊎_elim
      (λ unknown. let s = passes_err body_file (λ body. is_in tree body.hash) bodies.0 place unknown in
      let t = each_stood body_file stored_body rest.0 s.before s.one s.after (bodies.1 ∙ ap (λ (l : List (Record StoredBody)). Ok l) s.is) in
      subst Broken (sym s.holds.1) (UnknownBody t.0 t.2 s.one.0 t.1 tree s.one.1 (rest.1 ∙ ap (λ (rs : Records). Ok rs) t.3) tree_with t.6 s.holds.0))
      (λ known. absurd cc)
      (err_parts (each_passes body_file (λ body. is_in tree body.hash) bodies.0) _ place bodies.2))
      (err_parts (each_of body_file stored_body rest.0) _ place rest.2))
      (err_parts (records_of image body_file) _ place e)

  -- the last of several batches isn't reached
  pub record IsLast (tree : Tree) (bodies : List StoredBody) (batches : List (Record Batch)) (place : BrokenPlace) : Type 0 where
    pub before : List (Record Batch)
    pub last : Record Batch
    pub is : batches ≡ before ++ last ∷ []
    pub unreached : list_all (is_reached tree bodies genesis_hash) (tips_of last.1.marker) ≡ false
    pub names : place ≡ record { file = coin_file; at = last.0 }

  last_err : (tree : Tree) (bodies : List StoredBody) (batches : List (Record Batch)) (place : BrokenPlace) → last_reached tree bodies genesis_hash batches ≡ Err place → IsLast tree bodies batches place
  unfolding last_reached
  last_err tree bodies [] place e = absurd cc
  last_err tree bodies (last ∷ []) place e =
      let t = true_err coin_file last.0 (list_all (is_reached tree bodies genesis_hash) (tips_of last.1.marker)) (last ∷ []) place e in
      record { before = []; last = last; is = refl; unreached = t.0; names = t.1 }
  last_err tree bodies (one ∷ next ∷ others) place e = ⊎_elim
      (λ behind. let s = last_err tree bodies (next ∷ others) place behind in
      record { before = one ∷ s.before; last = s.last; is = ap (λ (l : List (Record Batch)). one ∷ l) s.is; unreached = s.unreached; names = s.names })
      (λ more. absurd cc)
      (err_parts (last_reached tree bodies genesis_hash (next ∷ others)) _ place e)

  batches_break : (tree : Tree) → read_tree limit given image ≡ Ok tree → (bodies : List StoredBody) → read_bodies tree image ≡ Ok bodies
      → (place : BrokenPlace) → read_batches tree bodies image ≡ Err place → Broken place
  batches_break tree tree_with bodies stored place e = ⊎_elim
      (λ log. damaged coin_file (inr (inr refl)) place log)
      (λ rest. ⊎_elim
      (λ stuck. let s = each_err coin_file at_batch rest.0 place stuck in
      subst Broken (sym s.holds.1) (NoBatch s.before s.after s.one.0 s.one.1 (rest.1 ∙ ap (λ (rs : Records). Ok rs) s.is) s.holds.0))
      (λ batches. ⊎_elim
      (λ unknown. let s = passes_err coin_file (λ batch. list_all (is_in tree) (tips_of batch.marker)) batches.0 place unknown in
      let t = each_stood coin_file at_batch rest.0 s.before s.one s.after (batches.1 ∙ ap (λ (l : List (Record Batch)). Ok l) s.is) in
      subst Broken (sym s.holds.1) (UnknownTip t.0 t.2 s.one.0 t.1 tree s.one.1 (rest.1 ∙ ap (λ (rs : Records). Ok rs) t.3) tree_with t.6 s.holds.0))
      (λ known. ⊎_elim
      (λ unreached. let same = passes_ok coin_file (λ batch. list_all (is_in tree) (tips_of batch.marker)) batches.0 known.0 known.1 in
      let s = last_err tree bodies known.0 place unreached in
      let t = each_stood coin_file at_batch rest.0 s.before s.last [] (batches.1 ∙ ap (λ (l : List (Record Batch)). Ok l) (sym same ∙ s.is)) in
      let none = none_left coin_file at_batch t.2 t.5 in
      subst Broken (sym s.names) (Unreached t.0 s.last.0 t.1 tree bodies s.last.1 (rest.1 ∙ ap (λ (rs : Records). Ok rs) (t.3 ∙ ap (λ (l : Records). t.0 ++ (s.last.0, t.1) ∷ l) none)) tree_with stored t.6 s.unreached))
      (λ reached. absurd cc)
      (err_parts (last_reached tree bodies genesis_hash known.0) _ place known.2))
      (err_parts (each_passes coin_file (λ batch. list_all (is_in tree) (tips_of batch.marker)) batches.0) _ place batches.2))
      (err_parts (each_of coin_file at_batch rest.0) _ place rest.2))
      (err_parts (records_of image coin_file) _ place e)

  pub store_breaks : (place : BrokenPlace) → read_store limit given image ≡ Err place → Broken place
  store_breaks place e = ⊎_elim
      (λ tree. tree_breaks place tree)
      (λ tree. ⊎_elim
      (λ bodies. bodies_break tree.0 tree.1 place bodies)
      (λ bodies. ⊎_elim
      (λ batches. batches_break tree.0 tree.1 bodies.0 bodies.1 place batches)
      (λ all. absurd cc)
      (err_parts (read_batches tree.0 bodies.0 image) _ place bodies.2))
      (err_parts (read_bodies tree.0 image) _ place tree.2))
      (err_parts (read_tree limit given image) _ place e)

-- ---- nothing is read where something is broken

same_ok : {A : Type 0} (r : Read A) (a b : A) → r ≡ Ok a → r ≡ Ok b → a ≡ b
same_ok (Ok x) a b e f = let s : x ≡ a = cc in let t : x ≡ b = cc in sym s ∙ t
same_ok (Err p) a b e f = absurd cc

not_both : {A : Type 0} (r : Read A) (a : A) (place : BrokenPlace) → r ≡ Ok a → r ≡ Err place → ⊥
not_both (Ok x) a place e f = cc
not_both (Err p) a place e f = cc

some_of : {A : Type 0} (o : Option A) (a b : A) → o ≡ Some a → o ≡ Some b → a ≡ b
some_of None a b e f = absurd cc
some_of (Some x) a b e f = let s : x ≡ a = cc in let t : x ≡ b = cc in sym s ∙ t

not_some : {A : Type 0} (o : Option A) (a : A) → o ≡ Some a → o ≡ None → ⊥
not_some None a e f = cc
not_some (Some x) a e f = cc

not_true : (b : Bool) → b ≡ true → b ≡ false → ⊥
not_true true e f = cc
not_true false e f = cc

module _ {A : Type 0} (file : ℕ) (read : List ℕ → Option A) where
  -- what a record in the middle says, with what those before it say
  middle : (before after : Records) (at : ℕ) (payload : List ℕ) (records : Records) (all : List (Record A)) → records ≡ before ++ (at, payload) ∷ after → each_of file read records ≡ Ok all
      → (first : List (Record A)) × (a : A) × (rest : List (Record A)) × (each_of file read before ≡ Ok first) × (read payload ≡ Some a) × (each_of file read after ≡ Ok rest) × (all ≡ first ++ (at, a) ∷ rest)
  middle before after at payload records all is e =
      let s = each_split file read before ((at, payload) ∷ after) all (ap (each_of file read) (sym is) ∙ e) in
      let f = each_first file read (at, payload) after s.1 s.3 in
      (s.0, f.0, f.1, s.2, f.2, f.3, s.4 ∙ ap (λ (l : List (Record A)). s.0 ++ l) f.4)

  no_form : (before after : Records) (at : ℕ) (payload : List ℕ) (records : Records) (all : List (Record A)) → records ≡ before ++ (at, payload) ∷ after → each_of file read records ≡ Ok all
      → read payload ≡ None → ⊥
  no_form before after at payload records all is e none = let m = middle before after at payload records all is e in not_some (read payload) m.1 m.4 none

none_said : {A : Type 0} (file : ℕ) (read : List ℕ → Option A) (rest : List (Record A)) → each_of file read [] ≡ Ok rest → rest ≡ []
unfolding each_of
none_said file read rest e = let s : [] ≡ rest = cc in sym s

last_ok : (tree : Tree) (bodies : List StoredBody) (xs : List (Record Batch)) (last : Record Batch) (all : List (Record Batch)) → last_reached tree bodies genesis_hash (xs ++ last ∷ []) ≡ Ok all
    → list_all (is_reached tree bodies genesis_hash) (tips_of last.1.marker) ≡ true
unfolding last_reached
last_ok tree bodies [] last all e = (true_ok coin_file last.0 (list_all (is_reached tree bodies genesis_hash) (tips_of last.1.marker)) (last ∷ []) all e).0
last_ok tree bodies (x ∷ []) last all e =
    let p = ok_parts (last_reached tree bodies genesis_hash (last ∷ [])) _ all e in
    last_ok tree bodies [] last p.0 p.1
last_ok tree bodies (x ∷ y ∷ xs) last all e =
    let p = ok_parts (last_reached tree bodies genesis_hash ((y ∷ xs) ++ last ∷ [])) _ all e in
    last_ok tree bodies (y ∷ xs) last p.0 p.1

-- what each part of a store that was read said
pub record Parts (limit : ℕ) (given : Rules) (image : Image) : Type 0 where
  pub headers : Records
  pub headers_are : records_of image header_file ≡ Ok headers
  pub lists : List (Record (List Header))
  pub lists_are : each_of header_file headers_of headers ≡ Ok lists
  pub tree : Tree
  pub grows : tree_after limit (first_tree (rules_in given headers)) lists ≡ Ok tree
  pub tree_is : read_tree limit given image ≡ Ok tree
  pub body_records : Records
  pub body_records_are : records_of image body_file ≡ Ok body_records
  pub bodies : List (Record StoredBody)
  pub bodies_are : each_of body_file stored_body body_records ≡ Ok bodies
  pub known : List (Record StoredBody)
  pub known_are : each_passes body_file (λ body. is_in tree body.hash) bodies ≡ Ok known
  pub stored : List StoredBody
  pub stored_are : read_bodies tree image ≡ Ok stored
  pub coin_records : Records
  pub coin_records_are : records_of image coin_file ≡ Ok coin_records
  pub batches : List (Record Batch)
  pub batches_are : each_of coin_file at_batch coin_records ≡ Ok batches
  pub named : List (Record Batch)
  pub named_are : each_passes coin_file (λ batch. list_all (is_in tree) (tips_of batch.marker)) batches ≡ Ok named
  pub reached : List (Record Batch)
  pub reached_are : last_reached tree stored genesis_hash named ≡ Ok reached

module _ (limit : ℕ) (given : Rules) (image : Image) where
  parts : (store : StoreState) → read_store limit given image ≡ Ok store → Parts limit given image
  parts store e =
      let t = ok_parts (read_tree limit given image) _ store e in
      let b = ok_parts (read_bodies t.0 image) _ store t.2 in
      let c = ok_parts (read_batches t.0 b.0 image) _ store b.2 in
      let t1 = ok_parts (records_of image header_file) _ t.0 t.1 in
      let t2 = ok_parts (each_of header_file headers_of t1.0) _ t.0 t1.2 in
      let b1 = ok_parts (records_of image body_file) _ b.0 b.1 in
      let b2 = ok_parts (each_of body_file stored_body b1.0) _ b.0 b1.2 in
      let b3 = ok_parts (each_passes body_file (λ body. is_in t.0 body.hash) b2.0) _ b.0 b2.2 in
      let c1 = ok_parts (records_of image coin_file) _ c.0 c.1 in
      let c2 = ok_parts (each_of coin_file at_batch c1.0) _ c.0 c1.2 in
      let c3 = ok_parts (each_passes coin_file (λ batch. list_all (is_in t.0) (tips_of batch.marker)) c2.0) _ c.0 c2.2 in
      let c4 = ok_parts (last_reached t.0 b.0 genesis_hash c3.0) _ c.0 c3.2 in
      record {
        headers = t1.0;
        headers_are = t1.1;
        lists = t2.0;
        lists_are = t2.1;
        tree = t.0;
        grows = t2.2;
        tree_is = t.1;
        body_records = b1.0;
        body_records_are = b1.1;
        bodies = b2.0;
        bodies_are = b2.1;
        known = b3.0;
        known_are = b3.1;
        stored = b.0;
        stored_are = b.1;
        coin_records = c1.0;
        coin_records_are = c1.1;
        batches = c2.0;
        batches_are = c2.1;
        named = c3.0;
        named_are = c3.1;
        reached = c4.0;
        reached_are = c4.1;
      }

  undamaged : (p : Parts limit given image) (file gate : ℕ) → (file ≡ header_file) ⊎ (file ≡ body_file) ⊎ (file ≡ coin_file) → log (image file) ≡ Err gate → ⊥
  undamaged p file gate (inl e) bad = not_both (records_of image header_file) p.headers _ p.headers_are (log_stuck header_file gate (log (image header_file)) (ap (λ (f : ℕ). log (image f)) (sym e) ∙ bad))
  undamaged p file gate (inr (inl e)) bad = not_both (records_of image body_file) p.body_records _ p.body_records_are (log_stuck body_file gate (log (image body_file)) (ap (λ (f : ℕ). log (image f)) (sym e) ∙ bad))
  undamaged p file gate (inr (inr e)) bad = not_both (records_of image coin_file) p.coin_records _ p.coin_records_are (log_stuck coin_file gate (log (image coin_file)) (ap (λ (f : ℕ). log (image f)) (sym e) ∙ bad))

  pub unbroken : (p : Parts limit given image) (place : BrokenPlace) → IsBroken limit given image place → ⊥
  unbroken p place (DamagedLog file gate one_of bad) = undamaged p file gate one_of bad
  unbroken p place (NoHeaders before after at payload has none) =
      no_form header_file headers_of before after at payload p.headers p.lists (same_ok (records_of image header_file) _ _ p.headers_are has) p.lists_are none
  unbroken p place (NoBody before after at payload has none) =
      no_form body_file stored_body before after at payload p.body_records p.bodies (same_ok (records_of image body_file) _ _ p.body_records_are has) p.bodies_are none
  unbroken p place (NoBatch before after at payload has none) =
      no_form coin_file at_batch before after at payload p.coin_records p.batches (same_ok (records_of image coin_file) _ _ p.coin_records_are has) p.batches_are none
  unbroken p place (RefusedHeader before after at payload lists tree headers has says grows reads stops) =
      let m = middle header_file headers_of before after at payload p.headers p.lists (same_ok (records_of image header_file) _ _ p.headers_are has) p.lists_are in
      let first = same_ok (each_of header_file headers_of before) lists m.0 says m.3 in
      let rules : rules_in given p.headers ≡ first_rules =
      ap (rules_in given) (same_ok (records_of image header_file) _ _ p.headers_are has) ∙ some_stored given before (at, payload) after in
      let next = tree_split limit (first_tree first_rules) lists (at, m.1) m.2 tree p.tree grows
      (ap (tree_after limit (first_tree first_rules)) (ap (λ (l : List (Record (List Header))). l ++ (at, m.1) ∷ m.2) first ∙ sym m.6)
      ∙ subst (λ (r : Rules). tree_after limit (first_tree r) p.lists ≡ Ok p.tree) rules p.grows) in
      not_some (tree_with limit tree headers) next.0 (ap (tree_with limit tree) (some_of (headers_of payload) headers m.1 reads m.4) ∙ next.1) stops
  unbroken p place (UnknownBody before after at payload tree body has tree_with reads absent) =
      let m = middle body_file stored_body before after at payload p.body_records p.bodies (same_ok (records_of image body_file) _ _ p.body_records_are has) p.bodies_are in
      let there = passes_each body_file (λ body. is_in p.tree body.hash) m.0 (at, m.1) m.2 p.known (ap (each_passes body_file (λ body. is_in p.tree body.hash)) (sym m.6) ∙ p.known_are) in
      let same_tree = same_ok (read_tree limit given image) tree p.tree tree_with p.tree_is in
      let same_body = some_of (stored_body payload) body m.1 reads m.4 in
      not_true (is_in p.tree m.1.hash) there (ap (λ (t : Tree). is_in t m.1.hash) (sym same_tree) ∙ ap (λ (b : StoredBody). is_in tree b.hash) (sym same_body) ∙ absent)
  unbroken p place (UnknownTip before after at payload tree batch has tree_with reads absent) =
      let m = middle coin_file at_batch before after at payload p.coin_records p.batches (same_ok (records_of image coin_file) _ _ p.coin_records_are has) p.batches_are in
      let there = passes_each coin_file (λ batch. list_all (is_in p.tree) (tips_of batch.marker)) m.0 (at, m.1) m.2 p.named
      (ap (each_passes coin_file (λ batch. list_all (is_in p.tree) (tips_of batch.marker))) (sym m.6) ∙ p.named_are) in
      let same_tree = same_ok (read_tree limit given image) tree p.tree tree_with p.tree_is in
      let same_batch = some_of (at_batch payload) batch m.1 reads m.4 in
      not_true (list_all (is_in p.tree) (tips_of m.1.marker)) there
      (ap (λ (t : Tree). list_all (is_in t) (tips_of m.1.marker)) (sym same_tree) ∙ ap (λ (b : Batch). list_all (is_in tree) (tips_of b.marker)) (sym same_batch) ∙ absent)
  unbroken p place (Unreached before at payload tree bodies batch has tree_with stored reads absent) =
      let m = middle coin_file at_batch before [] at payload p.coin_records p.batches (same_ok (records_of image coin_file) _ _ p.coin_records_are has) p.batches_are in
      let alone = none_said coin_file at_batch m.2 m.5 in
      let same_named = passes_ok coin_file (λ batch. list_all (is_in p.tree) (tips_of batch.marker)) p.batches p.named p.named_are in
      let is : p.named ≡ m.0 ++ (at, m.1) ∷ [] = same_named ∙ m.6 ∙ ap (λ (l : List (Record Batch)). m.0 ++ (at, m.1) ∷ l) alone in
      let there = last_ok p.tree p.stored m.0 (at, m.1) p.reached (ap (last_reached p.tree p.stored genesis_hash) (sym is) ∙ p.reached_are) in
      let same_tree = same_ok (read_tree limit given image) tree p.tree tree_with p.tree_is in
      let same_stored = same_ok (read_bodies tree image) bodies p.stored stored (ap (λ (t : Tree). read_bodies t image) same_tree ∙ p.stored_are) in
      let same_batch = some_of (at_batch payload) batch m.1 reads m.4 in
      not_true (list_all (is_reached p.tree p.stored genesis_hash) (tips_of m.1.marker)) there
      (ap (λ (t : Tree). list_all (is_reached t p.stored genesis_hash) (tips_of m.1.marker)) (sym same_tree)
      ∙ ap (λ (b : List StoredBody). list_all (is_reached tree b genesis_hash) (tips_of m.1.marker)) (sym same_stored)
      ∙ ap (λ (b : Batch). list_all (is_reached tree bodies genesis_hash) (tips_of b.marker)) (sym same_batch) ∙ absent)

  ok_or_err : (r : Read StoreState) → r ≡ read_store limit given image → IsNone (result_ok r) → (place : BrokenPlace) × IsBroken limit given image place
  ok_or_err (Ok store) is none = absurd cc
  ok_or_err (Err place) is none = (place, store_breaks limit given image place (sym is))

  err_of : (r : Read StoreState) → r ≡ read_store limit given image → (place : BrokenPlace) → IsBroken limit given image place → IsNone (result_ok r)
  err_of (Ok store) is place broken = absurd (unbroken (parts store (sym is)) place broken)
  err_of (Err p) is place broken = refl

  pub breaks_are : BreaksAre limit given image
  breaks_are = record { some = ok_or_err (read_store limit given image) refl; none = err_of (read_store limit given image) refl }
