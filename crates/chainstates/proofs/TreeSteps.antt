-- Headers that are read one record after the other.
use Rattle.std.proofs.Common.{◌≡◌, ◌⊎◌, inl, inr, ⊎_elim, ℕ, ◌+◌, ◌<◌, ◌≤◌, suc, drop, get_or, List, [], ◌∷◌, ◌++◌, length, take, Option, Some, None, Ok, refl, sym, ap, subst, ◌∙◌, arith}
use Rattle.std.specs.Prelude.{slice_get}
use Rattle.std.proofs.lemmas.List.{take_all}
use Rattle.std.proofs.lemmas.Option.{none-some, same_Some, slice_get-get_or}
use Rattle.base_types.specs.declared.refused.HeaderRefused.{HeaderRefused}
use Rattle.base_types.specs.declared.fault.StoreFault.{StoreFault}
use Rattle.base_types.specs.declared.fault.StoreFault.TheVariants.{NoMemory, DiskFailed, Damaged, Full, CacheFull}
use Rattle.batch_log.specs.OpenLog.{places_of}
use Rattle.batch_log.specs.Reading.{WhereDamaged}
use Rattle.batch_log.specs.declared.places.Place.{Place}
use Rattle.block_codec.specs.declared.block.Header.{Header}
use Rattle.block_store.specs.Headers.{headers_of}
use Rattle.block_store.specs.Opening.{OpenCause}
use Rattle.block_store.specs.Reading.{FetchCause, NoDamage}
use Rattle.block_store.proofs.HashSteps.{found_at}
use Rattle.chain_model.specs.HeaderRules.{tree_with, with_header, header_broken, and_header, and_then, first_tree}
use Rattle.chain_model.specs.Tree.{Tree}
use Rattle.chain_model.proofs.Trees.{grown_more}
use Rattle.chainstates.specs.Reading.{tree_in, IsRefused}
use Rattle.chainstates.proofs.Gates.{gated_at, in_or_over, split_there, take_more}
use Rattle.store_state.specs.State.{each_of, tree_after, gated, header_file, first_rules}
use Rattle.store_state.proofs.Appending.{each_added, tree_more}
use Rattle.store_state.proofs.EachRecord.{ok_parts, bind_ok}

-- ---- the headers of one record

pub none_taken : (limit : ℕ) (tree : Tree) → tree_with limit tree [] ≡ Some tree
unfolding tree_with
none_taken limit tree = refl

-- a header is refused behind others
pub refused_behind : (limit : ℕ) (tree middle : Tree) (first : List Header) (header : Header) (rest : List Header) (rule : HeaderRefused) → tree_with limit tree first ≡ Some middle → header_broken limit middle header ≡ Some rule
    → tree_with limit tree (first ++ header ∷ rest) ≡ None
unfolding tree_with
refused_behind limit tree middle [] header rest rule e broken =
    ap (λ (b : Option HeaderRefused). and_then (and_header b tree header) (λ next. tree_with limit next rest)) (ap (λ (t : Tree). header_broken limit t header) (same_Some tree middle e) ∙ broken)
refused_behind limit tree middle (one ∷ first) header rest rule e broken = go (λ e. refused_behind limit (with_header tree one) middle first header rest rule e broken) (header_broken limit tree one) e
  where
    go : (tree_with limit (with_header tree one) first ≡ Some middle → tree_with limit (with_header tree one) (first ++ header ∷ rest) ≡ None) → (b : Option HeaderRefused)
        → and_then (and_header b tree one) (λ next. tree_with limit next first) ≡ Some middle → and_then (and_header b tree one) (λ next. tree_with limit next (first ++ header ∷ rest)) ≡ None
    go next None e = next e
    go next (Some why) e = absurd (none-some middle e)

-- ---- record after record

pub tree_first : (limit : ℕ) (payloads : List (List ℕ)) → tree_in limit (take 0 payloads) ≡ Ok (first_tree first_rules)
unfolding gated each_of tree_after
tree_first limit payloads = refl

pub tree_next : (limit : ℕ) (payloads : List (List ℕ)) (n : ℕ) (payload : List ℕ) (headers : List Header) (tree last : Tree) → slice_get payloads n ≡ Some payload → headers_of payload ≡ Some headers
    → tree_in limit (take n payloads) ≡ Ok tree → tree_with limit tree headers ≡ Some last → tree_in limit (take (n + 1) payloads) ≡ Ok last
tree_next limit payloads n payload headers tree last here are grown takes =
    let lists = ok_parts (each_of header_file headers_of (gated 0 (take n payloads))) _ tree grown in
    let added = each_added header_file headers_of (take n payloads) lists.0 payload headers lists.1 are in
    subst (λ (front : List (List ℕ)). tree_in limit front ≡ Ok last) (sym (take_more payloads n payload here))
    (bind_ok (each_of header_file headers_of (gated 0 (take n payloads ++ payload ∷ []))) (λ all. tree_after limit (first_tree first_rules) all) (lists.0 ++ (added.0, headers) ∷ []) last added.1
    (tree_more limit (first_tree first_rules) lists.0 tree added.0 headers last lists.2 takes))

pub tree_whole : (limit : ℕ) (payloads : List (List ℕ)) (n : ℕ) (tree : Tree) → length payloads ≤ n → tree_in limit (take n payloads) ≡ Ok tree → tree_in limit payloads ≡ Ok tree
tree_whole limit payloads n tree all grown = subst (λ (front : List (List ℕ)). tree_in limit front ≡ Ok tree) (take_all n payloads all) grown

pub refused_at : (limit : ℕ) (payloads : List (List ℕ)) (n : ℕ) (payload : List ℕ) (place : Place) (headers : List Header) (tree : Tree) → slice_get payloads n ≡ Some payload → slice_get (places_of 0 payloads) n ≡ Some place
    → headers_of payload ≡ Some headers → tree_in limit (take n payloads) ≡ Ok tree → tree_with limit tree headers ≡ None → IsRefused limit payloads place.at
refused_at limit payloads n payload place headers tree here there are grown refused =
    let split = gated_at 0 payloads n payload place here there in
    record {
      before = take n payloads;
      payload = payload;
      after = split.0;
      parts = split.1;
      tree = tree;
      grown = grown;
      headers = headers;
      are = are;
      refused = refused;
    }

-- ---- as the code goes through them

pub one_taken : (limit at_once : ℕ) (tree middle : Tree) (items headers : List Header) (i : ℕ) (d : Header) → items ≡ headers → i < length items → at_once ≡ limit → tree_with limit tree (take i headers) ≡ Some middle
    → header_broken at_once middle (get_or items i d) ≡ None → tree_with limit tree (take (i + 1) headers) ≡ Some (with_header middle (get_or items i d))
one_taken limit at_once tree middle items headers i d same within is taken fine =
    let there : slice_get headers i ≡ Some (get_or items i d) = ap (λ (l : List Header). slice_get l i) (sym same) ∙ slice_get-get_or items i d within in
    ap (tree_with limit tree) (take_more headers i (get_or items i d) there)
    ∙ grown_more limit tree middle (take i headers) (get_or items i d) taken (subst (λ (n : ℕ). header_broken n middle (get_or items i d) ≡ None) is fine)

pub one_refused : (limit at_once : ℕ) (tree middle : Tree) (items headers : List Header) (i : ℕ) (d : Header) (rule : HeaderRefused) → items ≡ headers → i < length items → at_once ≡ limit → tree_with limit tree (take i headers) ≡ Some middle
    → header_broken at_once middle (get_or items i d) ≡ Some rule → tree_with limit tree headers ≡ None
one_refused limit at_once tree middle items headers i d rule same within is taken broken =
    let there : slice_get headers i ≡ Some (get_or items i d) = ap (λ (l : List Header). slice_get l i) (sym same) ∙ slice_get-get_or items i d within in
    ap (tree_with limit tree) (split_there headers i (get_or items i d) there)
    ∙ refused_behind limit tree middle (take i headers) (get_or items i d) (drop (suc i) headers) rule taken (subst (λ (n : ℕ). header_broken n middle (get_or items i d) ≡ Some rule) is broken)

-- a payload has its number, or there are no more
pub payload_or_end : (places : List Place) (payloads : List (List ℕ)) (n : ℕ) → places ≡ places_of 0 payloads → ((place : Place) × (payload : List ℕ) × (slice_get places n ≡ Some place) × (slice_get payloads n ≡ Some payload)) ⊎ (length places ≤ n)
payload_or_end places payloads n is = ⊎_elim
    (λ there. let at = found_at places payloads n there.0 is there.1 in inl (there.0, at.payload, there.1, at.here))
    (λ over. inr over)
    (in_or_over places n)

pub no_damage : (P : ℕ → ℕ → Type 0) (fault : StoreFault) → NoDamage fault → WhereDamaged P fault
no_damage P NoMemory none = tt
no_damage P DiskFailed none = tt
no_damage P (Damaged file at) none = absurd none
no_damage P (Full file) none = absurd none
no_damage P CacheFull none = absurd none

pub fetch_fails : (entry before now at : ℕ) (fault : StoreFault) → entry ≤ before → FetchCause 1 at before now fault → OpenCause entry now fault
fetch_fails entry before now at NoMemory later cause = tt
fetch_fails entry before now at DiskFailed later cause = omega (arith, later, cause)
fetch_fails entry before now at (Damaged file gate) later cause = inl cause.0
fetch_fails entry before now at (Full file) later cause = absurd cause
fetch_fails entry before now at CacheFull later cause = absurd cause

-- where the headers of a record are refused, or want of memory is told
pub where_refused : (limit : ℕ) (payloads : List (List ℕ)) (at : ℕ) (fault : StoreFault) (Refuses : Type 0) → (fault ≡ NoMemory) ⊎ ((fault ≡ Damaged header_file at) × Refuses) → (Refuses → IsRefused limit payloads at)
    → WhereDamaged (λ file gate. (file ≡ header_file) × IsRefused limit payloads gate) fault
where_refused limit payloads at fault Refuses why made = ⊎_elim
    (λ (none : fault ≡ NoMemory). subst (WhereDamaged (λ file gate. (file ≡ header_file) × IsRefused limit payloads gate)) (sym none) tt)
    (λ refused. subst (WhereDamaged (λ file gate. (file ≡ header_file) × IsRefused limit payloads gate)) (sym refused.0) (refl, made refused.1))
    why
