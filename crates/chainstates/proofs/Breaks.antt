-- Which places of an image are broken where its files can't be opened, or what they stand for can't be read.
use Rattle.std.proofs.Common.{◌≡◌, ◌⊎◌, inl, inr, ⊎_elim, ℕ, ◌+◌, Bool, false, List, [], ◌∷◌, ◌++◌, length, map, take, Some, None, Ok, Err, refl, sym, ap, subst, ◌∙◌, arith, cond, length-append}
use Rattle.std.specs.Prelude.{◌/◌, nat_le}
use Rattle.disk_model.specs.Disk.{Image}
use Rattle.base_types.specs.Views.{BrokenPlace}
use Rattle.base_types.specs.declared.fault.StoreFault.{StoreFault}
use Rattle.base_types.specs.declared.fault.StoreFault.TheVariants.{NoMemory, DiskFailed, Damaged, Full, CacheFull}
use Rattle.batch_log.specs.Records.{log, records, body}
use Rattle.block_store.specs.Headers.{headers_of, is_headers_length, first_headers}
use Rattle.block_store.specs.OpenStore.{Payloads}
use Rattle.block_store.specs.Opening.{DamagedAs, stored_payloads}
use Rattle.block_store.proofs.DamagedFiles.{IsDamagedFile, damaged_files}
use Rattle.base_types.specs.declared.program.Rules.{Rules}
use Rattle.chain_model.specs.HeaderRules.{first_tree}
use Rattle.chain_model.specs.Tree.{Tree}
use Rattle.chainstates.specs.Opening.{BreaksIn, IsCoinDamage, StopsIn, store_in}
use Rattle.chainstates.specs.Reading.{IsRefused, batches_in, bodies_in, tree_in}
use Rattle.chainstates.proofs.Gates.{gated_at}
use Rattle.coin_store.specs.Batches.{Batch, batch_text}
use Rattle.coin_store.specs.Store.{DamageIn, FirstBrokenAs, texts}
use Rattle.coin_store.specs.declared.kind.Kind.TheVariants.{Coins}
use Rattle.store_state.specs.Breaks.{HasRecord, IsBroken, DamagedLog, NoHeaders, NoBody, NoBatch, RefusedHeader}
use Rattle.store_state.specs.State.{◌>>=◌, Read, Record, StoredBody, read_batches, read_bodies, read_tree, and_payload, each_of, gated, read_store, records_of, settled_batch, stored_body, tree_after, rules_in, header_file, body_file, coin_file, first_key, first_rules}
use Rattle.store_state.proofs.Appending.{HasLogs}
use Rattle.store_state.proofs.Breaking.{store_breaks}
use Rattle.store_state.proofs.EachRecord.{ok_parts}
use Rattle.store_state.proofs.ReadingSteps.{goes_on, records_are}

-- ---- the files of headers and bodies

wrong_headers : (payload : List ℕ) → is_headers_length (length payload) ≡ false → headers_of payload ≡ None
wrong_headers payload wrong = ap (λ (b : Bool). cond b (first_headers (length payload / 80) payload) None) wrong

wrong_body : (payload : List ℕ) → nat_le 32 (length payload) ≡ false → stored_body payload ≡ None
wrong_body payload wrong = ap (λ (b : Bool). and_payload payload (cond b (Some (record { bytes = take 32 payload })) None)) wrong

-- without a base file, damage is of the file of coins
pub own_damage : (image : Image) (fault : StoreFault) → DamageIn first_key None coin_file image fault → IsCoinDamage (image coin_file) fault
own_damage image (Damaged file at) e = ⊎_elim (λ based. absurd (let never : None ≡ Some file = based.0 in cc)) (λ own. (own.0, own.2)) e
own_damage image NoMemory e = tt
own_damage image DiskFailed e = tt
own_damage image (Full file) e = tt
own_damage image CacheFull e = tt

bind_same : {A B : Type 0} (r s : Read A) (f g : A → Read B) → r ≡ s → ((a : A) → f a ≡ g a) → (r >>= f) ≡ (s >>= g)
bind_same {A} {B} r s f g e same = ap (λ (x : Read A). x >>= f) e ∙ go s
  where
    go : (x : Read A) → (x >>= f) ≡ (x >>= g)
    go (Ok a) = same a
    go (Err place) = refl

module _ (limit : ℕ) (image : Image) where
  abbrev Broken : BrokenPlace → Type 0
  Broken place = IsBroken limit first_rules image place

  has_record : (file : ℕ) (payloads : List (List ℕ)) (before : List (Record (List ℕ))) (at : ℕ) (payload : List ℕ) (after : List (Record (List ℕ))) → log (image file) ≡ Ok payloads → gated 0 payloads ≡ before ++ (at, payload) ∷ after
      → HasRecord image file before at payload after
  has_record file payloads before at payload after is parts = records_are image file payloads is ∙ ap (λ (l : List (Record (List ℕ))). Ok l) parts

  -- a file whose log is damaged, or has a record that isn't of its form
  file_breaks : (file : ℕ) (right : ℕ → Bool) (place : BrokenPlace) → (file ≡ header_file) ⊎ (file ≡ body_file) ⊎ (file ≡ coin_file)
      → ((before after : List (Record (List ℕ))) (at : ℕ) (payload : List ℕ) → HasRecord image file before at payload after → right (length payload) ≡ false → Broken (record { file = file; at = at }))
      → IsDamagedFile file right image place → Broken place
  file_breaks file right place one_of wrong damaged =
      let here : record { file = file; at = place.at } ≡ place = ap (λ (f : ℕ). record { file = f; at = place.at }) (sym damaged.0) in
      subst Broken here (⊎_elim
      (λ stuck. DamagedLog file place.at one_of stuck)
      (λ lengths.
      let r = lengths.2 in
      let split = gated_at 0 lengths.0 r.n r.payload r.place r.here r.there in
      let gate = ap (λ (at : ℕ). gated 0 (take r.n lengths.0) ++ (at, r.payload) ∷ split.0) r.gate in
      wrong (gated 0 (take r.n lengths.0)) split.0 place.at r.payload (has_record file lengths.0 (gated 0 (take r.n lengths.0)) place.at r.payload split.0 lengths.1 (split.1 ∙ gate)) r.wrong)
      damaged.1)

  pub blocks_break : (place : BrokenPlace) → stored_payloads image ≡ Err place → Broken place
  blocks_break place e = ⊎_elim
      (λ headers. file_breaks header_file is_headers_length place (inl refl) (λ before after at payload has wrong. NoHeaders before after at payload has (wrong_headers payload wrong)) headers)
      (λ bodies. file_breaks body_file (nat_le 32) place (inr (inl refl)) (λ before after at payload has wrong. NoBody before after at payload has (wrong_body payload wrong)) bodies)
      (damaged_files image place e)

  pub blocks_break_in : (fault : StoreFault) → DamagedAs (stored_payloads image) fault → BreaksIn limit image fault
  blocks_break_in (Damaged file at) e = blocks_break (record { file = file; at = at }) e
  blocks_break_in NoMemory e = tt
  blocks_break_in DiskFailed e = tt
  blocks_break_in (Full file) e = tt
  blocks_break_in CacheFull e = tt

  -- ---- the file of coins

  body_long : (payload : List ℕ) (rest : List (List ℕ)) → length (records (payload ∷ rest)) ≡ 5 + length payload + length (records rest)
  body_long payload rest = omega (arith, length-append (1 ∷ body payload) (records rest))

  behind : (start : ℕ) (before : List (List ℕ)) (payload : List ℕ) (others : List (List ℕ)) → (after : List (Record (List ℕ))) × (gated start (before ++ payload ∷ others) ≡ gated start before ++ (start + length (records before), payload) ∷ after)
  unfolding gated
  behind start [] payload others = (gated (start + (5 + length payload)) others, ap (λ (at : ℕ). (at, payload) ∷ gated (start + (5 + length payload)) others) (let z : start ≡ start + 0 = omega arith in z))
  behind start (first ∷ before) payload others =
      let rest = behind (start + (5 + length first)) before payload others in
      let at : start + (5 + length first) + length (records before) ≡ start + length (records (first ∷ before)) = omega (arith, body_long first before) in
      (rest.0, ap (λ (l : List (Record (List ℕ))). (start, first) ∷ l) (rest.1 ∙ ap (λ (n : ℕ). gated (start + (5 + length first)) before ++ (n, payload) ∷ rest.0) at))

  batch_breaks : (payloads : List (List ℕ)) (at : ℕ) → log (image coin_file) ≡ Ok payloads → FirstBrokenAs Coins first_key payloads at → Broken (record { file = coin_file; at = at })
  batch_breaks payloads at is first =
      let before = map (batch_text first_key) first.before in
      let split = behind 0 before first.payload first.others in
      let gate : 0 + length (records before) ≡ at = (let z : 0 + length (records before) ≡ length (records before) = omega arith in z) ∙ sym first.gate in
      NoBatch (gated 0 before) split.0 at first.payload
      (has_record coin_file payloads (gated 0 before) at first.payload split.0 is (ap (gated 0) first.is ∙ split.1 ∙ ap (λ (n : ℕ). gated 0 before ++ (n, first.payload) ∷ split.0) gate))
      (ap settled_batch first.broken)

  abbrev InFile : ℕ → ℕ → Type 0
  InFile file at = Broken (record { file = file; at = at })

  pub coins_break_in : (fault : StoreFault) → IsCoinDamage (image coin_file) fault → BreaksIn limit image fault
  coins_break_in (Damaged file at) e = subst (λ (f : ℕ). InFile f at) (sym e.0) (⊎_elim
      (λ damaged. DamagedLog coin_file at (inr (inr refl)) damaged)
      (λ first. batch_breaks first.0 at first.1 first.2)
      e.1)
  coins_break_in NoMemory e = tt
  coins_break_in DiskFailed e = tt
  coins_break_in (Full file) e = tt
  coins_break_in CacheFull e = tt

  -- ---- what the logs stand for

  module _ (payloads : Payloads) (batches : List Batch) (has : HasLogs image (record { headers = payloads.headers; bodies = payloads.bodies; coins = texts first_key batches })) where
    rules_are : (l : List (Record (List ℕ))) → rules_in first_rules l ≡ first_rules
    rules_are [] = refl
    rules_are (x ∷ l) = refl

    pub refused_breaks : (at : ℕ) → IsRefused limit payloads.headers at → Broken (record { file = header_file; at = at })
    refused_breaks at r =
        let lists = ok_parts (each_of header_file headers_of (gated 0 r.before)) _ r.tree r.grown in
        RefusedHeader (gated 0 r.before) r.after at r.payload lists.0 r.tree r.headers (has_record header_file payloads.headers (gated 0 r.before) at r.payload r.after has.headers r.parts) lists.1 lists.2 r.are r.refused

    tree_is : read_tree limit first_rules image ≡ tree_in limit payloads.headers
    tree_is =
        goes_on (records_of image header_file) _ (gated 0 payloads.headers) (records_are image header_file payloads.headers has.headers)
        ∙ ap (λ (rules : Rules). each_of header_file headers_of (gated 0 payloads.headers) >>= λ lists. tree_after limit (first_tree rules) lists) (rules_are (gated 0 payloads.headers))

    bodies_are : (tree : Tree) → read_bodies tree image ≡ bodies_in tree payloads.bodies
    bodies_are tree = goes_on (records_of image body_file) _ (gated 0 payloads.bodies) (records_are image body_file payloads.bodies has.bodies)

    batches_are : (tree : Tree) (bodies : List StoredBody) → read_batches tree bodies image ≡ batches_in tree bodies (texts first_key batches)
    batches_are tree bodies = goes_on (records_of image coin_file) _ (gated 0 (texts first_key batches)) (records_are image coin_file (texts first_key batches) has.coins)

    pub store_is : read_store limit first_rules image ≡ store_in limit payloads batches
    store_is =
        bind_same (read_tree limit first_rules image) (tree_in limit payloads.headers) _ _ tree_is
        (λ tree. bind_same (read_bodies tree image) (bodies_in tree payloads.bodies) _ _ (bodies_are tree)
        (λ bodies. bind_same (read_batches tree bodies image) (batches_in tree bodies (texts first_key batches)) _ _ (batches_are tree bodies) (λ all. refl)))

    -- where the reading stops, a place is broken
    pub stops_break : (fault : StoreFault) → StopsIn limit payloads batches fault → BreaksIn limit image fault
    stops_break (Damaged file at) stops = ⊎_elim
        (λ refused. subst (λ (f : ℕ). InFile f at) (sym refused.0) (refused_breaks at refused.1))
        (λ broken. store_breaks limit first_rules image (record { file = file; at = at }) (store_is ∙ broken))
        stops
    stops_break NoMemory stops = tt
    stops_break DiskFailed stops = tt
    stops_break (Full file) stops = tt
    stops_break CacheFull stops = tt
