-- The coins at the places of a base and batches are those after them.
use Rattle.std.specs.Prelude.{◌≡◌, ℕ, ◌+◌, Bool, true, false, List, [], ◌∷◌, ◌++◌, length, take, drop, is_some, Option, Some, None, refl}
use Rattle.std.specs.FinMap.{get, empty, get-empty, same_map}
use Rattle.std.specs.Int.{to_le_bytes, w32}
use Rattle.std.specs.List.{AllByRecursion}
use Rattle.std.specs.Ordering.{eq_by_cmp}
use Rattle.std.proofs.Common.{cond, eqb, ltb, sym, ap, subst, ◌∙◌, append_assoc, arith, inl, inr}
use Rattle.std.proofs.lemmas.Bool.{cases_Bool, eqb-true, le-ltb}
use Rattle.std.proofs.lemmas.List.{length-append, take_at, drop_at}
use Rattle.disk_model.specs.Disk.{Image}
use Rattle.base_types.specs.Coins.{Coins}
use Rattle.base_types.specs.Keys.{outpoint_cmp}
use Rattle.base_types.proofs.KeyOrders.{outpoint_cmp_total, outpoint_cmp-IsAntisymmetric}
use Rattle.base_types.specs.declared.coin.Coin.{Coin}
use Rattle.base_types.specs.declared.hash.OutPoint.{OutPoint}
use Rattle.batch_log.specs.Records.{body, records, EndsClosed}
use Rattle.base_types.specs.Obfuscation.{obfuscated}
use Rattle.base_types.proofs.Obfuscated.{length-obfuscated}
use Rattle.coin_store.specs.declared.places.CoinPlace.{CoinPlace}
use Rattle.coin_store.specs.declared.store.CoinStore.{CoinStore}
use Rattle.coin_store.specs.Base.{BaseFits, base_texts, base_coins, coins_after_base, rows_after, base_places, places_after_base}
use Rattle.coin_store.specs.Batches.{Row, Batch, value_text, head_text, row_text, rows_text, marker_text, batch_text, RowFits, ValueFits, BatchFits}
use Rattle.coin_store.specs.Places.{CoinPlaces, put, place_of, coins_after_rows, coins_after, places_after_rows, places_after_batch, places_after, live, bytes_there, coin_there, coins_at_places}
use Rattle.coin_store.specs.Reading.{◌>>=◌, value_of}
use Rattle.coin_store.proofs.Opens.{all_live}
use Rattle.coin_store.proofs.RowLaws.{some_is, value_again, obfuscated_twice}
use Rattle.coin_store.proofs.Seen.{get-put, seen, no_bytes}
use Rattle.coin_store.specs.Store.{Knows, Holds, texts}
use Rattle.coin_store.specs.Viewing.{coins_seen}
use Rattle.coin_store.specs.Behind.{AllRead}

-- each outpoint's place means its coin
abbrev Mean : List ℕ → Image → CoinPlaces → Coins → Type 0
Mean mask image places coins = (q : OutPoint) → (get places q >>= coin_there mask image) ≡ get coins q

either_means : {A B : Type 0} (b : Bool) (x y : Option A) (f : A → Option B) → (cond b x y >>= f) ≡ cond b (x >>= f) (y >>= f)
either_means true x y f = refl
either_means false x y f = refl

put_means : (mask : List ℕ) (image : Image) (places : CoinPlaces) (coins : Coins) (key : OutPoint) (place : Option CoinPlace) (coin : Option Coin) → (place >>= coin_there mask image) ≡ coin → Mean mask image places coins
    → Mean mask image (put places key place) (put coins key coin)
put_means mask image places coins key place coin here all q =
    ap (λ (p : Option CoinPlace). p >>= coin_there mask image) (get-put places key place q)
    ∙ either_means (eq_by_cmp outpoint_cmp q key) place (get places q) (coin_there mask image)
    ∙ ap (λ (c : Option Coin). cond (eq_by_cmp outpoint_cmp q key) c (get places q >>= coin_there mask image)) here
    ∙ ap (λ (c : Option Coin). cond (eq_by_cmp outpoint_cmp q key) coin c) (all q)
    ∙ sym (get-put coins key coin q)

-- the bytes of a file from an offset on
record Stand (bytes : List ℕ) (at : ℕ) (text rest : List ℕ) : Type 0 where
  front : List ℕ
  is : bytes ≡ front ++ (text ++ rest)
  reach : at ≡ length front

stand_there : (bytes : List ℕ) (at : ℕ) (text rest : List ℕ) → Stand bytes at text rest → take (length text) (drop at bytes) ≡ text
stand_there bytes at text rest s = ap (λ (b : List ℕ). take (length text) (drop at b)) s.is ∙ ap (λ (n : ℕ). take (length text) (drop n (s.front ++ (text ++ rest)))) s.reach
    ∙ ap (λ (b : List ℕ). take (length text) b) (drop_at s.front (text ++ rest) (length s.front) refl) ∙ take_at text rest (length text) refl

-- behind the first of two texts
stand_behind : (bytes : List ℕ) (at next : ℕ) (first second rest : List ℕ) → next ≡ at + length first → Stand bytes at (first ++ second) rest → Stand bytes next second rest
stand_behind bytes at next first second rest is s = record {
  front = s.front ++ first;
  is = s.is ∙ ap (λ (b : List ℕ). s.front ++ b) (append_assoc first second rest) ∙ sym (append_assoc s.front first (second ++ rest));
  reach = omega (arith, is, s.reach, length-append s.front first);
}

stand_before : (bytes : List ℕ) (at : ℕ) (first second rest : List ℕ) → Stand bytes at (first ++ second) rest → Stand bytes at first (second ++ rest)
stand_before bytes at first second rest s = record { front = s.front; is = s.is ∙ ap (λ (b : List ℕ). s.front ++ b) (append_assoc first second rest); reach = s.reach }

module _ (file : ℕ) (mask : List ℕ) (image : Image) where
  value_there : (place : CoinPlace) (coin : Coin) (rest : List ℕ) → ValueFits (Some coin) → place.file ≡ file → place.len ≡ length (value_text (Some coin)) → Stand (image file) place.at (obfuscated mask 0 (value_text (Some coin))) rest
      → coin_there mask image place ≡ Some coin
  value_there place coin rest fits named size s =
      let text = value_text (Some coin) in
      let long : place.len ≡ length (obfuscated mask 0 text) = size ∙ sym (length-obfuscated mask 0 text) in
      let is : bytes_there image place ≡ obfuscated mask 0 text =
      ap (λ (f : ℕ). take place.len (drop place.at (image f))) named ∙ ap (λ (n : ℕ). take n (drop place.at (image file))) long ∙ stand_there (image file) place.at (obfuscated mask 0 text) rest s in
      let enough : ltb (length (bytes_there image place)) place.len ≡ false = le-ltb _ _ (omega (arith, ap length is, long)) in
      let value : value_of (obfuscated mask 0 (bytes_there image place)) ≡ Some (Some coin) = ap (λ (b : List ℕ). value_of (obfuscated mask 0 b)) is ∙ ap value_of (obfuscated_twice 0 mask text) ∙ value_again (Some coin) fits in
      rw (enough, value) refl

  row_means : (gate offset : ℕ) (key : OutPoint) (coin : Option Coin) (rest : List ℕ) → ValueFits coin → Stand (image file) (gate + (5 + offset)) (row_text mask (record { key = key; coin = coin })) rest
      → (place_of file gate offset (record { key = key; coin = coin }) >>= coin_there mask image) ≡ coin
  unfolding row_text
  row_means gate offset key None rest fits s = refl
  row_means gate offset key (Some coin) rest fits s =
      let text = value_text (Some coin) in
      let head = head_text key (length text) in
      let place : CoinPlace = record { file = file; gate = gate; at = gate + 5 + offset + length head; len = length text } in
      value_there place coin rest fits refl refl (stand_behind (image file) (gate + (5 + offset)) (gate + 5 + offset + length head) head (obfuscated mask 0 text) rest (omega arith) s)

  rows_mean : (gate offset : ℕ) (rows : List Row) (rest : List ℕ) (places : CoinPlaces) (coins : Coins) → AllByRecursion RowFits rows → Stand (image file) (gate + (5 + offset)) (rows_text mask rows) rest → Mean mask image places coins
      → Mean mask image (places_after_rows file mask gate offset places rows) (coins_after_rows coins rows)
  rows_mean gate offset [] rest places coins fits s all = all
  rows_mean gate offset (row ∷ rows) rest places coins fits s all =
      let first = stand_before (image file) (gate + (5 + offset)) (row_text mask row) (rows_text mask rows) rest s in
      let further = stand_behind (image file) (gate + (5 + offset)) (gate + (5 + (offset + length (row_text mask row)))) (row_text mask row) (rows_text mask rows) rest (omega arith) s in
      rows_mean gate (offset + length (row_text mask row)) rows rest (put places row.key (place_of file gate offset row)) (put coins row.key row.coin) fits.1 further
      (put_means mask image places coins row.key (place_of file gate offset row) row.coin (row_means gate offset row.key row.coin (rows_text mask rows ++ rest) fits.0.value first) all)

  batches_mean : (gate : ℕ) (batches : List Batch) (rest : List ℕ) (places : CoinPlaces) (coins : Coins) → AllByRecursion BatchFits batches → Stand (image file) gate (records (texts mask batches)) rest → Mean mask image places coins
      → Mean mask image (places_after file mask gate places batches) (coins_after coins batches)
  unfolding batch_text
  batches_mean gate [] rest places coins fits s all = all
  batches_mean gate (batch ∷ batches) rest places coins fits s all =
      let payload = batch_text mask batch in
      let whole = 1 ∷ body payload in
      let later = records (texts mask batches) in
      let first = stand_before (image file) gate whole later rest s in
      let further = stand_behind (image file) gate (gate + (5 + length payload)) whole later rest (omega arith) s in
      let inside = stand_behind (image file) gate (gate + 5) (1 ∷ to_le_bytes w32 (length payload)) payload (later ++ rest) (omega arith) first in
      let rows = stand_behind (image file) (gate + 5) (gate + (5 + length (marker_text batch.marker))) (marker_text batch.marker) (rows_text mask batch.rows) (later ++ rest) (omega arith) inside in
      batches_mean (gate + (5 + length payload)) batches rest (places_after_batch file mask gate places batch) (coins_after_rows coins batch.rows) fits.1 further
      (rows_mean gate (length (marker_text batch.marker)) batch.rows (later ++ rest) places coins fits.0.rows rows all)

  base_mean : (gate : ℕ) (base : List (List Row)) (rest : List ℕ) (places : CoinPlaces) (coins : Coins) → AllByRecursion BaseFits base → Stand (image file) gate (records (base_texts mask base)) rest → Mean mask image places coins
      → Mean mask image (places_after_base file mask gate places base) (coins_after_base coins base)
  base_mean gate [] rest places coins fits s all = all
  base_mean gate (rows ∷ base) rest places coins fits s all =
      let payload = rows_text mask rows in
      let whole = 1 ∷ body payload in
      let later = records (base_texts mask base) in
      let first = stand_before (image file) gate whole later rest s in
      let further = stand_behind (image file) gate (gate + (5 + length payload)) whole later rest (omega arith) s in
      let inside = stand_behind (image file) gate (gate + (5 + 0)) (1 ∷ to_le_bytes w32 (length payload)) payload (later ++ rest) (omega arith) first in
      base_mean (gate + (5 + length payload)) base rest (places_after_rows file mask gate 0 places rows) (coins_after_rows coins rows) fits.1 further
      (rows_mean gate 0 rows (later ++ rest) places coins fits.0.fit inside all)

-- no place means no coin
none_mean : (mask : List ℕ) (image : Image) → Mean mask image empty empty
none_mean mask image q = ap (λ (p : Option CoinPlace). p >>= coin_there mask image) (get-empty outpoint_cmp q) ∙ sym (get-empty outpoint_cmp q)

begun : (payloads : List (List ℕ)) (bytes : List ℕ) (closed : EndsClosed payloads bytes) → Stand bytes 0 (records payloads) (closed.gate ∷ closed.rest)
begun payloads bytes closed = record { front = []; is = closed.is; reach = refl }

-- the places of a base mean its coins where it stands in its file
base_means : (file : Option ℕ) (mask : List ℕ) (image : Image) (base : List (List Row)) → AllByRecursion BaseFits base → (file ≡ None → base ≡ []) → ((f : ℕ) → file ≡ Some f → EndsClosed (base_texts mask base) (image f))
    → Mean mask image (base_places file mask base) (base_coins base)
base_means None mask image base fits none stands = subst (λ (b : List (List Row)). Mean mask image empty (base_coins b)) (sym (none refl)) (none_mean mask image)
base_means (Some file) mask image base fits none stands =
    let closed = stands file refl in
    base_mean file mask image 0 base (closed.gate ∷ closed.rest) empty empty fits (begun (base_texts mask base) (image file) closed) (none_mean mask image)

live_means : (mask : List ℕ) (image : Image) (place : Option CoinPlace) → (place >>= coin_there mask image) ≡ (live place >>= coin_there mask image)
live_means mask image None = refl
live_means mask image (Some place) = elim (cases_Bool (eqb place.len 0)) [
  | inl t ↦ rw t (no_bytes mask image place (eqb-true place.len 0 t))
  | inr f ↦ rw f refl
]

-- what the places of a store mean in bytes that end at its batches, with its base in another file
pub coins_in : (store : CoinStore) (base : List (List Row)) (batches : List Batch) → Knows store base batches → (image : Image)
    → ((f : ℕ) → store.base ≡ Some f → EndsClosed (base_texts store.mask base) (image f)) → EndsClosed (texts store.mask batches) (image store.log.file) → coins_at_places store.mask image store.index.places ≡ rows_after base batches
coins_in store base batches k image stands closed =
    let file = store.log.file in
    let places = base_places store.base store.mask base in
    let first = base_means store.base store.mask image base k.base_fits k.base_none stands in
    same_map outpoint_cmp_total outpoint_cmp-IsAntisymmetric (coins_at_places store.mask image store.index.places) (rows_after base batches) (λ q.
    seen store.mask image store.index.places q
    ∙ live_means store.mask image (get store.index.places q)
    ∙ ap (λ (p : Option CoinPlace). p >>= coin_there store.mask image) (k.places q)
    ∙ batches_mean file store.mask image 0 batches (closed.gate ∷ closed.rest) places (base_coins base) k.fits (begun (texts store.mask batches) (image file) closed) first q)

-- the coins of a store, as the disk reads
pub held_coins : (contents : Option Image) (left : Image → Type 0) (store : CoinStore) (base : List (List Row)) (batches : List Batch) → Holds contents left store base batches → coins_seen store.mask store.index contents ≡ Some (rows_after base batches)
held_coins contents left store base batches h =
    let image = h.stands.holds.image in
    let stands : (f : ℕ) → store.base ≡ Some f → EndsClosed (base_texts store.mask base) (image f) =
    λ f is. let b = h.base_stands f is in subst (λ (i : Image). EndsClosed (base_texts store.mask base) (i f)) (some_is b.image image (sym b.told ∙ h.stands.holds.told)) b.reads in
    ap (λ (o : Option Image). coins_seen store.mask store.index o) h.stands.holds.told ∙ ap (λ (c : Coins). Some c) (coins_in store base batches h.knows image stands h.stands.holds.reads)

-- ---- the base alone

pub base_in : (store : CoinStore) (base : List (List Row)) (batches : List Batch) → Knows store base batches → (image : Image) → ((f : ℕ) → store.base ≡ Some f → EndsClosed (base_texts store.mask base) (image f))
    → coins_at_places store.mask image store.base_index.places ≡ base_coins base
base_in store base batches k image stands = same_map outpoint_cmp_total outpoint_cmp-IsAntisymmetric (coins_at_places store.mask image store.base_index.places) (base_coins base) (λ q.
    seen store.mask image store.base_index.places q
    ∙ ap (λ (p : CoinPlaces). get p q >>= coin_there store.mask image) k.base_places
    ∙ base_means store.base store.mask image base k.base_fits k.base_none stands q)

pub held_base : (contents : Option Image) (left : Image → Type 0) (store : CoinStore) (base : List (List Row)) (batches : List Batch) → Holds contents left store base batches → coins_seen store.mask store.base_index contents ≡ Some (base_coins base)
held_base contents left store base batches h =
    let image = h.stands.holds.image in
    let stands : (f : ℕ) → store.base ≡ Some f → EndsClosed (base_texts store.mask base) (image f) =
    λ f is. let b = h.base_stands f is in subst (λ (i : Image). EndsClosed (base_texts store.mask base) (i f)) (some_is b.image image (sym b.told ∙ h.stands.holds.told)) b.reads in
    ap (λ (o : Option Image). coins_seen store.mask store.base_index o) h.stands.holds.told ∙ ap (λ (c : Coins). Some c) (base_in store base batches h.knows image stands)

-- ---- which outpoints have coins

-- those that have places
abbrev Match : CoinPlaces → Coins → Type 0
Match places coins = (q : OutPoint) → is_some (get places q) ≡ is_some (get coins q)

either_some : {A B : Type 0} (b : Bool) (x y : Option A) (u v : Option B) → is_some x ≡ is_some u → is_some y ≡ is_some v → is_some (cond b x y) ≡ is_some (cond b u v)
either_some true x y u v p q = p
either_some false x y u v p q = q

place_some : (file gate offset : ℕ) (key : OutPoint) (coin : Option Coin) → is_some (place_of file gate offset (record { key = key; coin = coin })) ≡ is_some coin
place_some file gate offset key None = refl
place_some file gate offset key (Some coin) = refl

put_match : (places : CoinPlaces) (coins : Coins) (key : OutPoint) (place : Option CoinPlace) (coin : Option Coin) → is_some place ≡ is_some coin → Match places coins → Match (put places key place) (put coins key coin)
put_match places coins key place coin here all q =
    ap is_some (get-put places key place q) ∙ either_some (eq_by_cmp outpoint_cmp q key) place (get places q) coin (get coins q) here (all q) ∙ ap is_some (sym (get-put coins key coin q))

rows_match : (file : ℕ) (mask : List ℕ) (gate offset : ℕ) (rows : List Row) (places : CoinPlaces) (coins : Coins) → Match places coins → Match (places_after_rows file mask gate offset places rows) (coins_after_rows coins rows)
rows_match file mask gate offset [] places coins all = all
rows_match file mask gate offset (row ∷ rows) places coins all =
    rows_match file mask gate (offset + length (row_text mask row)) rows (put places row.key (place_of file gate offset row)) (put coins row.key row.coin)
    (put_match places coins row.key (place_of file gate offset row) row.coin (place_some file gate offset row.key row.coin) all)

batches_match : (file : ℕ) (mask : List ℕ) (gate : ℕ) (batches : List Batch) (places : CoinPlaces) (coins : Coins) → Match places coins → Match (places_after file mask gate places batches) (coins_after coins batches)
batches_match file mask gate [] places coins all = all
batches_match file mask gate (batch ∷ batches) places coins all =
    batches_match file mask (gate + (5 + length (batch_text mask batch))) batches (places_after_batch file mask gate places batch) (coins_after_rows coins batch.rows)
    (rows_match file mask gate (length (marker_text batch.marker)) batch.rows places coins all)

base_match : (file : ℕ) (mask : List ℕ) (gate : ℕ) (base : List (List Row)) (places : CoinPlaces) (coins : Coins) → Match places coins → Match (places_after_base file mask gate places base) (coins_after_base coins base)
base_match file mask gate [] places coins all = all
base_match file mask gate (rows ∷ base) places coins all =
    base_match file mask (gate + (5 + length (rows_text mask rows))) base (places_after_rows file mask gate 0 places rows) (coins_after_rows coins rows) (rows_match file mask gate 0 rows places coins all)

none_match : Match empty empty
none_match q = ap is_some (get-empty outpoint_cmp q) ∙ ap is_some (sym (get-empty outpoint_cmp q))

base_matches : (file : Option ℕ) (mask : List ℕ) (base : List (List Row)) → (file ≡ None → base ≡ []) → Match (base_places file mask base) (base_coins base)
base_matches None mask base none = subst (λ (b : List (List Row)). Match empty (base_coins b)) (sym (none refl)) none_match
base_matches (Some file) mask base none = base_match file mask 0 base empty empty none_match

pub coins_known : (store : CoinStore) (base : List (List Row)) (batches : List Batch) → Knows store base batches → (q : OutPoint) → is_some (live (get store.index.places q)) ≡ is_some (get (rows_after base batches) q)
coins_known store base batches k q =
    ap is_some (k.places q)
    ∙ batches_match store.log.file store.mask 0 batches (base_places store.base store.mask base) (base_coins base) (base_matches store.base store.mask base k.base_none) q

pub base_known : (store : CoinStore) (base : List (List Row)) (batches : List Batch) → Knows store base batches → (q : OutPoint) → is_some (live (get store.base_index.places q)) ≡ is_some (get (base_coins base) q)
base_known store base batches k q =
    ap (λ (p : CoinPlaces). is_some (live (get p q))) k.base_places
    ∙ ap is_some (all_live store.log.file store.base store.mask base [] k.base_fits tt q)
    ∙ base_matches store.base store.mask base k.base_none q

-- each place of a store reads as a coin
pub held_reads : (contents : Option Image) (left : Image → Type 0) (store : CoinStore) (base : List (List Row)) (batches : List Batch) → Holds contents left store base batches → (image : Image) → contents ≡ Some image
    → AllRead store.mask store.index image
held_reads contents left store base batches h image told key place here none =
    let places = store.index.places in
    let coins : coins_at_places store.mask image places ≡ rows_after base batches = some_is _ _ (sym (ap (coins_seen store.mask store.index) told) ∙ held_coins contents left store base batches h) in
    let reads : is_some (coin_there store.mask image place) ≡ true =
    ap (λ (p : Option CoinPlace). is_some (p >>= coin_there store.mask image)) (sym here)
    ∙ ap is_some (sym (live_means store.mask image (get places key)) ∙ sym (seen store.mask image places key))
    ∙ ap (λ (c : Coins). is_some (get c key)) coins
    ∙ sym (coins_known store base batches h.knows key)
    ∙ ap is_some here in
    let misses = ap is_some none in
    absurd cc
