-- The coins that a view tells are those that its places mean.
use Rattle.std.specs.Prelude.{◌≡◌, ℕ, Bool, true, false, List, [], ◌∷◌, take, drop, Option, Some, None, Result, Ok, Err, IfOk, refl}
use Rattle.std.specs.FinMap.{FinMap, find, get, entries, get-entries, get-empty, get-insert, get-remove}
use Rattle.std.specs.Ordering.{eq_by_cmp}
use Rattle.std.proofs.Common.{cond, eqb, sym, ap, subst, ◌∙◌, inl, inr}
use Rattle.std.proofs.lemmas.Bool.{cases_Bool, eqb-true}
use Rattle.disk_model.specs.Disk.{Image}
use Rattle.base_types.specs.Keys.{outpoint_cmp}
use Rattle.base_types.proofs.KeyOrders.{outpoint_cmp_total}
use Rattle.base_types.specs.Views.{AnswersCoin}
use Rattle.base_types.specs.declared.coin.Coin.{Coin}
use Rattle.base_types.specs.declared.fault.StoreFault.{StoreFault}
use Rattle.base_types.specs.declared.hash.OutPoint.{OutPoint}
use Rattle.coin_store.specs.declared.places.CoinPlace.{CoinPlace}
use Rattle.coin_store.specs.OpenIndex.{OpenIndex}
use Rattle.coin_store.specs.Places.{CoinPlaces, put, live, bytes_there, coin_there, coins_of, coins_at_places}
use Rattle.coin_store.specs.Reading.{◌>>=◌, value_of}
use Rattle.coin_store.specs.Viewing.{AnswersPlace, coins_seen}

module _ {V : Type 0} where
  pub get-put : (map : FinMap outpoint_cmp V) (key : OutPoint) (value : Option V) (q : OutPoint) → get (put map key value) q ≡ cond (eq_by_cmp outpoint_cmp q key) value (get map q)
  get-put map key None q = get-remove outpoint_cmp_total map key q
  get-put map key (Some value) q = get-insert outpoint_cmp_total map key value q

first_there : {A B : Type 0} (b : Bool) (x : A) (rest : Option A) (f : A → Option B) → (cond b (Some x) rest >>= f) ≡ cond b (f x) (rest >>= f)
first_there true x rest f = refl
first_there false x rest f = refl

seen_in : (mask : List ℕ) (image : Image) (es : List (OutPoint × CoinPlace)) (q : OutPoint) → get (coins_of mask image es) q ≡ (find outpoint_cmp q es >>= coin_there mask image)
seen_in mask image [] q = get-empty outpoint_cmp q
seen_in mask image (e ∷ es) q =
    get-put (coins_of mask image es) e.0 (coin_there mask image e.1) q
    ∙ ap (λ (c : Option Coin). cond (eq_by_cmp outpoint_cmp q e.0) (coin_there mask image e.1) c) (seen_in mask image es q)
    ∙ sym (first_there (eq_by_cmp outpoint_cmp q e.0) e.1 (find outpoint_cmp q es) (coin_there mask image))

-- the coin that an outpoint's place means
pub seen : (mask : List ℕ) (image : Image) (places : CoinPlaces) (q : OutPoint) → get (coins_at_places mask image places) q ≡ (get places q >>= coin_there mask image)
seen mask image places q = seen_in mask image (entries places) q ∙ ap (λ (p : Option CoinPlace). p >>= coin_there mask image) (sym (get-entries places q))

-- room without bytes means no coin
pub no_bytes : (mask : List ℕ) (image : Image) (place : CoinPlace) → place.len ≡ 0 → coin_there mask image place ≡ None
unfolding value_of
no_bytes mask image place none =
    let few : bytes_there image place ≡ [] = ap (λ (n : ℕ). take n (drop place.at (image place.file))) none in
    rw (few, none) refl

answers_ok : (result : Result (Option Coin) StoreFault) (coin : Option Coin) → result ≡ Ok None → coin ≡ None → IfOk result (λ c. c ≡ coin)
answers_ok result coin is none = subst (λ (r : Result (Option Coin) StoreFault). IfOk r (λ c. c ≡ coin)) (sym is) (sym none)

answers_place : (mask : List ℕ) (image : Image) (place : CoinPlace) (coin : Option Coin) (result : Result (Option Coin) StoreFault) → coin ≡ coin_there mask image place → AnswersPlace mask image place result → IfOk result (λ c. c ≡ coin)
answers_place mask image place coin (Ok c) is a = a.1 ∙ sym is
answers_place mask image place coin (Err fault) is a = tt

pub answers : (mask : List ℕ) (index : OpenIndex) (contents : Option Image) (key : OutPoint) (result : Result (Option Coin) StoreFault)
    → (live (get index.places key) ≡ None → result ≡ Ok None)
    → ((place : CoinPlace) (m : Image) → live (get index.places key) ≡ Some place → contents ≡ Some m → AnswersPlace mask m place result)
    → AnswersCoin (coins_seen mask index contents) key result
answers mask index None key result absent placed = tt
answers mask index (Some m) key result absent placed = go (get index.places key) refl where
  go : (p : Option CoinPlace) → get index.places key ≡ p → IfOk result (λ c. c ≡ get (coins_at_places mask m index.places) key)
  go None e = answers_ok result _ (absent (ap live e)) (seen mask m index.places key ∙ ap (λ (p : Option CoinPlace). p >>= coin_there mask m) e)
  go (Some place) e = elim (cases_Bool (eqb place.len 0)) [
    | inl t ↦
        answers_ok result _ (absent (ap live e ∙ rw t refl))
        (seen mask m index.places key ∙ ap (λ (p : Option CoinPlace). p >>= coin_there mask m) e ∙ no_bytes mask m place (eqb-true place.len 0 t))
    | inr f ↦
        answers_place mask m place _ result (seen mask m index.places key ∙ ap (λ (p : Option CoinPlace). p >>= coin_there mask m) e) (placed place m (ap live e ∙ rw f refl) refl)
  ]
