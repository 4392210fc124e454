-- What a cache means after a step, and why its calls fail.
use Rattle.std.proofs.Common.{◌≡◌, ◌⊎◌, inl, inr, ◌||◌, ◌&&◌, not, ◌+◌, ◌<◌, ◌≤◌, Bool, true, false, List, Option, Some, None, IsSome, is_some, option_map, refl, sym, ap, ◌∙◌, subst, arith}
use Rattle.std.specs.Prelude.{⊤, Contains, Result, Ok, Err, IfOk, OnErr, IfSome}
use Rattle.std.specs.FinMap.{get, empty, get-empty, insert, remove, contains_key, keys, from_entries, len}
use Rattle.base_types.specs.Coins.{Coins, CoinFits}
use Rattle.base_types.specs.Keys.{outpoint_cmp}
use Rattle.base_types.specs.Views.{ViewCounts, HasViewCause, FindsFault, AnswersCoin, HasNoCoin, max_entries, with_coin, without_coin}
use Rattle.base_types.specs.declared.coin.Coin.{Coin}
use Rattle.base_types.specs.declared.fault.StoreFault.{StoreFault}
use Rattle.base_types.specs.declared.fault.StoreFault.TheVariants.{NoMemory, DiskFailed, Damaged, Full, CacheFull}
use Rattle.base_types.specs.declared.hash.OutPoint.{OutPoint}
use Rattle.coin_index.proofs.IndexLaws.{same_key_or_not}
use Rattle.coin_cache.specs.Contents.{Entry, Contents, entry_without_flag}
use Rattle.coin_cache.specs.Entries.{Entries, by_outpoint, entries_of, KeepsEntries, laid_one, laid, means, changed, is_fresh, IsSpent, IsTrueOf, AreTrueOf, StandsOver, AddsOnly, counts_over}
use Rattle.coin_cache.proofs.Lookups.{key_here, key_off, key_gone, key_rest, same_keys, coin_over, one_here, one_off, get-laid, entry_none}
use Rattle.coin_cache.proofs.Nodes.{nothing_in}

-- an entry is written over another, or is new
pub laid_put : (e : Entries) (m : Coins) (k : OutPoint) (w : Entry) → laid (insert e k w) m ≡ laid_one (Some w) k (laid e m)
laid_put e m k w = same_keys _ _ (λ q. at q (same_key_or_not q k)) where
  at : (q : OutPoint) → (q ≡ k) ⊎ (q ≡ k → ⊥) → get (laid (insert e k w) m) q ≡ get (laid_one (Some w) k (laid e m)) q
  at q (inl f) = ap (get (laid (insert e k w) m)) f ∙ get-laid (insert e k w) m k ∙ ap (λ o. coin_over o (get m k)) (key_here e k w) ∙ sym (one_here (Some w) k (laid e m)) ∙ ap (get (laid_one (Some w) k (laid e m))) (sym f)
  at q (inr ne) = get-laid (insert e k w) m q ∙ ap (λ o. coin_over o (get m q)) (key_off e k w q ne) ∙ sym (get-laid e m q) ∙ sym (one_off (Some w) k (laid e m) q ne)

-- the parent's coin becomes an entry
pub laid_kept : (e : Entries) (m : Coins) (k : OutPoint) (w : Entry) → get e k ≡ None → w.coin ≡ get m k → laid (insert e k w) m ≡ laid e m
laid_kept e m k w none is = same_keys _ _ (λ q. at q (same_key_or_not q k)) where
  at : (q : OutPoint) → (q ≡ k) ⊎ (q ≡ k → ⊥) → get (laid (insert e k w) m) q ≡ get (laid e m) q
  at q (inl f) = ap (get (laid (insert e k w) m)) f ∙ get-laid (insert e k w) m k ∙ ap (λ o. coin_over o (get m k)) (key_here e k w) ∙ is ∙ sym (ap (λ o. coin_over o (get m k)) none) ∙ sym (get-laid e m k) ∙ ap (get (laid e m)) (sym f)
  at q (inr ne) = get-laid (insert e k w) m q ∙ ap (λ o. coin_over o (get m q)) (key_off e k w q ne) ∙ sym (get-laid e m q)

-- an entry that the parent has no coin for is taken out
pub laid_gone : (e : Entries) (m : Coins) (k : OutPoint) → get m k ≡ None → laid (remove e k) m ≡ remove (laid e m) k
laid_gone e m k none = same_keys _ _ (λ q. at q (same_key_or_not q k)) where
  at : (q : OutPoint) → (q ≡ k) ⊎ (q ≡ k → ⊥) → get (laid (remove e k) m) q ≡ get (remove (laid e m) k) q
  at q (inl f) = ap (get (laid (remove e k) m)) f ∙ get-laid (remove e k) m k ∙ ap (λ o. coin_over o (get m k)) (key_gone e k) ∙ none ∙ sym (key_gone (laid e m) k) ∙ ap (get (remove (laid e m) k)) (sym f)
  at q (inr ne) = get-laid (remove e k) m q ∙ ap (λ o. coin_over o (get m q)) (key_rest e k q ne) ∙ sym (get-laid e m q) ∙ sym (key_rest (laid e m) k q ne)

-- nothing to take away
pub laid_without : (e : Entries) (m : Coins) (k : OutPoint) → get (laid e m) k ≡ None → laid e m ≡ remove (laid e m) k
laid_without e m k none = same_keys _ _ (λ q. at q (same_key_or_not q k)) where
  at : (q : OutPoint) → (q ≡ k) ⊎ (q ≡ k → ⊥) → get (laid e m) q ≡ get (remove (laid e m) k) q
  at q (inl f) = ap (get (laid e m)) f ∙ none ∙ sym (key_gone (laid e m) k) ∙ ap (get (remove (laid e m) k)) (sym f)
  at q (inr ne) = sym (key_rest (laid e m) k q ne)

pub true_put : (m : Coins) (e : Entries) (k : OutPoint) (w : Entry) → AreTrueOf m e → IsTrueOf m k w → AreTrueOf m (insert e k w)
true_put m e k w all one q x at = go (same_key_or_not q k) where
  go : (q ≡ k) ⊎ (q ≡ k → ⊥) → IsTrueOf m q x
  go (inl f) = let same : Some w ≡ Some x = sym (key_here e k w) ∙ ap (get (insert e k w)) (sym f) ∙ at in let is : w ≡ x = cc same in subst (λ r. IsTrueOf m r x) (sym f) (subst (IsTrueOf m k) is one)
  go (inr ne) = all q x (sym (key_off e k w q ne) ∙ at)

pub true_take : (m : Coins) (e : Entries) (k : OutPoint) → AreTrueOf m e → AreTrueOf m (remove e k)
true_take m e k all q x at = go (same_key_or_not q k) where
  go : (q ≡ k) ⊎ (q ≡ k → ⊥) → IsTrueOf m q x
  go (inl f) = let c : None ≡ Some x = sym (key_gone e k) ∙ ap (get (remove e k)) (sym f) ∙ at in cc
  go (inr ne) = all q x (sym (key_rest e k q ne) ∙ at)

pub adds_put : (c d : Contents) (k : OutPoint) (w : Entry) → entries_of d ≡ insert (entries_of c) k w → (keys : List OutPoint) → Contains keys k → AddsOnly keys c d
adds_put c d k w is keys named q has = go (same_key_or_not q k) where
  go : (q ≡ k) ⊎ (q ≡ k → ⊥) → (contains_key (entries_of c) q ≡ true) ⊎ Contains keys q
  go (inl f) = inr (subst (Contains keys) (sym f) named)
  go (inr ne) = inl (sym (ap is_some (ap (λ e. get e q) is ∙ key_off (entries_of c) k w q ne)) ∙ has)

pub adds_take : (c d : Contents) (k : OutPoint) → entries_of d ≡ remove (entries_of c) k → (keys : List OutPoint) → AddsOnly keys c d
adds_take c d k is keys q has = go (same_key_or_not q k) where
  go : (q ≡ k) ⊎ (q ≡ k → ⊥) → (contains_key (entries_of c) q ≡ true) ⊎ Contains keys q
  go (inl f) = let g : false ≡ true = sym (ap is_some (ap (λ e. get e q) is ∙ ap (get (remove (entries_of c) k)) f ∙ key_gone (entries_of c) k)) ∙ has in cc
  go (inr ne) = inl (sym (ap is_some (ap (λ e. get e q) is ∙ key_rest (entries_of c) k q ne)) ∙ has)

pub adds_none : (c d : Contents) → entries_of d ≡ entries_of c → (keys : List OutPoint) → AddsOnly keys c d
adds_none c d is keys q has = inl (sym (ap (λ e. contains_key e q) is) ∙ has)

-- what an outpoint's entry answers, and what the parent answers where there is none
pub answers_entry : (c : Contents) (told : Option Coins) (k : OutPoint) (x : Entry) (r : Result (Option Coin) StoreFault) → get (entries_of c) k ≡ Some x → IfOk r (λ coin. coin ≡ x.coin) → AnswersCoin (means c told) k r
answers_entry c None k x r at is = tt
answers_entry c (Some m) k x (Ok coin) at is = is ∙ sym (get-laid (entries_of c) m k ∙ ap (λ o. coin_over o (get m k)) at)
answers_entry c (Some m) k x (Err f) at is = tt

pub answers_parent : (c : Contents) (told : Option Coins) (k : OutPoint) (coin : Option Coin) → get (entries_of c) k ≡ None → AnswersCoin told k (Ok coin) → AnswersCoin (means c told) k (Ok coin)
answers_parent c None k coin none is = tt
answers_parent c (Some m) k coin none is = is ∙ sym (get-laid (entries_of c) m k ∙ ap (λ o. coin_over o (get m k)) none)

pub answers_fault : (told : Option Coins) (k : OutPoint) (f : StoreFault) → AnswersCoin told k (Err f)
answers_fault None k f = tt
answers_fault (Some m) k f = tt

-- causes

-- a fault of the view, over a cache with as many entries as before
pub fault_over : {T : Type 0} (c d : Contents) (v w : ViewCounts) (f : StoreFault) → len d.slots ≡ len c.slots → FindsFault {T = Option Coin} 1 v w (Err f) → FindsFault {T = T} 1 (counts_over c v) (counts_over d w) (Err f)
fault_over {T} c d v w f same finds = record { entries = omega (arith, finds.entries, same); cause = go f finds.cause } where
  go : (f : StoreFault) → HasViewCause {T = Option Coin} 1 v w (Err f) → HasViewCause {T = T} 1 (counts_over c v) (counts_over d w) (Err f)
  go NoMemory cause = record { faults = cause.faults; broken = cause.broken }
  go DiskFailed cause = record { rose = cause.rose; broken = cause.broken }
  go (Damaged file at) cause = record { faults = cause.faults; broken = cause.broken }
  go (Full file) cause = cause
  go CacheFull cause = let many = cause.entries in record { nothing = record { faults = cause.nothing.faults; broken = cause.nothing.broken }; entries = omega arith }

-- an answer of the view, and then one of the cache
pub answer_over : {T U : Type 0} (c d : Contents) (v w : ViewCounts) (value : T) (other : U) → len d.slots ≤ len c.slots + 1 → FindsFault 1 v w (Ok value) → FindsFault 1 (counts_over c v) (counts_over d w) (Ok other)
answer_over c d v w value other few finds = record { entries = omega (arith, finds.entries, few); cause = record { faults = finds.cause.faults; broken = finds.cause.broken } }

-- why an entry can't be added
abbrev pub NoRoom : Contents → StoreFault → Type 0
NoRoom c f = (f ≡ NoMemory) ⊎ ((f ≡ CacheFull) × (max_entries < len c.slots + 1))

pub no_room : {T U : Type 0} (c d : Contents) (v w : ViewCounts) (value : T) (f : StoreFault) → len d.slots ≡ len c.slots → FindsFault 1 v w (Ok value) → NoRoom c f → FindsFault {T = U} 1 (counts_over c v) (counts_over d w) (Err f)
no_room {T} {U} c d v w value f same finds cause = record { entries = omega (arith, finds.entries, same); cause = go cause } where
  go : NoRoom c f → HasViewCause {T = U} 1 (counts_over c v) (counts_over d w) (Err f)
  go (inl is) = subst (λ g. HasViewCause {T = U} 1 (counts_over c v) (counts_over d w) (Err g)) (sym is) (record { faults = finds.cause.faults; broken = finds.cause.broken })
  go (inr is) = subst (λ g. HasViewCause {T = U} 1 (counts_over c v) (counts_over d w) (Err g)) (sym is.0) (let many = is.1 in record { nothing = record { faults = finds.cause.faults; broken = finds.cause.broken }; entries = omega arith })

pub same_entries : (c d : Contents) → KeepsEntries c d → entries_of d ≡ entries_of c
same_entries c d h = ap (λ s. from_entries (by_outpoint s (keys s))) h.slots

-- the parent's coin was made an entry, or not
module _ (c d : Contents) (k : OutPoint) (coin : Coin) (none : get (entries_of c) k ≡ None) (told : Option Coins) (is : AnswersCoin told k (Ok (Some coin))) where
  module _ (same : entries_of d ≡ insert (entries_of c) k (entry_without_flag k (Some coin) false)) where
    means_kept : (t : Option Coins) → AnswersCoin t k (Ok (Some coin)) → means d t ≡ means c t
    means_kept None a = refl
    means_kept (Some m) a = ap Some (ap (λ e. laid e m) same ∙ laid_kept (entries_of c) m k (entry_without_flag k (Some coin) false) none a)

    stands_kept : StandsOver c told → StandsOver d told
    stands_kept h m t = subst (AreTrueOf m) (sym same) (true_put m (entries_of c) k (entry_without_flag k (Some coin) false) (h m t) (record {
      clean = λ f. subst (λ o. AnswersCoin o k (Ok (Some coin))) t is;
      fresh = λ f. let g : false ≡ true = f in cc;
    }))

  pub held_answer : (r : Result (Option Coin) StoreFault) → IfOk r (λ a. (a ≡ Some coin) × (entries_of d ≡ insert (entries_of c) k (entry_without_flag k (Some coin) false)) × (len d.slots ≡ len c.slots + 1)) → OnErr r (KeepsEntries c d)
      → AnswersCoin (means c told) k r × (means d told ≡ means c told) × (StandsOver c told → StandsOver d told) × IfOk r (λ a. IsSome a → contains_key (entries_of d) k ≡ true) × ((keys : List OutPoint) → Contains keys k → AddsOnly keys c d)
  held_answer (Ok a) ok err = (
    subst (λ o. AnswersCoin (means c told) k (Ok o)) (sym ok.0) (answers_parent c told k (Some coin) none is),
    means_kept ok.1 told is,
    stands_kept ok.1,
    (λ _. ap is_some (ap (λ e. get e k) ok.1 ∙ key_here (entries_of c) k (entry_without_flag k (Some coin) false))),
    adds_put c d k (entry_without_flag k (Some coin) false) ok.1,
  )
  held_answer (Err f) ok err =
      let same = same_entries c d err in (
        answers_fault (means c told) k f,
        ap (λ e. option_map (laid e) told) same,
        (λ h m t. subst (AreTrueOf m) (sym same) (h m t)),
        tt,
        (λ keys named. adds_none c d same keys),
      )

pub entry_fits : (r : Result (Option Coin) StoreFault) (coin : Option Coin) → IfOk r (λ a. a ≡ coin) → IfSome coin CoinFits → IfOk r (λ a. IfSome a CoinFits)
entry_fits (Ok a) coin is fits = subst (λ o. IfSome o CoinFits) (sym is) fits
entry_fits (Err f) coin is fits = tt

-- adding

pub add_means : (c d : Contents) (k : OutPoint) (coin : Coin) (fresh : Bool) → entries_of d ≡ insert (entries_of c) k (changed k (Some coin) fresh) → (told : Option Coins) → means d told ≡ option_map (with_coin {T = ⊤} (Ok tt) k coin) (means c told)
add_means c d k coin fresh is None = refl
add_means c d k coin fresh is (Some m) = ap Some (ap (λ e. laid e m) is ∙ laid_put (entries_of c) m k (changed k (Some coin) fresh))

pub change_stands : (c d : Contents) (k : OutPoint) (coin : Option Coin) (fresh : Bool) → entries_of d ≡ insert (entries_of c) k (changed k coin fresh) → (told : Option Coins) → ((m : Coins) → told ≡ Some m → fresh ≡ true → get m k ≡ None) → StandsOver c told → StandsOver d told
change_stands c d k coin fresh is told none h m t =
    subst (AreTrueOf m) (sym is) (true_put m (entries_of c) k (changed k coin fresh) (h m t) (record { clean = λ f. let g : true ≡ false = f in cc; fresh = none m t }))

either : (a b d : Bool) → (a || (not b && not d)) ≡ true → (a ≡ true) ⊎ ((b ≡ false) × (d ≡ false))
either true b d e = inl refl
either false true d e = cc
either false false true e = cc
either false false false e = inr (refl, refl)

-- a coin that isn't there, where there is an entry, and where there is none
pub fresh_entry : (c : Contents) (told : Option Coins) (k : OutPoint) (x : Entry) (may fresh : Bool) → get (entries_of c) k ≡ Some x → fresh ≡ is_fresh may (Some x) → (may ≡ false → HasNoCoin (means c told) k) → StandsOver c told
    → (m : Coins) → told ≡ Some m → fresh ≡ true → get m k ≡ None
fresh_entry c told k x may fresh at why none h m t isfresh = go (either x.fresh may x.dirty (sym why ∙ isfresh)) where
  one : IsTrueOf m k x
  one = h m t k x at

  go : (x.fresh ≡ true) ⊎ ((may ≡ false) × (x.dirty ≡ false)) → get m k ≡ None
  go (inl f) = one.fresh f
  go (inr b) = sym (one.clean b.1) ∙ sym (ap (λ o. coin_over o (get m k)) at) ∙ sym (get-laid (entries_of c) m k) ∙ subst (λ o. HasNoCoin (means c o) k) t (none b.0)

pub fresh_new : (c : Contents) (told : Option Coins) (k : OutPoint) (may fresh : Bool) → get (entries_of c) k ≡ None → (fresh ≡ true → may ≡ false) → (may ≡ false → HasNoCoin (means c told) k) → (m : Coins) → told ≡ Some m → fresh ≡ true → get m k ≡ None
fresh_new c told k may fresh at why none m t isfresh = sym (ap (λ o. coin_over o (get m k)) at) ∙ sym (get-laid (entries_of c) m k) ∙ subst (λ o. HasNoCoin (means c o) k) t (none (why isfresh))

-- spending

pub spend_means : (c d : Contents) (k : OutPoint) (value : Option Coin) → entries_of d ≡ insert (entries_of c) k (changed k None false) → (told : Option Coins) → means d told ≡ option_map (without_coin {T = Option Coin} (Ok value) k) (means c told)
spend_means c d k value is None = refl
spend_means c d k value is (Some m) = ap Some (ap (λ e. laid e m) is ∙ laid_put (entries_of c) m k (changed k None false))

no_more : (m : Coins) → false ≡ true → (o : Option Coin) → o ≡ None
no_more m f o = cc

-- the entry of an outpoint is spent
module _ (c d : Contents) (k : OutPoint) (x : Entry) (at : get (entries_of c) k ≡ Some x) (key : x.key ≡ k) (told : Option Coins) (value : Option Coin) where
  pub spent_means : IsSpent x (entries_of c) (entries_of d) → StandsOver c told → means d told ≡ option_map (without_coin {T = Option Coin} (Ok value) k) (means c told)
  spent_means (inl s) h = go told where
    go : (t : Option Coins) → means d t ≡ option_map (without_coin {T = Option Coin} (Ok value) k) (means c t)
    go None = refl
    go (Some m) = ap Some (ap (λ e. laid e m) s.1 ∙ laid_without (entries_of c) m k (get-laid (entries_of c) m k ∙ ap (λ o. coin_over o (get m k)) at ∙ s.0))
  spent_means (inr (inl s)) h = go told h where
    go : (t : Option Coins) → StandsOver c t → means d t ≡ option_map (without_coin {T = Option Coin} (Ok value) k) (means c t)
    go None h' = refl
    go (Some m) h' = ap Some (ap (λ e. laid e m) (s.1 ∙ ap (remove (entries_of c)) key) ∙ laid_gone (entries_of c) m k ((h' m refl k x at).fresh s.0))
  spent_means (inr (inr s)) h = spend_means c d k value (s.1 ∙ (λ i. insert (entries_of c) (key i) (changed (key i) None false))) told

  pub spent_stands : IsSpent x (entries_of c) (entries_of d) → StandsOver c told → StandsOver d told
  spent_stands (inl s) h m t = subst (AreTrueOf m) (sym s.1) (h m t)
  spent_stands (inr (inl s)) h m t = subst (AreTrueOf m) (sym s.1) (true_take m (entries_of c) x.key (h m t))
  spent_stands (inr (inr s)) h m t = change_stands c d x.key None false s.1 told (λ n u f. let g : false ≡ true = f in no_more n g (get n x.key)) h m t

  pub spent_adds : IsSpent x (entries_of c) (entries_of d) → (keys : List OutPoint) → Contains keys k → AddsOnly keys c d
  spent_adds (inl s) keys named = adds_none c d s.1 keys
  spent_adds (inr (inl s)) keys named = adds_take c d x.key s.1 keys
  spent_adds (inr (inr s)) keys named = adds_put c d x.key (changed x.key None false) s.1 keys (subst (Contains keys) (sym key) named)

-- nothing was there
pub spent_none : (c : Contents) (told : Option Coins) (k : OutPoint) (value : Option Coin) → get (entries_of c) k ≡ None → AnswersCoin told k (Ok None) → means c told ≡ option_map (without_coin {T = Option Coin} (Ok value) k) (means c told)
spent_none c None k value none is = refl
spent_none c (Some m) k value none is = ap Some (laid_without (entries_of c) m k (get-laid (entries_of c) m k ∙ ap (λ o. coin_over o (get m k)) none ∙ sym is))

-- the parent's coin was made a spent entry, or not
pub spent_answer : (c d : Contents) (k : OutPoint) (coin : Coin) → get (entries_of c) k ≡ None → (told : Option Coins) → AnswersCoin told k (Ok (Some coin)) → (r : Result (Option Coin) StoreFault)
    → IfOk r (λ a. (a ≡ Some coin) × (entries_of d ≡ insert (entries_of c) k (changed k None false)) × (len d.slots ≡ len c.slots + 1)) → OnErr r (KeepsEntries c d)
    → AnswersCoin (means c told) k r × (means d told ≡ option_map (without_coin r k) (means c told)) × (StandsOver c told → StandsOver d told) × ((keys : List OutPoint) → Contains keys k → AddsOnly keys c d)
spent_answer c d k coin none told is (Ok a) ok err = (
  subst (λ o. AnswersCoin (means c told) k (Ok o)) (sym ok.0) (answers_parent c told k (Some coin) none is),
  spend_means c d k a ok.1 told,
  change_stands c d k None false ok.1 told (λ m t f. let g : false ≡ true = f in no_more m g (get m k)),
  adds_put c d k (changed k None false) ok.1,
)
spent_answer c d k coin none told is (Err f) ok err =
    let same = same_entries c d err in (
      answers_fault (means c told) k f,
      ap (λ e. option_map (laid e) told) same ∙ twice told,
      (λ h m t. subst (AreTrueOf m) (sym same) (h m t)),
      (λ keys named. adds_none c d same keys),
    ) where
      twice : (t : Option Coins) → means c t ≡ option_map (without_coin {T = Option Coin} (Err f) k) (means c t)
      twice None = refl
      twice (Some m) = refl

-- without entries

pub no_entries : (c : Contents) → c.slots ≡ empty → entries_of c ≡ empty
no_entries c none = same_keys _ _ (λ k. entry_none c k (λ s x at same. nothing_in c.slots s x none at) ∙ sym (get-empty outpoint_cmp k))

pub means_parent : (c : Contents) → c.slots ≡ empty → (told : Option Coins) → (means c told ≡ told) × StandsOver c told
means_parent c none told = (go told, λ m t k x at. let e : None ≡ Some x = sym (get-empty outpoint_cmp k) ∙ sym (ap (λ n. get n k) (no_entries c none)) ∙ at in cc) where
  go : (t : Option Coins) → means c t ≡ t
  go None = refl
  go (Some m) = ap Some (ap (λ e. laid e m) (no_entries c none) ∙ same_keys _ _ (λ k. get-laid empty m k ∙ ap (λ o. coin_over o (get m k)) (get-empty outpoint_cmp k)))
