-- The rows of the changed entries lead to the coins that the cache means.
use Rattle.std.proofs.Common.{◌≡◌, ◌≢◌, ◌⊎◌, inl, inr, ℕ, Bool, true, false, List, [], ◌∷◌, Option, Some, None, All, refl, sym, ap, subst, ◌∙◌}
use Rattle.std.specs.FinMap.{FinMap, get}
use Rattle.std.specs.List.Sorted.{IsPermutation}
use Rattle.std.specs.Ordering.{nat_cmp}
use Rattle.std.proofs.lemmas.List.Elements.{All-head, All-tail}
use Rattle.std.proofs.lemmas.Option.{same_Some}
use Rattle.slot_pool.specs.Slots.{IsIn}
use Rattle.base_types.specs.Coins.{Coins}
use Rattle.base_types.specs.declared.coin.Coin.{Coin}
use Rattle.base_types.specs.declared.hash.OutPoint.{OutPoint}
use Rattle.coin_cache.specs.Contents.{Contents, Entry}
use Rattle.coin_cache.specs.Entries.{AreTrueOf, IsSound, StandsOver, entries_of, laid, means}
use Rattle.coin_cache.proofs.Lookups.{coin_over, entry_at, entry_from, get-laid, key_gone, key_here, key_off, key_rest, same_keys}
use Rattle.coin_index.proofs.IndexLaws.{same_key_or_not}
use Rattle.coin_store.specs.Batches.{Row}
use Rattle.coin_store.specs.Places.{coins_after_rows, put}
use Rattle.flusher.specs.Changes.{row_before, rows_in}
use Rattle.flusher.proofs.Moved.{moved_back}
use Rattle.flusher.proofs.Rows.{row_first, rows_all}

put_here : (m : Coins) (k : OutPoint) (o : Option Coin) → get (put m k o) k ≡ o
put_here m k None = key_gone m k
put_here m k (Some coin) = key_here m k coin

put_off : (m : Coins) (k : OutPoint) (o : Option Coin) (q : OutPoint) → q ≢ k → get (put m k o) q ≡ get m q
put_off m k None q ne = key_rest m k q ne
put_off m k (Some coin) q ne = key_off m k coin q ne

-- a row has this outpoint
abbrev HasRow : OutPoint → List Row → Type 0
HasRow q [] = ⊥
HasRow q (row ∷ rows) = (q ≡ row.key) ⊎ HasRow q rows

-- where all rows of an outpoint have one coin, it is what is there after them
after_rows : (rows : List Row) (m : Coins) (q : OutPoint) (coin : Option Coin) → All (λ row. row.key ≡ q → row.coin ≡ coin) rows → (get m q ≡ coin) ⊎ HasRow q rows → get (coins_after_rows m rows) q ≡ coin
after_rows [] m q coin all (inl at) = at
after_rows [] m q coin all (inr i) = absurd i
after_rows (row ∷ rows) m q coin all has =
    go (λ (n : Coins) h. after_rows rows n q coin (All-tail (λ other. other.key ≡ q → other.coin ≡ coin) row rows all) h) (All-head (λ other. other.key ≡ q → other.coin ≡ coin) row rows all) (same_key_or_not q row.key) has
  where
    go : ((n : Coins) → (get n q ≡ coin) ⊎ HasRow q rows → get (coins_after_rows n rows) q ≡ coin) → (row.key ≡ q → row.coin ≡ coin) → (q ≡ row.key) ⊎ (q ≡ row.key → ⊥) → (get m q ≡ coin) ⊎ ((q ≡ row.key) ⊎ HasRow q rows)
        → get (coins_after_rows (put m row.key row.coin) rows) q ≡ coin
    go rest here (inl e) h = rest (put m row.key row.coin) (inl (ap (get (put m row.key row.coin)) e ∙ put_here m row.key row.coin ∙ here (sym e)))
    go rest here (inr ne) (inl at) = rest (put m row.key row.coin) (inl (put_off m row.key row.coin q ne ∙ at))
    go rest here (inr ne) (inr (inl e)) = absurd (ne e)
    go rest here (inr ne) (inr (inr i)) = rest (put m row.key row.coin) (inr i)

has_row : (m : FinMap nat_cmp Entry) (slots : List ℕ) (s : ℕ) (x : Entry) → IsIn s slots → get m s ≡ Some x → HasRow x.key (rows_in m slots)
has_row m [] s x i at = absurd i
has_row m (t ∷ slots) s x (inl e) at = subst (HasRow x.key) (sym (row_first m t x slots (ap (get m) (sym e) ∙ at))) (inl refl)
has_row m (t ∷ slots) s x (inr i) at = go (get m t) (has_row m slots s x i at) where
  go : (o : Option Entry) → HasRow x.key (rows_in m slots) → HasRow x.key (row_before o (rows_in m slots))
  go None has = has
  go (Some y) has = inr has

module _ (c : Contents) (slots : List ℕ) (m : Coins) (sound : IsSound c) (moved : IsPermutation c.changes slots) (are : AreTrueOf m (entries_of c)) where
  abbrev meant : OutPoint → Option Coin
  meant q = coin_over (get (entries_of c) q) (get m q)

  agree : (q : OutPoint) → All (λ row. row.key ≡ q → row.coin ≡ meant q) (rows_in c.slots slots)
  agree q =
      rows_all c.slots (λ row. row.key ≡ q → row.coin ≡ meant q) slots
      (λ s x i at same. sym (ap (λ (o : Option Entry). coin_over o (get m q)) (ap (get (entries_of c)) (sym same) ∙ entry_at c sound s x at)))

  there : (q : OutPoint) (o : Option Entry) → get (entries_of c) q ≡ o → (get m q ≡ meant q) ⊎ HasRow q (rows_in c.slots slots)
  there q None e = inl (sym (ap (λ (o : Option Entry). coin_over o (get m q)) e))
  there q (Some x) e = go x.dirty refl where
    go : (b : Bool) → x.dirty ≡ b → (get m q ≡ meant q) ⊎ HasRow q (rows_in c.slots slots)
    go true dirty =
        let from = entry_from c q x e in
        inr (subst (λ (k : OutPoint). HasRow k (rows_in c.slots slots)) from.2 (has_row c.slots slots from.0 x (moved_back c.changes slots moved from.0 (sound.flagged from.0 x from.1 dirty)) from.1))
    go false clean = inl (sym ((are q x e).clean clean) ∙ sym (ap (λ (o : Option Entry). coin_over o (get m q)) e))

  pub rows_lay : coins_after_rows m (rows_in c.slots slots) ≡ laid (entries_of c) m
  rows_lay =
      same_keys _ _ (λ q. after_rows (rows_in c.slots slots) m q (meant q) (agree q) (there q (get (entries_of c) q) refl) ∙ sym (get-laid (entries_of c) m q))

pub rows_mean : (c : Contents) (slots : List ℕ) (m after : Coins) → IsSound c → IsPermutation c.changes slots → StandsOver c (Some m) → means c (Some m) ≡ Some after → coins_after_rows m (rows_in c.slots slots) ≡ after
rows_mean c slots m after sound moved stands is = rows_lay c slots m sound moved (stands m refl) ∙ same_Some (laid (entries_of c) m) after is
