-- A longer part says what a shorter one said, and maybe more.
use Rattle.std.specs.Prelude.{◌≡◌, ℕ, zero, suc, ◌+◌, ◌-◌, List, [], ◌∷◌, ◌++◌, Option, Some, None, Result, Ok, Err, refl}
use Rattle.std.proofs.Common.{sym, ap, subst, ◌∙◌}
use Rattle.std.proofs.lemmas.List.{append-nil}
use Rattle.base_types.specs.Reading.{Input, place}
use Rattle.base_types.specs.Codec.{Reader}
use Rattle.base_types.specs.declared.hash.Hash32.{Hash32}
use Rattle.snapshot_file.specs.Items.{Wrong, Stop, from_first, head_at, group_at, member_at}
use Rattle.snapshot_file.specs.Part.{Found, with_rest, also, snap_coin, read_member, at_end, read_coins, no_group, behind_head, read_part}
use Rattle.snapshot_file.specs.Fed.{Grows}
use Rattle.snapshot_file.specs.declared.coins.SnapCoin.{SnapCoin}
use Rattle.snapshot_file.specs.declared.head.SnapHead.{SnapHead}
use Rattle.snapshot_file.proofs.Growing.{more, place-more, ReaderGrows}
use Rattle.snapshot_file.proofs.Growing as item
use Rattle.snapshot_file.proofs.ItemsGrow.{stays, head_grows, group_grows, member_grows}
use Rattle.snapshot_file.proofs.Steps.{more_first}

record FoundGrows (found later : Found) : Type 0 where
  others : List SnapCoin
  coins : later.coins ≡ found.coins ++ others
  fault : (wrong : Wrong) → found.fault ≡ Some wrong → later ≡ found

found_same : (found later : Found) → later ≡ found → FoundGrows found later
found_same found later is = record { others = []; coins = ap (λ (f : Found). f.coins) is ∙ sym (append-nil found.coins); fault = λ wrong e. is }

also_grows : (coin : SnapCoin) (found later : Found) → FoundGrows found later → FoundGrows (also coin found) (also coin later)
also_grows coin found later g = record {
  others = g.others;
  coins = ap (λ (l : List SnapCoin). coin ∷ l) g.coins;
  fault = λ wrong e. ap (λ (f : Found). also coin f) (g.fault wrong e);
}

module _ {X : Type 0} (offset : ℕ) (next : X → ℕ → List ℕ → Found) (ys : List ℕ) (each : (x : X) (p : ℕ) (rest : List ℕ) → FoundGrows (next x p rest) (next x p (rest ++ ys))) where
  result_grows : (r s : Result (X × Input) Stop) → item.Grows stays ys r s → FoundGrows (with_rest offset next r) (with_rest offset next s)
  result_grows (Ok p) s e = rw (e, place-more ys p.1) (each p.0 (offset + place p.1) p.1.rest)
  result_grows (Err None) s e = record { others = (with_rest offset next s).coins; coins = refl; fault = λ wrong absent. absurd cc }
  result_grows (Err (Some wrong)) s e = found_same (with_rest offset next (Err (Some wrong))) (with_rest offset next s) (ap (λ (r : Result (X × Input) Stop). with_rest offset next r) (e refl))

  met_grows : (read : Reader Stop X) → ReaderGrows stays read → (bytes : List ℕ) → FoundGrows (with_rest offset next (read (from_first bytes))) (with_rest offset next (read (from_first (bytes ++ ys))))
  met_grows read grows bytes = subst (λ (i : Input). FoundGrows (with_rest offset next (read (from_first bytes))) (with_rest offset next (read i))) (more_first bytes ys) (result_grows (read (from_first bytes)) (read (more ys (from_first bytes))) (grows ys (from_first bytes)))

member_step : (height : Option ℕ) (txid : Hash32) (others : ℕ → List ℕ → Found) (ys : List ℕ) → ((p : ℕ) (rest : List ℕ) → FoundGrows (others p rest) (others p (rest ++ ys))) → (offset : ℕ) (bytes : List ℕ)
    → FoundGrows (read_member height txid others offset bytes) (read_member height txid others offset (bytes ++ ys))
unfolding read_member
member_step height txid others ys each offset bytes =
    met_grows offset (λ member next rest. also (snap_coin txid offset member) (others next rest)) ys (λ member p rest. also_grows (snap_coin txid offset member) (others p rest) (others p (rest ++ ys)) (each p rest)) (member_at height) (member_grows height) bytes

coins_grow : (height : Option ℕ) (left members : ℕ) (txid : Hash32) (ys : List ℕ) (offset : ℕ) (bytes : List ℕ) → FoundGrows (read_coins height left members txid offset bytes) (read_coins height left members txid offset (bytes ++ ys))
unfolding read_coins
coins_grow height zero members txid ys offset [] = record { others = (at_end offset ys).coins; coins = refl; fault = λ wrong absent. absurd cc }
coins_grow height zero members txid ys offset (byte ∷ rest) = found_same (at_end offset (byte ∷ rest)) (at_end offset (byte ∷ rest)) refl
coins_grow height (suc left) zero txid ys offset bytes =
    met_grows offset (λ group next rest. read_member height group.0 (read_coins height left (group.1 - 1) group.0) next rest) ys (λ group p rest. member_step height group.0 (read_coins height left (group.1 - 1) group.0) ys (coins_grow height left (group.1 - 1) group.0 ys) p rest) (group_at (suc left)) (group_grows (suc left)) bytes
coins_grow height (suc left) (suc members) txid ys offset bytes = member_step height txid (read_coins height left members txid) ys (coins_grow height left members txid ys) offset bytes

head_result : (height : Option ℕ) (ys : List ℕ) (r s : Result (SnapHead × Input) Stop) → item.Grows stays ys r s → Grows (behind_head height r) (behind_head height s)
head_result height ys (Ok p) s e =
    let g = coins_grow height p.0.count 0 no_group ys (place p.1) p.1.rest in
    rw (e, place-more ys p.1) (record {
      head = λ head is. is;
      coins = (g.others, g.coins);
      fault = λ wrong is. ap (λ (f : Found). record { head = Some p.0; coins = f.coins; fault = f.fault }) (g.fault wrong is);
    })
head_result height ys (Err None) s e = record {
  head = λ head absent. absurd cc;
  coins = ((behind_head height s).coins, refl);
  fault = λ wrong absent. absurd cc;
}
head_result height ys (Err (Some wrong)) s e =
    rw (e refl) (record { head = λ head is. is; coins = ([], refl); fault = λ w is. refl })

pub parts_grow : (height : Option ℕ) (xs ys : List ℕ) → Grows (read_part height xs) (read_part height (xs ++ ys))
unfolding read_part
parts_grow height xs ys =
    subst (λ (i : Input). Grows (behind_head height (head_at (from_first xs))) (behind_head height (head_at i))) (more_first xs ys) (head_result height ys (head_at (from_first xs)) (head_at (more ys (from_first xs))) (head_grows ys (from_first xs)))
