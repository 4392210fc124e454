-- Steps of a reader from item to item.
use Rattle.std.specs.Prelude.{◌≡◌, ℕ, zero, suc, ◌+◌, ◌-◌, ◌*◌, ◌<◌, ◌≤◌, List, [], ◌∷◌, ◌++◌, length, take, drop, Option, Some, None, Result, Ok, Err, refl}
use Rattle.std.proofs.Common.{cond, eqb, sym, ap, subst, ◌∙◌, append_assoc, arith, inl, inr}
use Rattle.std.proofs.lemmas.Bool.{cases_lt, cases_Bool, ne_eqb}
use Rattle.std.proofs.lemmas.List.{length-append, length-drop, take-append-drop, take-append-le, take_at, append-nil}
use Rattle.base_types.specs.Reading.{Input, place, compact_at, length_at}
use Rattle.base_types.specs.Codec.{Reader, IsBytes, at}
use Rattle.base_types.proofs.Codecs.{IsCodec, ok_is}
use Rattle.base_types.specs.declared.hash.Hash32.{Hash32}
use Rattle.base_types.specs.declared.coin.Coin.{Coin}
use Rattle.base_types.specs.declared.snapshot_error.SnapError.{SnapError}
use Rattle.snapshot_file.specs.Items.{Wrong, Stop, from_first, group_at, member_at}
use Rattle.snapshot_file.specs.Part.{Found, nothing, snap_coin, read_member, read_coins}
use Rattle.snapshot_file.specs.ItemReading.{Fails, IsEnd}
use Rattle.snapshot_file.specs.Steps.{read_from, after, len_of, item_len, next_len, Goes, Breaks, TakesItem, ItemStep, point, outcome}
use Rattle.snapshot_file.specs.declared.coins.SnapCoin.{SnapCoin}
use Rattle.snapshot_file.specs.declared.item_fault.ItemFault.{ItemFault}
use Rattle.snapshot_file.specs.declared.item_fault.ItemFault.TheVariants.{Unfinished, NoMemory, Bad}
use Rattle.snapshot_file.specs.declared.progress.Progress.{Progress}
use Rattle.snapshot_file.proofs.Growing.{more, Grows, ReaderGrows}
use Rattle.snapshot_file.proofs.ItemsGrow.{stays, group_grows, member_grows}
use Rattle.snapshot_file.proofs.ItemLaws.{front, group_codec, member_codec}
use Rattle.snapshot_file.proofs.Within.{Within, stop_offset, group_within, member_within}

-- ---- more bytes behind an item

pub more_first : (bytes ys : List ℕ) → more ys (from_first bytes) ≡ from_first (bytes ++ ys)
more_first bytes ys i = record { end = sym (length-append bytes ys) i; rest = bytes ++ ys }

-- what an item is read as, where more follows
pub grown_ok : {X : Type 0} (read : Reader Stop X) → ReaderGrows stays read → (bytes ys : List ℕ) (x : X) (len : ℕ) → read (from_first bytes) ≡ Ok (x, at (length bytes) (drop len bytes)) → len ≤ length bytes
    → (read (from_first (bytes ++ ys)) ≡ Ok (x, at (length bytes + length ys) (drop len bytes ++ ys))) × (place (at (length bytes + length ys) (drop len bytes ++ ys)) ≡ len)
grown_ok {X} read grows bytes ys x len e within =
    let g : Grows stays ys (Ok (x, at (length bytes) (drop len bytes))) (read (more ys (from_first bytes))) = subst (λ (r : Result (X × Input) Stop). Grows stays ys r (read (more ys (from_first bytes)))) e (grows ys (from_first bytes)) in
    (ap (λ (i : Input). read i) (sym (more_first bytes ys)) ∙ g, omega (arith, length-append (drop len bytes) ys, length-drop len bytes))

pub grown_err : {X : Type 0} (read : Reader Stop X) → ReaderGrows stays read → (bytes ys : List ℕ) (wrong : Wrong) → read (from_first bytes) ≡ Err (Some wrong) → read (from_first (bytes ++ ys)) ≡ Err (Some wrong)
grown_err {X} read grows bytes ys wrong e =
    let err : Result (X × Input) Stop = Err (Some wrong) in
    let g : Grows stays ys err (read (more ys (from_first bytes))) = subst (λ (r : Result (X × Input) Stop). Grows stays ys r (read (more ys (from_first bytes)))) e (grows ys (from_first bytes)) in
    ap (λ (i : Input). read i) (sym (more_first bytes ys)) ∙ g refl

-- ---- one item

pub group_goes : (height : Option ℕ) (left : ℕ) (txid : Hash32) (offset : ℕ) (bytes : List ℕ) (other : Hash32) (count len : ℕ) → group_at (suc left) (from_first bytes) ≡ Ok ((other, count), at (length bytes) (drop len bytes)) → len ≤ length bytes → 0 < count
    → (ys : List ℕ) → read_coins height (suc left) 0 txid offset (bytes ++ ys) ≡ read_coins height (suc left) count other (offset + len) (drop len bytes ++ ys)
unfolding read_coins
group_goes height left txid offset bytes other zero len e within some ys = absurd (omega arith)
group_goes height left txid offset bytes other (suc members) len e within some ys =
    let g = grown_ok (group_at (suc left)) (group_grows (suc left)) bytes ys (other, suc members) len e within in
    let less : suc members - 1 ≡ members = omega arith in
    rw (g.0, g.1, less) refl

pub member_goes : (height : Option ℕ) (left members : ℕ) (txid : Hash32) (offset : ℕ) (bytes : List ℕ) (member : ℕ × Coin) (len : ℕ) → member_at height (from_first bytes) ≡ Ok (member, at (length bytes) (drop len bytes)) → len ≤ length bytes
    → (ys : List ℕ) → read_coins height (suc left) (suc members) txid offset (bytes ++ ys) ≡ after (snap_coin txid offset member ∷ []) (read_coins height left members txid (offset + len) (drop len bytes ++ ys))
unfolding read_coins read_member
member_goes height left members txid offset bytes member len e within ys =
    let g = grown_ok (member_at height) (member_grows height) bytes ys member len e within in
    rw (g.0, g.1) refl

pub group_breaks : (height : Option ℕ) (left : ℕ) (txid : Hash32) (offset : ℕ) (bytes : List ℕ) (wrong : Wrong) → group_at (suc left) (from_first bytes) ≡ Err (Some wrong)
    → (ys : List ℕ) → read_coins height (suc left) 0 txid offset (bytes ++ ys) ≡ record { coins = []; fault = Some (wrong.0, offset + wrong.1) }
unfolding read_coins
group_breaks height left txid offset bytes wrong e ys = rw (grown_err (group_at (suc left)) (group_grows (suc left)) bytes ys wrong e) refl

pub member_breaks : (height : Option ℕ) (left members : ℕ) (txid : Hash32) (offset : ℕ) (bytes : List ℕ) (wrong : Wrong) → member_at height (from_first bytes) ≡ Err (Some wrong)
    → (ys : List ℕ) → read_coins height (suc left) (suc members) txid offset (bytes ++ ys) ≡ record { coins = []; fault = Some (wrong.0, offset + wrong.1) }
unfolding read_coins read_member
member_breaks height left members txid offset bytes wrong e ys = rw (grown_err (member_at height) (member_grows height) bytes ys wrong e) refl

stop_is : {X : Type 0} (r : Result (X × Input) Stop) → len_of r ≡ Err None → r ≡ Err None
stop_is (Ok p) e = absurd cc
stop_is (Err stop) e = cc

-- where the next item isn't whole, nothing is found
pub waits_nothing : (height : Option ℕ) (left members : ℕ) (txid : Hash32) (offset : ℕ) (bytes : List ℕ) → item_len height left members bytes ≡ Err None → read_coins height left members txid offset bytes ≡ nothing
unfolding read_coins read_member item_len
waits_nothing height zero members txid offset [] e = refl
waits_nothing height zero members txid offset (byte ∷ rest) e = absurd cc
waits_nothing height (suc left) zero txid offset bytes e = rw (stop_is (group_at (suc left) (from_first bytes)) e) refl
waits_nothing height (suc left) (suc members) txid offset bytes e = rw (stop_is (member_at height (from_first bytes)) e) refl

-- no byte is no item
pub empty_waits : (height : Option ℕ) (left members : ℕ) → item_len height left members [] ≡ Err None
unfolding item_len group_at member_at length_at compact_at
empty_waits height zero members = refl
empty_waits height (suc left) zero = refl
empty_waits height (suc left) (suc members) = refl

-- ---- no item is whole before its last byte

len_is : {X : Type 0} (r : Result (X × Input) Stop) (len : ℕ) → len_of r ≡ Ok len → (x : X) × (j : Input) × (r ≡ Ok (x, j)) × (place j ≡ len)
len_is (Ok p) len e = (p.0, p.1, refl, ok_is {E = Stop} (place p.1) len e)
len_is (Err stop) len e = absurd cc

front_long : {X : Type 0} {read : Reader Stop X} {text : X → List ℕ} {Fits : X → Type 0} → IsCodec read text Fits → (xs ys : List ℕ) (len : ℕ) → IsBytes (xs ++ ys) → len_of (read (from_first (xs ++ ys))) ≡ Ok len → len_of (read (from_first xs)) ≡ Err None → length xs ≤ len
front_long {X} {read} {text} law xs ys len fits whole short = elim (cases_lt len (length xs)) [
  | inr le ↦ le
  | inl lt ↦
      let r = len_is (read (from_first (xs ++ ys))) len whole in
      let f = front law (xs ++ ys) r.0 r.1 fits r.2 in
      let t = text r.0 in
      let size : len ≡ length t = sym r.3 ∙ f.len in
      let first : take (length t) xs ≡ t = sym (take-append-le (length t) xs ys (omega arith)) ∙ ap (λ (b : List ℕ). take (length t) b) f.parts ∙ take_at t r.1.rest (length t) refl in
      let parts : t ++ drop (length t) xs ≡ xs = ap (λ (b : List ℕ). b ++ drop (length t) xs) (sym first) ∙ take-append-drop (length t) xs in
      let again : read (from_first xs) ≡ Ok (r.0, at (length xs) (drop (length t) xs)) = ap (λ (b : List ℕ). read (at (length xs) b)) (sym parts) ∙ law.again r.0 (length xs) (drop (length t) xs) f.fits in
      let none = stop_is (read (from_first xs)) short in
      absurd (ok_not_err none again)
] where
  ok_not_err : {A : Type 0} {r : Result A Stop} {stop : Stop} {x : A} → r ≡ Err stop → r ≡ Ok x → ⊥
  ok_not_err p q = cc

pub item_long : (height : Option ℕ) (left members : ℕ) (xs ys : List ℕ) (len : ℕ) → IsBytes (xs ++ ys) → item_len height left members (xs ++ ys) ≡ Ok len → item_len height left members xs ≡ Err None → length xs ≤ len
unfolding item_len
item_long height zero members [] [] len fits whole short = absurd cc
item_long height zero members [] (y ∷ ys) len fits whole short = absurd cc
item_long height zero members (x ∷ xs) ys len fits whole short = absurd cc
item_long height (suc left) zero xs ys len fits whole short = front_long (group_codec (suc left)) xs ys len fits whole short
item_long height (suc left) (suc members) xs ys len fits whole short = front_long (member_codec height) xs ys len fits whole short

-- ---- from item to item

pub goes_same : (s : Progress) (offset : ℕ) (bytes : List ℕ) (coins : List SnapCoin) → Goes (point s offset bytes coins) (point s offset bytes coins)
goes_same s offset bytes coins = record { found = []; coins = sym (append-nil coins); goes_on = λ ys. refl; counted = omega arith; height = refl }

pub goes_then : (a b c : Progress) (at_a at_b at_c : ℕ) (bytes mid rest : List ℕ) (had more_coins has : List SnapCoin) → Goes (point a at_a bytes had) (point b at_b mid more_coins) → Goes (point b at_b mid more_coins) (point c at_c rest has) → Goes (point a at_a bytes had) (point c at_c rest has)
goes_then a b c at_a at_b at_c bytes mid rest had more_coins has p q = record {
  found = p.found ++ q.found;
  coins = q.coins ∙ ap (λ (l : List SnapCoin). l ++ q.found) p.coins ∙ append_assoc had p.found q.found;
  goes_on = λ ys.
      p.goes_on ys ∙ ap (λ (f : Found). after p.found f) (q.goes_on ys) ∙ joined p.found q.found (read_from c at_c (rest ++ ys));
  counted = omega (arith, length-append p.found q.found, p.counted, q.counted);
  height = q.height ∙ p.height;
} where
  joined : (xs ys : List SnapCoin) (f : Found) → after xs (after ys f) ≡ after (xs ++ ys) f
  joined xs ys f i = record { coins = sym (append_assoc xs ys f.coins) i; fault = f.fault }

pub goes_breaks : (a b : Progress) (at_a at_b : ℕ) (bytes mid : List ℕ) (wrong : Wrong) (had more_coins has : List SnapCoin) → Goes (point a at_a bytes had) (point b at_b mid more_coins) → Breaks (point b at_b mid more_coins) wrong has → Breaks (point a at_a bytes had) wrong has
goes_breaks a b at_a at_b bytes mid wrong had more_coins has p q = record {
  found = p.found ++ q.found;
  coins = q.coins ∙ ap (λ (l : List SnapCoin). l ++ q.found) p.coins ∙ append_assoc had p.found q.found;
  breaks = λ ys. p.goes_on ys ∙ ap (λ (f : Found). after p.found f) (q.breaks ys);
}

-- ---- what the code does with one item

at_state : (s : Progress) (left members offset : ℕ) (bytes : List ℕ) → s.left ≡ left → s.members ≡ members → read_from s offset bytes ≡ read_coins s.height left members s.txid offset bytes
at_state s left members offset bytes l m =
    ap (λ (n : ℕ). read_coins s.height n s.members s.txid offset bytes) l ∙ ap (λ (n : ℕ). read_coins s.height left n s.txid offset bytes) m

len_at_state : (s : Progress) (left members : ℕ) (bytes : List ℕ) → s.left ≡ left → s.members ≡ members → next_len s bytes ≡ item_len s.height left members bytes
len_at_state s left members bytes l m = ap (λ (n : ℕ). item_len s.height n s.members bytes) l ∙ ap (λ (n : ℕ). item_len s.height left n bytes) m

pub took_group : (old new : Progress) (offset : ℕ) (bytes : List ℕ) (group : Hash32 × ℕ) (len : ℕ) (had has : List SnapCoin) → IsBytes bytes → (old.left ≡ 0 → ⊥) → old.members ≡ 0
    → group_at old.left (from_first bytes) ≡ Ok (group, at (length bytes) (drop len bytes)) → len ≤ length bytes
    → new ≡ record { height = old.height; left = old.left; members = group.1; txid = group.0 } → has ≡ had → TakesItem (point old offset bytes had) len (outcome new has)
unfolding item_len
took_group old new offset bytes group len had has fits some none read within is same =
    let left = old.left - 1 in
    let z : old.left ≡ suc left = omega arith in
    let e : group_at (suc left) (from_first bytes) ≡ Ok (group, at (length bytes) (drop len bytes)) = rw z at read in
    let f = front (group_codec (suc left)) bytes group (at (length bytes) (drop len bytes)) fits e in
    let positive : 0 < group.1 = f.fits.some in
    let size : place (at (length bytes) (drop len bytes)) ≡ len = omega (arith, length-drop len bytes) in
    let new_left : new.left ≡ old.left = ap (λ (s : Progress). s.left) is in
    let new_members : new.members ≡ group.1 = ap (λ (s : Progress). s.members) is in
    record {
      goes = record {
        found = [];
        coins = same ∙ sym (append-nil had);
        goes_on = λ ys.
            at_state old (suc left) 0 offset (bytes ++ ys) z none ∙ group_goes old.height left old.txid offset bytes group.0 group.1 len e within positive ys
            ∙ ap (λ (n : ℕ). read_coins old.height n group.1 group.0 (offset + len) (drop len bytes ++ ys)) (sym z)
            ∙ ap (λ (s : Progress). read_from s (offset + len) (drop len bytes ++ ys)) (sym is);
        counted = omega arith;
        height = ap (λ (s : Progress). s.height) is;
      };
      within = within;
      fits = fits;
      is = len_at_state old (suc left) 0 bytes z none ∙ ap len_of e ∙ ap (λ (n : ℕ). Ok n) size;
      less = rw (new_left, new_members, none, ne_eqb group.1 0 (λ y. omega arith)) (omega arith);
    }

pub took_member : (old new : Progress) (offset : ℕ) (bytes : List ℕ) (member : ℕ × Coin) (len : ℕ) (had has : List SnapCoin) → IsBytes bytes → (old.left ≡ 0 → ⊥) → (old.members ≡ 0 → ⊥)
    → member_at old.height (from_first bytes) ≡ Ok (member, at (length bytes) (drop len bytes)) → len ≤ length bytes
    → new ≡ record { height = old.height; left = old.left - 1; members = old.members - 1; txid = old.txid } → has ≡ had ++ snap_coin old.txid offset member ∷ [] → TakesItem (point old offset bytes had) len (outcome new has)
unfolding item_len
took_member old new offset bytes member len had has fits some first_progress read within is added =
    let left = old.left - 1 in
    let members = old.members - 1 in
    let z : old.left ≡ suc left = omega arith in
    let m : old.members ≡ suc members = omega arith in
    let size : place (at (length bytes) (drop len bytes)) ≡ len = omega (arith, length-drop len bytes) in
    let new_left : new.left ≡ left = ap (λ (s : Progress). s.left) is in
    let new_members : new.members ≡ members = ap (λ (s : Progress). s.members) is in
    record {
      goes = record {
        found = snap_coin old.txid offset member ∷ [];
        coins = added;
        goes_on = λ ys.
            at_state old (suc left) (suc members) offset (bytes ++ ys) z m ∙ member_goes old.height left members old.txid offset bytes member len read within ys
            ∙ ap (λ (s : Progress). after (snap_coin old.txid offset member ∷ []) (read_from s (offset + len) (drop len bytes ++ ys))) (sym is);
        counted = omega arith;
        height = ap (λ (s : Progress). s.height) is;
      };
      within = within;
      fits = fits;
      is = len_at_state old (suc left) (suc members) bytes z m ∙ ap len_of read ∙ ap (λ (n : ℕ). Ok n) size;
      less = lower new.left new.members old.left old.members (omega arith);
    } where
      lower : (a b c d : ℕ) → suc a ≡ c → 2 * a + cond (eqb b 0) 1 0 < 2 * c + cond (eqb d 0) 1 0
      lower a b c d e = elim (cases_Bool (eqb b 0)) [
        | inl t ↦ rw t (omega arith)
        | inr f ↦ rw f (omega arith)
      ]

broken_within : {X : Type 0} (bytes : List ℕ) (error : SnapError) (offset : ℕ) (r : Result (X × Input) Stop) → Within stop_offset (length bytes) r → r ≡ Err (Some (error, offset)) → offset ≤ length bytes
broken_within {X} bytes error offset r within e = subst (λ (q : Result (X × Input) Stop). Within stop_offset (length bytes) q) e within

pub group_stops : (fault : ItemFault) (old : Progress) (offset : ℕ) (bytes : List ℕ) (coins : List SnapCoin) → (old.left ≡ 0 → ⊥) → old.members ≡ 0 → Fails fault (group_at old.left (from_first bytes)) → ItemStep (Err fault) (point old offset bytes coins) (outcome old coins)
unfolding item_len
group_stops Unfinished old offset bytes coins some none e =
    let z : old.left ≡ suc (old.left - 1) = omega arith in
    let e : group_at (suc (old.left - 1)) (from_first bytes) ≡ Err None = rw z at e in
    record { waits = record { short = len_at_state old (suc (old.left - 1)) 0 bytes z none ∙ ap len_of e }; same = refl; coins = refl }
group_stops NoMemory old offset bytes coins some none e = tt
group_stops (Bad error p) old offset bytes coins some none e =
    let z : old.left ≡ suc (old.left - 1) = omega arith in
    let e : group_at (suc (old.left - 1)) (from_first bytes) ≡ Err (Some (error, p)) = rw z at e in
    record {
      breaks = record {
        found = [];
        coins = sym (append-nil coins);
        breaks = λ ys. at_state old (suc (old.left - 1)) 0 offset (bytes ++ ys) z none ∙ group_breaks old.height (old.left - 1) old.txid offset bytes (error, p) e ys;
      };
      within = broken_within bytes error p (group_at (suc (old.left - 1)) (from_first bytes)) (group_within (suc (old.left - 1)) (from_first bytes)) e;
    }

pub member_stops : (fault : ItemFault) (old : Progress) (offset : ℕ) (bytes : List ℕ) (coins : List SnapCoin) → (old.left ≡ 0 → ⊥) → (old.members ≡ 0 → ⊥) → Fails fault (member_at old.height (from_first bytes)) → ItemStep (Err fault) (point old offset bytes coins) (outcome old coins)
unfolding item_len
member_stops Unfinished old offset bytes coins some within e =
    let z : old.left ≡ suc (old.left - 1) = omega arith in
    let m : old.members ≡ suc (old.members - 1) = omega arith in
    record { waits = record { short = len_at_state old (suc (old.left - 1)) (suc (old.members - 1)) bytes z m ∙ ap len_of e }; same = refl; coins = refl }
member_stops NoMemory old offset bytes coins some within e = tt
member_stops (Bad error p) old offset bytes coins some within e =
    let z : old.left ≡ suc (old.left - 1) = omega arith in
    let m : old.members ≡ suc (old.members - 1) = omega arith in
    record {
      breaks = record {
        found = [];
        coins = sym (append-nil coins);
        breaks = λ ys. at_state old (suc (old.left - 1)) (suc (old.members - 1)) offset (bytes ++ ys) z m ∙ member_breaks old.height (old.left - 1) (old.members - 1) old.txid offset bytes (error, p) e ys;
      };
      within = broken_within bytes error p (member_at old.height (from_first bytes)) (member_within old.height (from_first bytes)) e;
    }

pub end_stops : (fault : ItemFault) (old : Progress) (offset : ℕ) (bytes : List ℕ) (coins : List SnapCoin) → old.left ≡ 0 → IsEnd fault bytes → ItemStep (Err fault) (point old offset bytes coins) (outcome old coins)
unfolding item_len read_coins
end_stops Unfinished old offset [] coins none e =
    record { waits = record { short = len_at_state old 0 old.members [] none refl }; same = refl; coins = refl }
end_stops Unfinished old offset (byte ∷ rest) coins none e = absurd cc
end_stops NoMemory old offset bytes coins none e = tt
end_stops (Bad error p) old offset [] coins none e = absurd (omega (arith, e.2))
end_stops (Bad error p) old offset (byte ∷ rest) coins none e =
    let zero_offset : offset ≡ offset + p = omega (arith, e.1) in
    record {
      breaks = record {
        found = [];
        coins = sym (append-nil coins);
        breaks = λ ys. at_state old 0 old.members offset ((byte ∷ rest) ++ ys) none refl ∙ ap (λ (w : Wrong). record { coins = []; fault = Some w }) (λ i. (sym e.0 i, zero_offset i));
      };
      within = omega (arith, e.1);
    }
