-- A file is a snapshot exactly where it is read to its last coin, with no fault.
use Rattle.std.specs.Prelude.{◌≡◌, ℕ, zero, suc, ◌+◌, ◌-◌, ◌^◌, ◌<◌, ◌≤◌, false, List, [], ◌∷◌, ◌++◌, length, map, Option, Some, None, Result, Ok, Err, refl}
use Rattle.std.proofs.Common.{sym, ap, subst, ◌∙◌, append_assoc, arith}
use Rattle.std.specs.List.{flat_map, AllByRecursion}
use Rattle.std.proofs.lemmas.List.{length-append, length-map}
use Rattle.std.proofs.lemmas.List.Concat.{flat_map-cons}
use Rattle.base_types.specs.Reading.{Input, place}
use Rattle.base_types.specs.Codec.{Reader, IsBytes, at}
use Rattle.base_types.proofs.Codecs.{IsCodec}
use Rattle.base_types.specs.declared.hash.Hash32.{Hash32}
use Rattle.base_types.specs.declared.hash.OutPoint.{OutPoint}
use Rattle.base_types.specs.declared.coin.Coin.{Coin}
use Rattle.snapshot_file.specs.Text.{head_text, group_head_text, member_text, Group, group_text, entry_of, coins_of, MemberFits, GroupFits, IsSnapshot}
use Rattle.snapshot_file.specs.Items.{Stop, from_first, head_at, group_at, is_above}
use Rattle.snapshot_file.specs.Part.{Found, with_rest, also, snap_coin, read_member, read_coins, Part, no_group, read_part}
use Rattle.snapshot_file.specs.Fed.{entry, IsAll, NoneAbove, IsWholeFile}
use Rattle.snapshot_file.specs.declared.coins.SnapCoin.{SnapCoin}
use Rattle.snapshot_file.specs.declared.head.SnapHead.{SnapHead}
use Rattle.snapshot_file.proofs.ItemLaws.{front, head_len, HeadFits, head_codec, GroupHeadFits, group_codec, member_codec}
use Rattle.snapshot_file.proofs.Feeding.{part_of, part_none}

-- the text of what is left: the members of the group that was begun, and further groups
abbrev left_text : List (ℕ × Coin) → List Group → List ℕ
left_text members groups = flat_map member_text members ++ flat_map group_text groups

abbrev left_coins : Hash32 → List (ℕ × Coin) → List Group → List (OutPoint × Coin)
left_coins txid members groups = map (entry_of txid) members ++ coins_of groups

-- these coins and no other, and no fault
record All (found : Found) (coins : List (OutPoint × Coin)) : Type 0 where
  entries : map entry found.coins ≡ coins
  no_fault : found.fault ≡ None

-- ---- a text is read

met_ok : {X : Type 0} {read : Reader Stop X} {text : X → List ℕ} {Fits : X → Type 0} → IsCodec read text Fits → (offset : ℕ) (next : X → ℕ → List ℕ → Found) (x : X) (rest : List ℕ) → Fits x
    → with_rest offset next (read (from_first (text x ++ rest))) ≡ next x (offset + length (text x)) rest
met_ok {X} {text = text} law offset next x rest fits =
    let again = law.again x (length (text x ++ rest)) rest fits in
    let size : place (at (length (text x ++ rest)) rest) ≡ length (text x) = omega (arith, length-append (text x) rest) in
    ap (λ (r : Result (X × Input) Stop). with_rest offset next r) again ∙ ap (λ (n : ℕ). next x (offset + n) rest) size

also_all : (coin : SnapCoin) (found : Found) (coins : List (OutPoint × Coin)) → All found coins → All (also coin found) (entry coin ∷ coins)
also_all coin found coins a = record { entries = ap (λ (l : List (OutPoint × Coin)). entry coin ∷ l) a.entries; no_fault = a.no_fault }

some_member : {X : Type 0} (xs : List X) → 0 < length xs → (x : X) × (others : List X) × (xs ≡ x ∷ others)
some_member [] some = absurd (omega arith)
some_member (x ∷ xs) some = (x, xs, refl)

module _ (height : Option ℕ) where
  abbrev Below : List (OutPoint × Coin) → Type 0
  Below coins = NoneAbove height coins

  member_read : (txid : Hash32) (others : ℕ → List ℕ → Found) (member : ℕ × Coin) (rest : List ℕ) (coins : List (OutPoint × Coin)) (offset : ℕ) → MemberFits member → is_above height member.1.height ≡ false
      → ((p : ℕ) → All (others p rest) coins) → All (read_member height txid others offset (member_text member ++ rest)) (entry_of txid member ∷ coins)
  unfolding read_member
  member_read txid others member rest coins offset fits below each =
      let is = met_ok (member_codec height) offset (λ m next r. also (snap_coin txid offset m) (others next r)) member rest (fits, below) in
      subst (λ (f : Found). All f (entry_of txid member ∷ coins)) (sym is) (also_all (snap_coin txid offset member) (others (offset + length (member_text member)) rest) coins (each (offset + length (member_text member))))

  pub coins_cons : (group : Group) (groups : List Group) → coins_of (group ∷ groups) ≡ map (entry_of group.txid) group.members ++ coins_of groups
  unfolding coins_of
  coins_cons group groups = flat_map-cons (λ (x : Group). map (entry_of x.txid) x.members) group groups

  group_read : (left : ℕ) (txid other : Hash32) (m : ℕ × Coin) (ms : List (ℕ × Coin)) (gs : List Group) (offset : ℕ) → (let group : Group = record { txid = other; members = m ∷ ms } in
      GroupFits group → length ms ≤ left → suc left < 2 ^ 64 → is_above height m.1.height ≡ false → ((p : ℕ) → All (read_coins height left (length ms) other p (left_text ms gs)) (left_coins other ms gs))
      → All (read_coins height (suc left) 0 txid offset (flat_map group_text (group ∷ gs))) (coins_of (group ∷ gs)))
  unfolding read_coins group_text
  group_read left txid other m ms gs offset fits most few below each =
      let group : Group = record { txid = other; members = m ∷ ms } in
      let count = suc (length ms) in
      let rest = member_text m ++ left_text ms gs in
      let next = λ (g : Hash32 × ℕ) (p : ℕ) (r : List ℕ). read_member height g.0 (read_coins height left (g.1 - 1) g.0) p r in
      let parts : flat_map group_text (group ∷ gs) ≡ group_head_text other count ++ rest =
      flat_map-cons group_text group gs ∙ ap (λ (l : List ℕ). (group_head_text other count ++ l) ++ flat_map group_text gs) (flat_map-cons member_text m ms)
      ∙ append_assoc (group_head_text other count) (member_text m ++ flat_map member_text ms) (flat_map group_text gs)
      ∙ ap (λ (l : List ℕ). group_head_text other count ++ l) (append_assoc (member_text m) (flat_map member_text ms) (flat_map group_text gs)) in
      let group_fits : GroupHeadFits (suc left) (other, count) = record { txid = fits.txid; some = omega arith; most = omega arith; count = omega arith } in
      let is : with_rest offset next (group_at (suc left) (from_first (group_head_text other count ++ rest))) ≡ next (other, count) (offset + length (group_head_text other count)) rest = met_ok (group_codec (suc left)) offset next (other, count) rest group_fits in
      let less : count - 1 ≡ length ms = omega arith in
      let read = member_read other (read_coins height left (length ms) other) m (left_text ms gs) (left_coins other ms gs) (offset + length (group_head_text other count)) fits.members.0 below each in
      let read : All (next (other, count) (offset + length (group_head_text other count)) rest) (entry_of other m ∷ left_coins other ms gs) = rw less read in
      let read : All (with_rest offset next (group_at (suc left) (from_first (flat_map group_text (group ∷ gs))))) (entry_of other m ∷ left_coins other ms gs) = rw (parts, is) read in
      rw (coins_cons group gs) read

  text_read : (left : ℕ) (txid : Hash32) (members : List (ℕ × Coin)) (groups : List Group) (offset : ℕ) → left ≡ length (left_coins txid members groups) → left < 2 ^ 64 → AllByRecursion MemberFits members → AllByRecursion GroupFits groups → Below (left_coins txid members groups)
      → All (read_coins height left (length members) txid offset (left_text members groups)) (left_coins txid members groups)
  unfolding read_coins coins_of
  text_read zero txid [] [] offset size few fits group_fits below = record { entries = refl; no_fault = refl }
  text_read zero txid (m ∷ ms) groups offset size few fits group_fits below = absurd (omega arith)
  text_read zero txid [] (g ∷ gs) offset size few fits group_fits below =
      absurd (omega (arith, ap length (coins_cons g gs), length-append (map (entry_of g.txid) g.members) (coins_of gs), length-map g.members (entry_of g.txid), group_fits.0.some))
  text_read (suc left) txid (m ∷ ms) groups offset size few fits group_fits below =
      let parts : left_text (m ∷ ms) groups ≡ member_text m ++ left_text ms groups = ap (λ (l : List ℕ). l ++ flat_map group_text groups) (flat_map-cons member_text m ms) ∙ append_assoc (member_text m) (flat_map member_text ms) (flat_map group_text groups) in
      let read = member_read txid (read_coins height left (length ms) txid) m (left_text ms groups) (left_coins txid ms groups) offset fits.0 below.0 (λ p. text_read left txid ms groups p (omega arith) (omega arith) fits.1 group_fits below.1) in
      subst (λ (l : List ℕ). All (read_member height txid (read_coins height left (length ms) txid) offset l) (left_coins txid (m ∷ ms) groups)) (sym parts) read
  text_read (suc left) txid [] [] offset size few fits group_fits below = absurd (omega arith)
  text_read (suc left) txid [] (g ∷ gs) offset size few fits group_fits below =
      let s = some_member g.members group_fits.0.some in
      let m = s.0 in
      let ms = s.1 in
      let other = g.txid in
      let group : Group = record { txid = other; members = m ∷ ms } in
      let path : g ≡ group = (λ i. record { txid = other; members = s.2 i }) in
      let fit : GroupFits group = subst GroupFits path group_fits.0 in
      let coins : coins_of (g ∷ gs) ≡ entry_of other m ∷ left_coins other ms gs = ap (λ (x : Group). coins_of (x ∷ gs)) path ∙ coins_cons group gs in
      let below : Below (entry_of other m ∷ left_coins other ms gs) = subst Below coins below in
      let size : suc left ≡ length (entry_of other m ∷ left_coins other ms gs) = size ∙ ap length coins in
      let most : length ms ≤ left = omega (arith, length-append (map (entry_of other) ms) (coins_of gs), length-map ms (entry_of other)) in
      let read = group_read left txid other m ms gs offset fit most few below.0 (λ p. text_read left other ms gs p (omega arith) (omega arith) fit.members.1 group_fits.1 below.1) in
      subst (λ (x : Group). All (read_coins height (suc left) 0 txid offset (flat_map group_text (x ∷ gs))) (coins_of (x ∷ gs))) (sym path) read

-- ---- what is read is a text

-- what is left is the text of these members and groups
record LeftAs (height : Option ℕ) (members : ℕ) (txid : Hash32) (bytes : List ℕ) (coins : List SnapCoin) : Type 0 where
  of_group : List (ℕ × Coin)
  groups : List Group
  count : length of_group ≡ members
  text : bytes ≡ left_text of_group groups
  fits : AllByRecursion MemberFits of_group
  group_fits : AllByRecursion GroupFits groups
  entries : map entry coins ≡ left_coins txid of_group groups
  below : NoneAbove height (left_coins txid of_group groups)

-- the first item was read
record Met {X : Type 0} (text : X → List ℕ) (Fits : X → Type 0) (offset : ℕ) (next : X → ℕ → List ℕ → Found) (bytes : List ℕ) (found : Found) : Type 0 where
  value : X
  place_is : ℕ
  rest : List ℕ
  parts : bytes ≡ text value ++ rest
  rest_fits : IsBytes rest
  fits : Fits value
  is : found ≡ next value place_is rest

met_found : {X : Type 0} {read : Reader Stop X} {text : X → List ℕ} {Fits : X → Type 0} → IsCodec read text Fits → (offset : ℕ) (next : X → ℕ → List ℕ → Found) (bytes : List ℕ) (n : ℕ) → IsBytes bytes → length (with_rest offset next (read (from_first bytes))).coins ≡ suc n
    → Met text Fits offset next bytes (with_rest offset next (read (from_first bytes)))
met_found {X} {read} {text} {Fits} law offset next bytes n fits some = go (read (from_first bytes)) refl where
  go : (r : Result (X × Input) Stop) → read (from_first bytes) ≡ r → Met text Fits offset next bytes (with_rest offset next (read (from_first bytes)))
  go (Ok p) e =
      let f = front law bytes p.0 p.1 fits e in
      record {
        value = p.0;
        place_is = offset + place p.1;
        rest = p.1.rest;
        parts = f.parts;
        rest_fits = f.rest_fits;
        fits = f.fits;
        is = ap (λ (q : Result (X × Input) Stop). with_rest offset next q) e;
      }
  go (Err stop) e =
      let none : length (with_rest offset next (read (from_first bytes))).coins ≡ 0 = ap (λ (q : Result (X × Input) Stop). length (with_rest offset next q).coins) e in
      absurd (omega arith)

found_member : (height : Option ℕ) (left members : ℕ) (txid : Hash32) (others : ℕ → List ℕ → Found) (offset : ℕ) (bytes : List ℕ) → IsBytes bytes
    → ((p : ℕ) (rest : List ℕ) → IsBytes rest → (others p rest).fault ≡ None → length (others p rest).coins ≡ left → LeftAs height members txid rest (others p rest).coins)
    → (read_member height txid others offset bytes).fault ≡ None → length (read_member height txid others offset bytes).coins ≡ suc left → LeftAs height (suc members) txid bytes (read_member height txid others offset bytes).coins
unfolding read_member
found_member height left members txid others offset bytes fits each fault len =
    let m = met_found (member_codec height) offset (λ member next rest. also (snap_coin txid offset member) (others next rest)) bytes left fits len in
    let found = others m.place_is m.rest in
    let coins = ap (λ (f : Found). f.coins) m.is in
    let r = each m.place_is m.rest m.rest_fits (ap (λ (f : Found). f.fault) (sym m.is) ∙ fault) (omega (arith, len, ap length coins)) in
    record {
      of_group = m.value ∷ r.of_group;
      groups = r.groups;
      count = ap suc r.count;
      text = m.parts ∙ ap (λ (l : List ℕ). member_text m.value ++ l) r.text ∙ sym (append_assoc (member_text m.value) (flat_map member_text r.of_group) (flat_map group_text r.groups)) ∙ ap (λ (l : List ℕ). l ++ flat_map group_text r.groups) (sym (flat_map-cons member_text m.value r.of_group));
      fits = (m.fits.0, r.fits);
      group_fits = r.group_fits;
      entries = ap (λ (l : List SnapCoin). map entry l) coins ∙ ap (λ (l : List (OutPoint × Coin)). entry_of txid m.value ∷ l) r.entries;
      below = (m.fits.1, r.below);
    }

found_group : (height : Option ℕ) (txid other : Hash32) (count : ℕ) (bytes rest : List ℕ) (coins : List SnapCoin) → bytes ≡ group_head_text other count ++ rest → length other.bytes ≡ 32 → 0 < count → LeftAs height count other rest coins → LeftAs height 0 txid bytes coins
unfolding group_text
found_group height txid other count bytes rest coins parts fit some r =
    let group : Group = record { txid = other; members = r.of_group } in
    record {
      of_group = [];
      groups = group ∷ r.groups;
      count = refl;
      text = parts ∙ ap (λ (l : List ℕ). group_head_text other count ++ l) r.text ∙ ap (λ (n : ℕ). group_head_text other n ++ left_text r.of_group r.groups) (sym r.count)
          ∙ sym (append_assoc (group_head_text other (length r.of_group)) (flat_map member_text r.of_group) (flat_map group_text r.groups)) ∙ sym (flat_map-cons group_text group r.groups);
      fits = tt;
      group_fits = (record { txid = fit; some = omega (arith, r.count); members = r.fits }, r.group_fits);
      entries = r.entries ∙ sym (coins_cons height group r.groups);
      below = subst (λ (l : List (OutPoint × Coin)). NoneAbove height l) (sym (coins_cons height group r.groups)) r.below;
    }

found_text : (height : Option ℕ) (left members : ℕ) (txid : Hash32) (offset : ℕ) (bytes : List ℕ) → IsBytes bytes → members ≤ left → (read_coins height left members txid offset bytes).fault ≡ None → length (read_coins height left members txid offset bytes).coins ≡ left
    → LeftAs height members txid bytes (read_coins height left members txid offset bytes).coins
unfolding read_coins coins_of
found_text height zero members txid offset [] fits most fault len = record { of_group = []; groups = []; count = omega arith; text = refl; fits = tt; group_fits = tt; entries = refl; below = tt }
found_text height zero members txid offset (byte ∷ rest) fits most fault len = absurd cc
found_text height (suc left) zero txid offset bytes fits most fault len =
    let next = λ (g : Hash32 × ℕ) (p : ℕ) (r : List ℕ). read_member height g.0 (read_coins height left (g.1 - 1) g.0) p r in
    let g = met_found (group_codec (suc left)) offset next bytes left fits len in
    let members = g.value.1 - 1 in
    let count : suc members ≡ g.value.1 = omega (arith, g.fits.some) in
    let coins = ap (λ (f : Found). f.coins) g.is in
    let r = found_member height left members g.value.0 (read_coins height left members g.value.0) g.place_is g.rest g.rest_fits (λ p rest rest_fits. found_text height left members g.value.0 p rest rest_fits (omega (arith, g.fits.most)))
    (ap (λ (f : Found). f.fault) (sym g.is) ∙ fault) (ap length (sym coins) ∙ len) in
    let r = subst (λ (n : ℕ). LeftAs height n g.value.0 g.rest (next g.value g.place_is g.rest).coins) count r in
    subst (λ (l : List SnapCoin). LeftAs height 0 txid bytes l) (sym coins) (found_group height txid g.value.0 g.value.1 bytes g.rest (next g.value g.place_is g.rest).coins g.parts g.fits.txid g.fits.some r)
found_text height (suc left) (suc members) txid offset bytes fits most fault len =
    found_member height left members txid (read_coins height left members txid) offset bytes fits (λ p rest rest_fits. found_text height left members txid p rest rest_fits (omega arith)) fault len

-- ---- whole files

snapshot_is_all : (height : Option ℕ) (bytes : List ℕ) (base : Hash32) (coins : List (OutPoint × Coin)) → IsSnapshot bytes base coins → NoneAbove height coins → IsAll (read_part height bytes) base coins
snapshot_is_all height bytes base coins s below =
    let head : SnapHead = record { base = base; count = length coins } in
    let body = flat_map group_text s.groups in
    let fits : HeadFits head = record { base = s.base_fits; count = s.count_fits } in
    let begins : head_at (from_first bytes) ≡ Ok (head, at (length bytes) body) = ap (λ (l : List ℕ). head_at (at (length bytes) l)) s.text ∙ head_codec.again head (length bytes) body fits in
    let len : length bytes ≡ 51 + length body = omega (arith, ap length s.text, length-append (head_text base (length coins)) body, head_len base (length coins) s.base_fits) in
    let part = part_of height bytes head body begins len in
    let all = text_read height (length coins) no_group [] s.groups 51 (ap length s.are) s.count_fits tt s.fits (subst (λ (l : List (OutPoint × Coin)). NoneAbove height l) s.are below) in
    record {
      head = ap (λ (p : Part). p.head) part;
      entries = ap (λ (p : Part). map entry p.coins) part ∙ all.entries ∙ sym s.are;
      no_fault = ap (λ (p : Part). p.fault) part ∙ all.no_fault;
    }

empty_members : {X : Type 0} (xs : List X) → length xs ≡ 0 → xs ≡ []
empty_members [] e = refl
empty_members (x ∷ xs) e = absurd (omega arith)

all_is_snapshot : (height : Option ℕ) (bytes : List ℕ) → IsBytes bytes → (base : Hash32) (coins : List (OutPoint × Coin)) → IsAll (read_part height bytes) base coins → IsSnapshot bytes base coins × NoneAbove height coins
all_is_snapshot height bytes fits base coins a = go (head_at (from_first bytes)) refl where
  go : (r : Result (SnapHead × Input) Stop) → head_at (from_first bytes) ≡ r → IsSnapshot bytes base coins × NoneAbove height coins
  go (Ok p) e =
      let f = front head_codec bytes p.0 p.1 fits e in
      let begins : head_at (from_first bytes) ≡ Ok (p.0, at (length bytes) p.1.rest) = e ∙ ap (λ (n : ℕ). Ok (p.0, at n p.1.rest)) f.end in
      let len : length bytes ≡ 51 + length p.1.rest = omega (arith, ap length f.parts, length-append (head_text p.0.base p.0.count) p.1.rest, head_len p.0.base p.0.count f.fits.base) in
      let part = part_of height bytes p.0 p.1.rest begins len in
      let head : SnapHead = record { base = base; count = length coins } in
      let same : Some p.0 ≡ Some head = ap (λ (q : Part). q.head) (sym part) ∙ a.head in
      let base_is : p.0.base ≡ base = ap (λ (o : Option SnapHead). base_of o) same in
      let count_is : p.0.count ≡ length coins = ap (λ (o : Option SnapHead). count_of o) same in
      let found = read_coins height p.0.count 0 no_group 51 p.1.rest in
      let entries : map entry found.coins ≡ coins = ap (λ (q : Part). map entry q.coins) (sym part) ∙ a.entries in
      let number : length found.coins ≡ p.0.count = sym (length-map found.coins entry) ∙ ap length entries ∙ sym count_is in
      let r = found_text height p.0.count 0 no_group 51 p.1.rest f.rest_fits (omega arith) (ap (λ (q : Part). q.fault) (sym part) ∙ a.no_fault) number in
      let none = empty_members r.of_group r.count in
      let are : coins ≡ coins_of r.groups = sym entries ∙ r.entries ∙ ap (λ (l : List (ℕ × Coin)). left_coins no_group l r.groups) none in
      let text : bytes ≡ head_text base (length coins) ++ flat_map group_text r.groups =
      f.parts ∙ ap (λ (b : Hash32). head_text b p.0.count ++ p.1.rest) base_is ∙ ap (λ (n : ℕ). head_text base n ++ p.1.rest) count_is ∙ ap (λ (l : List ℕ). head_text base (length coins) ++ l) (r.text ∙ ap (λ (l : List (ℕ × Coin)). left_text l r.groups) none) in (
        record { groups = r.groups; fits = r.group_fits; base_fits = ap (λ (b : Hash32). length b.bytes) (sym base_is) ∙ f.fits.base; count_fits = omega (arith, count_is, f.fits.count); text = text; are = are },
        subst (λ (l : List (OutPoint × Coin)). NoneAbove height l) (sym are) (subst (λ (l : List (ℕ × Coin)). NoneAbove height (left_coins no_group l r.groups)) none r.below),
      ) where
        base_of : Option SnapHead → Hash32
        base_of (Some head) = head.base
        base_of None = base

        count_of : Option SnapHead → ℕ
        count_of (Some head) = head.count
        count_of None = 0
  go (Err stop) e =
      let none : (read_part height bytes).head ≡ None = ap (λ (p : Part). p.head) (part_none height bytes stop e) in
      let some = a.head in
      absurd cc

pub whole_files : (height : Option ℕ) (bytes : List ℕ) → IsBytes bytes → IsWholeFile height bytes
whole_files height bytes fits base coins = (λ s. snapshot_is_all height bytes base coins s.0 s.1, λ a. all_is_snapshot height bytes fits base coins a)
