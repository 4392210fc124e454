-- What is read of an item is so spelled, and what is so spelled is read, whatever follows.
use Rattle.std.specs.Prelude.{◌≡◌, ℕ, ◌^◌, ◌<◌, ◌≤◌, true, false, List, [], ◌∷◌, ◌++◌, length, drop, Option, Some, Result, Ok, Err, refl}
use Rattle.std.proofs.Common.{cond, ltb, eqb, sym, ap, subst, ◌∙◌, append_assoc, arith, inl, inr}
use Rattle.std.specs.Int.{w64}
use Rattle.std.proofs.lemmas.Bool.{ltb-false, le-ltb, eqb-true, eqb-false, eq-eqb, ne_eqb}
use Rattle.std.proofs.lemmas.List.{length-append, drop_at}
use Rattle.base_types.specs.Bytes.{compact, number_text}
use Rattle.base_types.specs.Reading.{Input, place, bytes_at, number_at, compact_at, length_at}
use Rattle.base_types.specs.Codec.{Reader, IsBytes, at, field, renamed}
use Rattle.base_types.proofs.Codecs.{IsBytes-rest, Takes, Takes-then, IsCodec, field_codec, step, chosen, guard_ok, ok_is}
use Rattle.base_types.proofs.Fields.{compact_field, length_field, bytes_field, number_field, wide64}
use Rattle.base_types.specs.declared.hash.Hash32.{Hash32}
use Rattle.base_types.specs.declared.coin.Coin.{Coin}
use Rattle.base_types.specs.declared.refused.CoinError.{CoinError}
use Rattle.base_types.specs.declared.snapshot_error.SnapError.TheVariants.{BadMagic, BadVersion, WrongNetwork, EmptyGroup, CountMismatch, HeightAbove}
use Rattle.coin_codec.specs.CoinText.{coin_text}
use Rattle.base_types.specs.Coins.{CoinFits}
use Rattle.coin_codec.proofs.CoinLaws.{coin_codec}
use Rattle.coin_codec.specs.Reading.{coin_at}
use Rattle.base_types.specs.Parameters.{message_start}
use Rattle.snapshot_file.specs.Text.{magic, version, head_text, group_head_text, member_text, MemberFits}
use Rattle.snapshot_file.specs.Items.{Wrong, Stop, from_first, as_stop, coin_stop, mark_at, head_at, group_at, is_above, member_at}
use Rattle.snapshot_file.specs.ItemReading.{Fails, ReadsItem, ReadsFront}
use Rattle.snapshot_file.specs.declared.head.SnapHead.{SnapHead}
use Rattle.snapshot_file.specs.declared.item_fault.ItemFault.{ItemFault}

-- ---- what a reader gave of whole bytes

-- the text, and how long it is
pub record Front {X : Type 0} (text : X → List ℕ) (Fits : X → Type 0) (bytes : List ℕ) (x : X) (j : Input) : Type 0 where
  pub parts : bytes ≡ text x ++ j.rest
  pub rest_fits : IsBytes j.rest
  pub fits : Fits x
  pub len : place j ≡ length (text x)
  pub end : j.end ≡ length bytes

pub front : {X : Type 0} {read : Reader Stop X} {text : X → List ℕ} {Fits : X → Type 0} → IsCodec read text Fits → (bytes : List ℕ) (x : X) (j : Input) → IsBytes bytes → read (from_first bytes) ≡ Ok (x, j) → Front text Fits bytes x j
front {X} {read} {text} {Fits} law bytes x j fits e =
    let t = law.takes (from_first bytes) x j fits e in
    let parts : bytes ≡ text x ++ j.rest = t.0.parts in
    let again : read (at (length bytes) (text x ++ j.rest)) ≡ Ok (x, at (length bytes) j.rest) = law.again x (length bytes) j.rest t.1 in
    let same : ◌≡◌ {A = Result (X × Input) Stop} (Ok (x, j)) (Ok (x, at (length bytes) j.rest)) = sym e ∙ ap (λ (b : List ℕ). read (at (length bytes) b)) parts ∙ again in
    let end : j.end ≡ length bytes = ap (λ (p : X × Input). p.1.end) (ok_is {E = Stop} (x, j) (x, at (length bytes) j.rest) same) in
    record {
      parts = parts;
      rest_fits = t.0.rest_fits;
      fits = t.1;
      len = omega (arith, end, ap length parts, length-append (text x) j.rest);
      end = end;
    }

-- what was read, by how much of the bytes was
pub front_is : {X : Type 0} {read : Reader Stop X} {text : X → List ℕ} {Fits : X → Type 0} → IsCodec read text Fits → (bytes : List ℕ) (x : X) (j : Input) → IsBytes bytes → read (from_first bytes) ≡ Ok (x, j)
    → (read (from_first bytes) ≡ Ok (x, at (length bytes) (drop (place j) bytes))) × (place j ≤ length bytes)
front_is {X} {text = text} law bytes x j fits e =
    let f = front law bytes x j fits e in
    let rest : j.rest ≡ drop (place j) bytes = sym (rw f.len (ap (λ (b : List ℕ). drop (length (text x)) b) f.parts ∙ drop_at (text x) j.rest (length (text x)) refl)) in
    let is : j ≡ at (length bytes) (drop (place j) bytes) = (λ i. record { end = f.end i; rest = rest i }) in
    (e ∙ ap (λ (k : Input). Ok (x, k)) is, omega (arith, f.len, ap length f.parts, length-append (text x) j.rest))

-- ---- the metadata

mark_takes : (wrong : Wrong) (marks : List ℕ) (end : ℕ) (rest : List ℕ) (x : Unit {0}) (j : Input) → IsBytes rest → mark_at wrong marks (at end rest) ≡ Ok (x, j) → Takes rest marks j.rest × Unit {0}
unfolding mark_at
mark_takes wrong [] end rest x j fits e =
    let is : rest ≡ j.rest = ap (λ (p : Unit {0} × Input). p.1.rest) (ok_is {E = Stop} (tt, at end rest) (x, j) e) in
    (record { parts = is; rest_fits = subst IsBytes is fits }, tt)
mark_takes wrong (mark ∷ marks) end [] x j fits e = absurd cc
mark_takes wrong (mark ∷ marks) end (byte ∷ rest) x j fits e = elim (chosen (eqb byte mark) _ _ _ e) [
  | inl (is, e) ↦
      let t = mark_takes wrong marks end rest x j (IsBytes-rest byte rest fits) e in
      let same : byte ≡ mark = eqb-true _ _ is in
      (record { parts = ap (λ (b : ℕ). b ∷ rest) same ∙ ap (λ (l : List ℕ). mark ∷ l) t.0.parts; rest_fits = t.0.rest_fits }, tt)
  | inr (is, e) ↦ absurd cc
]

mark_again : (wrong : Wrong) (marks : List ℕ) (end : ℕ) (rest : List ℕ) → mark_at wrong marks (at end (marks ++ rest)) ≡ Ok (tt, at end rest)
unfolding mark_at
mark_again wrong [] end rest = refl
mark_again wrong (mark ∷ marks) end rest =
    let same : eqb mark mark ≡ true = eq-eqb mark mark refl in
    rw same (mark_again wrong marks end rest)

mark_codec : (wrong : Wrong) (marks : List ℕ) → IsCodec (mark_at wrong marks) (λ _. marks) (λ _. Unit {0})
mark_codec wrong marks = record {
  takes = λ i x j fits e. mark_takes wrong marks i.end i.rest x j fits e;
  again = λ x end rest fits. mark_again wrong marks end rest;
}

hash_codec : IsCodec (field as_stop (bytes_at 32)) (λ text. text) (λ text. length text ≡ 32)
hash_codec = field_codec as_stop _ _ _ (bytes_field 32)

number_codec : IsCodec (field as_stop (number_at w64)) (number_text w64) (λ n. n < 2 ^ 64)
number_codec = field_codec as_stop _ _ _ (number_field w64 (2 ^ 64) wide64)

pub head_len : (base : Hash32) (count : ℕ) → length base.bytes ≡ 32 → length (head_text base count) ≡ 51
unfolding head_text number_text
head_len base count fits = omega (arith, length-append base.bytes (number_text w64 count))

pub record HeadFits (head : SnapHead) : Type 0 where
  pub base : length head.base.bytes ≡ 32
  pub count : head.count < 2 ^ 64

abbrev pub text_of_head : SnapHead → List ℕ
text_of_head head = head_text head.base head.count

five : (a b c d e rest : List ℕ) → (a ++ b ++ c ++ d ++ e) ++ rest ≡ a ++ (b ++ (c ++ (d ++ (e ++ rest))))
five a b c d e rest = simp append_assoc

head_takes : (i : Input) (x : SnapHead) (j : Input) → IsBytes i.rest → head_at i ≡ Ok (x, j) → Takes i.rest (text_of_head x) j.rest × HeadFits x
unfolding head_at head_text
head_takes i x j fits e =
    let a = step (mark_codec _ magic) i _ (x, j) fits e in
    let b = step (mark_codec _ version) a.after _ (x, j) a.takes.rest_fits a.goes_on in
    let c = step (mark_codec _ message_start) b.after _ (x, j) b.takes.rest_fits b.goes_on in
    let d = step hash_codec c.after _ (x, j) c.takes.rest_fits c.goes_on in
    let n = step number_codec d.after _ (x, j) d.takes.rest_fits d.goes_on in
    let made : SnapHead × Input = (record { base = record { bytes = d.value }; count = n.value }, n.after) in
    let ab = Takes-then _ _ _ _ _ a.takes b.takes in
    let abc = Takes-then _ _ _ _ _ ab c.takes in
    let abcd = Takes-then _ _ _ _ _ abc d.takes in
    let all = Takes-then _ _ _ _ _ abcd n.takes in
    subst (λ (y : SnapHead × Input). Takes i.rest (text_of_head y.0) y.1.rest × HeadFits y.0) {x = made} (ok_is {E = Stop} made (x, j) n.goes_on) (all, record { base = d.fits; count = n.fits })

head_again : (x : SnapHead) (end : ℕ) (rest : List ℕ) → HeadFits x → head_at (at end (text_of_head x ++ rest)) ≡ Ok (x, at end rest)
unfolding head_at head_text
head_again x end rest fits =
    let n = number_text w64 x.count in
    let base_fits : length x.base.bytes ≡ 32 = fits.base in
    let count_fits : x.count < 2 ^ 64 = fits.count in
    ap (λ (y : List ℕ). head_at (at end y)) (five magic version message_start x.base.bytes n rest) ∙
    rw (
      mark_again (BadMagic, 0) magic end (version ++ (message_start ++ (x.base.bytes ++ (n ++ rest)))),
      mark_again (BadVersion, 5) version end (message_start ++ (x.base.bytes ++ (n ++ rest))),
      mark_again (WrongNetwork, 7) message_start end (x.base.bytes ++ (n ++ rest)),
      hash_codec.again x.base.bytes end (n ++ rest) base_fits,
      number_codec.again x.count end rest count_fits,
    ) refl

pub head_codec : IsCodec head_at text_of_head HeadFits
head_codec = record { takes = head_takes; again = head_again }

pub head_is : (bytes : List ℕ) (head : SnapHead) (j : Input) → IsBytes bytes → head_at (from_first bytes) ≡ Ok (head, j)
    → (head_at (from_first bytes) ≡ Ok (head, at (length bytes) (drop 51 bytes))) × (51 ≤ length bytes)
head_is bytes head j fits e =
    let f = front head_codec bytes head j fits e in
    let len : place j ≡ 51 = f.len ∙ head_len head.base head.count f.fits.base in
    let is = front_is head_codec bytes head j fits e in
    let long : 51 ≤ length bytes = omega (arith, is.1, len) in
    (rw len at is.0, long)

pub head_read : (bytes : List ℕ) (i : Input) (result : Result SnapHead ItemFault) (j : Input) → IsBytes bytes → i ≡ from_first bytes → ReadsItem result j (head_at i) → ReadsFront (λ head. head) (λ _. 51) result bytes (head_at (from_first bytes))
head_read bytes i (Ok head) j fits is e = head_is bytes head j fits (ap (λ (k : Input). head_at k) (sym is) ∙ e)
head_read bytes i (Err fault) j fits is e = subst (λ (k : Input). Fails fault (head_at k)) is e

-- ---- the head of a group

pub record GroupHeadFits (left : ℕ) (group : Hash32 × ℕ) : Type 0 where
  pub txid : length group.0.bytes ≡ 32
  pub some : 0 < group.1
  pub most : group.1 ≤ left
  pub count : group.1 < 2 ^ 64

abbrev pub text_of_group : Hash32 × ℕ → List ℕ
text_of_group group = group_head_text group.0 group.1

compact_codec : IsCodec (field as_stop compact_at) compact (λ n. n < 2 ^ 64)
compact_codec = field_codec as_stop _ _ _ compact_field

-- both tests passed
group_made : (left : ℕ) (group : Hash32 × ℕ) (offset : ℕ) (k : Input) (x : Hash32 × ℕ) (j : Input) → cond {A = Result ((Hash32 × ℕ) × Input) Stop} (eqb group.1 0) (Err (Some (EmptyGroup, offset))) (cond (ltb left group.1) (Err (Some (CountMismatch, offset))) (Ok (group, k))) ≡ Ok (x, j)
    → (0 < group.1) × (group.1 ≤ left) × (◌≡◌ {A = (Hash32 × ℕ) × Input} (group, k) (x, j))
group_made left group offset k x j e = elim (chosen (eqb group.1 0) _ _ _ e) [
  | inl (is, e) ↦ absurd cc
  | inr (is_not, e) ↦
      let other : group.1 ≡ 0 → ⊥ = eqb-false _ _ is_not in
      elim (chosen (ltb left group.1) _ _ _ e) [
        | inl (is, e) ↦ absurd cc
        | inr (fits, e) ↦
            let le : group.1 ≤ left = ltb-false _ _ fits in
            (omega arith, le, ok_is {E = Stop} (group, k) (x, j) e)
      ]
]

group_takes : (left : ℕ) (i : Input) (x : Hash32 × ℕ) (j : Input) → IsBytes i.rest → group_at left i ≡ Ok (x, j) → Takes i.rest (text_of_group x) j.rest × GroupHeadFits left x
unfolding group_at group_head_text
group_takes left i x j fits e =
    let a = step hash_codec i _ (x, j) fits e in
    let b = step compact_codec a.after _ (x, j) a.takes.rest_fits a.goes_on in
    let group : Hash32 × ℕ = (record { bytes = a.value }, b.value) in
    let g = group_made left group (place a.after) b.after x j b.goes_on in
    let taken : Takes i.rest (text_of_group group) b.after.rest = Takes-then i.rest a.value a.after.rest (compact b.value) b.after.rest a.takes b.takes in
    let fit : GroupHeadFits left group = record { txid = a.fits; some = g.0; most = g.1; count = b.fits } in
    subst (λ (y : (Hash32 × ℕ) × Input). Takes i.rest (text_of_group y.0) y.1.rest × GroupHeadFits left y.0) {x = (group, b.after)} g.2 (taken, fit)

group_again : (left : ℕ) (x : Hash32 × ℕ) (end : ℕ) (rest : List ℕ) → GroupHeadFits left x → group_at left (at end (text_of_group x ++ rest)) ≡ Ok (x, at end rest)
unfolding group_at group_head_text
group_again left x end rest fits =
    let txid : length x.0.bytes ≡ 32 = fits.txid in
    let count : x.1 < 2 ^ 64 = fits.count in
    let some : eqb x.1 0 ≡ false = ne_eqb _ _ (λ z. omega (arith, fits.some)) in
    let most : ltb left x.1 ≡ false = le-ltb _ _ fits.most in
    ap (λ (y : List ℕ). group_at left (at end y)) (append_assoc x.0.bytes (compact x.1) rest) ∙
    rw (hash_codec.again x.0.bytes end (compact x.1 ++ rest) txid, compact_codec.again x.1 end rest count, some, most) refl

pub group_codec : (left : ℕ) → IsCodec (group_at left) text_of_group (GroupHeadFits left)
group_codec left = record { takes = group_takes left; again = group_again left }

-- ---- a coin of a group

abbrev pub PassesAt : Option ℕ → ℕ × Coin → Type 0
PassesAt base member = MemberFits member × (is_above base member.1.height ≡ false)

length_codec : IsCodec (field as_stop length_at) compact (λ n. n ≤ 33554432)
length_codec = field_codec as_stop _ _ _ length_field

unnamed : {X : Type 0} (r : Result (X × Input) (CoinError × ℕ)) (y : X × Input) → renamed coin_stop r ≡ Ok y → r ≡ Ok y
unnamed (Ok p) y e = ap (λ (q : _). Ok q) (ok_is {E = Stop} p y e)
unnamed (Err d) y e = absurd cc

named_coin_codec : IsCodec (λ i. renamed coin_stop (coin_at i)) coin_text CoinFits
named_coin_codec = record {
  takes = λ i x j fits e. coin_codec.takes i x j fits (unnamed (coin_at i) (x, j) e);
  again = λ x end rest fits. rw (coin_codec.again x end rest fits) refl;
}

member_made : (base : Option ℕ) (member : ℕ × Coin) (offset : ℕ) (k : Input) (x : ℕ × Coin) (j : Input) → cond {A = Result ((ℕ × Coin) × Input) Stop} (is_above base member.1.height) (Err (Some (HeightAbove, offset))) (Ok (member, k)) ≡ Ok (x, j)
    → (is_above base member.1.height ≡ false) × (◌≡◌ {A = (ℕ × Coin) × Input} (member, k) (x, j))
member_made base member offset k x j e = guard_ok (is_above base member.1.height) (Some (HeightAbove, offset)) (member, k) (x, j) e

member_takes : (base : Option ℕ) (i : Input) (x : ℕ × Coin) (j : Input) → IsBytes i.rest → member_at base i ≡ Ok (x, j) → Takes i.rest (member_text x) j.rest × PassesAt base x
unfolding member_at member_text
member_takes base i x j fits e =
    let a = step length_codec i _ (x, j) fits e in
    let b = step named_coin_codec a.after _ (x, j) a.takes.rest_fits a.goes_on in
    let member : ℕ × Coin = (a.value, b.value) in
    let g = member_made base member (place a.after) b.after x j b.goes_on in
    let taken : Takes i.rest (member_text member) b.after.rest = Takes-then i.rest (compact a.value) a.after.rest (coin_text b.value) b.after.rest a.takes b.takes in
    let fit : PassesAt base member = (record { index = a.fits; coin = b.fits }, g.0) in
    subst (λ (y : (ℕ × Coin) × Input). Takes i.rest (member_text y.0) y.1.rest × PassesAt base y.0) {x = (member, b.after)} g.1 (taken, fit)

member_again : (base : Option ℕ) (x : ℕ × Coin) (end : ℕ) (rest : List ℕ) → PassesAt base x → member_at base (at end (member_text x ++ rest)) ≡ Ok (x, at end rest)
unfolding member_at member_text
member_again base x end rest fits =
    let index : x.0 ≤ 33554432 = fits.0.index in
    let below : is_above base x.1.height ≡ false = fits.1 in
    ap (λ (y : List ℕ). member_at base (at end y)) (append_assoc (compact x.0) (coin_text x.1) rest) ∙
    rw (length_codec.again x.0 end (coin_text x.1 ++ rest) index, named_coin_codec.again x.1 end rest fits.0.coin, below) refl

pub member_codec : (base : Option ℕ) → IsCodec (member_at base) member_text (PassesAt base)
member_codec base = record { takes = member_takes base; again = member_again base }
