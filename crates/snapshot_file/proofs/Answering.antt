-- What the reader's public calls answer.
use Rattle.std.specs.Prelude.{◌≡◌, ◌⊎◌, ℕ, ◌+◌, ◌<◌, true, false, List, [], ◌∷◌, ◌++◌, length, Option, Some, None, option_map, Ok, Err, refl}
use Rattle.std.proofs.Common.{sym, ap, subst, ◌∙◌, arith, inl, inr}
use Rattle.std.proofs.lemmas.Bool.{eq-eqb, ne_eqb}
use Rattle.std.proofs.lemmas.List.{length-append, append-nil}
use Rattle.base_types.specs.Codec.{IsBytes}
use Rattle.base_types.specs.declared.hash.Hash32.{Hash32}
use Rattle.base_types.specs.declared.snapshot_error.SnapError.{SnapError}
use Rattle.base_types.specs.declared.snapshot_error.SnapError.TheVariants.{Short}
use Rattle.snapshot_file.specs.Items.{Wrong}
use Rattle.snapshot_file.specs.Part.{Part, no_group, read_coins, read_part}
use Rattle.snapshot_file.specs.Steps.{item_len}
use Rattle.snapshot_file.specs.Fed.{bytes_fed, stage_fault, BehindHead, StandsAt, HasFed, news, is_empty, bad, FeedAnswer, Grows, is_whole, end_of, finish_of, TakesPiece, TakeStep, ahead, feeding}
use Rattle.snapshot_file.specs.declared.coins.SnapCoin.{SnapCoin}
use Rattle.snapshot_file.specs.declared.fault.SnapFault.{SnapFault}
use Rattle.snapshot_file.specs.declared.fault.SnapFault.TheVariants.{NoMemory, Bad}
use Rattle.snapshot_file.specs.declared.head.SnapHead.{SnapHead}
use Rattle.snapshot_file.specs.declared.progress.Progress.{Progress}
use Rattle.snapshot_file.specs.declared.reader.Stage.{Stage}
use Rattle.snapshot_file.specs.declared.reader.Stage.TheVariants.{Head, Coins, Failed}
use Rattle.snapshot_file.specs.declared.reader.Pieces.{Pieces}
use Rattle.snapshot_file.specs.declared.reader.Reader.{Reader}
use Rattle.snapshot_file.proofs.HeadLaws.{head_decided}
use Rattle.snapshot_file.proofs.Feeding.{group_free, part_none, behind_part, broken_more, broken_part, bytes_append}
use Rattle.snapshot_file.proofs.Growth.{parts_grow}
use Rattle.snapshot_file.proofs.Steps.{empty_waits}
use Rattle.snapshot_file.proofs.Taking.{stands_as}

-- ---- `finish`

end_is : (part : Part) (p : Part) (end : ℕ) → part ≡ p → end_of part.fault (is_whole part) end ≡ end_of p.fault (is_whole p) end
end_is part p end is = ap (λ (q : Part). end_of q.fault (is_whole q) end) is

pub finish_failed : (reader : Reader) (fault : SnapFault) (height : Option ℕ) (fed : List ℕ) → reader.stage ≡ Failed fault → HasFed reader height fed → Err fault ≡ finish_of height fed
finish_failed reader NoMemory height fed is h = absurd (stands_as reader (Failed NoMemory) height fed is h)
finish_failed reader (Bad error offset) height fed is h =
    let b = stands_as reader (Failed (Bad error offset)) height fed is h in
    sym (end_is (read_part height fed) (record { head = Some b.head; coins = b.coins; fault = Some (error, offset) }) (length fed) (broken_part error offset height fed b))

whole_end : (head : SnapHead) (coins : List SnapCoin) (end : ℕ) → length coins ≡ head.count → end_of None (is_whole (record { head = Some head; coins = coins; fault = None })) end ≡ Ok tt
whole_end head coins end e = rw (eq-eqb (length coins) head.count e) refl

short_end : (head : SnapHead) (coins : List SnapCoin) (end : ℕ) → (length coins ≡ head.count → ⊥) → end_of None (is_whole (record { head = Some head; coins = coins; fault = None })) end ≡ Err (Bad Short end)
short_end head coins end e = rw (ne_eqb (length coins) head.count e) refl

pub finish_whole : (reader : Reader) (s : Progress) (height : Option ℕ) (fed : List ℕ) → reader.stage ≡ Coins s → s.left ≡ 0 → HasFed reader height fed → Ok tt ≡ finish_of height fed
finish_whole reader s height fed is none h =
    let b = stands_as reader (Coins s) height fed is h in
    let part = behind_part s reader.at reader.held.items height fed b in
    sym (end_is (read_part height fed) (record { head = Some b.head; coins = b.coins; fault = None }) (length fed) part ∙ whole_end b.head b.coins (length fed) (omega (arith, b.counted)))

pub finish_short_head : (reader : Reader) (height : Option ℕ) (fed : List ℕ) → reader.stage ≡ Head → HasFed reader height fed → Err (Bad Short (bytes_fed reader)) ≡ finish_of height fed
finish_short_head reader height fed is h =
    let w = stands_as reader Head height fed is h in
    ap (λ (n : ℕ). Err (Bad Short n)) h.count ∙ sym (end_is (read_part height fed) (record { head = None; coins = []; fault = None }) (length fed) (part_none height fed None w.waits))

pub finish_short_coins : (reader : Reader) (s : Progress) (height : Option ℕ) (fed : List ℕ) → reader.stage ≡ Coins s → 0 < s.left → HasFed reader height fed → Err (Bad Short (bytes_fed reader)) ≡ finish_of height fed
finish_short_coins reader s height fed is more h =
    let b = stands_as reader (Coins s) height fed is h in
    ap (λ (n : ℕ). Err (Bad Short n)) h.count
    ∙ sym (end_is (read_part height fed) (record { head = Some b.head; coins = b.coins; fault = None }) (length fed) (behind_part s reader.at reader.held.items height fed b) ∙ short_end b.head b.coins (length fed) (λ all. omega (arith, all, b.counted)))

-- ---- `feed`

pub other : (fault : SnapFault) (error : SnapError) (offset : ℕ) → fault ≡ Bad error offset → fault ≡ NoMemory → ⊥
other fault error offset is memory = cc

pub on_of : (stage : Stage) → ((fault : SnapFault) → stage ≡ Failed fault → ⊥) → stage_fault stage ≡ None
on_of Head unfailed = refl
on_of (Coins s) unfailed = refl
on_of (Failed fault) unfailed = absurd (unfailed fault refl)

pub feed_failed : (reader : Reader) (fault : SnapFault) (height : Option ℕ) (fed piece : List ℕ) → reader.stage ≡ Failed fault → HasFed reader height fed → FeedAnswer (feeding height fed piece) (Err fault) reader
feed_failed reader NoMemory height fed piece is h = tt
feed_failed reader (Bad error offset) height fed piece is h =
    let b = stands_as reader (Failed (Bad error offset)) height fed is h in
    let before = broken_part error offset height fed b in
    let part = broken_more error offset height fed b piece in
    record {
      fault = ap (λ (p : Part). p.fault) part;
      head = ap (λ (p : Part). p.head) part ∙ ap (λ (p : Part). p.head) (sym before);
      coins = ap (λ (p : Part). p.coins) part ∙ ap (λ (p : Part). p.coins) (sym before);
    }

pub feed_taken : (new : Reader) (height : Option ℕ) (fed piece : List ℕ) (pieces : Pieces) → TakesPiece (feeding height fed piece) new pieces → FeedAnswer (feeding height fed piece) (Ok pieces) new
feed_taken new height fed piece pieces t = (
  t.fed_more,
  record {
    became = t.became;
    some = inl t.no_fault;
    later = t.on ∙ ap (λ (f : Option Wrong). option_map bad f) (sym t.no_fault);
  },
)

-- nothing became whole
head_kept : (before part : Part) → Grows before part → None ≡ news before.head part.head → part.head ≡ before.head
head_kept before part g is = go before.head refl is where
  go : (h : Option SnapHead) → before.head ≡ h → None ≡ news h part.head → part.head ≡ before.head
  go None e new = sym new ∙ sym e
  go (Some head) e new = g.head head e ∙ sym e

empty_parts : (pieces : Pieces) → is_empty pieces ≡ true → (pieces.head ≡ None) × (pieces.coins ≡ [])
empty_parts pieces e = go pieces.head pieces.coins e where
  go : (head : Option SnapHead) (coins : List SnapCoin) → is_empty (record { head = head; coins = coins }) ≡ true → (head ≡ None) × (coins ≡ [])
  go None [] e = (refl, refl)
  go (Some head) [] e = absurd cc
  go head (coin ∷ coins) e = absurd cc

pub feed_refused : (fault : SnapFault) (new mid : Reader) (height : Option ℕ) (fed piece : List ℕ) (pieces : Pieces) → (fault ≡ NoMemory) ⊎ (is_empty pieces ≡ true) → TakeStep (feeding height fed piece) (Err fault) mid pieces → FeedAnswer (feeding height fed piece) (Err fault) new
feed_refused NoMemory new mid height fed piece pieces why t = tt
feed_refused (Bad error offset) new mid height fed piece pieces (inl is) t = absurd cc
feed_refused (Bad error offset) new mid height fed piece pieces (inr empty) t =
    let e = empty_parts pieces empty in
    record {
      fault = t.fault;
      head = head_kept (read_part height fed) (read_part height (fed ++ piece)) (parts_grow height fed piece) (sym e.0 ∙ t.became.head_is);
      coins = t.became.coins_are ∙ ap (λ (l : List SnapCoin). (read_part height fed).coins ++ l) e.1 ∙ append-nil (read_part height fed).coins;
    }

pub feed_later : (fault : SnapFault) (old mid new : Reader) (end : ℕ) (height : Option ℕ) (fed piece : List ℕ) (pieces : Pieces) → HasFed old height fed → IsBytes piece → end ≡ bytes_fed old + length piece → new.stage ≡ Failed fault → bytes_fed new ≡ end
    → (fault ≡ NoMemory → ⊥) → is_empty pieces ≡ false → TakeStep (feeding height fed piece) (Err fault) mid pieces → FeedAnswer (feeding height fed piece) (Ok pieces) new
feed_later NoMemory old mid new end height fed piece pieces h fits sum stage count memory some t = absurd (memory refl)
feed_later (Bad error offset) old mid new end height fed piece pieces h fits sum stage count memory some t = (
  record {
    bytes = bytes_append fed piece h.bytes fits;
    count = omega (arith, count, sum, h.count, length-append fed piece);
    stands = subst (λ (s : Stage). StandsAt s (ahead new.at new.held.items) height (fed ++ piece)) (sym stage) (t.behind some);
  },
  record {
    became = t.became;
    some = inr some;
    later = ap stage_fault stage ∙ ap (λ (f : Option Wrong). option_map bad f) (sym t.fault);
  },
)

-- ---- `base_height`

empty_length : (xs : List ℕ) → length xs ≡ 0 → xs ≡ []
empty_length [] e = refl
empty_length (x ∷ xs) e = absurd (omega arith)

restart : (height : Option ℕ) (count left members offset : ℕ) (txid : Hash32) (body held : List ℕ) → body ≡ [] → left ≡ count → members ≡ 0 → held ≡ [] → offset ≡ 51 → (ys : List ℕ) → read_coins height count 0 no_group 51 (body ++ ys) ≡ read_coins height left members txid offset (held ++ ys)
restart height count left members offset txid body held a b c d e ys = rw (a, b, c, d, e) (group_free height count no_group txid 51 ys)

pub height_set : (s : Progress) (height : ℕ) (offset : ℕ) (held : List ℕ) (before : Option ℕ) (fed : List ℕ) → length fed ≡ 51 → BehindHead s (ahead offset held) before fed
    → BehindHead (record { height = Some height; left = s.left; members = s.members; txid = s.txid }) (ahead offset held) (Some height) fed
height_set s height offset held before fed len b =
    let none : b.body ≡ [] = empty_length b.body (omega (arith, b.len)) in
    let f = b.fresh none in
    record {
      head = b.head;
      body = b.body;
      coins = [];
      begins = b.begins;
      len = b.len;
      reads = restart (Some height) b.head.count s.left s.members offset s.txid b.body held none f.0 f.1 f.2 f.3;
      waits = record { short = ap (λ (l : List ℕ). item_len (Some height) s.left s.members l) f.2 ∙ empty_waits (Some height) s.left s.members };
      counted = omega (arith, f.0);
      same_height = refl;
      fresh = λ _. f;
    }

-- with the metadata whole and nothing behind it, the reader stands behind it
pub stands_behind : (reader : Reader) (before : Option ℕ) (fed : List ℕ) → bytes_fed reader ≡ 51 → HasFed reader before fed → ((s : Progress) → reader.stage ≡ Coins s → ⊥) → ⊥
stands_behind reader before fed len h never = go reader.stage refl where
  go : (stage : Stage) → reader.stage ≡ stage → ⊥
  go Head is =
      let w = stands_as reader Head before fed is h in
      let few = head_decided fed w.waits in
      omega (arith, h.count)
  go (Coins s) is = never s is
  go (Failed NoMemory) is = stands_as reader (Failed NoMemory) before fed is h
  go (Failed (Bad error offset)) is =
      let b = stands_as reader (Failed (Bad error offset)) before fed is h in
      omega (arith, h.count, b.len, b.some)
