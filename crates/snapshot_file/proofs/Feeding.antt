-- What feeding a piece does to what a reader was fed.
use Rattle.std.specs.Prelude.{◌≡◌, ℕ, zero, suc, ◌+◌, ◌<◌, true, List, [], ◌∷◌, ◌++◌, length, take, drop, Option, Some, None, Result, Ok, Err, refl}
use Rattle.std.proofs.Common.{sym, ap, subst, ◌∙◌, append_assoc, arith}
use Rattle.std.proofs.lemmas.Bool.{both_ways}
use Rattle.std.proofs.lemmas.List.{length-append, take-append-drop, append-nil}
use Rattle.base_types.specs.Reading.{Input, place}
use Rattle.base_types.specs.Codec.{IsBytes, at}
use Rattle.base_types.proofs.Codecs.{IsBytes-take, IsBytes-drop}
use Rattle.base_types.specs.declared.hash.Hash32.{Hash32}
use Rattle.base_types.specs.declared.snapshot_error.SnapError.{SnapError}
use Rattle.snapshot_file.specs.Items.{Wrong, Stop, from_first, head_at}
use Rattle.snapshot_file.specs.Part.{Found, Part, no_group, read_coins, behind_head, read_part}
use Rattle.snapshot_file.specs.Steps.{read_from, after, item_len, Waits, Goes, Breaks, HeadWhole, HeadWaits, point}
use Rattle.snapshot_file.specs.Fed.{bytes_fed, stage_fault, BehindHead, BrokenBody, StandsAt, HasFed, Became, is_empty, first_progress, MovesOn, MoveStep, TakesPiece, BreaksForm, TakeStep, ahead, move, feeding}
use Rattle.snapshot_file.specs.declared.coins.SnapCoin.{SnapCoin}
use Rattle.snapshot_file.specs.declared.fault.SnapFault.{SnapFault}
use Rattle.snapshot_file.specs.declared.fault.SnapFault.TheVariants.{NoMemory, Bad}
use Rattle.snapshot_file.specs.declared.head.SnapHead.{SnapHead}
use Rattle.snapshot_file.specs.declared.progress.Progress.{Progress}
use Rattle.snapshot_file.specs.declared.reader.Stage.{Stage}
use Rattle.snapshot_file.specs.declared.reader.Stage.TheVariants.{Head}
use Rattle.snapshot_file.specs.declared.reader.Pieces.{Pieces}
use Rattle.snapshot_file.specs.declared.reader.Reader.{Reader}
use Rattle.snapshot_file.proofs.Growing.{more, Grows}
use Rattle.snapshot_file.proofs.ItemsGrow.{stays, head_grows}
use Rattle.snapshot_file.proofs.Steps.{waits_nothing, empty_waits}

-- ---- parts by their metadata

-- the part of a file whose metadata is whole
abbrev pub headed : SnapHead → Found → Part
headed head found = record { head = Some head; coins = found.coins; fault = found.fault }

pub part_of : (height : Option ℕ) (bytes : List ℕ) (head : SnapHead) (body : List ℕ) → head_at (from_first bytes) ≡ Ok (head, at (length bytes) body) → length bytes ≡ 51 + length body → read_part height bytes ≡ headed head (read_coins height head.count 0 no_group 51 body)
unfolding read_part
part_of height bytes head body e len =
    let offset : place (at (length bytes) body) ≡ 51 = omega arith in
    ap (λ (r : Result (SnapHead × Input) Stop). behind_head height r) e ∙ ap (λ (n : ℕ). headed head (read_coins height head.count 0 no_group n body)) offset

pub part_none : (height : Option ℕ) (bytes : List ℕ) (stop : Stop) → head_at (from_first bytes) ≡ Err stop → read_part height bytes ≡ record { head = None; coins = []; fault = stop }
unfolding read_part
part_none height bytes stop e = ap (λ (r : Result (SnapHead × Input) Stop). behind_head height r) e

grown_head : (bytes ys : List ℕ) (head : SnapHead) (j : Input) → head_at (from_first bytes) ≡ Ok (head, j) → head_at (more ys (from_first bytes)) ≡ Ok (head, more ys j)
grown_head bytes ys head j e = subst (λ (r : Result (SnapHead × Input) Stop). Grows stays ys r (head_at (more ys (from_first bytes)))) e (head_grows ys (from_first bytes))

pub head_more : (bytes ys : List ℕ) (head : SnapHead) (body : List ℕ) → head_at (from_first bytes) ≡ Ok (head, at (length bytes) body) → head_at (from_first (bytes ++ ys)) ≡ Ok (head, at (length (bytes ++ ys)) (body ++ ys))
head_more bytes ys head body e =
    let len = length-append bytes ys in
    ap (λ (n : ℕ). head_at (at n (bytes ++ ys))) len ∙ grown_head bytes ys head (at (length bytes) body) e ∙ ap (λ (n : ℕ). Ok (head, at n (body ++ ys))) (sym len)

pub bytes_append : (xs ys : List ℕ) → IsBytes xs → IsBytes ys → IsBytes (xs ++ ys)
bytes_append [] ys a b i = b i
bytes_append (x ∷ xs) ys a b zero = a 0
bytes_append (x ∷ xs) ys a b (suc i) = bytes_append xs ys (λ k. a (suc k)) b i

some_length : (xs : List ℕ) → 0 < length xs → xs ≡ [] → ⊥
some_length xs lt e = omega (arith, ap length e)

both_empty : (xs ys : List ℕ) → xs ++ ys ≡ [] → (xs ≡ []) × (ys ≡ [])
both_empty [] ys e = (refl, e)
both_empty (x ∷ xs) ys e = absurd cc

-- ---- behind the metadata

pub behind_more : (s : Progress) (offset : ℕ) (held : List ℕ) (height : Option ℕ) (fed : List ℕ) (b : BehindHead s (ahead offset held) height fed) (ys : List ℕ) → read_part height (fed ++ ys) ≡ headed b.head (after b.coins (read_from s offset (held ++ ys)))
behind_more s offset held height fed b ys =
    part_of height (fed ++ ys) b.head (b.body ++ ys) (head_more fed ys b.head b.body b.begins) (omega (arith, b.len, length-append fed ys, length-append b.body ys)) ∙ ap (λ (f : Found). headed b.head f) (b.reads ys)

pub behind_part : (s : Progress) (offset : ℕ) (held : List ℕ) (height : Option ℕ) (fed : List ℕ) (b : BehindHead s (ahead offset held) height fed) → read_part height fed ≡ record { head = Some b.head; coins = b.coins; fault = None }
behind_part s offset held height fed b =
    ap (λ (l : List ℕ). read_part height l) (sym (append-nil fed)) ∙ behind_more s offset held height fed b []
    ∙ ap (λ (l : List ℕ). headed b.head (after b.coins (read_from s offset l))) (append-nil held)
    ∙ ap (λ (f : Found). headed b.head (after b.coins f)) (waits_nothing s.height s.left s.members s.txid offset held b.waits.short)
    ∙ ap (λ (l : List SnapCoin). headed b.head (record { coins = l; fault = None })) (append-nil b.coins)

-- a piece that the reader went on over
pub behind_moved : (s t : Progress) (offset next : ℕ) (held now : List ℕ) (height : Option ℕ) (fed piece : List ℕ) (had has : List SnapCoin) → BehindHead s (ahead offset held) height fed → Goes (point s offset (held ++ piece) had) (point t next now has) → Waits t now → (piece ≡ [] → (t ≡ s) × (next ≡ offset) × (now ≡ held))
    → BehindHead t (ahead next now) height (fed ++ piece)
behind_moved s t offset next held now height fed piece had has b g w idle = record {
  head = b.head;
  body = b.body ++ piece;
  coins = b.coins ++ g.found;
  begins = head_more fed piece b.head b.body b.begins;
  len = omega (arith, b.len, length-append fed piece, length-append b.body piece);
  reads = λ ys.
      ap (λ (l : List ℕ). read_coins height b.head.count 0 no_group 51 l) (append_assoc b.body piece ys) ∙ b.reads (piece ++ ys)
      ∙ ap (λ (l : List ℕ). after b.coins (read_from s offset l)) (sym (append_assoc held piece ys)) ∙ ap (λ (f : Found). after b.coins f) (g.goes_on ys)
      ∙ joined b.coins g.found (read_from t next (now ++ ys));
  waits = w;
  counted = omega (arith, b.counted, g.counted, length-append b.coins g.found);
  same_height = g.height ∙ b.same_height;
  fresh = λ none.
      let parts = both_empty b.body piece none in
      let f = b.fresh parts.0 in
      let i = idle parts.1 in
      (ap (λ (x : Progress). x.left) i.0 ∙ f.0, ap (λ (x : Progress). x.members) i.0 ∙ f.1, i.2 ∙ f.2, i.1 ∙ f.3);
} where
  joined : (xs ys : List SnapCoin) (f : Found) → after xs (after ys f) ≡ after (xs ++ ys) f
  joined xs ys f i = record { coins = sym (append_assoc xs ys f.coins) i; fault = f.fault }

-- a piece in which the bytes break the form
pub behind_broken : (s : Progress) (offset : ℕ) (held : List ℕ) (height : Option ℕ) (fed piece : List ℕ) (wrong : Wrong) (had has : List SnapCoin) (b : BehindHead s (ahead offset held) height fed) → (k : Breaks (point s offset (held ++ piece) had) wrong has) → 0 < length piece
    → BrokenBody wrong.0 wrong.1 height (fed ++ piece) × (read_part height (fed ++ piece) ≡ record { head = Some b.head; coins = b.coins ++ k.found; fault = Some wrong })
behind_broken s offset held height fed piece wrong had has b k some =
    let reads : (ys : List ℕ) → read_coins height b.head.count 0 no_group 51 ((b.body ++ piece) ++ ys) ≡ record { coins = b.coins ++ k.found; fault = Some wrong } =
    λ ys. ap (λ (l : List ℕ). read_coins height b.head.count 0 no_group 51 l) (append_assoc b.body piece ys) ∙ b.reads (piece ++ ys)
    ∙ ap (λ (l : List ℕ). after b.coins (read_from s offset l)) (sym (append_assoc held piece ys)) ∙ ap (λ (f : Found). after b.coins f) (k.breaks ys) in
    let begins = head_more fed piece b.head b.body b.begins in
    let len : length (fed ++ piece) ≡ 51 + length (b.body ++ piece) = omega (arith, b.len, length-append fed piece, length-append b.body piece) in (
      record { head = b.head; body = b.body ++ piece; coins = b.coins ++ k.found; begins = begins; len = len; some = omega (arith, length-append b.body piece); breaks = reads },
      part_of height (fed ++ piece) b.head (b.body ++ piece) begins len ∙ ap (λ (l : List ℕ). headed b.head (read_coins height b.head.count 0 no_group 51 l)) (sym (append-nil (b.body ++ piece))) ∙ ap (λ (f : Found). headed b.head f) (reads []),
    )

-- and whatever follows
pub broken_more : (error : SnapError) (offset : ℕ) (height : Option ℕ) (fed : List ℕ) (b : BrokenBody error offset height fed) (ys : List ℕ) → read_part height (fed ++ ys) ≡ record { head = Some b.head; coins = b.coins; fault = Some (error, offset) }
broken_more error offset height fed b ys =
    part_of height (fed ++ ys) b.head (b.body ++ ys) (head_more fed ys b.head b.body b.begins) (omega (arith, b.len, length-append fed ys, length-append b.body ys)) ∙ ap (λ (f : Found). headed b.head f) (b.breaks ys)

pub broken_part : (error : SnapError) (offset : ℕ) (height : Option ℕ) (fed : List ℕ) (b : BrokenBody error offset height fed) → read_part height fed ≡ record { head = Some b.head; coins = b.coins; fault = Some (error, offset) }
broken_part error offset height fed b = ap (λ (l : List ℕ). read_part height l) (sym (append-nil fed)) ∙ broken_more error offset height fed b []

-- ---- the metadata became whole

pub group_free : (height : Option ℕ) (left : ℕ) (a b : Hash32) (offset : ℕ) (bytes : List ℕ) → read_coins height left 0 a offset bytes ≡ read_coins height left 0 b offset bytes
unfolding read_coins
group_free height zero a b offset bytes = refl
group_free height (suc left) a b offset bytes = refl

pub behind_begun : (head : SnapHead) (offset : ℕ) (held fed : List ℕ) → offset ≡ 51 → held ≡ [] → head_at (from_first fed) ≡ Ok (head, at 51 []) → length fed ≡ 51 → BehindHead (first_progress head) (ahead offset held) None fed
behind_begun head offset held fed place none e len = record {
  head = head;
  body = [];
  coins = [];
  begins = e ∙ ap (λ (n : ℕ). Ok (head, at n [])) (sym len);
  len = len;
  reads = λ ys. group_free None head.count no_group head.base 51 ys ∙ ap (λ (n : ℕ). read_from (first_progress head) n ys) (sym place) ∙ ap (λ (l : List ℕ). read_from (first_progress head) offset (l ++ ys)) (sym none);
  waits = record { short = ap (λ (l : List ℕ). item_len None head.count 0 l) none ∙ empty_waits None head.count 0 };
  counted = omega arith;
  same_height = refl;
  fresh = λ _. (refl, refl, none, place);
}

-- ---- what taking a piece does

became : (before part : Part) (head : SnapHead) (old_coins coins : List SnapCoin) (fault : Option Wrong) → before ≡ record { head = Some head; coins = old_coins; fault = None } → part ≡ record { head = Some head; coins = old_coins ++ coins; fault = fault } → Became before part None coins
became before part head old_coins coins fault b p =
    let head_before : before.head ≡ Some head = ap (λ (q : Part). q.head) b in
    record {
      head_is = rw head_before refl;
      coins_are = ap (λ (q : Part). q.coins) p ∙ ap (λ (q : Part). q.coins ++ coins) (sym b);
    }

became_first : (before part : Part) (head : SnapHead) (coins : List SnapCoin) (fault : Option Wrong) → before ≡ record { head = None; coins = []; fault = None } → part ≡ record { head = Some head; coins = coins; fault = fault } → Became before part (Some head) coins
became_first before part head coins fault b p =
    let head_before : before.head ≡ None = ap (λ (q : Part). q.head) b in
    let head_part : part.head ≡ Some head = ap (λ (q : Part). q.head) p in
    record {
      head_is = rw (head_before, head_part) refl;
      coins_are = ap (λ (q : Part). q.coins) p ∙ ap (λ (q : Part). q.coins ++ coins) (sym b);
    }

abbrev at_height : Reader → Progress → Option ℕ → List ℕ → Type 0
at_height reader s height fed = BehindHead s (ahead reader.at reader.held.items) height fed

-- the reader stands behind the metadata after a piece
moved_fed : (old new : Reader) (s : Progress) (height : Option ℕ) (fed piece : List ℕ) (had has : List SnapCoin) → IsBytes fed → IsBytes piece → bytes_fed old ≡ length fed → at_height old s height fed → MovesOn (move s piece had has) old new → HasFed new height (fed ++ piece)
moved_fed old new s height fed piece had has fits piece_fits count b m =
    let behind = behind_moved s m.progress old.at new.at old.held.items new.held.items height fed piece had has b m.goes m.waits m.idle in
    record {
      bytes = bytes_append fed piece fits piece_fits;
      count = omega (arith, m.count, count, length-append fed piece);
      stands = subst (λ (stage : Stage). StandsAt stage (ahead new.at new.held.items) height (fed ++ piece)) (sym m.stage) behind;
    }

-- the part after it
moved_part : (old new : Reader) (s : Progress) (height : Option ℕ) (fed piece : List ℕ) (has : List SnapCoin) (b : at_height old s height fed) → MovesOn (move s piece [] has) old new → read_part height (fed ++ piece) ≡ record { head = Some b.head; coins = b.coins ++ has; fault = None }
unfolding behind_moved
moved_part old new s height fed piece has b m =
    let behind = behind_moved s m.progress old.at new.at old.held.items new.held.items height fed piece [] has b m.goes m.waits m.idle in
    behind_part m.progress new.at new.held.items height (fed ++ piece) behind ∙ ap (λ (l : List SnapCoin). record { head = Some b.head; coins = b.coins ++ l; fault = None }) (sym m.goes.coins)

pub take_behind : (result : Result (Unit {0}) SnapFault) (old new : Reader) (s : Progress) (height : Option ℕ) (fed piece : List ℕ) (pieces : Pieces) → IsBytes fed → IsBytes piece → bytes_fed old ≡ length fed → at_height old s height fed → pieces.head ≡ None → MoveStep result (move s piece [] pieces.coins) old new
    → TakeStep (feeding height fed piece) result new pieces
take_behind (Ok done) old new s height fed piece pieces fits piece_fits count b none m =
    let before = behind_part s old.at old.held.items height fed b in
    let part = moved_part old new s height fed piece pieces.coins b m in
    record {
      fed_more = moved_fed old new s height fed piece [] pieces.coins fits piece_fits count b m;
      on = ap stage_fault m.stage;
      became = rw none (became (read_part height fed) (read_part height (fed ++ piece)) b.head b.coins pieces.coins None before part);
      no_fault = ap (λ (p : Part). p.fault) part;
    }
take_behind (Err NoMemory) old new s height fed piece pieces fits piece_fits count b none m = tt
take_behind (Err (Bad error offset)) old new s height fed piece pieces fits piece_fits count b none k =
    let before = behind_part s old.at old.held.items height fed b in
    let broken = behind_broken s old.at old.held.items height fed piece (error, offset) [] pieces.coins b k.0 k.1 in
    let part = broken.1 ∙ ap (λ (l : List SnapCoin). record { head = Some b.head; coins = b.coins ++ l; fault = Some (error, offset) }) (sym k.0.coins) in
    record {
      became = rw none (became (read_part height fed) (read_part height (fed ++ piece)) b.head b.coins pieces.coins (Some (error, offset)) before part);
      fault = ap (λ (p : Part). p.fault) part;
      behind = λ _. broken.0;
    }

-- the same where bytes of the piece made the metadata whole before
module _ (mid new : Reader) (head : SnapHead) (used : ℕ) (fed piece : List ℕ) (pieces : Pieces) (fits : IsBytes fed) (piece_fits : IsBytes piece) (waits : head_at (from_first fed) ≡ Err None) (whole : HeadWhole head used fed piece) (place : mid.at ≡ 51) (none : mid.held.items ≡ []) (first : pieces.head ≡ Some head) where
  abbrev front : List ℕ
  front = fed ++ take used piece

  all : front ++ drop used piece ≡ fed ++ piece
  all = append_assoc fed (take used piece) (drop used piece) ∙ ap (λ (l : List ℕ). fed ++ l) (take-append-drop used piece)

  behind : at_height mid (first_progress head) None front
  behind = behind_begun head mid.at mid.held.items front place none whole.is whole.len

  before : read_part None fed ≡ record { head = None; coins = []; fault = None }
  before = part_none None fed None waits

  first_became : (fault : Option Wrong) → read_part None (fed ++ piece) ≡ record { head = Some head; coins = pieces.coins; fault = fault } → Became (read_part None fed) (read_part None (fed ++ piece)) pieces.head pieces.coins
  first_became fault part = subst (λ (h : Option SnapHead). Became (read_part None fed) (read_part None (fed ++ piece)) h pieces.coins) (sym first) (became_first (read_part None fed) (read_part None (fed ++ piece)) head pieces.coins fault before part)

  pub take_first : (result : Result (Unit {0}) SnapFault) → MoveStep result (move (first_progress head) (drop used piece) [] pieces.coins) mid new → TakeStep (feeding None fed piece) result new pieces
  unfolding behind behind_begun
  take_first (Ok done) m =
      let count : bytes_fed mid ≡ length front = omega (arith, place, ap length none, whole.len) in
      let more = moved_fed mid new (first_progress head) None front (drop used piece) [] pieces.coins (bytes_append fed (take used piece) fits (IsBytes-take used piece piece_fits)) (IsBytes-drop used piece piece_fits) count behind m in
      let part = ap (λ (l : List ℕ). read_part None l) (sym all) ∙ moved_part mid new (first_progress head) None front (drop used piece) pieces.coins behind m in
      record {
        fed_more = subst (λ (l : List ℕ). HasFed new None l) all more;
        on = ap stage_fault m.stage;
        became = first_became None part;
        no_fault = ap (λ (p : Part). p.fault) part;
      }
  take_first (Err NoMemory) k = tt
  take_first (Err (Bad error offset)) k =
      let broken = behind_broken (first_progress head) mid.at mid.held.items None front (drop used piece) (error, offset) [] pieces.coins behind k.0 k.1 in
      let part = ap (λ (l : List ℕ). read_part None l) (sym all) ∙ broken.1 ∙ ap (λ (l : List SnapCoin). record { head = Some head; coins = l; fault = Some (error, offset) }) (sym k.0.coins) in
      record {
        became = first_became (Some (error, offset)) part;
        fault = ap (λ (p : Part). p.fault) part;
        behind = λ _. subst (λ (l : List ℕ). BrokenBody error offset None l) all broken.0;
      }

-- where the metadata isn't whole yet
pub take_waits : (new : Reader) (fed piece : List ℕ) (pieces : Pieces) → IsBytes fed → IsBytes piece → head_at (from_first fed) ≡ Err None → HeadWaits fed piece new.held.items → new.stage ≡ Head → new.at ≡ 0 → pieces.head ≡ None → pieces.coins ≡ [] → TakesPiece (feeding None fed piece) new pieces
take_waits new fed piece pieces fits piece_fits waits w stage place none no_coins =
    let still : head_at (from_first (fed ++ piece)) ≡ Err None = ap (λ (l : List ℕ). head_at (from_first l)) (sym w.all) ∙ w.waits in
    let before = part_none None fed None waits in
    let part = part_none None (fed ++ piece) None still in
    let head_before : (read_part None fed).head ≡ None = ap (λ (p : Part). p.head) before in
    let head_part : (read_part None (fed ++ piece)).head ≡ None = ap (λ (p : Part). p.head) part in
    record {
      fed_more = record {
        bytes = bytes_append fed piece fits piece_fits;
        count = omega (arith, place, ap length w.all);
        stands = subst (λ (s : Stage). StandsAt s (ahead new.at new.held.items) None (fed ++ piece)) (sym stage) (record { all = w.all; no_height = refl; waits = still });
      };
      on = ap stage_fault stage;
      became = record {
        head_is = rw (none, head_before, head_part) refl;
        coins_are = ap (λ (p : Part). p.coins) part ∙ ap (λ (p : Part). p.coins ++ []) (sym before) ∙ ap (λ (l : List SnapCoin). (read_part None fed).coins ++ l) (sym no_coins);
      };
      no_fault = ap (λ (p : Part). p.fault) part;
    }

-- where it breaks its form
pub take_breaks : (fed piece : List ℕ) (error : SnapError) (offset : ℕ) (pieces : Pieces) → head_at (from_first fed) ≡ Err None → head_at (from_first (fed ++ piece)) ≡ Err (Some (error, offset)) → pieces.head ≡ None → pieces.coins ≡ [] → BreaksForm (feeding None fed piece) error offset pieces
take_breaks fed piece error offset pieces waits broken none no_coins =
    let before = part_none None fed None waits in
    let part = part_none None (fed ++ piece) (Some (error, offset)) broken in
    let head_before : (read_part None fed).head ≡ None = ap (λ (p : Part). p.head) before in
    let head_part : (read_part None (fed ++ piece)).head ≡ None = ap (λ (p : Part). p.head) part in
    record {
      became = record {
        head_is = rw (none, head_before, head_part) refl;
        coins_are = ap (λ (p : Part). p.coins) part ∙ ap (λ (p : Part). p.coins ++ []) (sym before) ∙ ap (λ (l : List SnapCoin). (read_part None fed).coins ++ l) (sym no_coins);
      };
      fault = ap (λ (p : Part). p.fault) part;
      behind = λ some. let full : is_empty pieces ≡ true = rw (none, no_coins) refl in absurd (both_ways (is_empty pieces) some full);
    }
