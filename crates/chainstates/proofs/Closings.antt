-- Rounds over headers.
use Rattle.std.proofs.Common.{◌≡◌, ◌⊎◌, inl, inr, ⊎_elim, ℕ, zero, suc, ◌+◌, ◌-◌, ◌<◌, ◌≤◌, Bool, true, false, List, [], ◌∷◌, ◌++◌, length, take, drop, Option, Some, None, refl, sym, ap, subst, ◌∙◌, arith, cond, length-append}
use Rattle.std.specs.Prelude.{fold}
use Rattle.std.proofs.lemmas.List.{take-append-drop}
use Rattle.base_types.specs.declared.refused.HeaderRefused.{HeaderRefused}
use Rattle.base_types.specs.declared.refused.HeaderRefused.TheVariants.{Known, HighHash, NoParent, BadBits, TooOld, BadVersion, TreeFull}
use Rattle.block_codec.specs.declared.block.Header.{Header}
use Rattle.chain_model.specs.HeaderRules.{Closed, closed_with, closed_after, header_broken, round, rounds}

-- headers were added, or tree and headers are as before
pub data Went (old new : Closed) : Type 0 where
  Added : length old.added < length new.added → Went old new
  Kept : new.tree ≡ old.tree → new.added ≡ old.added → Went old new

stays : (closed : Closed) → Went closed closed
stays closed = Kept refl refl

with_one : (broken : Option HeaderRefused) (closed : Closed) (header : Header) → Went closed (closed_with broken closed header)
with_one None closed header = Added (omega (arith, length-append closed.added (header ∷ [])))
with_one (Some TreeFull) closed header = Kept refl refl
with_one (Some Known) closed header = stays closed
with_one (Some HighHash) closed header = stays closed
with_one (Some NoParent) closed header = stays closed
with_one (Some BadBits) closed header = stays closed
with_one (Some TooOld) closed header = stays closed
with_one (Some BadVersion) closed header = stays closed

after_one : (limit : ℕ) (closed : Closed) (header : Header) → Went closed (closed_after limit closed header)
after_one limit closed header = go closed.full
  where
    go : (b : Bool) → Went closed (cond b closed (closed_with (header_broken limit closed.tree header) closed header))
    go true = stays closed
    go false = with_one (header_broken limit closed.tree header) closed header

went_then : (a b c : Closed) → Went a b → Went b c → Went a c
went_then a b c (Added more) (Added further) = Added (omega (arith, more, further))
went_then a b c (Added more) (Kept tree added) = Added (omega (arith, more, ap length added))
went_then a b c (Kept tree added) (Added further) = Added (omega (arith, further, ap length added))
went_then a b c (Kept tree added) (Kept next more) = Kept (next ∙ tree) (more ∙ added)

round_went : (limit : ℕ) (headers : List Header) (closed : Closed) → Went closed (round limit headers closed)
round_went limit [] closed = stays closed
round_went limit (header ∷ headers) closed =
    went_then closed (closed_after limit closed header) (round limit headers (closed_after limit closed header)) (after_one limit closed header) (round_went limit headers (closed_after limit closed header))

-- where the tree was found full, headers are passed over
pub full_stays : (limit : ℕ) (headers : List Header) (closed : Closed) → closed.full ≡ true → round limit headers closed ≡ closed
full_stays limit [] closed full = refl
full_stays limit (header ∷ headers) closed full =
    let first : closed_after limit closed header ≡ closed = ap (λ (b : Bool). cond b closed (closed_with (header_broken limit closed.tree header) closed header)) full in
    ap (λ (c : Closed). fold (closed_after limit) c headers) first ∙ full_stays limit headers closed full

-- a round after one that added nothing changes nothing
again : (limit : ℕ) (headers : List Header) (old new : Closed) → new ≡ round limit headers old → length new.added ≤ length old.added → round limit headers new ≡ new
again limit headers old new is none = ⊎_elim (λ full. full_stays limit headers new full) (λ still. same still) (either new.full)
  where
    either : (b : Bool) → (b ≡ true) ⊎ (b ≡ false)
    either true = inl refl
    either false = inr refl

    was_open : (b : Bool) → old.full ≡ b → new.full ≡ false → old.full ≡ false
    was_open true full shut =
        let kept : round limit headers old ≡ old = full_stays limit headers old full in
        absurd (let e : new.full ≡ old.full = ap (λ (c : Closed). c.full) (is ∙ kept) in cc)
    was_open false full shut = full

    same_all : (c d : Closed) → d.tree ≡ c.tree → d.added ≡ c.added → d.full ≡ c.full → d ≡ c
    same_all c d t a f = λ i. record { tree = t i; added = a i; full = f i }

    same : new.full ≡ false → round limit headers new ≡ new
    same shut = go (subst (Went old) (sym is) (round_went limit headers old))
      where
        go : Went old new → round limit headers new ≡ new
        go (Added more) = absurd (omega (arith, more, none))
        go (Kept tree added) =
            let e : new ≡ old = same_all old new tree added (shut ∙ sym (was_open old.full refl shut)) in
            ap (round limit headers) e ∙ sym is

pub rounds_end : (limit : ℕ) (headers : List Header) (n : ℕ) (closed : Closed) → round limit headers closed ≡ closed → rounds limit n headers closed ≡ closed
unfolding rounds
rounds_end limit headers zero closed same = refl
rounds_end limit headers (suc n) closed same = ap (rounds limit n headers) same ∙ rounds_end limit headers n closed same

pub none_left : (limit : ℕ) (headers : List Header) (closed : Closed) → rounds limit 0 headers closed ≡ closed
unfolding rounds
none_left limit headers closed = refl

-- one round more
pub one_round : (limit : ℕ) (headers : List Header) (left n : ℕ) (closed : Closed) → left ≡ suc n → rounds limit left headers closed ≡ rounds limit n headers (round limit headers closed)
unfolding rounds
one_round limit headers left n closed is = ap (λ (k : ℕ). rounds limit k headers closed) is

pub ends_early : (limit : ℕ) (headers : List Header) (n : ℕ) (old new : Closed) → new ≡ round limit headers old → length new.added ≤ length old.added → rounds limit n headers new ≡ new
ends_early limit headers n old new is none = rounds_end limit headers n new (again limit headers old new is none)

-- one header more of a round
pub round_more : (limit : ℕ) (front : List Header) (header : Header) (closed : Closed) → round limit (front ++ header ∷ []) closed ≡ closed_after limit (round limit front closed) header
round_more limit [] header closed = refl
round_more limit (first ∷ front) header closed = round_more limit front header (closed_after limit closed first)

parts_round : (limit : ℕ) (front rest : List Header) (closed : Closed) → round limit (front ++ rest) closed ≡ round limit rest (round limit front closed)
parts_round limit [] rest closed = refl
parts_round limit (header ∷ front) rest closed = parts_round limit front rest (closed_after limit closed header)

-- a round that found the tree full is at its end
pub full_round : (limit : ℕ) (headers : List Header) (n : ℕ) (old now : Closed) → now ≡ round limit (take n headers) old → now.full ≡ true → now ≡ round limit headers old
full_round limit headers n old now is full =
    sym (full_stays limit (drop n headers) now full)
    ∙ ap (round limit (drop n headers)) is
    ∙ sym (parts_round limit (take n headers) (drop n headers) old)
    ∙ ap (λ (l : List Header). round limit l old) (take-append-drop n headers)

-- the next round leads on
pub next_round : (limit : ℕ) (headers : List Header) (n : ℕ) (old now end : Closed) → n < length headers → now ≡ round limit headers old → rounds limit (length headers - n) headers old ≡ end → rounds limit (length headers - (n + 1)) headers now ≡ end
next_round limit headers n old now end more is leads =
    ap (rounds limit (length headers - (n + 1)) headers) is
    ∙ sym (one_round limit headers (length headers - n) (length headers - (n + 1)) old (omega (arith, more)))
    ∙ leads

-- a round that added nothing was the last
pub last_round : (limit : ℕ) (headers : List Header) (n : ℕ) (old now end : Closed) → n < length headers → now ≡ round limit headers old → rounds limit (length headers - n) headers old ≡ end → length now.added ≤ length old.added → now ≡ end
last_round limit headers n old now end more is leads none =
    sym (ends_early limit headers (length headers - (n + 1)) old now is none) ∙ next_round limit headers n old now end more is leads

pub no_round : (limit : ℕ) (headers : List Header) (n : ℕ) (now end : Closed) → length headers ≤ n → rounds limit (length headers - n) headers now ≡ end → now ≡ end
no_round limit headers n now end over leads =
    let none : length headers - n ≡ 0 = omega (arith, over) in
    sym (none_left limit headers now) ∙ ap (λ (k : ℕ). rounds limit k headers now) (sym none) ∙ leads
