-- Completing an item that was begun with bytes of a piece.
use Rattle.std.specs.Prelude.{◌≡◌, ℕ, ◌+◌, ◌-◌, ◌≤◌, List, ◌++◌, length, take, drop, Ok}
use Rattle.std.proofs.Common.{sym, ap, subst, ◌∙◌, append_assoc, arith}
use Rattle.std.proofs.lemmas.List.{length-append, length-take, take-append-drop, drop-append-le}
use Rattle.std.proofs.Math.Seq.{take-add, drop-append-add}
use Rattle.base_types.specs.Codec.{IsBytes}
use Rattle.base_types.specs.declared.snapshot_error.SnapError.{SnapError}
use Rattle.snapshot_file.specs.Items.{Wrong}
use Rattle.snapshot_file.specs.Steps.{read_from, after, next_len, Waits, Goes, Breaks, TakesItem, BreaksItem, Stops, CompletesItem, point, outcome}
use Rattle.snapshot_file.specs.declared.coins.SnapCoin.{SnapCoin}
use Rattle.snapshot_file.specs.declared.fault.SnapFault.{SnapFault}
use Rattle.snapshot_file.specs.declared.fault.SnapFault.TheVariants as snap
use Rattle.snapshot_file.specs.declared.progress.Progress.{Progress}
use Rattle.snapshot_file.proofs.Steps.{item_long, goes_breaks}

-- the same with more bytes behind

pub goes_more : (a b : Progress) (at next : ℕ) (bytes rest tail : List ℕ) (had has : List SnapCoin) → Goes (point a at bytes had) (point b next rest has) → Goes (point a at (bytes ++ tail) had) (point b next (rest ++ tail) has)
goes_more a b at next bytes rest tail had has g = record {
  found = g.found;
  coins = g.coins;
  goes_on = λ ys. ap (λ (l : List ℕ). read_from a at l) (append_assoc bytes tail ys) ∙ g.goes_on (tail ++ ys) ∙ ap (λ (l : List ℕ). after g.found (read_from b next l)) (sym (append_assoc rest tail ys));
  counted = g.counted;
  height = g.height;
}

pub breaks_more : (a : Progress) (at : ℕ) (bytes tail : List ℕ) (wrong : Wrong) (had has : List SnapCoin) → Breaks (point a at bytes had) wrong has → Breaks (point a at (bytes ++ tail) had) wrong has
breaks_more a at bytes tail wrong had has g = record {
  found = g.found;
  coins = g.coins;
  breaks = λ ys. ap (λ (l : List ℕ). read_from a at l) (append_assoc bytes tail ys) ∙ g.breaks (tail ++ ys);
}

-- the bytes that were added so far, and those that follow
all_of : (held piece : List ℕ) (n : ℕ) → (held ++ take n piece) ++ drop n piece ≡ held ++ piece
all_of held piece n = append_assoc held (take n piece) (drop n piece) ∙ ap (λ (l : List ℕ). held ++ l) (take-append-drop n piece)

pub added_more : (held piece mid now : List ℕ) (n k : ℕ) → mid ≡ held ++ take n piece → now ≡ mid ++ take (n + k - n) (drop n piece) → now ≡ held ++ take (n + k) piece
added_more held piece mid now n k is more =
    let less : n + k - n ≡ k = omega arith in
    more ∙ ap (λ (m : ℕ). mid ++ take m (drop n piece)) less ∙ ap (λ (l : List ℕ). l ++ take k (drop n piece)) is ∙ append_assoc held (take n piece) (take k (drop n piece)) ∙ ap (λ (l : List ℕ). held ++ l) (sym (take-add n k piece))

pub completed : (first old new : Progress) (at : ℕ) (held piece bytes : List ℕ) (n len : ℕ) (had mid has : List SnapCoin) → bytes ≡ held ++ take n piece → n ≤ length piece → old ≡ first → mid ≡ had → Waits first held → TakesItem (point old at bytes mid) len (outcome new has)
    → CompletesItem (point first at held had) piece (len - length held) (outcome new has)
completed first old new at held piece bytes n len had mid has is le same coins waits took =
    let took : TakesItem (point first at bytes had) len (outcome new has) = rw (same, coins) at took in
    let fits : IsBytes (held ++ take n piece) = subst IsBytes is took.fits in
    let whole : next_len first (held ++ take n piece) ≡ Ok len = ap (λ (l : List ℕ). next_len first l) (sym is) ∙ took.is in
    let long : length held ≤ len = item_long first.height first.left first.members held (take n piece) len fits whole waits.short in
    let size : length bytes ≡ length held + n = omega (arith, ap length is, length-append held (take n piece), length-take n piece) in
    let g = goes_more first new at (at + len) bytes (drop len bytes) (drop n piece) had has took.goes in
    let front : bytes ++ drop n piece ≡ held ++ piece = ap (λ (l : List ℕ). l ++ drop n piece) is ∙ all_of held piece n in
    let used = len - length held in
    let sum : len ≡ length held + used = omega arith in
    let back : drop len bytes ++ drop n piece ≡ drop used piece =
    sym (drop-append-le len bytes (drop n piece) took.within) ∙ ap (λ (l : List ℕ). drop len l) front ∙ ap (λ (m : ℕ). drop m (held ++ piece)) sum ∙ drop-append-add held piece used in
    let place : at + len ≡ at + length held + used = omega arith in
    record {
      goes = rw (front, back, place) at g;
      within = omega (arith, took.within);
    }

pub completing_breaks : (first old : Progress) (at : ℕ) (held piece bytes : List ℕ) (n offset : ℕ) (error : SnapError) (fault : SnapFault) (had mid has : List SnapCoin) → bytes ≡ held ++ take n piece → old ≡ first → mid ≡ had → fault ≡ snap.Bad error (at + offset)
    → BreaksItem (point old at bytes mid) error offset has → Stops fault (point first at (held ++ piece) had) has
completing_breaks first old at held piece bytes n offset error fault had mid has is same coins bad broke =
    let b : Breaks (point first at bytes had) (error, at + offset) has = rw (same, coins) at broke.breaks in
    let front : bytes ++ drop n piece ≡ held ++ piece = ap (λ (l : List ℕ). l ++ drop n piece) is ∙ all_of held piece n in
    let g = breaks_more first at bytes (drop n piece) (error, at + offset) had has b in
    rw bad (subst (λ (l : List ℕ). Breaks (point first at l had) (error, at + offset) has) front g)

-- items went on, and the next one broke the form
pub items_break : (first old : Progress) (at item : ℕ) (bytes rest : List ℕ) (offset : ℕ) (error : SnapError) (fault : SnapFault) (had mid has : List SnapCoin) → fault ≡ snap.Bad error (item + offset) → Goes (point first at bytes had) (point old item rest mid)
    → BreaksItem (point old item rest mid) error offset has → Stops fault (point first at bytes had) has
items_break first old at item bytes rest offset error fault had mid has bad goes broke = rw bad (goes_breaks first old at item bytes rest (error, item + offset) had mid has goes broke.breaks)
