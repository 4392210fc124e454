-- What the reader does with a piece behind the metadata.
use Rattle.std.specs.Prelude.{◌≡◌, ℕ, ◌+◌, ◌-◌, ◌≤◌, List, [], ◌∷◌, ◌++◌, length, take, drop, refl}
use Rattle.std.proofs.Common.{sym, ap, subst, ◌∙◌, arith}
use Rattle.std.proofs.lemmas.List.{length-drop, drop-drop, take_all}
use Rattle.snapshot_file.specs.Steps.{Waits, Goes, TakesItems, CompletesItem, point, outcome}
use Rattle.snapshot_file.specs.Fed.{bytes_fed, MovesOn, move}
use Rattle.snapshot_file.specs.declared.coins.SnapCoin.{SnapCoin}
use Rattle.snapshot_file.specs.declared.progress.Progress.{Progress}
use Rattle.snapshot_file.specs.declared.reader.Stage.TheVariants.{Coins}
use Rattle.snapshot_file.specs.declared.reader.Reader.{Reader}
use Rattle.snapshot_file.proofs.Steps.{goes_same, goes_then}

pub no_items : (xs : List ℕ) → length xs ≡ 0 → xs ≡ []
no_items [] e = refl
no_items (x ∷ xs) e = absurd (omega arith)

-- the rest of a piece, as a slice is seen
pub rest_is : (piece : List ℕ) (used : ℕ) → take (length piece - used) (drop used piece) ≡ drop used piece
rest_is piece used = take_all (length piece - used) (drop used piece) (omega (arith, length-drop used piece))

-- what was begun was completed, or nothing was begun
abbrev pub Began : Progress → Progress → ℕ → List ℕ → List ℕ → ℕ → List SnapCoin → List SnapCoin → Type 0
Began s t offset held piece used had mid = Goes (point s offset (held ++ piece) had) (point t (offset + length held + used) (drop used piece) mid)

pub began_none : (s t : Progress) (offset : ℕ) (held piece : List ℕ) (used : ℕ) (had mid : List SnapCoin) → held ≡ [] → t ≡ s → used ≡ 0 → mid ≡ had → Began s t offset held piece used had mid
began_none s t offset held piece used had mid none same zero coins =
    let place : offset + length held + used ≡ offset = omega (arith, ap length none, zero) in
    rw (none, same, zero, coins) (subst (λ (n : ℕ). Goes (point s offset piece had) (point s n piece had)) (omega arith) (goes_same s offset piece had))

pub began_whole : (s t u : Progress) (offset : ℕ) (held piece : List ℕ) (used n : ℕ) (had mid has : List SnapCoin) → CompletesItem (point s offset held had) piece n (outcome t has) → u ≡ t → used ≡ n → mid ≡ has → Began s u offset held piece used had mid
began_whole s t u offset held piece used n had mid has done same is coins = rw (same, is, coins) done.goes

pub moved : (s t u : Progress) (old new : Reader) (piece : List ℕ) (used more : ℕ) (had mid has : List SnapCoin) → (length piece ≡ 0 → ⊥) → used ≤ length piece → Began s t old.at old.held.items piece used had mid → TakesItems (point t (bytes_fed old + used) (drop used piece) mid) more (outcome u has)
    → new.stage ≡ Coins u → new.at ≡ bytes_fed old + (used + more) → new.held.items ≡ drop (used + more) piece → MovesOn (move s piece had has) old new
moved s t u old new piece used more had mid has some le began took stage place_is held =
    let rest : drop more (drop used piece) ≡ new.held.items = drop-drop more used piece ∙ sym held in
    let place : bytes_fed old + used + more ≡ new.at = omega (arith, place_is) in
    let goes : Goes (point t (bytes_fed old + used) (drop used piece) mid) (point u new.at new.held.items has) = rw (place, rest) at took.goes in
    record {
      progress = u;
      stage = stage;
      goes = goes_then s t u old.at (bytes_fed old + used) new.at (old.held.items ++ piece) (drop used piece) new.held.items had mid has began goes;
      waits = subst (λ (l : List ℕ). Waits u l) rest took.waits;
      count = omega (arith, place_is, ap length held, length-drop (used + more) piece, length-drop used piece, took.within);
      idle = λ none. absurd (some (ap length none));
    }
