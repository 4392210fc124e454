-- The lines of some bytes, one after the other.
use Rattle.std.proofs.Common.{◌≡◌, ℕ, List, [], ◌∷◌, ◌++◌, map, refl, sym, ap, subst, ◌∙◌, append_assoc, append-nil}
use Rattle.disk_model.specs.Disk.{Image}
use Rattle.command_text.specs.Lines.{pieces_between}
use Rattle.machine.specs.State.{Setting}
use Rattle.command_loop.specs.Asks.{asked, onto, pieces_behind, all_but_last, last_of, ended_asks, kept_of}
use Rattle.command_loop.specs.Points.{Outer, Point}
use Rattle.command_loop.specs.ServerCalls.{Asked}
use Rattle.command_loop.specs.Service.{Serves, Stopped}
use Rattle.command_loop.proofs.Pieces.{onto-nil, some_pieces, asked-kept_of, all_one, last_one, more_first, more_last}
use Rattle.command_loop.proofs.Serving.{Serves-then, Stopped-then, Stopped-longer, Stopped-halted}

-- lines were answered, and what is kept with the rest of the bytes has the others
pub record IsDone (setting : Setting) (past left : ℕ → Image → Type 0) (first bytes line rest : List ℕ) (p : Point) (IsNow : Point → Type 0) : Type 0 where
  pub asks : List Asked
  pub q : Point
  pub now : IsNow q
  pub serves : Serves setting past left asks p q
  pub others : ended_asks first bytes ≡ asks ++ ended_asks line rest
  pub last_kept : kept_of (last_of (pieces_behind first bytes)) ≡ kept_of (last_of (pieces_behind line rest))

-- the pieces, where the rest has a line feed
behind_feed : (line rest front behind : List ℕ) → pieces_between 10 rest ≡ front ∷ pieces_between 10 behind → pieces_behind line rest ≡ (line ++ front) ∷ pieces_between 10 behind
behind_feed line rest front behind is = ap (onto line) is

asks_feed : (line rest front behind : List ℕ) → pieces_between 10 rest ≡ front ∷ pieces_between 10 behind → ended_asks line rest ≡ asked (line ++ front) ∷ ended_asks [] behind
asks_feed line rest front behind is =
    ap (λ (l : List (List ℕ)). map asked (all_but_last l)) (behind_feed line rest front behind is)
    ∙ ap (map asked) (more_first (line ++ front) (pieces_between 10 behind) (some_pieces behind))
    ∙ ap (λ (l : List (List ℕ)). asked (line ++ front) ∷ map asked (all_but_last l)) (sym (onto-nil (pieces_between 10 behind)))

pub last_feed : (line rest front behind : List ℕ) → pieces_between 10 rest ≡ front ∷ pieces_between 10 behind → last_of (pieces_behind line rest) ≡ last_of (pieces_behind [] behind)
last_feed line rest front behind is =
    ap last_of (behind_feed line rest front behind is) ∙ more_last (line ++ front) (pieces_between 10 behind) (some_pieces behind)
    ∙ ap last_of (sym (onto-nil (pieces_between 10 behind)))

module _ (setting : Setting) (past mid left : ℕ → Image → Type 0) (first bytes line rest front behind : List ℕ) (p : Point) (IsMid : Point → Type 0)
    (feed : pieces_between 10 rest ≡ front ∷ pieces_between 10 behind) (done : IsDone setting past mid first bytes line rest p IsMid) where
  pub IsDone-more : (IsNow : Point → Type 0) (q : Point) → IsNow q → Serves setting mid left (asked (kept_of (line ++ front)) ∷ []) done.q q → IsDone setting past left first bytes [] behind p IsNow
  IsDone-more IsNow q now serves = record {
    asks = done.asks ++ asked (kept_of (line ++ front)) ∷ [];
    q = q;
    now = now;
    serves = Serves-then setting past mid left done.asks (asked (kept_of (line ++ front)) ∷ []) p done.q q done.serves serves;
    others = done.others ∙ ap (λ (l : List Asked). done.asks ++ l) (asks_feed line rest front behind feed ∙ ap (λ (x : Asked). x ∷ ended_asks [] behind) (sym (asked-kept_of (line ++ front)))) ∙ sym (append_assoc done.asks (asked (kept_of (line ++ front)) ∷ []) (ended_asks [] behind));
    last_kept = done.last_kept ∙ ap kept_of (last_feed line rest front behind feed);
  }

  -- a stop within the next line
  pub IsDone-stopped : (IsOut : Type 0) (o : Outer) → Stopped setting mid left IsOut (asked (kept_of (line ++ front)) ∷ []) done.q o → Stopped setting past left IsOut (ended_asks first bytes) p o
  IsDone-stopped IsOut o stopped =
      let all : (done.asks ++ asked (kept_of (line ++ front)) ∷ []) ++ ended_asks [] behind ≡ ended_asks first bytes = append_assoc done.asks (asked (kept_of (line ++ front)) ∷ []) (ended_asks [] behind)
      ∙ ap (λ (l : List Asked). done.asks ++ l) (ap (λ (x : Asked). x ∷ ended_asks [] behind) (asked-kept_of (line ++ front)) ∙ sym (asks_feed line rest front behind feed)) ∙ sym done.others in
      subst (λ (l : List Asked). Stopped setting past left IsOut l p o) all
      (Stopped-longer setting past left IsOut (done.asks ++ asked (kept_of (line ++ front)) ∷ []) (ended_asks [] behind) p o
      (Stopped-then setting past mid left done.asks (asked (kept_of (line ++ front)) ∷ []) p done.q IsOut o done.serves stopped))

module _ (setting : Setting) (past left : ℕ → Image → Type 0) (first bytes line rest : List ℕ) (p : Point) (IsNow : Point → Type 0) (done : IsDone setting past left first bytes line rest p IsNow) where
  -- no line feed is left
  pub IsDone-all : pieces_between 10 rest ≡ rest ∷ [] → Serves setting past left (ended_asks first bytes) p done.q
  IsDone-all whole =
      let none : ended_asks line rest ≡ [] = ap (λ (l : List (List ℕ)). map asked (all_but_last (onto line l))) whole ∙ ap (map asked) (all_one (line ++ rest)) in
      let all : done.asks ≡ ended_asks first bytes = sym (done.others ∙ ap (λ (l : List Asked). done.asks ++ l) none ∙ append-nil done.asks) in
      subst (λ (l : List Asked). Serves setting past left l p done.q) all done.serves

  pub IsDone-kept : pieces_between 10 rest ≡ rest ∷ [] → kept_of (line ++ rest) ≡ kept_of (last_of (pieces_behind first bytes))
  IsDone-kept whole = sym (done.last_kept ∙ ap (λ (l : List (List ℕ)). kept_of (last_of (onto line l))) whole ∙ ap kept_of (last_one (line ++ rest)))

  -- a stop before the next line
  pub IsDone-halted : (IsOut : Type 0) → Stopped setting past left IsOut (ended_asks first bytes) p done.q.outer
  IsDone-halted IsOut = subst (λ (l : List Asked). Stopped setting past left IsOut l p done.q.outer) (sym done.others) (Stopped-halted setting past left IsOut done.asks (ended_asks line rest) p done.q done.serves)

pub IsDone-none : (setting : Setting) (left : ℕ → Image → Type 0) (first bytes : List ℕ) (p : Point) (IsNow : Point → Type 0) → IsNow p → Serves setting left left [] p p → IsDone setting left left first bytes first bytes p IsNow
IsDone-none setting left first bytes p IsNow now serves = record { asks = []; q = p; now = now; serves = serves; others = refl; last_kept = refl }

pub kept_end : (first bytes line rest : List ℕ) → kept_of (last_of (pieces_behind first bytes)) ≡ kept_of (last_of (pieces_behind line rest)) → pieces_between 10 rest ≡ rest ∷ [] → kept_of (line ++ rest) ≡ kept_of (last_of (pieces_behind first bytes))
kept_end first bytes line rest same whole = sym (same ∙ ap (λ (l : List (List ℕ)). kept_of (last_of (onto line l))) whole ∙ ap kept_of (last_one (line ++ rest)))
