-- Writes cut short, one after another, as one.
use Rattle.std.specs.Prelude.{◌≡◌, ℕ, ◌+◌, ◌-◌, ◌<◌, ◌≤◌, List, length, take, drop, min, get_or}
use Rattle.std.proofs.Common.{arith, ap, sym, ◌∙◌}
use Rattle.std.proofs.lemmas.List.{length-take, length-drop, take_min, take_all, get_or-take, get_or-drop}
use Rattle.std.proofs.lemmas.Grind.{same_number_lists}
use Rattle.disk_model.specs.Disk.{Torn}

pub torn_none : (at n : ℕ) (o : List ℕ) → Torn at n o o
torn_none at n o = record {
  before = take_min at o;
  after = ap (drop (at + n)) (take_all (length o) o (omega arith));
  no_shorter = omega arith;
  no_longer = omega arith;
}

-- a byte outside the range of the write
outside : (at n : ℕ) (a b : List ℕ) → Torn at n a b → (k : ℕ) → at + n ≤ k → k < length a → get_or b k 0 ≡ get_or a k 0
outside at n a b torn k from below =
    let i : ℕ = k - (at + n) in
    let place : at + n + (k - (at + n)) ≡ k = omega arith in
    let new : get_or (drop (at + n) (take (length a) b)) (k - (at + n)) 0 ≡ get_or b k 0 =
    get_or-drop (at + n) (take (length a) b) (k - (at + n)) 0 ∙ ap (λ (j : ℕ). get_or (take (length a) b) j 0) place ∙ get_or-take (length a) b k 0 below in
    let old : get_or (drop (at + n) a) (k - (at + n)) 0 ≡ get_or a k 0 =
    get_or-drop (at + n) a (k - (at + n)) 0 ∙ ap (λ (j : ℕ). get_or a j 0) place in
    sym new ∙ ap (λ (l : List ℕ). get_or l (k - (at + n)) 0) torn.after ∙ old

inside : (at n : ℕ) (a b : List ℕ) → Torn at n a b → (k : ℕ) → k < at → k < length a → get_or b k 0 ≡ get_or a k 0
inside at n a b torn k early below =
    sym (get_or-take (min at (length a)) b k 0 (omega arith)) ∙ ap (λ (l : List ℕ). get_or l k 0) torn.before ∙ get_or-take at a k 0 early

-- two writes within one range
pub torn_then : (at n first m second k : ℕ) (o a b : List ℕ) → at ≤ first → first + m ≤ at + n → at ≤ second → second + k ≤ at + n
    → Torn first m o a → Torn second k a b → Torn at n o b
torn_then at n first m second k o a b from to begins ends s t =
    let longer = s.no_shorter in
    let longest = t.no_shorter in
    let most = s.no_longer in
    let limit = t.no_longer in
    record {
      before = same_number_lists _ _
          (omega (arith, length-take (min at (length o)) b, length-take at o))
          (λ i below.
          let size = length-take (min at (length o)) b in
          get_or-take (min at (length o)) b i 0 (omega arith)
          ∙ inside second k a b t i (omega arith) (omega arith) ∙ inside first m o a s i (omega arith) (omega arith)
          ∙ sym (get_or-take at o i 0 (omega arith)));
      after = same_number_lists _ _
          (omega (arith, length-drop (at + n) (take (length o) b), length-take (length o) b, length-drop (at + n) o))
          (λ i below.
          let size = length-drop (at + n) (take (length o) b) in
          let taken = length-take (length o) b in
          let place : at + n + i < length o = omega arith in
          get_or-drop (at + n) (take (length o) b) i 0 ∙ get_or-take (length o) b (at + n + i) 0 place
          ∙ outside second k a b t (at + n + i) (omega arith) (omega arith) ∙ outside first m o a s (at + n + i) (omega arith) place
          ∙ sym (get_or-drop (at + n) o i 0));
      no_shorter = omega arith;
      no_longer = omega arith;
    }
