-- The steps of a search.
use Rattle.std.proofs.Common.{◌≡◌, ◌<◌, ◌≤◌, ℕ, Bool, false, List, length, drop, sym, subst, arith}
use Rattle.std.specs.Prelude.{◌==◌}
use Rattle.std.proofs.lemmas.Bool.{eqb-false}
use Rattle.frame_scan.specs.Search.{SameFrames, IsRest}
use Rattle.frame_scan.proofs.Scanning.{SameFrames-then, SameFrames-any}
use Rattle.frame_scan.proofs.Scans.{IsRest-drop, IsRest-then}

pub some_bytes : (bytes : List ℕ) → (length bytes == 0) ≡ false → 0 < length bytes
some_bytes bytes no_nil = let some = eqb-false (length bytes) 0 no_nil in omega arith

-- bytes before a head were passed, and then the first bytes of that
pub goes_on : (is_end : Bool) (xs ys zs ws : List ℕ) (n : ℕ) → SameFrames is_end xs ys → IsRest xs ys → SameFrames false ys zs → IsRest ys zs → SameFrames is_end zs (drop n zs) → n ≤ length zs → ws ≡ drop n zs
    → record { same : SameFrames is_end xs ws; rest : IsRest xs ws }
goes_on is_end xs ys zs ws n same rest same' rest' passed within is = record {
  same = subst (λ (us : List ℕ). SameFrames is_end xs us) (sym is) (SameFrames-then is_end xs zs (drop n zs) (SameFrames-then is_end xs ys zs same (SameFrames-any is_end ys zs same')) passed);
  rest = IsRest-then xs ys ws rest (IsRest-then ys zs ws rest' (IsRest-drop zs ws n within is));
}
