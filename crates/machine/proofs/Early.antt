-- A told flush was done by the end.
use Rattle.std.proofs.Common.{◌≡◌, ℕ, ◌≤◌, true, List, [], ◌∷◌, Option, Some, None, refl, arith, is_some}
use Rattle.std.proofs.lemmas.Bool.Decides.{nat_tests}
use Rattle.std.specs.List.{AllByRecursion}
use Rattle.base_types.specs.declared.flushes.Flushed.{Flushed}
use Rattle.machine.specs.Marks.{done_by}
use Rattle.machine.specs.Clauses.{ReadsWithin}

told_done : (high : ℕ) (done : Option ℕ) → ((d : ℕ) → done ≡ Some d → d ≤ high) → is_some done ≡ true → done_by high done ≡ true
told_done high None below e = absurd (cc e)
told_done high (Some d) below e = let h : d ≤ high = below d refl in grind (arith, nat_tests)

-- a told flush was done by the end
pub all_told : (low high : ℕ) (fs : List Flushed) → AllByRecursion (ReadsWithin low high) fs → AllByRecursion (λ f. f.told ≡ true → done_by high f.done ≡ true) fs
all_told low high [] all = tt
all_told low high (f ∷ fs) all = (λ told. told_done high f.done (λ d is. (all.0.2 d is).1) (all.0.3 told).0, all_told low high fs all.1)
