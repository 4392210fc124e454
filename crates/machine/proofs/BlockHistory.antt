-- The runs of the example above genesis meet the premises of the theorem, and the second opens at the block.
use Rattle.std.proofs.Common.{◌≡◌, inl, ℕ, zero, suc, ◌+◌, [], refl, sym, subst, arith}
use Rattle.disk_model.specs.Disk.{Image}
use Rattle.machine.specs.Clauses.{IsRun}
use Rattle.machine.specs.Histories.{GoesOn, OpensWell}
use Rattle.machine.specs.BlockRuns.{BlockFile, run_at, entry_at, left_at, stop_at}
use Rattle.machine.proofs.FirstClauses.{first_is_run}
use Rattle.machine.proofs.Induction.{opens}
use Rattle.machine.proofs.LaterRun.{later_is_run}
use Rattle.machine.proofs.StoreLaws.{StoreLaws}

module _ (laws : StoreLaws) (limit cache : ℕ) (file : BlockFile limit cache) where
  pub begins_empty : (c : Image) → entry_at limit cache file 0 c → (at : ℕ) → c at ≡ []
  begins_empty c e at = subst (λ (image : Image). image at ≡ []) (sym e) refl

  pub each_is_run : (n : ℕ) → IsRun limit (run_at limit cache file n).setting.given (entry_at limit cache file n) (left_at limit cache file n) (run_at limit cache file n)
  each_is_run zero = first_is_run laws limit cache file
  each_is_run (suc n) = later_is_run laws limit cache file

  -- the next run begins with the image that the crash left
  goes_on : (n : ℕ) → GoesOn (stop_at limit cache file n) (left_at limit cache file n) (run_at limit cache file n) (entry_at limit cache file (suc n)) (run_at limit cache file (suc n))
  goes_on zero = (omega arith, omega arith, inl refl, λ c e. e)
  goes_on (suc n) = (omega arith, omega arith, refl, λ c e. e)

  pub each_goes_on : (n : ℕ) → GoesOn (stop_at limit cache file n) (left_at limit cache file n) (run_at limit cache file n) (entry_at limit cache file (n + 1)) (run_at limit cache file (n + 1))
  each_goes_on n =
      let e : suc n ≡ n + 1 = omega arith in
      subst (λ (m : ℕ). GoesOn (stop_at limit cache file n) (left_at limit cache file n) (run_at limit cache file n) (entry_at limit cache file m) (run_at limit cache file m)) e (goes_on n)

  -- so the second opens at the block
  pub second_opens : OpensWell limit (run_at limit cache file) (stop_at limit cache file) 1
  second_opens = opens limit (run_at limit cache file) (stop_at limit cache file) (entry_at limit cache file) (left_at limit cache file) begins_empty each_is_run goes_on 1 (λ not. absurd cc)
