use Rattle.std.proofs.Common.{◌≡◌, ℕ, suc, ◌+◌, subst, arith}
use Rattle.machine.specs.Histories.{GoesOn}
use Rattle.machine.proofs.Induction.{opens, told}
use Rattle.machine.proofs.theorem.opens_with_acknowledged_coins.Goals as goal

one_more : (n : ℕ) → n + 1 ≡ suc n
one_more n = omega arith

pub returns-clause-opens : goal.returns-clause-opens
returns-clause-opens g c =
    let H = g.H.History in
    opens H.limit H.run H.stop H.entry H.left c.requires.first c.requires.runs
    (λ n. subst (λ (k : ℕ). GoesOn (H.stop n) (H.left n) (H.run n) (H.entry k) (H.run k)) (one_more n) (c.requires.next n))

pub returns-clause-told : goal.returns-clause-told
returns-clause-told g c =
    let H = g.H.History in
    told H.limit H.run H.stop H.entry H.left c.requires.first c.requires.runs
    (λ n. subst (λ (k : ℕ). GoesOn (H.stop n) (H.left n) (H.run n) (H.entry k) (H.run k)) (one_more n) (c.requires.next n))
