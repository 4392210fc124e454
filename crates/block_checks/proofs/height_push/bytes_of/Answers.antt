use Rattle.std.proofs.Common.{◌≡◌, ℕ, [], ◌∷◌, ◌++◌, List, ◌-◌, ◌/◌, ◌%◌, ap, ◌∙◌, sym, arith}
use Rattle.std.proofs.lemmas.List.{append_assoc, append-nil}
use Rattle.chain_model.specs.BodyRules.{least_bytes}
use Rattle.block_checks.proofs.Pushes.{one_more, no_more, of_zero}
use Rattle.block_checks.proofs.height_push.bytes_of.Goals as goal
use Rattle.block_checks.proofs.height_push.bytes_of.Goals.{then-loop-most-test+else-rest-gt0, else-loop-most-test}

pub loop-most-preserved : goal.loop-most-preserved
loop-most-preserved c =
    let more = one_more c.loop-most.most c.loop-most.rest (omega arith) (omega arith) in
    ap (λ (bs : List ℕ). bs ++ least_bytes (c.loop-most.most - 1) (c.loop-most.rest / 256)) c.in_ok-push.ensures.items
    ∙ append_assoc c.loop-most.bytes.items (c.loop-most.rest % 256 ∷ []) (least_bytes (c.loop-most.most - 1) (c.loop-most.rest / 256))
    ∙ ap (λ (bs : List ℕ). c.loop-most.bytes.items ++ bs) (sym more)
    ∙ c.loop-most.invariant

pub returns : goal.returns
returns c =
    sym (append-nil c.loop-most.bytes.items)
    ∙ ap (λ (bs : List ℕ). c.loop-most.bytes.items ++ bs) (sym nothing)
    ∙ c.loop-most.invariant
  where
    nothing : least_bytes c.loop-most.most c.loop-most.rest ≡ []
    nothing = elim c.loop-most-test.branch [
      | then-loop-most-test+else-rest-gt0 w ↦ (let e : c.loop-most.rest ≡ 0 = omega arith in ap (λ (n : ℕ). least_bytes c.loop-most.most n) e ∙ of_zero c.loop-most.most)
      | else-loop-most-test w ↦ (let e : c.loop-most.most ≡ 0 = omega arith in ap (λ (n : ℕ). least_bytes n c.loop-most.rest) e ∙ no_more c.loop-most.rest)
    ]
