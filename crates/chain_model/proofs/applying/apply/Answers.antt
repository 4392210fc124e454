use Rattle.std.proofs.Common.{◌≡◌, List, Some, Result, Ok, Err, ap, sym, ◌∙◌}
use Rattle.std.specs.Prelude.{IfSome, MatchResult}
use Rattle.std.specs.FinMap as finite
use Rattle.std.proofs.lemmas.Result.{err_from_is_err_and}
use Rattle.base_types.specs.Coins.{Coins}
use Rattle.base_types.specs.declared.coin.Coin.{Coin}
use Rattle.base_types.specs.declared.refused.CoinRefused.{CoinRefused}
use Rattle.chain_model.specs.Answers.{Refuses, applied_fault}
use Rattle.chain_model.specs.Apply.{outcome}
use Rattle.chain_model.specs.Changes.{Changes, with_changes}
use Rattle.chain_model.specs.Connecting.{OnRefusal, asked_by}
use Rattle.chain_model.specs.declared.fault.ConnectFault.{ConnectFault}
use Rattle.chain_model.specs.declared.fault.ConnectFault.TheVariants.{Refused, Store}
use Rattle.chain_model.proofs.Calls.{handed}
use Rattle.chain_model.proofs.Changing.{with_none}
use Rattle.chain_model.proofs.Telling.{among_itself}
use Rattle.chain_model.proofs.applying.apply.Goals as goal

-- coins without changes
unchanged : (changes : Changes) (coins now : Coins) → now ≡ coins → changes ≡ finite.empty → with_changes changes now ≡ coins
unchanged changes coins now same none = ap (λ (all : Changes). with_changes all now) none ∙ with_none now ∙ same

refuses : (A : Type 0) (meant : Coins → Result Coins CoinRefused) (coins start : Coins) → start ≡ coins → (fault : ConnectFault) → OnRefusal {A = A} (Err fault) (λ rule. IfSome (Some start) (λ before. meant before ≡ Err rule)) → Refuses (meant coins) (applied_fault fault)
refuses A meant coins start e (Refused rule) refused = ap meant (sym e) ∙ refused
refuses A meant coins start e (Store fault) refused = tt

pub returns-in_err-apply_over-clause-answers : goal.returns-in_err-apply_over-clause-answers
returns-in_err-apply_over-clause-answers g c =
    let meant : Coins → Result Coins CoinRefused = λ coins. outcome (g.T.TreeView.tree c.args.tree.now) coins c.args.block.now in
    let edited = c.new-edited.result in
    let p = err_from_is_err_and c.from_residual.result c.from_residual.ensures.1 in
    handed (λ result. MatchResult result (λ _. meant c.args.coins.now ≡ Ok c.args.coins.now) (Refuses (meant c.args.coins.now))) (applied_fault c.in_err-apply_over.field-0.0) p.0 c.from_residual.result
    (refuses (List (List Coin)) meant c.args.coins.now (with_changes edited.changes edited.coins.now) (unchanged edited.changes c.args.coins.now edited.coins.now c.new-edited.ensures.0 c.new-edited.ensures.1) c.in_err-apply_over.field-0.0 c.in_err-apply_over.ensures.refused)
    p.2 p.1

ok : Coins → Result Coins CoinRefused
ok coins = Ok coins

pub returns-clause-answers : goal.returns-clause-answers
unfolding ok
returns-clause-answers g c =
    let meant : Coins → Result Coins CoinRefused = λ coins. outcome (g.T.TreeView.tree c.args.tree.now) coins c.args.block.now in
    let edited = c.new-edited.result in
    let after = c.apply_over.new.coins in
    let start = unchanged edited.changes c.args.coins.now edited.coins.now c.new-edited.ensures.0 c.new-edited.ensures.1 in
    let kept = c.in_ok-apply_over.ensures.behind (asked_by c.args.block.now) (among_itself (asked_by c.args.block.now)) ∙ c.new-edited.ensures.0 in
    let applied : meant (with_changes edited.changes edited.coins.now) ≡ Ok (with_changes after.changes after.coins.now) = let leads = c.in_ok-apply_over.ensures.ok in cc in
    ap meant (sym start) ∙ applied
    ∙ ap (λ (coins : Coins). ok (with_changes after.changes coins)) kept
    ∙ ap (λ (changes : Changes). ok (with_changes changes c.args.coins.now)) (sym c.into_changes.ensures)
    ∙ ap ok (sym c.in_ok-merge_into.ensures)
