use Rattle.std.proofs.Common.{◌≡◌, ◌∙◌, ◌+◌, ◌++◌, ◌∷◌, [], ap, sym, subst, take, cond, Bool}
use Rattle.std.proofs.lemmas.List.{take_more}
use Rattle.disk_model.specs.Crash.{at_rest}
use Rattle.disk_model.specs.Replay.{after_request, file_after}
use Rattle.disk_model.specs.Replayed.{IsShown}
use Rattle.disk_model.specs.declared.replay.Replayed.{Replayed}
use Rattle.disk_model.proofs.States.{replayed-push}
use Rattle.disk_model.proofs.replay.Replayed.at.Goals as goal
use Rattle.disk_model.proofs.replay.Replayed.at.Goals.{then-is_done_by+in_ok-apply, else-is_done_by}

pub loop-call-preserved : goal.loop-call-preserved
loop-call-preserved c =
    let k = c.args.moment in
    let f = c.args.file in
    let call = c.call-item.result in
    let so_far = take c.loop-call.call-index c.args.calls.now in
    let before = file_after k f so_far (at_rest c.args.start.now) in
    let more : take (c.loop-call.call-index + 1) c.args.calls.now ≡ so_far ++ call ∷ [] =
    take_more c.args.calls.now c.loop-call.call-index call c.loop-call-test.true ∙ ap (λ x. so_far ++ x ∷ []) (sym c.call-item.is) in
    let pushed = ap (λ cs. file_after k f cs (at_rest c.args.start.now)) more ∙ replayed-push k f so_far call (at_rest c.args.start.now) in
    let choice = λ (b : Bool). cond b (after_request f call.request before) before in
    elim c.if-is_done_by.branch [
      | then-is_done_by+in_ok-apply w ↦
          subst (λ (r : Replayed). IsShown r (file_after k f (take (c.loop-call.call-index + 1) c.args.calls.now) (at_rest c.args.start.now))) (sym w.state-is)
          (subst (IsShown w.apply.new.self) (sym (pushed ∙ ap choice (sym c.is_done_by.ensures ∙ w.if-is_done_by.true))) (w.in_ok-apply.ensures before c.loop-call.invariant))
      | else-is_done_by w ↦
          subst (λ (r : Replayed). IsShown r (file_after k f (take (c.loop-call.call-index + 1) c.args.calls.now) (at_rest c.args.start.now))) (sym w.state-is)
          (subst (IsShown c.loop-call.state) (sym (pushed ∙ ap choice (sym c.is_done_by.ensures ∙ w.if-is_done_by.false))) c.loop-call.invariant)
    ]
