use Rattle.std.proofs.Common.{◌∙◌, ap, sym, ◌++◌, ◌∷◌, [], map}
use Rattle.std.specs.List.{range_with_len}
use Rattle.disk_model.specs.Replayed.{filled_place}
use Rattle.disk_model.proofs.Writing.{map_range_push}
use Rattle.disk_model.proofs.replay.Replayed.filled.Goals as goal

pub loop-place-preserved : goal.loop-place-preserved
loop-place-preserved c =
    c.in_ok-push.ensures.items
    ∙ ap (λ l. l ++ c.filled_byte.result ∷ []) c.loop-place.invariant
    ∙ ap (λ b. map (filled_place c.args.self.now c.args.byte) (range_with_len 0 c.loop-place.place) ++ b ∷ []) c.filled_byte.ensures
    ∙ sym (map_range_push (filled_place c.args.self.now c.args.byte) c.loop-place.place)
