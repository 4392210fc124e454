use Rattle.std.proofs.Common.{◌+◌, ◌++◌, [], ◌∷◌, sym, ap, ◌∙◌, append_assoc, is_ok, cond, vec_len, arith}
use Rattle.std.proofs.lemmas.List.{append-nil}
use Rattle.slot_pool.proofs.Layouts.{numbers-none, numbers-more}
use Rattle.slot_pool.proofs.pool.list_places.Goals as goal

pub loop-place-init : goal.loop-place-init
loop-place-init c = record { items = sym (ap (λ l. c.args.vacant.now.items ++ l) (numbers-none c.args.first) ∙ append-nil _); len = omega arith; capacity = omega arith }

pub loop-place-preserved : goal.loop-place-preserved
loop-place-preserved c =
    let inv = c.loop-place.invariant in let v = c.loop-place.vacant in let at = c.args.first + c.loop-place.place in record {
      items = c.push.ensures.items ∙ ap (λ r. cond (is_ok r) (v.items ++ at ∷ []) v.items) c.unwrap.ensures ∙ ap (λ l. l ++ at ∷ []) inv.items
          ∙ append_assoc c.args.vacant.now.items _ _ ∙ ap (λ l. c.args.vacant.now.items ++ l) (sym (numbers-more c.args.first c.loop-place.place));
      len = c.push.ensures.len ∙ ap (λ r. cond (is_ok r) (vec_len v + 1) (vec_len v)) c.unwrap.ensures ∙ omega (arith, inv.len);
      capacity = omega (arith, c.push.ensures.capacity, inv.capacity);
    }
