use Rattle.std.proofs.Common.{◌∙◌, [], ◌∷◌, is_some, ap}
use Rattle.std.specs.FinMap.{get}
use Rattle.slot_pool.proofs.SlotLaws.{get_beside, new_apart}
use Rattle.flag_list.proofs.ListLaws.{new_list}
use Rattle.flag_list.proofs.Pushes.{out_of_one}
use Rattle.flag_list.proofs.tests.lists_slots_in_order.Goals as goal

pub push_back-requires-clause-held : goal.push_back-requires-clause-held
push_back-requires-clause-held g c =
    ap (λ p. is_some (get p.values c.put-one.result)) c.put-two.ensures.stored ∙ ap is_some (get_beside c.put-one.new.self.values c.put-two.result _ c.put-one.result _ c.put-two.ensures.fresh c.put-one.ensures.held)

pub push_back-requires-2-clause-out : goal.push_back-requires-2-clause-out
push_back-requires-2-clause-out g c =
    let out = out_of_one c.put-two.result c.put-one.result (new_apart c.put-one.new.self.values _ _ _ c.put-two.ensures.fresh c.put-one.ensures.held) in
    (c.put-one.result ∷ [], c.push_back.ensures.list [] (new_list _ _ _ c.new-list.ensures) (λ i. i), out)

pub next-requires : goal.next-requires
next-requires g c =
    let out = out_of_one c.put-two.result c.put-one.result (new_apart c.put-one.new.self.values _ _ _ c.put-two.ensures.fresh c.put-one.ensures.held) in
    ([], c.put-two.result ∷ [], c.push_back-2.ensures.list (c.put-one.result ∷ []) (c.push_back.ensures.list [] (new_list _ _ _ c.new-list.ensures) (λ i. i)) out)

pub unlink-requires : goal.unlink-requires
unlink-requires g c =
    let out = out_of_one c.put-two.result c.put-one.result (new_apart c.put-one.new.self.values _ _ _ c.put-two.ensures.fresh c.put-one.ensures.held) in
    ([], c.put-two.result ∷ [], c.push_back-2.ensures.list (c.put-one.result ∷ []) (c.push_back.ensures.list [] (new_list _ _ _ c.new-list.ensures) (λ i. i)) out)
