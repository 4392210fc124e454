use Rattle.std.proofs.Common.{◌≡◌, ◌⊎◌, inl, inr, List, [], ◌∷◌, false, refl, sym, ap, ◌∙◌}
use Rattle.std.specs.Slice.Iter.{iter_rest}
use Rattle.std.specs.Iterator.Adapters.{zip_first, zip_second}
use Rattle.std.proofs.lemmas.Slice.Zip.{either_empty_from_Zip}
use Rattle.base_types.specs.declared.coin.Coin.{Coin}
use Rattle.block_codec.specs.declared.block.TxIn.{TxIn}
use Rattle.chain_model.specs.Apply.{Position, has_lock}
use Rattle.chain_model.proofs.locks.has_lock.Goals as goal

without_coins : (position : Position) (inputs : List TxIn) → has_lock position inputs [] ≡ false
without_coins position [] = refl
without_coins position (input ∷ inputs) = refl

at_end : (position : Position) (inputs : List TxIn) (coins : List Coin) → (inputs ≡ []) ⊎ (coins ≡ []) → has_lock position inputs coins ≡ false
at_end position inputs coins (inl e) = ap (λ (is : List TxIn). has_lock position is coins) e
at_end position inputs coins (inr e) = ap (λ (cs : List Coin). has_lock position inputs cs) e ∙ without_coins position inputs

pub returns : goal.returns
returns g c =
    sym (at_end (record { tree = g.T.TreeView.tree c.args.context.now.tree.now; parent = c.args.context.now.parent.now; at = c.args.context.now.height })
    (iter_rest (zip_first c.loop-input.input-iterator)) (iter_rest (zip_second c.loop-input.input-iterator))
    (either_empty_from_Zip c.loop-input.input-iterator c.next.new.self c.next.result c.in-None.is c.next.ensures.steps))
    ∙ c.loop-input.invariant.2
