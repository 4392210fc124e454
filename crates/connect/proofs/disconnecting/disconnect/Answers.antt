use Rattle.std.proofs.Common.{◌≡◌, List, Option, Some, Result, Ok, Err, ap, ◌∙◌}
use Rattle.std.specs.Prelude.{OnOk, option_map}
use Rattle.base_types.specs.Coins.{Coins}
use Rattle.base_types.specs.declared.coin.Coin.{Coin}
use Rattle.base_types.specs.declared.fault.StoreFault.{StoreFault}
use Rattle.block_codec.specs.declared.block.Block.{Block}
use Rattle.chain_model.specs.Apply.{outcome, undo_of}
use Rattle.chain_model.specs.Tree.{Tree}
use Rattle.connect.specs.Rolling.{rolled_back}
use Rattle.connect.proofs.Restoring.{taken_back_again}
use Rattle.connect.proofs.disconnecting.disconnect.Goals as goal

some : Coins → Option Coins
some coins = Some coins

gives_before : (tree : Tree) (before after : Coins) (block : Block) (undo : List (List Coin)) (old new : Option Coins) (result : Result (Unit {0}) StoreFault) → old ≡ Some after → outcome tree before block ≡ Ok after → undo ≡ undo_of tree before block
    → OnOk result (new ≡ option_map (rolled_back block.txs undo) old) → OnOk result (new ≡ Some before)
unfolding some
gives_before tree before after block undo old new (Ok done) told applied own back =
    back
    ∙ ap (option_map (rolled_back block.txs undo)) told
    ∙ ap (λ (u : List (List Coin)). some (rolled_back block.txs u after)) own
    ∙ ap some (taken_back_again tree before after block applied)
gives_before tree before after block undo old new (Err fault) told applied own back = tt

pub returns-clause-before : goal.returns-clause-before
returns-clause-before g c tree before after told applied own =
    gives_before tree before after c.args.block.now c.args.undo.now (g.E.View.coins c.args.coins.now) (g.E.View.coins c.roll_back.new.coins) c.roll_back.result told applied own c.roll_back.ensures.coins
