use Rattle.chain_model.proofs.SmallChoices.{spent_in_block}
use Rattle.chain_model.proofs.small_choices.output_spent_in_its_block.Goals as goal

pub returns : goal.returns
returns c = spent_in_block
